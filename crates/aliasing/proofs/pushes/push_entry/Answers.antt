use Rattle.hir.specs.Mutations.{kind_bit}
use Rattle.aliasing.specs.Says.{bit, direction_bit}
use Rattle.aliasing.proofs.PushLaws.{room_created, room_aliases, room_captures, all_pushed}
use Rattle.aliasing.proofs.pushes.push_entry.Goals as goal

pub push_list-top-requires-clause-room : goal.push_list-top-requires-clause-room
push_list-top-requires-clause-room c =
    let e = c.args.entry in
    room_created c.args.ws.now c.args.top e.place.0 c.args.index (bit e.transitive) (kind_bit e.kind) c.requires.room c.requires.place_lt_most_identifiers _ _ c.push_edges-top.ensures

pub push_aliases-top-requires-clause-room : goal.push_aliases-top-requires-clause-room
push_aliases-top-requires-clause-room c =
    let e = c.args.entry in
    room_aliases c.args.ws.now c.args.top e.place.0 c.args.index (bit e.transitive) (kind_bit e.kind) c.requires.room c.requires.place_lt_most_identifiers _ _ c.push_edges-top.ensures _ _ c.push_list-top.ensures

pub push_captures-requires-clause-room : goal.push_captures-requires-clause-room
push_captures-requires-clause-room c =
    let e = c.args.entry in
    room_captures c.args.ws.now c.args.top e.place.0 c.args.index (bit e.transitive) (kind_bit e.kind) c.requires.room c.requires.place_lt_most_identifiers _ _ c.push_edges-top.ensures _ _ c.push_list-top.ensures (direction_bit e.direction) _ _ c.push_aliases-top.ensures

pub returns : goal.returns
returns c =
    let e = c.args.entry in
    all_pushed c.args.ws.now c.args.top e.place.0 c.args.index (bit e.transitive) (kind_bit e.kind) c.requires.room c.requires.place_lt_most_identifiers _ _ c.push_edges-top.ensures _ _ c.push_list-top.ensures (direction_bit e.direction) _ _ c.push_aliases-top.ensures _ _ c.push_captures.ensures
