use Rattle.renders.proofs.Origins.{room_aliases, room_captures, all_pushed}
use Rattle.renders.proofs.push_origins.Goals as goal

pub push_list-top-requires-2-clause-room : goal.push_list-top-requires-2-clause-room
push_list-top-requires-2-clause-room c =
    room_aliases c.args.ws.now c.args.top c.args.place.0 c.args.index c.requires.room c.requires.place_lt_most_identifiers _ _ c.push_list-top.ensures

pub push_list-requires-clause-room : goal.push_list-requires-clause-room
push_list-requires-clause-room c =
    room_captures c.args.ws.now c.args.top c.args.place.0 c.args.index c.requires.room c.requires.place_lt_most_identifiers _ _ c.push_list-top.ensures _ _ c.push_list-top-2.ensures

pub returns : goal.returns
returns c =
    all_pushed c.args.ws.now c.args.top c.args.place.0 c.args.index c.requires.room c.requires.place_lt_most_identifiers _ _ c.push_list-top.ensures _ _ c.push_list-top-2.ensures _ _ c.push_list.ensures
