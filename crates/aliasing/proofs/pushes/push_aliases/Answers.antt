use Prim.Native.Nat.{◌+◌, ◌*◌}
use native.Mathlib.Omega.{arith}
use Rattle.hir.specs.Mutations.{kind_bit}
use Rattle.workspace.specs.Graph.{ALIASES, MAYBE}
use Rattle.workspace.specs.Rows.{rows_of, row_b}
use Rattle.workspace.proofs.Rows.{rows_length}
use Rattle.writing.proofs.Writing.{wrote_none, wrote_as}
use Rattle.aliasing.specs.Says.{bit, direction_bit}
use Rattle.aliasing.specs.Pushes.{entries_w, words_b}
use Rattle.aliasing.proofs.Sizes.{list_le}
use Rattle.aliasing.proofs.PushLaws.{room_then, pushed_on, aliases_open, aliases_shut}
use Rattle.aliasing.proofs.pushes.push_aliases.Goals as goal

pub returns-then-blocked : goal.returns-then-blocked
returns-then-blocked c =
    let e = c.args.entry in
    wrote_as (wrote_none _ _) (aliases_shut c.args.ws.now c.requires.room.size e.place.0 (direction_bit e.direction) c.args.index (bit e.transitive) (kind_bit e.kind) c.requires.place_lt_most_identifiers c.blocked.ensures c.if-blocked.true)

pub push_list-requires-clause-room : goal.push_list-requires-clause-room
push_list-requires-clause-room c =
    let e = c.args.entry in
    let g = rows_of c.args.ws.now in
    room_then (λ g. words_b g (4 * e.place.0 + MAYBE)) (words_b g (4 * e.place.0 + ALIASES)) c.requires.room c.push_list-top.ensures
    (list_le g (rows_length c.args.ws.now c.requires.room.size) c.requires.room.good c.args.index (bit e.transitive) (kind_bit e.kind) (4 * e.place.0 + ALIASES) (omega (arith, c.requires)))

pub returns : goal.returns
returns c =
    let e = c.args.entry in
    wrote_as (pushed_on (λ g. entries_w c.args.index (bit e.transitive) 0 (row_b g (4 * e.place.0 + MAYBE))) c.requires.room.low c.push_list-top.ensures c.push_list.ensures)
    (aliases_open c.args.ws.now c.requires.room.size e.place.0 (direction_bit e.direction) c.args.index (bit e.transitive) (kind_bit e.kind) c.requires.place_lt_most_identifiers c.blocked.ensures c.if-blocked.false)
