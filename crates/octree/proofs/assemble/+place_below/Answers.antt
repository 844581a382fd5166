use Rattle.std.proofs.Common.{◌/◌, arith}
use Rattle.octree.proofs.Ways.{key_up, proper_up, up_proper, way_down, way_root}
use Rattle.octree.proofs.assemble.+place_below.Goals as goal

pub returns-then-key-lt8 : goal.returns-then-key-lt8
returns-then-key-lt8 t c =
    way_root c.args.points.now c.args.parts.now c.args.words.now.items c.args.key c.requires.growing c.requires.bare c.requires.key
    (omega (arith, c.if-key-lt8.true))

pub place_below-requires : goal.place_below-requires
place_below-requires t c = (
  omega (arith, c.if-key-lt8.false),
  (
    key_up c.args.key c.requires.key (omega (arith, c.if-key-lt8.false)),
    (c.requires.growing, (c.requires.bare, λ upper p. c.requires.shared upper (proper_up upper c.args.key p))),
  ),
)

pub cell_at-requires-clause-shared : goal.cell_at-requires-clause-shared
cell_at-requires-clause-shared t c = c.requires.shared (c.args.key / 8) (up_proper c.args.key (omega (arith, c.if-key-lt8.false)))

pub returns : goal.returns
returns t c =
    way_down c.args.points.now c.args.parts.now c.args.words.now.items c.place_below.new.words.items c.cell_at.new.words.items c.args.key
    c.in_ok-above.above c.in_ok-cell.cell c.place_of_child.result (omega (arith, c.if-key-lt8.false)) c.in_ok-above.ensures c.in_ok-cell.ensures
    c.place_of_child.ensures
