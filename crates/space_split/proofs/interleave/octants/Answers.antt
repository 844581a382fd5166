use Rattle.std.proofs.Common.{arith, ◌%◌}
use Rattle.space_split.proofs.Spread.{spread_small}
use Rattle.space_split.proofs.interleave.octants.Goals as goal

pub returns-clause-small : goal.returns-clause-small
returns-clause-small c =
    omega (
      arith,
      c.from-x.ensures,
      c.from-y.ensures,
      c.from-z.ensures,
      c.requires (c.args.x % 128) (omega arith),
      c.requires (c.args.y % 128) (omega arith),
      c.requires (c.args.z % 128) (omega arith),
      spread_small 7 (c.args.x % 128),
      spread_small 7 (c.args.y % 128),
      spread_small 7 (c.args.z % 128),
    )
