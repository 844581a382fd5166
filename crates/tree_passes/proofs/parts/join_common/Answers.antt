use Rattle.std.proofs.Common.{rules}
use Rattle.tree_passes.specs.Opening.{opening_of}
use Rattle.tree_passes.proofs.BothRules.{joins_of}
use Rattle.tree_passes.proofs.parts.join_common.Goals as goal

pub join_seat-requires : goal.join_seat-requires
join_seat-requires g c =
    let k = c.args.table.now.key in
    let same = c.requires.common in (
      search rules,
      search rules,
      search rules,
      search rules,
      joins_of k.writing (opening_of k) _ _ _ _ g.C.Common.points g.C.Common.bodies g.C.Common.memory same.0 same.1 same.2 c.requires.no_lock,
    )
