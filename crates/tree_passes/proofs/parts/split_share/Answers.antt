use Rattle.std.proofs.Common.{rules}
use Rattle.tree_passes.specs.Opening.{opening_of}
use Rattle.tree_passes.proofs.BothRules.{splits_of}
use Rattle.tree_passes.proofs.parts.split_share.Goals as goal

pub split_seat-requires : goal.split_seat-requires
split_seat-requires g c =
    let k = c.args.table.now.key in (
      search rules,
      search rules,
      splits_of k.writing (opening_of k) _ _ g.S.Share.cells g.S.Share.bodies g.S.Share.quota c.requires.cells c.requires.bodies c.requires.quota,
    )
