use Rattle.std.proofs.Common.{◌<◌, length, refl, subst, arith}
use Rattle.std.proofs.lemmas.List.{get_or_read}
use Rattle.octree.specs.Stored.{IsStored, Stored}
use Rattle.octree.proofs.Subtrees.{IsWhole, spot_at, whole_is}
use Rattle.octree.proofs.octree.Octree.whole.Goals.{After-index}
use Rattle.octree.proofs.octree.Octree.whole.Goals as goal

-- what is known of the octree's first word
known : (c : After-index) → IsWhole c.args.self.now (spot_at c.args.self.now c.index.result.now)
known c =
    let words = c.self.inside.words.items in
    let some : 0 < length words = omega (arith, c.self.invariant.0.long) in
    subst (λ (y : Stored). IsWhole y (spot_at y c.index.result.now)) c.self.view_is
    (whole_is _ c.index.result.now c.self.invariant.0 (get_or_read words 0 c.index.result.now some c.index.ensures 0))

pub invariant_of-result : goal.invariant_of-result
invariant_of-result c = (known (goal.at.invariant_of-result c).After-index).spot

pub returns : goal.returns
returns c =
    let k = known (goal.at.returns c).After-index in
    record {
      rule = subst IsStored c.self.view_is c.self.invariant.0;
      octree = refl;
      tree = k.tree;
      height = k.height;
      cells = k.cells;
      reached = k.reached;
      bodies = k.bodies;
    }
