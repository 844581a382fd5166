use Rattle.std.proofs.Common.{◌≡◌, subst}
use Rattle.octree.specs.Spot.{Spot, cell_at}
use Rattle.octree.proofs.Subtrees.{spot_number}
use Rattle.octree.proofs.subtree.CellAt.number.Goals as goal

pub returns : goal.returns
returns c =
    let f = c.self.inside in
    subst (λ (s : Spot). f.number.0 ≡ cell_at s) c.self.view_is (spot_number f.octree.now f.number.0)
