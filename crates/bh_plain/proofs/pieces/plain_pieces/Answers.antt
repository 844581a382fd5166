use Rattle.std.proofs.Common.{ℕ, ◌++◌, ◌∙◌, List, ap, sum_by}
use Rattle.octant_code.specs.Points.{site_at}
use Rattle.octant_code.proofs.Keys.{octant-small}
use Rattle.bh_model.specs.Pieces.{cubes_from, octants_of}
use Rattle.bh_model.proofs.Pieces.{cubes_sum}
use Rattle.bh_plain.proofs.pieces.plain_pieces.Goals as goal

pub deal-requires-clause-whole : goal.deal-requires-clause-whole
deal-requires-clause-whole c =
    let site = site_at c.args.points.now in
    let cubes : List (ℕ × ℕ) = cubes_from (octants_of site) c.max-most.result 21 0 1 c.args.bodies.now in
    ap (sum_by (λ (q : ℕ × ℕ). q.1))
    (c.deref.ensures.value ∙ c.in_ok-push_cubes.ensures ∙ ap (λ (y : List (ℕ × ℕ)). y ++ cubes) c.new-cubes.ensures.items)
    ∙ cubes_sum (octants_of site) c.max-most.result 21 0 1 c.args.bodies.now (λ n l. octant-small (site n) l)
