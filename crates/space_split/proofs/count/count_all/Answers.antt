use Rattle.std.proofs.Common.{ℕ, ◌≡◌, ◌<◌, ◌∙◌, ap, get_or}
use Rattle.rayon.proofs.ToStd.{slice-AllZip}
use Rattle.space_split.specs.Ranges.{codes_of, octant_count}
use Rattle.space_split.proofs.count.count_all.Goals as goal

pub returns : goal.returns
returns g c =
    let h = c.in_ok-counts.ensures in
    let slice = ap (λ it. it.base.slice.now) c.map.ensures.base ∙ ap (λ it. it.slice.now) c.with_min_len.ensures.base ∙ c.par_iter.ensures in
    let chain = rw c.map.ensures.f at h.1 in
    rw h.2 (slice-AllZip chain.0 c.args.cubes.now (chain.1 ∙ slice)
    (λ cube counts. c.args.most < cube.count → (k : ℕ) → k < 8 → get_or counts k 0 ≡ octant_count (codes_of c.args.codes.now cube) c.args.level k) h.0 chain.2)
