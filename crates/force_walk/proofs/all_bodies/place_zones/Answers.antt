-- The pulls of one more zone stand, and those of the zones before it still do.
use Rattle.std.proofs.Common.{ℕ, ◌≡◌, ◌∙◌, All, Global, List, Vec, ap, arith, get_or, inl, inr, length, map, subst, sym}
use Rattle.std.proofs.lemmas.Bool.{cases_lt}
use Rattle.std.proofs.lemmas.List.{get_or_default}
use Rattle.bh_model.specs.Pulls.{no_pull}
use Rattle.bh_model.specs.declared.pull.Pull.{Pull}
use Rattle.force_walk.proofs.Placements.{told_of_all}
use Rattle.force_walk.proofs.all_bodies.place_zones.Goals as goal

pub place_zone-requires-clause-alike : goal.place_zone-requires-clause-alike
place_zone-requires-clause-alike c =
    ap length c.as_slice-in-loop-w.ensures.value ∙ ap (λ (l : Vec Pull Global). length l.items) c.index-lists-w.is
    ∙ c.requires.alike.1 c.loop-w.w c.index-zones-w.result c.index-lists-w.result c.loop-w-test.true
    ∙ sym (ap length c.as_slice.ensures.value ∙ ap (λ (z : Vec ℕ Global). length z.items) c.index-zones-w.is)

pub loop-w-preserved : goal.loop-w-preserved
loop-w-preserved c = λ f j d same less.
    let zones = c.args.zones.now in
    let w = c.loop-w.w in
    let own : c.as_slice-in-loop-w.result.now ≡ map f c.as_slice.result.now =
    c.as_slice-in-loop-w.ensures.value ∙ ap (λ (l : Vec Pull Global). l.items) c.index-lists-w.is
    ∙ same.1 w c.index-zones-w.result c.index-lists-w.result c.loop-w-test.true
    ∙ sym (ap (map f) (c.as_slice.ensures.value ∙ ap (λ (z : Vec ℕ Global). z.items) c.index-zones-w.is)) in
    elim (cases_lt j w) [
      | inl before ↦
          λ k e m. c.place_zone.ensures.kept f (get_or (get_or zones j d).items k e) own (c.loop-w.invariant f j d same before k e m)
      | inr last ↦
          let here : j ≡ w = omega (arith, last, less) in
          let item : c.as_slice.result.now ≡ (get_or zones j d).items =
          c.as_slice.ensures.value
          ∙ ap (λ (z : Vec ℕ Global). z.items)
          (c.index-zones-w.is ∙ get_or_default zones w c.index-zones-w.result d c.loop-w-test.true ∙ ap (λ i. get_or zones i d) (sym here)) in
          subst (λ (zone : List ℕ). All (λ n. get_or c.place_zone.new.all n no_pull ≡ f n) zone) item (c.place_zone.ensures.told f own)
    ]

pub returns : goal.returns
returns c = λ f n same found.
    told_of_all (λ k. get_or c.loop-w.all k no_pull ≡ f k) (λ (z : Vec ℕ Global). z.items) c.args.zones.now n c.loop-w.w found c.loop-w-test.false
    (λ j d less. c.loop-w.invariant f j d same less)
