use Rattle.std.proofs.Common.{List, ℕ, [], ◌∷◌, ◌++◌, ◌∙◌, ap, get_or, subst, sym}
use Rattle.update_build.specs.Moving.{ArePlacesOf}
use Rattle.update_build.proofs.Leaving.{member_leaves, member_stays, places_joined, places_one}
use Rattle.update_build.proofs.movers.search_share.Goals.{in-Some+in_ok-push+in_ok-push-2, in_default}
use Rattle.update_build.proofs.movers.search_share.Goals as goal

pub loop-i-preserved : goal.loop-i-preserved
loop-i-preserved c =
    let at = c.loop-i in
    elim c.match-mover.branch [
      | in-Some+in_ok-push+in_ok-push-2 w ↦
          let m = ap (λ v. v.items) w.movers-is ∙ w.in_ok-push.ensures.items in
          let p = ap (λ v. v.items) w.places-is ∙ w.in_ok-push-2.ensures.items in (
            m ∙ ap (λ (y : List ℕ). y ++ (get_or c.args.share.now at.i 0 ∷ [])) at.invariant.0
                ∙ sym (member_leaves c.args.old.now c.args.new.now c.args.share.now at.i 0 c.loop-i-test.true w.in-Some.ensures.1),
            subst (λ (z : List ℕ × List ℕ). ArePlacesOf c.args.words.now.items z.0 z.1) (λ i. (sym m i, sym p i))
                (places_joined c.args.words.now.items at.movers.items (get_or c.args.share.now at.i 0 ∷ []) at.places.items (w.in-Some.place ∷ [])
                at.invariant.1
                (places_one c.args.words.now.items w.in-Some.ensures.0 (get_or c.args.share.now at.i 0) w.in-Some.place w.in-Some.ensures.2)),
          )
      | in_default w ↦ (
        ap (λ v. v.items) w.movers-is ∙ at.invariant.0
            ∙ sym (member_stays c.args.old.now c.args.new.now c.args.share.now at.i 0 c.loop-i-test.true w.in_default.ensures),
        subst (λ (z : List ℕ × List ℕ). ArePlacesOf c.args.words.now.items z.0 z.1)
            (λ i. (sym (ap (λ v. v.items) w.movers-is) i, sym (ap (λ v. v.items) w.places-is) i)) at.invariant.1,
      )
    ]
