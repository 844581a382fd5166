-- The motion of bodies before their first step.
use Rattle.std.proofs.Common.{◌≡◌, ◌∙◌, ◌<◌, ◌≤◌, ◌+◌, ◌||◌, ℕ, Bool, true, false, List, [], ◌∷◌, ◌++◌, length, take, nat_eq, if◌then◌else◌}
use Rattle.std.proofs.Common.{refl, sym, ap, subst, arith, add-one}
use Rattle.std.specs.List.{list_any}
use Rattle.std.proofs.lemmas.List.{length-map, map-append}
use Rattle.std.proofs.lemmas.List.Folds.{list_any-append}
use Rattle.std.proofs.Math.Seq.{take-suc}
use Rattle.octant_code.specs.Points.{AreApart}
use Rattle.octant_code.specs.declared.limits.TheConstants.{MOST_BODIES}
use Rattle.octant_code.specs.Space.{IsInCube, Site, packed, same_coordinates}
use Rattle.octant_code.proofs.InCube.{site_parts}
use Rattle.scene_file.specs.Bodies.{AreBodies, body_at, nobody, sites_of}
use Rattle.scene_file.specs.declared.bodies.Body.{Body}
use Rattle.drift.specs.Motions.{first_exact, first_motion, started, whole, whole_points}
use Rattle.drift.specs.Taken.{AreHeld}
use Rattle.drift.specs.declared.body_motion.BodyMotion.{BodyMotion}
use Rattle.drift.proofs.Places.{packed_test, same_sym}

-- an exact position without a fraction is that of its whole point
whole_first : (b : Body) → whole (first_exact b) ≡ b.at
whole_first b = site_parts _ _ _ b.at.x b.at.y b.at.z (omega arith) (omega arith) (omega arith)

-- at first the whole points are the bodies' points
pub first_points : (bodies : List Body) → whole_points (first_motion bodies) ≡ sites_of bodies
first_points [] = refl
first_points (b ∷ bodies) = ap (λ s. s ∷ whole_points (first_motion bodies)) (whole_first b) ∙ ap (λ sites. b.at ∷ sites) (first_points bodies)

-- the first bodies, and one more
begun : (bodies : List Body) (i : ℕ) → i < length bodies → take (i + 1) bodies ≡ take i bodies ++ body_at bodies i ∷ []
begun bodies i within = ap (λ k. take k bodies) (add-one i) ∙ take-suc bodies i nobody within

-- the motion of one body more
pub first_more : (bodies : List Body) (i : ℕ) (list longer : List BodyMotion) (m : BodyMotion) → i < length bodies → list ≡ first_motion (take i bodies)
    → longer ≡ list ++ m ∷ [] → m ≡ started (body_at bodies i) → longer ≡ first_motion (take (i + 1) bodies)
first_more bodies i list longer m within before is own =
    is ∙ ap (λ xs. xs ++ m ∷ []) before ∙ ap (λ y. first_motion (take i bodies) ++ y ∷ []) own
    ∙ sym (map-append started (take i bodies) (body_at bodies i ∷ [])) ∙ ap first_motion (sym (begun bodies i within))

-- one more test that is passed, or not
also : (a b : Bool) → (if a then true else b) ≡ (b || (a || false))
also true true = refl
also true false = refl
also false true = refl
also false false = refl

-- the point of one body more is taken
pub taken_more : (has new : ℕ → Bool) (bodies : List Body) (i : ℕ) (key : ℕ) → i < length bodies → IsInCube (body_at bodies i).at
    → key ≡ packed (body_at bodies i).at
    → ((s : Site) → IsInCube s → has (packed s) ≡ list_any (same_coordinates s) (sites_of (take i bodies)))
    → ((q : ℕ) → new q ≡ (if nat_eq key q then true else has q))
    → (s : Site) → IsInCube s → new (packed s) ≡ list_any (same_coordinates s) (sites_of (take (i + 1) bodies))
taken_more has new bodies i key within inside is held updated s s_in =
    let t = (body_at bodies i).at in
    let test : nat_eq key (packed s) ≡ same_coordinates s t = ap (λ k. nat_eq k (packed s)) is ∙ packed_test t s inside s_in ∙ same_sym t s in
    let before : has (packed s) ≡ list_any (same_coordinates s) (sites_of (take i bodies)) = held s s_in in
    updated (packed s) ∙ rw (test, before) (also (same_coordinates s t) (list_any (same_coordinates s) (sites_of (take i bodies))))
    ∙ sym (list_any-append (same_coordinates s) (sites_of (take i bodies)) (t ∷ []))
    ∙ ap (λ sites. list_any (same_coordinates s) sites) (sym (map-append (λ (b : Body). b.at) (take i bodies) (body_at bodies i ∷ []))
    ∙ ap sites_of (sym (begun bodies i within)))

-- all are begun
pub all_begun : (bodies : List Body) (has : ℕ → Bool) → AreBodies bodies
    → ((s : Site) → IsInCube s → has (packed s) ≡ list_any (same_coordinates s) (sites_of bodies)) → AreHeld has (first_motion bodies)
all_begun bodies has rule held =
    let points = sym (first_points bodies) in
    record {
      few = subst (λ k. k ≤ MOST_BODIES) (sym (length-map bodies started)) rule.few;
      taken = record {
        apart = subst AreApart points rule.apart;
        held = λ s s_in. held s s_in ∙ ap (λ sites. list_any (same_coordinates s) sites) points;
      };
    }
