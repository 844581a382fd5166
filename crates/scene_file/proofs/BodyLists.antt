-- Lists of bodies that grow by one body.
use Rattle.std.proofs.Common.{◌≡◌, ◌≢◌, ◌∙◌, ◌<◌, ◌+◌, ℕ, suc, zero, true, false, List, [], ◌∷◌, ◌++◌, length, Some, None}
use Rattle.std.proofs.Common.{refl, sym, arith, inl, inr, length-append, add-zero, zero-add}
use Rattle.std.specs.List.{position_from}
use Rattle.std.proofs.lemmas.Bool.{cases_Bool}
use Rattle.std.proofs.lemmas.List.{get_or_append_left, length-map, map-append, take-append-le}
use Rattle.std.proofs.lemmas.List.Sums.{sum_by-append}
use Rattle.std.proofs.Math.Seq.{get_or-append_seam, take-append_seam}
use Rattle.octant_code.proofs.SeenPoints.{same_coordinates_refl, same_coordinates_true}
use Rattle.octant_code.specs.Distinct.{AreFirstSame}
use Rattle.octant_code.specs.Points.{AreApart, site_at}
use Rattle.octant_code.specs.Space.{Site, origin, same_coordinates}
use Rattle.scene_file.specs.Bodies.{number_at, sites_of, total_mass}
use Rattle.scene_file.specs.declared.bodies.Body.{Body}

-- two points that differ don't have the same coordinates
differing : (s t : Site) → t ≢ s → same_coordinates s t ≡ false
differing s t differ = elim (cases_Bool (same_coordinates s t)) [
  | inl meet ↦ absurd (differ (sym (same_coordinates_true s t meet)))
  | inr part ↦ part
]

-- where no body is at a point, none is found
pub none_at : (bodies : List Body) (s : Site) (k : ℕ) → ((i : ℕ) → i < length bodies → site_at (sites_of bodies) i ≢ s)
    → position_from (λ (b : Body). same_coordinates s b.at) k bodies ≡ None
none_at [] s k other = refl
none_at (b ∷ bs) s k other = rw (differing s b.at (other 0 (omega arith)), none_at bs s (k + 1) (λ i within. other (suc i) (omega arith))) refl

-- the first body at a point is found
pub first_from : (bodies : List Body) (s : Site) (k e : ℕ) → e < length bodies → site_at (sites_of bodies) e ≡ s
    → ((i : ℕ) → i < e → site_at (sites_of bodies) i ≢ s) → position_from (λ (b : Body). same_coordinates s b.at) k bodies ≡ Some (k + e)
first_from [] s k e within here other = absurd (omega arith)
first_from (b ∷ bs) s k zero within here other =
    let at : b.at ≡ s = here in
    let meet : same_coordinates s b.at ≡ true = rw at (same_coordinates_refl s) in
    rw (meet, add-zero) refl
first_from (b ∷ bs) s k (suc e) within here other =
    let sum : k + 1 + e ≡ k + suc e = omega arith in
    rw (differing s b.at (other 0 (omega arith)), first_from bs s (k + 1) e (omega arith) here (λ i less. other (suc i) (omega arith)), sum) refl

-- the sites of bodies with one more
sites-push : (bodies : List Body) (body : Body) → sites_of (bodies ++ body ∷ []) ≡ sites_of bodies ++ body.at ∷ []
sites-push bodies body = map-append (λ (b : Body). b.at) bodies (body ∷ [])

pub sites_more : (bodies : List Body) (body : Body) → length (sites_of (bodies ++ body ∷ [])) ≡ length bodies + 1
sites_more bodies body = rw (length-map (bodies ++ body ∷ []) (λ (b : Body). b.at), length-append bodies (body ∷ [])) refl

-- the sites before one more, and that one
early : (sites : List Site) (s : Site) (i : ℕ) → i < length sites → site_at (sites ++ s ∷ []) i ≡ site_at sites i
early sites s i within = get_or_append_left sites (s ∷ []) origin i within

last : (sites : List Site) (s : Site) → site_at (sites ++ s ∷ []) (length sites) ≡ s
last sites s = get_or-append_seam sites s [] origin

-- sites that are apart with one more are so without it
apart_front : (sites : List Site) (s : Site) → AreApart (sites ++ s ∷ []) → AreApart sites
apart_front sites s apart i j less within same =
    let size = length-append sites (s ∷ []) in
    apart i j less (omega arith) (early sites s i (omega arith) ∙ same ∙ sym (early sites s j within))

-- and none of them is that one
apart_last : (sites : List Site) (s : Site) → AreApart (sites ++ s ∷ []) → (i : ℕ) → i < length sites → site_at sites i ≢ s
apart_last sites s apart i within here =
    let size = length-append sites (s ∷ []) in
    apart i (length sites) within (omega arith) (early sites s i within ∙ here ∙ sym (last sites s))

-- bodies that are apart with one more: those before it are apart, and none is at its point
pub apart-push : (bodies : List Body) (body : Body) → AreApart (sites_of (bodies ++ body ∷ []))
    → AreApart (sites_of bodies) × (number_at bodies body.at ≡ None)
apart-push bodies body apart =
    let all = rw (sites-push bodies body) at apart in (
      apart_front (sites_of bodies) body.at all,
      none_at bodies body.at 0 (λ i within. apart_last (sites_of bodies) body.at all i (rw (length-map bodies (λ (b : Body). b.at)) within)),
    )

-- a first point that stands twice before one more stands twice without it
pub same_before : (bodies : List Body) (body : Body) (e l : ℕ) → AreFirstSame (sites_of (bodies ++ body ∷ [])) e l → l < length bodies
    → AreFirstSame (sites_of bodies) e l
same_before bodies body e l same within =
    let all = rw (sites-push bodies body) at same in
    let size : length (sites_of bodies) ≡ length bodies = length-map bodies (λ (b : Body). b.at) in
    let less = same.order in
    record {
      order = same.order;
      within = omega arith;
      same = sym (early (sites_of bodies) body.at e (omega arith)) ∙ all.same ∙ early (sites_of bodies) body.at l (omega arith);
      before = rw (take-append-le l (sites_of bodies) (body.at ∷ []) (omega arith)) at all.before;
    }

-- where it is that one more which stands twice, those before it are apart, and one of them is at its point
pub same_last : (bodies : List Body) (body : Body) (e : ℕ) → AreFirstSame (sites_of (bodies ++ body ∷ [])) e (length bodies)
    → AreApart (sites_of bodies) × (number_at bodies body.at ≡ Some e)
same_last bodies body e same =
    let sites = sites_of bodies in
    let size : length (sites_of bodies) ≡ length bodies = length-map bodies (λ (b : Body). b.at) in
    let all = rw (sites-push bodies body, ← size) at same in
    let apart = rw (take-append_seam (sites_of bodies) (body.at ∷ [])) at all.before in
    let less = same.order in
    let here : site_at (sites_of bodies) e ≡ body.at = sym (early sites body.at e (omega arith)) ∙ all.same ∙ last sites body.at in
    (apart, rw zero-add at (first_from bodies body.at 0 e less here (λ i before at. apart i e before (omega arith) (at ∙ sym here))))

-- one more body adds its mass
pub total_mass-push : (bodies : List Body) (body : Body) → total_mass (bodies ++ body ∷ []) ≡ total_mass bodies + body.mass
total_mass-push bodies body = rw (sum_by-append (λ (b : Body). b.mass) bodies (body ∷ []), zero-add) refl
