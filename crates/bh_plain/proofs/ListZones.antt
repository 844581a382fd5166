-- What the plain program's steps say of a zone.
use Rattle.std.proofs.Common.{◌≡◌, ◌≤◌, ◌<◌, ◌+◌, ◌*◌, ◌/◌, ℕ, cond, eqb, List, [], ◌∷◌, ◌++◌, All, length, get_or, drop, sym, ap, ◌∙◌}
use Rattle.std.proofs.Common.{subst, inl, inr, add-one, append_assoc, append-nil}
use Rattle.std.proofs.Math.Seq.{drop-cons}
use Rattle.std.proofs.Math.ListN.{drop_of_length-le}
use Rattle.std.proofs.lemmas.Bool.Decides.{eqb_tells}
use Rattle.octant_code.specs.Space.{Site}
use Rattle.bh_model.specs.Trees.{octree, order}
use Rattle.bh_model.specs.Zones.{zone_from}
use Rattle.bh_model.proofs.Cells.{member_of_all}
use Rattle.bh_model.proofs.Orders.{from_list}
use Rattle.bh_model.proofs.PieceKeys.{all_members}
use Rattle.bh_model.proofs.ZoneCuts.{zone_from-none, zone_from-other, zone_from-own}

-- the zone from a body on: the body if its share is the zone's, and the zone from the next body on
zone_from-first : (cost : ℕ → ℕ) (workers whole before x : ℕ) (xs : List ℕ) (w : ℕ)
    → zone_from cost workers whole before (x ∷ xs) w ≡ cond (eqb (before * workers / whole) w) (x ∷ []) [] ++ zone_from cost workers whole (before + cost x)
    xs w
zone_from-first cost workers whole before x xs w =
    elim (eqb_tells (before * workers / whole) w) [
      | inl same ↦ rw same.0 (zone_from-own cost workers whole before x xs w same.1)
      | inr other ↦ rw other.0 (zone_from-other cost workers whole before x xs w other.1)
    ]

-- one more body is put into its zone
pub zone_more : (cost : ℕ → ℕ) (workers whole before : ℕ) (xs : List ℕ) (w i : ℕ) (kept next all : List ℕ) → i < length xs
    → next ≡ kept ++ cond (eqb (before * workers / whole) w) (get_or xs i 0 ∷ []) []
    → kept ++ zone_from cost workers whole before (drop i xs) w ≡ all
    → next ++ zone_from cost workers whole (before + cost (get_or xs i 0)) (drop (i + 1) xs) w ≡ all
zone_more cost workers whole before xs w i kept next all small put known =
    let x : ℕ = get_or xs i 0 in
    let one : List ℕ = cond (eqb (before * workers / whole) w) (x ∷ []) [] in
    let later : List ℕ = zone_from cost workers whole (before + cost x) (drop (i + 1) xs) w in
    let rest : drop i xs ≡ x ∷ drop (i + 1) xs = drop-cons xs i 0 small ∙ ap (λ y. x ∷ drop y xs) (sym (add-one i)) in
    ap (λ y. y ++ later) put ∙ append_assoc kept one later
    ∙ ap (λ y. kept ++ y) (sym (zone_from-first cost workers whole before x (drop (i + 1) xs) w))
    ∙ ap (λ y. kept ++ zone_from cost workers whole before y w) (sym rest) ∙ known

-- behind the last body the zone is whole
pub zone_done : (cost : ℕ → ℕ) (workers whole before : ℕ) (xs : List ℕ) (w i : ℕ) (kept all : List ℕ) → length xs ≤ i
    → kept ++ zone_from cost workers whole before (drop i xs) w ≡ all → kept ≡ all
zone_done cost workers whole before xs w i kept all last known =
    sym (append-nil kept) ∙ ap (λ y. kept ++ y) (sym (zone_from-none cost workers whole before w))
    ∙ ap (λ y. kept ++ zone_from cost workers whole before y w) (sym (drop_of_length-le xs last)) ∙ known

-- the bodies in tree order are of the list
pub order_within : (site : ℕ → Site) (bodies found : List ℕ) (most : ℕ) → found ≡ order (octree site bodies) → All (λ n. n < most) bodies
    → All (λ n. n < most) found
order_within site bodies found most e h =
    subst (λ (y : List ℕ). All (λ n. n < most) y) (sym e)
    (all_members (λ n. n < most) (order (octree site bodies)) (λ n i. member_of_all (λ m. m < most) bodies n h (from_list site 21 0 bodies n i)))
