-- Lists of points that are apart, of which one changes, and the tests of which points are taken.
use Rattle.std.proofs.Common.{◌≡◌, ◌≢◌, ◌∙◌, ◌<◌, ◌||◌, ℕ, Bool, suc, zero, true, false, List, [], ◌∷◌, ◌++◌, length, nat_eq, if◌then◌else◌}
use Rattle.std.proofs.Common.{refl, sym, ap, arith, inl, inr, eqb-true, eq-eqb}
use Rattle.std.specs.List.{list_any}
use Rattle.std.proofs.lemmas.Bool.{cases_Bool}
use Rattle.std.proofs.lemmas.List.Folds.{list_any-append}
use Rattle.octant_code.specs.Points.{AreApart, site_at}
use Rattle.octant_code.specs.Space.{IsInCube, Site, packed, same_coordinates}
use Rattle.octant_code.proofs.InCube.{packed_once}
use Rattle.octant_code.proofs.SeenPoints.{same_coordinates_refl, same_coordinates_true}
use Rattle.drift.specs.Taken.{AreTaken}

-- two points that differ don't have the same coordinates
pub differing : (s t : Site) → s ≢ t → same_coordinates s t ≡ false
differing s t differ = elim (cases_Bool (same_coordinates s t)) [
  | inl same ↦ absurd (differ (same_coordinates_true s t same))
  | inr other ↦ other
]

-- the test is the same both ways
pub same_back : (s t : Site) → same_coordinates s t ≡ false → same_coordinates t s ≡ false
same_back s t other = elim (cases_Bool (same_coordinates t s)) [
  | inl same ↦ let back : t ≡ s = same_coordinates_true t s same in
      let refl_s : same_coordinates s s ≡ true = same_coordinates_refl s in
      let there : same_coordinates s t ≡ true = ap (λ u. same_coordinates s u) back ∙ refl_s in cc
  | inr part ↦ part
]

-- neither of two tests is passed
neither : (a b : Bool) → (a || b) ≡ false → (a ≡ false) × (b ≡ false)
neither true b e = cc
neither false b e = (refl, e)

either_false : (a b : Bool) → a ≡ false → b ≡ false → (a || b) ≡ false
either_false a b p q = rw (p, q) refl

-- ---- points that are apart: each of them is none of those after it

Apart : List Site → Type 0
Apart [] = Unit {0}
Apart (s ∷ sites) = (list_any (same_coordinates s) sites ≡ false) × Apart sites

-- a point that is none of a list has another point at each place
other_at : (sites : List Site) (s : Site) → list_any (same_coordinates s) sites ≡ false → (i : ℕ) → i < length sites → site_at sites i ≢ s
other_at [] s none i within = absurd (omega arith)
other_at (t ∷ sites) s none zero within = λ e. let other = (neither (same_coordinates s t) (list_any (same_coordinates s) sites) none).0 in
    let same : same_coordinates s t ≡ true = ap (λ u. same_coordinates s u) e ∙ same_coordinates_refl s in cc
other_at (t ∷ sites) s none (suc i) within =
    other_at sites s (neither (same_coordinates s t) (list_any (same_coordinates s) sites) none).1 i (omega arith)

-- and back
none_from : (sites : List Site) (s : Site) → ((i : ℕ) → i < length sites → site_at sites i ≢ s) → list_any (same_coordinates s) sites ≡ false
none_from [] s other = refl
none_from (t ∷ sites) s other =
    either_false (same_coordinates s t) (list_any (same_coordinates s) sites) (differing s t (λ e. other 0 (omega arith) (sym e)))
    (none_from sites s (λ i within. other (suc i) (omega arith)))

apart_from : (sites : List Site) → AreApart sites → Apart sites
unfolding Apart
apart_from [] apart = tt
apart_from (s ∷ sites) apart = (
  none_from sites s (λ i within e. apart 0 (suc i) (omega arith) (omega arith) (sym e)),
  apart_from sites (λ i j less within. apart (suc i) (suc j) (omega arith) (omega arith)),
)

apart_to : (sites : List Site) → Apart sites → AreApart sites
unfolding Apart
apart_to [] apart i j less within = absurd (omega arith)
apart_to (s ∷ sites) apart zero zero less within = absurd (omega arith)
apart_to (s ∷ sites) apart zero (suc j) less within = λ e. other_at sites s apart.0 j (omega arith) (sym e)
apart_to (s ∷ sites) apart (suc i) zero less within = absurd (omega arith)
apart_to (s ∷ sites) apart (suc i) (suc j) less within = apart_to sites apart.1 i j (omega arith) (omega arith)

-- ---- a point amid others

-- a test of all points with one amid them
pub any_amid : (before : List Site) (s : Site) (rest : List Site) (t : Site) → list_any (same_coordinates t) (before ++ s ∷ rest)
    ≡ (list_any (same_coordinates t) before || (same_coordinates t s || list_any (same_coordinates t) rest))
any_amid before s rest t = list_any-append (same_coordinates t) before (s ∷ rest)

any_others : (before rest : List Site) (t : Site)
    → list_any (same_coordinates t) (before ++ rest) ≡ (list_any (same_coordinates t) before || list_any (same_coordinates t) rest)
any_others before rest t = list_any-append (same_coordinates t) before rest

-- one amid points that are apart is none of the others
amid_apart : (before : List Site) (s : Site) (rest : List Site) → Apart (before ++ s ∷ rest) → list_any (same_coordinates s) (before ++ rest) ≡ false
unfolding Apart
amid_apart [] s rest apart = apart.0
amid_apart (t ∷ before) s rest apart =
    let parts = rw (any_amid before s rest t) at apart.0 in
    let later = (neither (list_any (same_coordinates t) before) (same_coordinates t s || list_any (same_coordinates t) rest) parts).1 in
    let here = (neither (same_coordinates t s) (list_any (same_coordinates t) rest) later).0 in
    either_false (same_coordinates s t) (list_any (same_coordinates s) (before ++ rest)) (same_back t s here) (amid_apart before s rest apart.1)

-- another in its place leaves them apart, where it is none of the others
amid_put : (before : List Site) (s t : Site) (rest : List Site) → Apart (before ++ s ∷ rest) → list_any (same_coordinates t) (before ++ rest) ≡ false
    → Apart (before ++ t ∷ rest)
unfolding Apart
amid_put [] s t rest apart free = (free, apart.1)
amid_put (u ∷ before) s t rest apart free =
    let parts = rw (any_amid before s rest u) at apart.0 in
    let first = neither (list_any (same_coordinates u) before) (same_coordinates u s || list_any (same_coordinates u) rest) parts in
    let later = neither (same_coordinates u s) (list_any (same_coordinates u) rest) first.1 in
    let own = neither (same_coordinates t u) (list_any (same_coordinates t) (before ++ rest)) free in
    let tail = either_false (same_coordinates u t) (list_any (same_coordinates u) rest) (same_back t u own.0) later.1 in (
      rw (any_amid before t rest u)
          (either_false (list_any (same_coordinates u) before) (same_coordinates u t || list_any (same_coordinates u) rest) first.0 tail),
      amid_put before s t rest apart.1 own.1,
    )

pub others_differ : (before : List Site) (s : Site) (rest : List Site) → AreApart (before ++ s ∷ rest) → list_any (same_coordinates s) (before ++ rest) ≡ false
others_differ before s rest apart = amid_apart before s rest (apart_from (before ++ s ∷ rest) apart)

pub apart_put : (before : List Site) (s t : Site) (rest : List Site) → AreApart (before ++ s ∷ rest)
    → list_any (same_coordinates t) (before ++ rest) ≡ false → AreApart (before ++ t ∷ rest)
apart_put before s t rest apart free = apart_to (before ++ t ∷ rest) (amid_put before s t rest (apart_from (before ++ s ∷ rest) apart) free)

-- ---- packed numbers of points

-- the packed numbers of two points of the cube are equal exactly where the points are
pub packed_test : (s t : Site) → IsInCube s → IsInCube t → nat_eq (packed s) (packed t) ≡ same_coordinates s t
packed_test s t s_in t_in = elim (cases_Bool (nat_eq (packed s) (packed t))) [
  | inl same ↦ let one : s ≡ t = packed_once s t s_in t_in (eqb-true (packed s) (packed t) same) in
      let met : same_coordinates s t ≡ true = ap (λ u. same_coordinates s u) (sym one) ∙ same_coordinates_refl s in cc
  | inr other ↦ let apart : same_coordinates s t ≡ false = differing s t
      (λ e. let same : nat_eq (packed s) (packed t) ≡ true = eq-eqb (packed s) (packed t) (ap packed e) in cc) in cc
]

-- whether a point is one of the others than one amid them, where it is not that one
pub taken_by_others : (has : ℕ → Bool) (before : List Site) (s : Site) (rest : List Site) (t : Site) → AreTaken has (before ++ s ∷ rest) → IsInCube t
    → same_coordinates t s ≡ false → has (packed t) ≡ list_any (same_coordinates t) (before ++ rest)
taken_by_others has before s rest t taken t_in other = taken.held t t_in ∙ any_amid before s rest t ∙ rw other (sym (any_others before rest t))

-- one more alternative that is false
moved_test : (a r s t : Bool) → (s ≡ true → (a ≡ false) × (r ≡ false) × (t ≡ false))
    → (if s then false else (if t then true else (a || (s || r)))) ≡ (a || (t || r))
moved_test a r true t alone = let all = alone refl in rw (all.0, all.1, all.2) refl
moved_test true r false true alone = refl
moved_test false r false true alone = refl
moved_test a r false false alone = refl

-- the test is the same both ways
pub same_sym : (s t : Site) → same_coordinates s t ≡ same_coordinates t s
same_sym s t = elim (cases_Bool (same_coordinates s t)) [
  | inl same ↦ let one : s ≡ t = same_coordinates_true s t same in ap (λ u. same_coordinates u t) one ∙ ap (λ u. same_coordinates t u) (sym one)
  | inr other ↦ other ∙ sym (same_back s t other)
]

-- a point that is none of the others is none of those before and none of those after
alone_amid : (before : List Site) (s t : Site) (rest : List Site) (u : Site) → list_any (same_coordinates s) (before ++ rest) ≡ false
    → same_coordinates s t ≡ false → same_coordinates u s ≡ true
    → (list_any (same_coordinates u) before ≡ false) × (list_any (same_coordinates u) rest ≡ false) × (same_coordinates u t ≡ false)
alone_amid before s t rest u none differ here =
    let one : u ≡ s = same_coordinates_true u s here in
    let parts = neither (list_any (same_coordinates s) before) (list_any (same_coordinates s) rest) (sym (any_others before rest s) ∙ none) in
    rw one (parts.0, parts.1, differ)

-- the points with another in the place of one amid them, which is none of the others: the one is no longer taken, and the other is
pub taken_put : (has new : ℕ → Bool) (before : List Site) (s t : Site) (rest : List Site) → AreTaken has (before ++ s ∷ rest) → IsInCube s → IsInCube t
    → same_coordinates s t ≡ false → list_any (same_coordinates t) (before ++ rest) ≡ false
    → ((q : ℕ) → new q ≡ (if nat_eq (packed s) q then false else (if nat_eq (packed t) q then true else has q))) → AreTaken new (before ++ t ∷ rest)
taken_put has new before s t rest taken s_in t_in differ free changed = record {
  apart = apart_put before s t rest taken.apart free;
  held = λ u u_in.
      let s_test : nat_eq (packed s) (packed u) ≡ same_coordinates u s = packed_test s u s_in u_in ∙ same_sym s u in
      let t_test : nat_eq (packed t) (packed u) ≡ same_coordinates u t = packed_test t u t_in u_in ∙ same_sym t u in
      let had : has (packed u) ≡ (list_any (same_coordinates u) before || (same_coordinates u s || list_any (same_coordinates u) rest)) =
      taken.held u u_in ∙ any_amid before s rest u in
      changed (packed u) ∙ rw (s_test, t_test, had)
      (moved_test (list_any (same_coordinates u) before) (list_any (same_coordinates u) rest) (same_coordinates u s)
      (same_coordinates u t) (alone_amid before s t rest u (others_differ before s rest taken.apart) differ)) ∙ sym (any_amid before t rest u);
}
