-- The points that a test has seen, by a map from points to positions.
use Rattle.std.proofs.Common.{ℕ, ◌+◌, ◌<◌, ◌≤◌, ◌≡◌, ◌≢◌, ◌&&◌, ◌==◌, Bool, true, false, cond, List, length, take, Option, Some, None, refl, sym, ◌∙◌, ap}
use Rattle.std.proofs.Common.{arith, inl, inr, eqb-true, eq-eqb}
use Rattle.std.proofs.lemmas.Bool.{cases_lt}
use Rattle.std.proofs.lemmas.List.{get_or-take, length-take-le}
use Rattle.std.proofs.lemmas.List.Elements.{All-get_or}
use Rattle.std.specs.List.{All}
use Rattle.octant_code.specs.Space.{IsInCube, Site, origin, packed, same_coordinates}
use Rattle.octant_code.proofs.InCube.{packed_once, site_parts}
use Rattle.octant_code.specs.Points.{site_at, AreApart}
use Rattle.octant_code.specs.Distinct.{AreFirstSame}

-- the test of coordinates finds a site equal to itself
pub same_coordinates_refl : (s : Site) → same_coordinates s s ≡ true
same_coordinates_refl s = rw (eq-eqb s.x s.x refl, eq-eqb s.y s.y refl, eq-eqb s.z s.z refl) refl

-- and to no other
pub same_coordinates_true : (s t : Site) → same_coordinates s t ≡ true → s ≡ t
same_coordinates_true s t e = by_parts (s.x == t.x) (s.y == t.y) (s.z == t.z) refl refl refl e
  where
    by_parts : (a b c : Bool) → (s.x == t.x) ≡ a → (s.y == t.y) ≡ b → (s.z == t.z) ≡ c → (a && (b && c)) ≡ true → s ≡ t
    by_parts true true true p q r all = site_parts s.x s.y s.z t.x t.y t.z (eqb-true s.x t.x p) (eqb-true s.y t.y q) (eqb-true s.z t.z r)
    by_parts true true false p q r all = cc
    by_parts true false c p q r all = cc
    by_parts false b c p q r all = cc

-- the look-ups give the position of each of the first keys, and these are apart
pub record HasSeen (key : ℕ → ℕ) (get : ℕ → Option ℕ) (i : ℕ) : Type 0 where
  pub back : (q v : ℕ) → get q ≡ Some v → (v < i) × (key v ≡ q)
  pub forth : (j : ℕ) → j < i → get (key j) ≡ Some j
  pub apart : (a b : ℕ) → a < b → b < i → key a ≢ key b

-- the key of the point at a position
abbrev pub key_at : List Site → ℕ → ℕ
key_at sites j = packed (site_at sites j)

-- a new key is entered at the next position
pub seen_more : (key : ℕ → ℕ) (get new : ℕ → Option ℕ) (i : ℕ) → HasSeen key get i → get (key i) ≡ None
    → ((q : ℕ) → new q ≡ cond (key i == q) (Some i) (get q)) → HasSeen key new (i + 1)
seen_more key get new i h none here =
    let other : (j : ℕ) → j < i → key i ≢ key j = λ j l e. let f : Some j ≡ None = sym (h.forth j l) ∙ ap get (sym e) ∙ none in cc in
    let mine : new (key i) ≡ Some i = here (key i) ∙ ap (λ b. cond b (Some i) (get (key i))) (eq-eqb (key i) (key i) refl) in
    record {
      back = λ q v f. at_each q v (key i == q) refl f;
      forth = λ j l. elim (cases_lt j i) [
        | inl r ↦ kept (key j) (key i == key j) refl (other j r) ∙ h.forth j r
        | inr r ↦ let s : j ≡ i = omega arith in ap (λ y. new (key y)) s ∙ mine ∙ ap Some (sym s)
      ];
      apart = λ a b l m. elim (cases_lt b i) [
        | inl r ↦ h.apart a b l r
        | inr r ↦ λ e. let s : b ≡ i = omega arith in other a (omega arith) (sym (e ∙ ap key s))
      ];
    }
  where
    kept : (q : ℕ) (b : Bool) → (key i == q) ≡ b → key i ≢ q → new q ≡ get q
    kept q true t differ = absurd (differ (eqb-true (key i) q t))
    kept q false t differ = here q ∙ ap (λ y. cond y (Some i) (get q)) t

    at_each : (q v : ℕ) (b : Bool) → (key i == q) ≡ b → new q ≡ Some v → (v < i + 1) × (key v ≡ q)
    at_each q v true t f =
        let g : Some i ≡ Some v = sym (ap (λ y. cond y (Some i) (get q)) t) ∙ sym (here q) ∙ f in
        let s : i ≡ v = cc in
        (omega (arith, s), ap key (sym s) ∙ eqb-true (key i) q t)
    at_each q v false t f =
        let p = h.back q v (sym (ap (λ y. cond y (Some i) (get q)) t) ∙ sym (here q) ∙ f) in
        (omega (arith, p.0), p.1)

-- a point that was seen before is the first that stands twice
pub seen_again : (sites : List Site) (get : ℕ → Option ℕ) (i v : ℕ) → All IsInCube sites → HasSeen (key_at sites) get i → i < length sites
    → get (key_at sites i) ≡ Some v → AreFirstSame sites v i
seen_again sites get i v in_cube h l e =
    let p = h.back (key_at sites i) v e in
    let inside : (j : ℕ) → j < length sites → IsInCube (site_at sites j) = λ j within. All-get_or IsInCube sites j origin within in_cube in
    let here : length (take i sites) ≡ i = length-take-le i sites (omega arith) in
    record {
      order = p.0;
      within = l;
      same = packed_once (site_at sites v) (site_at sites i) (inside v (omega (arith, p.0))) (inside i l) p.1;
      before = λ a b m n.
          let bi : b < i = omega (arith, here) in
          λ f. h.apart a b m bi (ap packed (sym (get_or-take i sites a origin (omega arith)) ∙ f ∙ get_or-take i sites b origin bi));
    }

-- where all were seen, all are apart
pub seen_all : (sites : List Site) (get : ℕ → Option ℕ) (i : ℕ) → HasSeen (key_at sites) get i → length sites ≤ i → AreApart sites
seen_all sites get i h l a b m n same = h.apart a b m (omega arith) (ap packed same)
