-- How bodies are found at the points where they are.
use Rattle.std.proofs.Common.{◌≡◌, ◌≢◌, ◌∙◌, ◌<◌, ◌≤◌, ◌+◌, ◌==◌, ℕ, Bool, true, false, cond, List, ◌∷◌, All, length, drop, get_or, Option, Some}
use Rattle.std.proofs.Common.{None, refl, sym, ap}
use Rattle.std.proofs.Common.{arith, inl, inr, eqb-true, eq-eqb}
use Rattle.std.proofs.Math.ListN.{get_or-map}
use Rattle.std.proofs.lemmas.Bool.{cases_Bool, cases_lt}
use Rattle.std.proofs.lemmas.List.{drop_more, get_or_read, length-map}
use Rattle.std.proofs.lemmas.List.Elements.{All-get_or}
use Rattle.octant_code.proofs.InCube.{packed_once}
use Rattle.octant_code.proofs.SeenPoints.{same_coordinates_refl, same_coordinates_true}
use Rattle.octant_code.specs.Points.{AreApart, site_at}
use Rattle.octant_code.specs.Space.{IsInCube, Site, origin, packed, same_coordinates}
use Rattle.scene_file.specs.Bodies.{body_at, nobody, sites_of}
use Rattle.scene_file.specs.Moves.{move_at, no_move}
use Rattle.scene_file.specs.Passing.{IsFound, StandsAt, Takes}
use Rattle.scene_file.specs.Scene.{names}
use Rattle.scene_file.specs.declared.bodies.Body.{Body}
use Rattle.scene_file.specs.declared.moves.Move.{Move}

-- the point of a number is where its body is
pub site_is : (bodies : List Body) (n : ℕ) → site_at (sites_of bodies) n ≡ (body_at bodies n).at
site_is bodies n = get_or-map (λ (b : Body). b.at) bodies n nobody

pub sites_long : (bodies : List Body) → length (sites_of bodies) ≡ length bodies
sites_long bodies = length-map bodies (λ (b : Body). b.at)

-- it lies in the cube
pub body_inside : (bodies : List Body) (n : ℕ) → All IsInCube (sites_of bodies) → n < length bodies → IsInCube (body_at bodies n).at
body_inside bodies n inside within =
    let long = sites_long bodies in
    rw site_is at (All-get_or IsInCube (sites_of bodies) n origin (omega arith) inside)

-- of bodies that are apart no two are at one point
pub bodies_differ : (bodies : List Body) (i j : ℕ) → AreApart (sites_of bodies) → i < j → j < length bodies → (body_at bodies i).at ≢ (body_at bodies j).at
bodies_differ bodies i j apart less within same =
    let long = sites_long bodies in
    apart i j less (omega arith) (site_is bodies i ∙ same ∙ sym (site_is bodies j))

-- bodies are apart where none of two is at the other's point
pub bodies_apart : (bodies : List Body) → ((i j : ℕ) → i < j → j < length bodies → (body_at bodies i).at ≢ (body_at bodies j).at) → AreApart (sites_of bodies)
bodies_apart bodies differ i j less within same =
    let long = sites_long bodies in
    differ i j less (omega arith) (sym (site_is bodies i) ∙ same ∙ site_is bodies j)

-- what an entry at a key makes of the others, and of itself
entered : (get new : ℕ → Option ℕ) (k v : ℕ) → ((q : ℕ) → new q ≡ cond (k == q) (Some v) (get q)) → new k ≡ Some v
entered get new k v here = here k ∙ ap (λ b. cond b (Some v) (get k)) (eq-eqb k k refl)

other_kept : (get new : ℕ → Option ℕ) (k v q : ℕ) → ((q : ℕ) → new q ≡ cond (k == q) (Some v) (get q)) → k ≢ q → new q ≡ get q
other_kept get new k v q here differ = by_test (k == q) refl
  where
    by_test : (b : Bool) → (k == q) ≡ b → new q ≡ get q
    by_test true t = absurd (differ (eqb-true k q t))
    by_test false t = here q ∙ ap (λ y. cond y (Some v) (get q)) t

-- one body more is found
pub found_more : (bodies : List Body) (get new : ℕ → Option ℕ) (i : ℕ) → AreApart (sites_of bodies) → All IsInCube (sites_of bodies) → i < length bodies
    → ((j : ℕ) → j < i → IsFound get bodies j) → ((q : ℕ) → new q ≡ cond (packed (body_at bodies i).at == q) (Some i) (get q))
    → (j : ℕ) → j < i + 1 → IsFound new bodies j
found_more bodies get new i apart inside within found here j less =
    elim (cases_lt j i) [
      | inl before ↦
          let k = packed (body_at bodies i).at in
          other_kept get new k i (packed (body_at bodies j).at) here (λ e. bodies_differ bodies j i apart before within
          (sym (packed_once (body_at bodies i).at (body_at bodies j).at (body_inside bodies i inside within) (body_inside bodies j inside (omega arith)) e)))
          ∙ found j before
      | inr after ↦ let last : j ≡ i = omega arith in rw last (entered get new (packed (body_at bodies i).at) i here)
    ]

-- each body is found that no move from a place on names
abbrev pub AreFound : (ℕ → Option ℕ) → List Body → List Move → Type 0
AreFound get bodies moves = (j : ℕ) → j < length bodies → names moves j ≡ false → IsFound get bodies j

-- a move that doesn't name a body
unnamed : (move : Move) (moves : List Move) (j : ℕ) → move.body ≢ j → names moves j ≡ false → names (move ∷ moves) j ≡ false
unnamed move moves j differ none = by_test (move.body == j) refl
  where
    by_test : (b : Bool) → (move.body == j) ≡ b → names (move ∷ moves) j ≡ false
    by_test true t = absurd (differ (eqb-true move.body j t))
    by_test false t = rw (t, none) refl

-- a body that a move named is found once it is entered where it is, if no other body was found at its point
pub settled_more : (bodies : List Body) (get new : ℕ → Option ℕ) (moves : List Move) (i b : ℕ) → All IsInCube (sites_of bodies) → i < length moves
    → b ≡ (move_at moves i).body → b < length bodies → AreFound get bodies (drop i moves)
    → ((q : ℕ) → new q ≡ cond (packed (body_at bodies b).at == q) (Some b) (get q))
    → ((o : ℕ) → get (packed (body_at bodies b).at) ≡ Some o → o ≢ b → o < length bodies → (body_at bodies o).at ≢ (body_at bodies b).at)
    → AreFound new bodies (drop (i + 1) moves)
settled_more bodies get new moves i b inside within is known found here alone j less none =
    elim (cases_Bool (b == j)) [
      | inl same ↦ let last : b ≡ j = eqb-true b j same in rw (← last) (entered get new (packed (body_at bodies b).at) b here)
      | inr differ ↦
          let apart : b ≢ j = λ e. let t : (b == j) ≡ true = eq-eqb b j e in cc in
          let rest : drop i moves ≡ move_at moves i ∷ drop (i + 1) moves = drop_more moves i no_move within in
          let named : names (drop i moves) j ≡ false = rw rest (unnamed (move_at moves i) (drop (i + 1) moves) j (λ e. apart (is ∙ e)) none) in
          let before = found j less named in
          other_kept get new (packed (body_at bodies b).at) b (packed (body_at bodies j).at) here (λ e. alone j (ap get e ∙ before) (λ f. apart (sym f)) less
          (sym (packed_once (body_at bodies b).at (body_at bodies j).at (body_inside bodies b inside known) (body_inside bodies j inside less) e)))
          ∙ before
    ]

-- where all bodies are found, they are apart
pub found_apart : (bodies : List Body) (get : ℕ → Option ℕ) → ((j : ℕ) → j < length bodies → IsFound get bodies j) → AreApart (sites_of bodies)
found_apart bodies get found =
    bodies_apart bodies (λ i j less within same.
    let both : Some i ≡ Some j = sym (found i (omega arith)) ∙ ap (λ s. get (packed s)) same ∙ found j within in
    let e : i ≡ j = cc in
    absurd (omega arith))

-- two bodies at one point are not apart
pub not_apart : (bodies : List Body) (a b : ℕ) → a ≢ b → a < length bodies → b < length bodies → (body_at bodies a).at ≡ (body_at bodies b).at
    → AreApart (sites_of bodies) → ⊥
not_apart bodies a b differ less within same apart =
    elim (cases_lt a b) [
      | inl before ↦ bodies_differ bodies a b apart before within same
      | inr after ↦ bodies_differ bodies b a apart (let other : a ≢ b = differ in omega (arith, other)) less (sym same)
    ]

-- a body that a test finds at a point, and one that it doesn't
pub found_here : (bodies : List Body) (i : ℕ) (b : Body) (s : Site) (t : Bool) → i < length bodies → b ≡ get_or bodies i b → t ≡ same_coordinates b.at s
    → t ≡ true → site_at (sites_of bodies) i ≡ s
found_here bodies i b s t within is told met =
    site_is bodies i ∙ ap (λ (y : Body). y.at) (sym (get_or_read bodies i b within is nobody)) ∙ same_coordinates_true b.at s (sym told ∙ met)

pub other_here : (bodies : List Body) (i : ℕ) (b : Body) (s : Site) (t : Bool) → i < length bodies → b ≡ get_or bodies i b → t ≡ same_coordinates b.at s
    → t ≡ false → ((k : ℕ) → k < i → site_at (sites_of bodies) k ≢ s) → (k : ℕ) → k < i + 1 → site_at (sites_of bodies) k ≢ s
other_here bodies i b s t within is told other before k less =
    elim (cases_lt k i) [
      | inl earlier ↦ before k earlier
      | inr last ↦ λ e.
          let same : k ≡ i = omega arith in
          let at : b.at ≡ s = ap (λ (y : Body). y.at) (get_or_read bodies i b within is nobody) ∙ sym (site_is bodies i)
          ∙ ap (λ n. site_at (sites_of bodies) n) (sym same) ∙ e in
          let met : same_coordinates b.at s ≡ true = rw at (same_coordinates_refl s) in
          let both : true ≡ false = sym met ∙ sym told ∙ other in
          cc
    ]

-- what a test says of the body of a number
pub stands_there : (bodies : List Body) (n : ℕ) (b : Body) (s : Site) (t : Bool) → n < length bodies → b ≡ get_or bodies n b → t ≡ same_coordinates b.at s
    → StandsAt bodies n s t
stands_there bodies n b s true within is told =
    (within, sym (site_is bodies n) ∙ found_here bodies n b s true within is told refl)
stands_there bodies n b s false within is told =
    λ less e.
    let at : b.at ≡ s = ap (λ (y : Body). y.at) (get_or_read bodies n b within is nobody) ∙ e in
    let met : same_coordinates b.at s ≡ true = rw at (same_coordinates_refl s) in
    let both : true ≡ false = sym met ∙ sym told in
    cc

pub stands_nowhere : (bodies : List Body) (n : ℕ) (s : Site) → length bodies ≤ n → StandsAt bodies n s false
stands_nowhere bodies n s past = λ within. absurd (omega arith)

-- a body that is read
pub body_read : (bodies : List Body) (n : ℕ) (b : Body) → n < length bodies → b ≡ get_or bodies n b → b.at ≡ (body_at bodies n).at
body_read bodies n b within is = ap (λ (y : Body). y.at) (get_or_read bodies n b within is nobody)

-- what of a body that was found is asked
pub takes_none : (bodies : List Body) (n : ℕ) (at : Site) → Takes bodies None n at false
takes_none bodies n at = λ o e. cc

pub takes_itself : (bodies : List Body) (o n : ℕ) (at : Site) → o ≡ n → Takes bodies (Some o) n at false
takes_itself bodies o n at same = λ p e. let f : o ≡ p = cc in λ differ. absurd (differ (sym f ∙ same))

pub takes_other : (bodies : List Body) (o n : ℕ) (at : Site) (t : Bool) → o ≢ n → StandsAt bodies o at t → Takes bodies (Some o) n at t
takes_other bodies o n at true differ there = (o, refl, differ, there.0, there.1)
takes_other bodies o n at false differ nowhere = λ p e. let f : o ≡ p = cc in rw (← f) (λ differ2 within. nowhere within)
