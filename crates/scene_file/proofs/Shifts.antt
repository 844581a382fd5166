-- What moves make of bodies.
use Rattle.std.proofs.Common.{◌≡◌, ◌∙◌, ◌<◌, ◌+◌, ℕ, List, [], ◌∷◌, ◌++◌, All, drop, length, take, refl, sym, ap, arith}
use Rattle.std.specs.Prelude.{slice_set}
use Rattle.std.proofs.lemmas.List.{append-nil, drop_all, length-set, map-set, take_all, take_more}
use Rattle.std.proofs.lemmas.List.Elements.{All-get_or, All-head, All-set, All-tail}
use Rattle.std.proofs.lemmas.List.Sums.{sum_by-set}
use Rattle.octant_code.specs.Space.{IsInCube}
use Rattle.scene_file.specs.Bodies.{AreBodies, body_at, nobody, sites_of, total_mass}
use Rattle.scene_file.specs.Moves.{IsPass, move_at, moved, no_move, shifted}
use Rattle.scene_file.specs.declared.bodies.Body.{Body}
use Rattle.scene_file.specs.declared.moves.Move.{Move}

-- each move of a list names one of so many bodies
abbrev pub AreKnown : ℕ → List Move → Type 0
AreKnown count moves = All (λ (m : Move). m.body < count) moves

-- each move of a list goes to a point of the cube
abbrev pub GoInCube : List Move → Type 0
GoInCube moves = All (λ (m : Move). IsInCube m.to) moves

-- no bodies come or go
pub shifted-length : (moves : List Move) (bodies : List Body) → length (shifted moves bodies) ≡ length bodies
unfolding shifted
shifted-length [] bodies = refl
shifted-length (m ∷ ms) bodies = shifted-length ms (moved m bodies) ∙ length-set bodies m.body _

-- one more move, or several
pub shifted-append : (moves more : List Move) (bodies : List Body) → shifted (moves ++ more) bodies ≡ shifted more (shifted moves bodies)
unfolding shifted
shifted-append [] more bodies = refl
shifted-append (m ∷ ms) more bodies = shifted-append ms more (moved m bodies)

-- and so does their sum
pub shifted_mass : (moves : List Move) (bodies : List Body) → AreKnown (length bodies) moves → total_mass (shifted moves bodies) ≡ total_mass bodies
unfolding shifted
shifted_mass [] bodies known = refl
shifted_mass (m ∷ ms) bodies known =
    let within : m.body < length bodies = All-head (λ (m : Move). m.body < length bodies) m ms known in
    let put : Body = record { mass = (body_at bodies m.body).mass; at = m.to } in
    let same : length (moved m bodies) ≡ length bodies = length-set bodies m.body put in
    let here : total_mass (moved m bodies) ≡ total_mass bodies =
    omega (arith, sum_by-set (λ (b : Body). b.mass) bodies m.body put nobody within) in
    shifted_mass ms (moved m bodies) (rw same (All-tail (λ (m : Move). m.body < length bodies) m ms known)) ∙ here

-- each body has its mass
pub shifted_massive : (moves : List Move) (bodies : List Body) → AreKnown (length bodies) moves → All (λ (b : Body). 0 < b.mass) bodies
    → All (λ (b : Body). 0 < b.mass) (shifted moves bodies)
unfolding shifted
shifted_massive [] bodies known massive = massive
shifted_massive (m ∷ ms) bodies known massive =
    let within : m.body < length bodies = All-head (λ (m : Move). m.body < length bodies) m ms known in
    let put : Body = record { mass = (body_at bodies m.body).mass; at = m.to } in
    let same : length (moved m bodies) ≡ length bodies = length-set bodies m.body put in
    shifted_massive ms (moved m bodies) (rw same (All-tail (λ (m : Move). m.body < length bodies) m ms known))
    (All-set (λ (b : Body). 0 < b.mass) bodies m.body put (All-get_or (λ (b : Body). 0 < b.mass) bodies m.body nobody within massive) massive)

-- points of the cube go to points of the cube
pub shifted_inside : (moves : List Move) (bodies : List Body) → GoInCube moves → All IsInCube (sites_of bodies) → All IsInCube (sites_of (shifted moves bodies))
unfolding shifted
shifted_inside [] bodies go inside = inside
shifted_inside (m ∷ ms) bodies go inside =
    let put : Body = record { mass = (body_at bodies m.body).mass; at = m.to } in
    shifted_inside ms (moved m bodies) (All-tail (λ (m : Move). IsInCube m.to) m ms go)
    (rw (map-set (λ (b : Body). b.at) bodies m.body put)
    (All-set IsInCube (sites_of bodies) m.body m.to (All-head (λ (m : Move). IsInCube m.to) m ms go) inside))

-- the rule of bodies is kept by a pass
pub shifted_rule : (moves : List Move) (bodies : List Body) → AreBodies bodies → IsPass bodies moves → GoInCube moves → AreBodies (shifted moves bodies)
shifted_rule moves bodies rule pass go =
    record {
      few = rw (shifted-length moves bodies) rule.few;
      massive = shifted_massive moves bodies pass.known rule.massive;
      total = rw (shifted_mass moves bodies pass.known) rule.total;
      apart = pass.apart;
      in_cube = shifted_inside moves bodies go rule.in_cube;
    }

-- the next move of a list
pub shift_more : (moves : List Move) (bodies list : List Body) (i : ℕ) (m : Move) (b : Body) → i < length moves → m ≡ move_at moves i
    → b ≡ body_at list m.body → list ≡ shifted (take i moves) bodies
    → slice_set list m.body (record { mass = b.mass; at = m.to }) ≡ shifted (take (i + 1) moves) bodies
unfolding shifted
shift_more moves bodies list i m b within is value before =
    let more : take (i + 1) moves ≡ take i moves ++ m ∷ [] = take_more moves i no_move within ∙ ap (λ (y : Move). take i moves ++ y ∷ []) (sym is) in
    rw (more, shifted-append (take i moves) (m ∷ []) bodies, ← before, value) refl

-- what a slice of a list is written back as
pub written_back : (list items : List Body) (len : ℕ) → length list ≡ length items → len ≡ length items → take len (list ++ drop (length list) items) ≡ list
written_back list items len same long =
    let none : drop (length list) items ≡ [] = drop_all (length list) items (omega arith) in
    rw (none, append-nil list) (take_all len list (omega arith))
