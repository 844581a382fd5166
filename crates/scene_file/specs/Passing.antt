-- How it is found out which body is where while moves and passes are read.
use Rattle.std.specs.Prelude.{◌≡◌, ◌≢◌, ◌<◌, ◌≤◌, ◌+◌, ◌==◌, ℕ, Bool, true, false, List, All, Option, Some, length, slice_index_or}
use Rattle.octant_code.specs.Points.{AreApart}
use Rattle.octant_code.specs.Space.{IsInCube, Site, packed}
use Rattle.scene_file.specs.Bodies.{body_at, sites_of}
use Rattle.scene_file.specs.Moves.{IsScene, move_at, move_count}
use Rattle.scene_file.specs.Scene.{SoFar, ended, names, present}
use Rattle.scene_file.specs.declared.bodies.Body.{Body}
use Rattle.scene_file.specs.declared.moves.Move.{Move}
use Rattle.scene_file.specs.declared.moves.TheConstants.{MOST_MOVES}

-- whether there is a body of a number, and it is at a point
abbrev pub StandsAt : List Body → ℕ → Site → Bool → Type 0
StandsAt bodies n at true = (n < length bodies) × ((body_at bodies n).at ≡ at)
StandsAt bodies n at false = n < length bodies → (body_at bodies n).at ≢ at

-- whether a body was found, another one than that of a number, and is at a point
abbrev pub Takes : List Body → Option ℕ → ℕ → Site → Bool → Type 0
Takes bodies found n at true = (o : ℕ) × (found ≡ Some o) × (o ≢ n) × (o < length bodies) × ((body_at bodies o).at ≡ at)
Takes bodies found n at false = (o : ℕ) → found ≡ Some o → o ≢ n → o < length bodies → (body_at bodies o).at ≢ at

-- a body is found at the point where it is
abbrev pub IsFound : (ℕ → Option ℕ) → List Body → ℕ → Type 0
IsFound get bodies j = get (packed (body_at bodies j).at) ≡ Some j

-- each body is found where it is, or two are at one point
abbrev pub IsSettled : (ℕ → Option ℕ) → List Body → Bool → Type 0
IsSettled get bodies true = (j : ℕ) → j < length bodies → IsFound get bodies j
IsSettled get bodies false = AreApart (sites_of bodies) → ⊥

-- what is kept while moves and passes are read
pub record IsPassing (so_far : SoFar) (here : List Body) (get : ℕ → Option ℕ) (named : List ℕ) (count : ℕ) : Type 0 where
  pub scene : IsScene (ended so_far)
  pub present : here ≡ present so_far
  pub found : (j : ℕ) → j < length here → IsFound get here j
  pub named_long : length named ≡ length so_far.bodies
  pub named_is : (n : ℕ) → n < length named → names so_far.moves n ≡ (slice_index_or named n 0 == length so_far.passes + 1)
  pub named_low : (n : ℕ) → n < length named → slice_index_or named n 0 ≤ length so_far.passes + 1
  pub count_is : count ≡ move_count so_far.passes + length so_far.moves
  pub few_moves : count ≤ MOST_MOVES
  pub known : All (λ (m : Move). m.body < length so_far.bodies) so_far.moves
  pub once : (i j : ℕ) → i < j → j < length so_far.moves → (move_at so_far.moves i).body ≢ (move_at so_far.moves j).body
  pub in_cube : All (λ (m : Move). IsInCube m.to) so_far.moves
