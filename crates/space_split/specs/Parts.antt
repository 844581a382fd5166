-- The octrees of the pieces.
use Rattle.std.specs.Prelude.{ℕ, ◌≡◌, ◌↔◌, List, [], ◌∷◌, ◌++◌, Result, Ok, Err}
use Rattle.std.specs.List.{AllZip}
use Rattle.octant_code.specs.Space.{Site}
use Rattle.bh_model.specs.Bodies.{IsIn}
use Rattle.tree_rule.specs.Words.{HasBody}
use Rattle.octree.specs.Stored.{IsCanonical, Stored}
use Rattle.space_split.specs.Bodies.{bodies_of, numbers_of}
use Rattle.space_split.specs.declared.codes.Coded.{Coded}
use Rattle.space_split.specs.declared.cube.Cube.{Cube}

-- The octree of the cube of a key is the canonical one of bodies.
pub record IsPartOf (sites : List Site) (key : ℕ) (bodies : List Coded) (o : Stored) : Type 0 where
  pub base : o.base ≡ key
  pub canonical : IsCanonical sites o
  pub held : (n : ℕ) → HasBody o.words n ↔ IsIn (numbers_of bodies) n

-- the octrees are those of the cubes, in turn
abbrev pub AreBuilt : List Site → List Coded → List Cube → List Stored → Type 0
AreBuilt sites bodies cubes parts = AllZip (λ cube o. IsPartOf sites cube.key (bodies_of bodies cube) o) cubes parts

-- all answers are lists, and these one after another are the whole
abbrev pub AreJoined : {V E : Type 0} → (V → List Stored) → List (Result V E) → List Stored → Type 0
AreJoined items [] whole = whole ≡ []
AreJoined items (Err e ∷ rest) whole = ⊥
AreJoined items (Ok v ∷ rest) whole = (others : List Stored) × AreJoined items rest others × (whole ≡ items v ++ others)
