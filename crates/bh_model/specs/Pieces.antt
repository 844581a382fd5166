-- The pieces into which space is divided by counts of bodies (SPACE of Shan and Singh, IPPS 1998, in outline; the numbers are this project's own).
use Rattle.std.specs.Prelude.{ℕ, ◌+◌, ◌*◌, ◌/◌, ◌≡◌, zero, suc, max, eqb, nat_le, if◌then◌else◌, List, [], ◌∷◌, ◌++◌, filter, length}
use Rattle.octant_code.specs.declared.limits.TheConstants.{LEVELS}
use Rattle.octant_code.specs.Space.{IsUnder, Site, octant_of}
use Rattle.bh_model.specs.Bodies.{IsIn}
use Rattle.bh_model.specs.declared.piece.Piece.{Piece}

-- the greatest number of bodies of a cube that isn't divided, for so many bodies and workers
abbrev pub piece_limit : ℕ → ℕ → ℕ
piece_limit count workers = max 1 (count / (4 * workers))

-- what eight octants give, one after another
abbrev pub in_turn : {T : Type 0} → (ℕ → List T) → List T
in_turn f = f 0 ++ f 1 ++ f 2 ++ f 3 ++ f 4 ++ f 5 ++ f 6 ++ f 7

-- the bodies of an octant at a level, by the octants of all bodies at all levels
abbrev pub of_octant : (ℕ → ℕ → ℕ) → ℕ → ℕ → List ℕ → List ℕ
of_octant octant level k bodies = filter (λ n. eqb (octant n level) k) bodies

-- The cubes that aren't divided and hold a body, in tree order, each by its key and the number of its bodies: of a list of bodies of one
-- cube of a level, with as many levels below it, by the octants of all bodies at all levels. A cube with more than `most` bodies is divided.
unfoldable pub cubes_from : (ℕ → ℕ → ℕ) → ℕ → ℕ → ℕ → ℕ → List ℕ → List (ℕ × ℕ)
cubes_from octant most below level key [] = []
cubes_from octant most zero level key (n ∷ rest) = (key, length (n ∷ rest)) ∷ []
cubes_from octant most (suc below) level key (n ∷ rest) =
    if nat_le (length (n ∷ rest)) most then (key, length (n ∷ rest)) ∷ []
    else in_turn (λ k. cubes_from octant most below (suc level) (8 * key + k) (of_octant octant level k (n ∷ rest)))

-- Cubes as pieces of so many workers, where some bodies stand before them: a piece's worker is the share of the bodies before it, rounded down.
abbrev pub dealt : ℕ → ℕ → ℕ → List (ℕ × ℕ) → List Piece
dealt whole workers before [] = []
dealt whole workers before (cube ∷ rest) =
    record { key = cube.0; count = cube.1; worker = before * workers / whole } ∷ dealt whole workers (before + cube.1) rest

-- the octants of the bodies at all levels
abbrev pub octants_of : (ℕ → Site) → ℕ → ℕ → ℕ
octants_of site n level = octant_of (site n) level

-- the pieces of a list of bodies for so many workers
abbrev pub pieces : (ℕ → Site) → ℕ → List ℕ → List Piece
pieces site workers bodies =
    dealt (length bodies) workers 0 (cubes_from (octants_of site) (piece_limit (length bodies) workers) LEVELS 0 1 bodies)

-- a point lies under exactly one key of a list
pub record IsUnderOne (keys : List ℕ) (s : Site) : Type 0 where
  pub own : ℕ
  pub inside : IsIn keys own
  pub under : IsUnder own s
  pub only : (key : ℕ) → IsIn keys key → IsUnder key s → key ≡ own
