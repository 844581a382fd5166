-- The flat table of an octree, and how a body walks it.
use Rattle.std.specs.Prelude.{ℕ, ◌+◌, ◌-◌, ◌^◌, ◌<◌, ◌≤◌, ◌≡◌, ◌&&◌, ◌||◌, zero, suc, Bool, nat_le, nat_lt, List, [], ◌∷◌, ◌++◌, length, if◌then◌else◌}
use Rattle.std.specs.Prelude.{slice_index}
use Rattle.octant_code.specs.Space.{Site, origin, squared_distance}
use Rattle.bh_model.specs.Bodies.{IsIn}
use Rattle.bh_model.specs.Moments.{Matter, centre, centre_of, mass_of}
use Rattle.bh_model.specs.Pulls.{PullLaw, add_pull, no_pull, term}
use Rattle.bh_model.specs.Trees.{Tree, Empty, Body, Cell}
use Rattle.bh_model.specs.declared.moment.Moment.{Moment}
use Rattle.mass_moments.specs.Kept.{moment_at}
use Rattle.bh_model.specs.declared.pull.Pull.{Pull}
use Rattle.force_walk.specs.declared.node.Laid.{Laid}
use Rattle.force_walk.specs.declared.node.WalkNode.{WalkNode}

-- ---- the table

-- the node of a body
abbrev pub body_node : Matter → ℕ → WalkNode
body_node m n = record { at = m.site n; skip = 1; least = 1; mass = m.mass n }

-- the node of a cell, with the least squared distance at which it is taken
abbrev pub cell_node : Matter → ℕ → ℕ → Tree → WalkNode
cell_node m least skip cell = record { at = centre m cell; skip = skip; least = least; mass = mass_of m cell }

-- the node of a cell by the moments that are kept
abbrev pub kept_node : List Moment → ℕ → ℕ → ℕ → WalkNode
kept_node moments c least skip = record { at = centre_of (moment_at moments c); skip = skip; least = least; mass = (moment_at moments c).mass }

-- a node that no table has, for numbers past a table's end
abbrev pub no_node : WalkNode
no_node = record { at = origin; skip = 0; least = 0; mass = 0 }

-- a cell's node and then the nodes below it
abbrev pub closed : Matter → ℕ → Tree → List WalkNode → List WalkNode
closed m least cell below = cell_node m least (1 + length below) cell ∷ below

-- the nodes of a tree whose cube has side 2 ^ down, in tree order, each cell before what is below it; `least` has the least squared distance of each side
unfoldable pub flat : Matter → List ℕ → ℕ → Tree → List WalkNode
flat m least down Empty = []
flat m least down (Body n) = body_node m n ∷ []
flat m least down (Cell a b c d e f g h) =
    closed m (slice_index least down) (Cell a b c d e f g h)
    (flat m least (down - 1) a ++ flat m least (down - 1) b ++ flat m least (down - 1) c ++ flat m least (down - 1) d ++ flat m least (down - 1) e
    ++ flat m least (down - 1) f ++ flat m least (down - 1) g ++ flat m least (down - 1) h)

-- whose node stands at each place of the table: one more than a body's number, and 0 where it is a cell's
unfoldable pub owners : Tree → List ℕ
owners Empty = []
owners (Body n) = suc n ∷ []
owners (Cell a b c d e f g h) = 0 ∷ (owners a ++ owners b ++ owners c ++ owners d ++ owners e ++ owners f ++ owners g ++ owners h)

-- nodes were appended, and whose they are
pub record AreAdded (nodes : List WalkNode) (whose : List ℕ) (old new : Laid) : Type 0 where
  pub nodes_are : new.nodes.items ≡ old.nodes.items ++ nodes
  pub owners_are : new.owners.items ≡ old.owners.items ++ whose

-- the place of each body that has a node is told by the body's number
abbrev pub AreFound : List ℕ → List ℕ → Type 0
AreFound owners places = (n : ℕ) → IsIn owners (suc n) → slice_index owners (slice_index places n) ≡ suc n

-- ---- a walk

-- what a walk rests on: a mass that terms can be made of, no taking at distance 0, and at least the node itself to go past
pub record IsLaid (node : WalkNode) : Type 0 where
  pub light : node.mass < 2 ^ 40
  pub near : 1 ≤ node.least
  pub long : 1 ≤ node.skip

-- a place is one of so many from another on
abbrev pub holds : ℕ → ℕ → ℕ → Bool
holds at skip place = nat_le at place && nat_lt place (at + skip)

-- a body goes on from a node at a squared distance to the next one: into a cell that is near or has the body's own node, and past its own node
abbrev pub is_opened : ℕ → ℕ → ℕ → WalkNode → Bool
is_opened d2 place at node = nat_lt d2 node.least || holds at node.skip place

-- the sum of the terms of a walk over nodes from a place on, the first few of which are gone past; the body's own node stands at a place
unfoldable pub walked : PullLaw → Site → ℕ → ℕ → List WalkNode → ℕ → Pull
walked law from place at [] past = no_pull
walked law from place at (node ∷ rest) zero =
    if is_opened (squared_distance from node.at) place at node then walked law from place (at + 1) rest 0
    else add_pull (term law node.mass from node.at) (walked law from place (at + 1) rest (node.skip - 1))
walked law from place at (node ∷ rest) (suc past) = walked law from place (at + 1) rest past
