-- What the builders make, tell and publish.
use Rattle.std.specs.Prelude.{ℕ, ◌≡◌, ◌≤◌, List, Option, None, Some, length, map, ⊤}
use Rattle.octant_code.specs.Points.{site_at}
use Rattle.octant_code.specs.Space.{Site}
use Rattle.bh_model.specs.Blocks.{blocks_of_shares}
use Rattle.bh_model.specs.Bodies.{numbers}
use Rattle.bh_model.specs.Movers.{update_counts}
use Rattle.bh_model.specs.Pieces.{pieces}
use Rattle.bh_model.specs.Plans.{TreePlan}
use Rattle.bh_model.specs.declared.piece.Piece.{Piece}
use Rattle.bh_model.specs.declared.plan.Builder.{Builder}
use Rattle.bh_model.specs.declared.plan.Builder.TheVariants as builder
use Rattle.bh_model.specs.declared.update.UpdateCounts.{UpdateCounts}
use Rattle.octree.specs.ByKeys.{StandsByKeys}
use Rattle.octree.specs.Stored.{IsOctreeOf, Stored}
use Rattle.partree_merge.specs.Merging.{holders}
use Rattle.shared_tree.specs.Seen.{YardCounts, risen}

-- a tree that was made: by which plan, for the bodies at which sites, and the counts of the update that made it, where one did
pub record MadeTree : Type 0 where
  pub plan : TreePlan
  pub sites : List Site
  pub update : Option UpdateCounts

-- the counts of an update of a tree to the bodies at other sites
abbrev pub update_from : MadeTree → List Site → UpdateCounts
update_from last sites = update_counts (site_at last.sites) (site_at sites) (numbers (length sites))

-- the counts of the update by which a builder makes a tree from the last one: UPDATE makes all so but the first, and no other builder any
abbrev pub told_update : Builder → Option MadeTree → List Site → Option UpdateCounts
told_update builder.Update (Some last) sites = Some (update_from last sites)
told_update _ last sites = None

-- the pieces into which so many workers divide the cube with the bodies at these sites
abbrev pub pieces_at : ℕ → List Site → List Piece
pieces_at workers sites = pieces (site_at sites) workers (numbers (length sites))

-- how many pieces a builder tells of: SPACE of all, and no other builder of any
abbrev pub told_pieces : Builder → ℕ → List Site → Option ℕ
told_pieces builder.Space workers sites = Some (length (pieces_at workers sites))
told_pieces _ workers sites = None

-- The octree that a plan makes of bodies: the canonical one. That of SPACE stands by the keys of the pieces.
pub record IsMadeTree (plan : TreePlan) (sites : List Site) (o : Stored) : Type 0 where
  pub octree : IsOctreeOf sites o
  pub by_pieces : plan.builder ≡ builder.Space → StandsByKeys (map (λ (p : Piece). p.key) (pieces_at plan.workers sites)) o

-- What one tree counts in the yard of its builder: how many bodies it puts in, and by how many publications at least and at most.
pub record Publications : Type 0 where
  pub bodies : ℕ
  pub least : ℕ
  pub most : ℕ

-- each body of so many is put in by a publication of its own
abbrev pub one_for_each : ℕ → Publications
one_for_each bodies = record { bodies = bodies; least = bodies; most = bodies }

-- What a builder publishes for one tree of the bodies at these sites, built by these shares, after the last tree: ORIG and LOCAL each body by itself,
-- UPDATE too for its first tree and then those that leave their cells, PARTREE all bodies, by at least one publication for each share that holds one, and
-- at most the blocks of the shares, and SPACE none.
abbrev pub tree_publishes : Builder → Option MadeTree → List Site → List (List ℕ) → Publications
tree_publishes builder.Orig last sites shares = one_for_each (length sites)
tree_publishes builder.Local last sites shares = one_for_each (length sites)
tree_publishes builder.Update None sites shares = one_for_each (length sites)
tree_publishes builder.Update (Some last) sites shares = one_for_each (update_from last sites).left
tree_publishes builder.Partree last sites shares =
    record { bodies = length sites; least = holders shares; most = blocks_of_shares (site_at sites) (length sites) shares }
tree_publishes builder.Space last sites shares = one_for_each 0

-- the counts of a yard rose as the publications of a tree say, up to the greatest number of 64 bits
abbrev pub Rises : Publications → (before after : YardCounts) → Type 0
Rises p before after =
    (after.published ≡ risen before.published p.bodies)
    × (count : ℕ) × (p.least ≤ count) × (count ≤ p.most) × (after.changes ≡ risen before.changes count)

-- the builder waits for nobody: each but ORIG
abbrev pub IsFree : Builder → Type 0
IsFree builder.Orig = ⊥
IsFree _ = ⊤
