-- What callers rest on, which import nothing else of these proofs.

-- a tree that began empty, and ends with all bodies
pub use Rattle.shared_tree.proofs.Whole.{octree_put}
-- cells that are dealt out
pub use Rattle.shared_tree.proofs.Starts.{region_enough, room_of_regions, serves_region}
-- what is at most the blocks of a part against all rivals
pub use Rattle.shared_tree.proofs.MergeRivals.{blocks_among, rivals_all}
