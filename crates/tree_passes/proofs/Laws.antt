-- What passes rest on, for the proofs of the trees, which import nothing else of these proofs.

-- counting in lists
pub use Rattle.tree_passes.proofs.Counts.{length-all_of, length-same, length-without, none_in, sum_of-map, times-all_of}
pub use Rattle.tree_passes.proofs.Counts.{in_times, once_times, same-eq, same-ne, times-append, times-without, times-without_all, times_in, times_once}
-- facts between the steps of one call
pub use Rattle.tree_passes.proofs.Turns.{cell_instead, descends_from, descends_learnt, found_learnt, inserted_from, inserted_published, meets, place_below}
pub use Rattle.tree_passes.proofs.Turns.{place_still, ready_alone, ready_over, ready_part, ready_still, some_held, still_counted, still_learnt, still_looked}
pub use Rattle.tree_passes.proofs.Turns.{still_on, still_refl, still_written, there_still, todo_still}
pub use Rattle.tree_passes.proofs.Finding.{body_inside, cell_below, found_body, looked_own, none_empty, none_other}
-- private cells
pub use Rattle.tree_passes.proofs.Made.{WithRow, cell_row}
pub use Rattle.tree_passes.proofs.Made.{few_between, held_on, length_rest, ready_first, ready_on, ready_rest, rest_is, times_take, wrote_more, wrote_word}
-- the words of a tree that was closed
pub use Rattle.tree_passes.proofs.BeginsEnds.{closed_moved, octree_of_closed}
