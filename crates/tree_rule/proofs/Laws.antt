-- The theorems of words for proofs of the crates above, which import nothing else of these proofs.

-- what words name
pub use Rattle.tree_rule.proofs.Names.{named-none, named-body, named-cell, names_body, names_cell, word-named, word_of_body, word_of_cell, word_of_nothing}
pub use Rattle.tree_rule.proofs.Canonical.{ACell, NoBody, OneBody, WordIs, word_is}
-- cubes that bodies share
pub use Rattle.tree_rule.proofs.Shared.{HasSharer, HasTwoSharers, Pair, pair_shares, shared_more, sharer, two_sharers}
-- the words of a key, and those above a point's word
pub use Rattle.tree_rule.proofs.Flat.{HasCellOfKey, IsBelowTop, below_top, cell_above, child_below_top, one_word, word_over}
pub use Rattle.tree_rule.proofs.Once.{one_key_of_body, one_place}
-- places of words
pub use Rattle.tree_rule.proofs.Graft.{HasPlace, key_apart, one_key, place_kept, place_of_word, root_apart, word_at_place}
pub use Rattle.tree_rule.proofs.Published.{changed_at}
-- the tree of words, and that words which stand for a list give its canonical octree
pub use Rattle.tree_rule.proofs.Canonical.{flat_gives_canonical, reads, tree-body, tree-cell, tree-empty, under_key}
pub use Rattle.tree_rule.proofs.Walk.{gives_own_order, order_complete, order_has_none_twice, order_members, order_sound, settle}
-- what is read on the way down is what stands
pub use Rattle.tree_rule.proofs.Walk.{body_reached, cell_is_reached, cell_reached, key_positive_of, reached_below, reached_of_word, under_up}
-- the same facts over sets with the same members, and over other words
pub use Rattle.tree_rule.proofs.Walk.{amid_moved, amid_same, stands_moved, stands_same}
-- small parts, cells over parts, and the cells that part two bodies
pub use Rattle.tree_rule.proofs.Parts.{Among, HasParts, ItOr, Nothing, Only, cell_stands, lone_body, lone_cell, lone_stands, stands_body, stands_none}
pub use Rattle.tree_rule.proofs.Chain.{fork_stands, link_stands, stands_empty}
-- a word is replaced: what is put in, taken out, cut off and contracted
pub use Rattle.tree_rule.proofs.Replace.{BodiesOutside, CellsOutside, Replaces, read_alone, read_under, replaced}
pub use Rattle.tree_rule.proofs.Graft.{Grafts, graft, graft_inside, graft_word, replaces_at}
pub use Rattle.tree_rule.proofs.Cut.{contracted, cut_off, emptied, taken_out}
-- cells under other numbers
pub use Rattle.tree_rule.proofs.Renumber.{renumbered-body, renumbered-cell, renumbered-none, stands_renumbered}
-- the rule without points
pub use Rattle.tree_rule.proofs.Sound.{bodies_below, bodies_of_stands, forget, keys_grow, one_read, recall, sound_below, sound_of_stands, stands_of_sound}
-- the cells that are read, and keys below keys
pub use Rattle.tree_rule.proofs.Count.{Deeper, IsKeyBelow, IsReadIn, Same, cells-body, cells-cell, cells-empty, cells_once, cells_read, child_in_child}
pub use Rattle.tree_rule.proofs.Count.{comparable, few_below}
pub use Rattle.tree_rule.proofs.Complete.{cells_complete, exact_of_stands_for}
-- the rule read aloud
pub use Rattle.tree_rule.proofs.Exact.{exact_of_stands, exact_stands, level_of_shared, more_of_shared, shared_of_more, stands_of_exact, word_published}
pub use Rattle.tree_rule.proofs.Published.{body_put, cell_put, cell_put_over, part_put}
-- notes
pub use Rattle.tree_rule.proofs.Noted.{body_note_stays, cell_note_stays, published_later}
