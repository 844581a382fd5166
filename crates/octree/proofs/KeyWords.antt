-- The word of a key, by the word of the key above it.
use Rattle.std.proofs.Common.{ℕ, ◌/◌, ◌%◌, ◌<◌, ◌≤◌, ◌≡◌, ◌≢◌, refl, sym, ◌∙◌, subst, arith}
use Rattle.octant_code.proofs.Keys.{pow8-mono}
use Rattle.octree.specs.ByKeys.{key_of_cell}
use Rattle.octree.specs.Spot.{IsReachable}
use Rattle.octree.specs.Stored.{IsStored, Stored, root_word}
use Rattle.tree_rule.proofs.Laws.{forget, keys_grow, one_read, recall}
use Rattle.tree_rule.specs.Naming.{NamesAs}
use Rattle.tree_rule.specs.declared.words.Named.{Named}
use Rattle.tree_rule.specs.declared.words.Named.TheVariants.{Nothing, Body, Cell}
use Rattle.tree_rule.specs.Sound.{BelowAs, HereAs, IsReachedAs}
use Rattle.tree_rule.specs.Words.{IsReached, at_of, cell_word, child_place}

-- what is named is no cell, so the word is no cell's
pub names_no_cell : (w : ℕ) (named : Named) → NamesAs w named → ((c : ℕ) → named ≡ Cell c → ⊥) → (c : ℕ) → w ≢ cell_word c
names_no_cell w Nothing is off c e = omega arith
names_no_cell w (Body n) is off c e = omega arith
names_no_cell w (Cell d) is off c e = off d refl

module _ (at : ℕ → ℕ) (top base : ℕ) where
  -- a word whose key isn't the top word's stands in a cell of the key above
  cell_over : (key w : ℕ) → key ≢ base → IsReachedAs at top base key w → (c : ℕ) × IsReachedAs at top base (key / 8) (cell_word c)
  cell_over _ _ apart (HereAs key w k e) = absurd (apart k)
  cell_over _ _ apart (BelowAs c k parent key w r l f e) =
      let up : parent ≡ key / 8 = omega arith in
      (c, subst (λ (y : ℕ). IsReachedAs at top base y (cell_word c)) up r)

  -- below the top word's key there is no word
  pub none_before : (key : ℕ) → key < base → (w : ℕ) → IsReachedAs at top base key w → ⊥
  none_before key less w r = omega (arith, keys_grow at top base key w r)

  -- where no word has the key above, none has the key
  pub none_below : (key : ℕ) → key ≢ base → ((v : ℕ) → IsReachedAs at top base (key / 8) v → ⊥) → (w : ℕ) → IsReachedAs at top base key w → ⊥
  none_below key apart none w r = let over = cell_over key w apart r in none (cell_word over.0) over.1

  -- nor where the word of the key above names no cell
  pub none_in : (key v : ℕ) → 1 ≤ base → key ≢ base → IsReachedAs at top base (key / 8) v → ((c : ℕ) → v ≢ cell_word c) → (w : ℕ)
      → IsReachedAs at top base key w → ⊥
  none_in key v some apart above off w r =
      let over = cell_over key w apart r in
      off over.0 (one_read at top base (key / 8) v (cell_word over.0) some above over.1)

  -- the word in the cell of the key above
  pub read_in : (key v c w : ℕ) → IsReachedAs at top base (key / 8) v → v ≡ cell_word c → w ≡ at (child_place c (key % 8)) → IsReachedAs at top base key w
  read_in key v c w above cell word =
      BelowAs c (key % 8) (key / 8) key w (subst (λ (y : ℕ). IsReachedAs at top base (key / 8) y) cell above) (omega arith) (omega arith) word

  -- that cell is read
  pub cell_there : (key v c : ℕ) → IsReachedAs at top base key v → v ≡ cell_word c → IsReached at top (cell_word c)
  cell_there key v c read cell = subst (λ (y : ℕ). IsReached at top y) cell (forget at top base key v read)

-- ---- the number of a key

module _ (o : Stored) (stored : IsStored o) (key : ℕ) where
  -- the base key is not 0
  pub base_positive : 1 ≤ o.base
  base_positive = omega (arith, stored.base_low, pow8-mono 0 o.level (omega arith))

  -- a cell that can be reached and has the key is read with it
  read_with : (c : ℕ) → IsReachable o c → key_of_cell o c ≡ key → IsReachedAs (at_of o.words) (root_word o) o.base key (cell_word c)
  read_with c r e =
      let f = recall (at_of o.words) (root_word o) o.base (cell_word c) r in
      subst (λ (y : ℕ). IsReachedAs (at_of o.words) (root_word o) o.base y (cell_word c)) (sym (stored.sound.keys_follow f.key c f.read) ∙ e) f.read

  -- where no word has the key there is no such cell
  pub no_number : ((w : ℕ) → IsReachedAs (at_of o.words) (root_word o) o.base key w → ⊥) → (c : ℕ) → IsReachable o c → key_of_cell o c ≢ key
  no_number none c r e = none (cell_word c) (read_with c r e)

  -- nor where the word of the key names no cell
  pub no_number_in : (v : ℕ) → IsReachedAs (at_of o.words) (root_word o) o.base key v → ((c : ℕ) → v ≢ cell_word c) → (c : ℕ) → IsReachable o c
      → key_of_cell o c ≢ key
  no_number_in v read off c r e = off c (one_read (at_of o.words) (root_word o) o.base key v (cell_word c) base_positive read (read_with c r e))

  -- where it names a cell, that is the one
  pub number_is : (v c : ℕ) → IsReachedAs (at_of o.words) (root_word o) o.base key v → v ≡ cell_word c → IsReachable o c × (key_of_cell o c ≡ key)
  number_is v c read cell =
      let r = subst (λ (y : ℕ). IsReachedAs (at_of o.words) (root_word o) o.base key y) cell read in
      (forget (at_of o.words) (root_word o) o.base key (cell_word c) r, stored.sound.keys_follow key c r)
