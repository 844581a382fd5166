-- What was taken out of an octree is put in again: the octree is that of all bodies, and the cells that stayed have their numbers.
use Rattle.std.proofs.Common.{ℕ, ◌+◌, ◌-◌, ◌*◌, ◌≤◌, ◌≡◌, ◌≢◌, ◌↔◌, zero, suc, refl, sym, ◌∙◌, ap, subst, inl, inr, arith, Bool, true, false, not}
use Rattle.std.proofs.Common.{List, [], ◌∷◌, filter, length, map}
use Rattle.std.proofs.lemmas.Bool.{cases_Bool}
use Rattle.std.proofs.lemmas.List.{length-map}
use Rattle.std.proofs.lemmas.List.Filters.{length-filter_both}
use Rattle.octant_code.specs.Points.{ArePoints, site_at}
use Rattle.octant_code.specs.Space.{Site}
use Rattle.bh_model.specs.Bodies.{IsIn, numbers}
use Rattle.bh_model.specs.Movers.{keeps_leaf, movers, remaining, stay, update_counts}
use Rattle.bh_model.specs.Trees.{Empty, HasCellAt, Tree, cell_count, cell_keys_from, octree}
use Rattle.bh_model.proofs.Lists.{filter-keeps, filter-member, in_joined, in_numbers, none_twice-filter, numbers_once}
use Rattle.bh_model.proofs.Movers.{counts_are}
use Rattle.bh_model.proofs.Cells.{ArePlaced, placed_of_points}
use Rattle.bh_model.proofs.Standing.{length_numbers, numbers_within}
use Rattle.bh_model.proofs.Trees.{keys-body, keys-cell, keys-empty}
use Rattle.tree_rule.specs.Sound.{BelowAs, HereAs, IsReachedAs}
use Rattle.tree_rule.specs.Words.{HasBody, at_of, cell_word, child_place, tree_from}
use Rattle.tree_rule.proofs.Laws.{ACell, NoBody, OneBody, WordIs, forget, tree-body, tree-cell, tree-empty, word_is}
use Rattle.octree.specs.ByKeys.{key_of_cell}
use Rattle.octree.specs.Spot.{IsReachable}
use Rattle.octree.specs.Stored.{IsOctreeOf, IsStored, Stored, root_word, tree_of}
use Rattle.tree_passes.specs.Counting.{same, times}
use Rattle.tree_passes.proofs.Laws.{in_times, length-same, once_times, same-ne, times_in, times_once}
use Rattle.build_workers.specs.Shares.{AreShares, times_in_all}
use Rattle.build_workers.proofs.Laws.{all_parted}
use Rattle.local_build.specs.Insertion.{AreNew, AreSharesOf, IsWithBodies}
use Rattle.update_build.specs.Staying.{StaysOf, movers_in}
use Rattle.update_build.specs.Updating.{IsTreeOfItsBodies, KeepsNumbers}

-- ---- cells by keys

-- nothing is read to no depth
tree-none : (at : ℕ → ℕ) (w : ℕ) → tree_from at 0 w ≡ Empty
unfolding tree_from
tree-none at w = refl

-- a key of the tree below a word that is read is that of a cell that is read
key_read : (at : ℕ → ℕ) (top base below key w k : ℕ) → WordIs w → IsReachedAs at top base key w → IsIn (cell_keys_from (tree_from at below w) key) k
    → (c : ℕ) × IsReachedAs at top base k (cell_word c)
key_read at top base zero key w k is r i =
    absurd (subst (λ (l : List ℕ). IsIn l k) (ap (λ t. cell_keys_from t key) (tree-none at w) ∙ keys-empty key) i)
key_read at top base (suc below) key w k (NoBody e) r i =
    absurd (subst (λ (l : List ℕ). IsIn l k)
    (ap (λ v. cell_keys_from (tree_from at (suc below) v) key) e ∙ ap (λ t. cell_keys_from t key) (tree-empty at below) ∙ keys-empty key) i)
key_read at top base (suc below) key w k (OneBody n e) r i =
    absurd (subst (λ (l : List ℕ). IsIn l k)
    (ap (λ v. cell_keys_from (tree_from at (suc below) v) key) e ∙ ap (λ t. cell_keys_from t key) (tree-body at below n) ∙ keys-body n key) i)
key_read at top base (suc below) key w k (ACell c e) r i =
    let child : ℕ → ℕ = λ j. at (child_place c j) in
    let trees : ℕ → Tree = λ j. tree_from at below (child j) in
    let here : IsReachedAs at top base key (cell_word c) = subst (λ (v : ℕ). IsReachedAs at top base key v) e r in
    let whole = subst (λ (l : List ℕ). IsIn l k)
    (ap (λ v. cell_keys_from (tree_from at (suc below) v) key) e ∙ ap (λ t. cell_keys_from t key) (tree-cell at below c) ∙ keys-cell trees key) i in
    elim whole [
      | inl own ↦ (c, subst (λ (y : ℕ). IsReachedAs at top base y (cell_word c)) (sym own) here)
      | inr under ↦
          let p = in_joined (λ j. cell_keys_from (trees j) (8 * key + j)) 8 k under in
          key_read at top base below (8 * key + p.part) (child p.part) k (word_is (child p.part))
          (BelowAs c p.part key (8 * key + p.part) (child p.part) here p.small refl refl) p.inside
    ]

-- a key of the tree of an octree is that of a cell
pub cell_of_key : (o : Stored) (key : ℕ) → IsStored o → o.base ≡ 1 → HasCellAt (tree_of o) key → (c : ℕ) × IsReachable o c × (key_of_cell o c ≡ key)
cell_of_key o key stored base i =
    let at = at_of o.words in
    let f = key_read at (root_word o) o.base 22 1 (root_word o) key (word_is (root_word o)) (HereAs 1 (root_word o) (sym base) refl) i in
    (f.0, forget at (root_word o) o.base key (cell_word f.0) f.1, stored.sound.keys_follow key f.0 f.1)

-- ---- how often a number stands in what a test keeps

module _ (p : ℕ → Bool) (n : ℕ) where
  -- a number that passes is none that doesn't
  unlike : (x : ℕ) (a b : Bool) → a ≢ b → p x ≡ a → p n ≡ b → same x n ≡ 0
  unlike x a b differ e f = same-ne x n (λ (q : x ≡ n). differ (sym e ∙ ap p q ∙ f))

  -- one that passes stands there as often as before
  kept_times : (xs : List ℕ) → p n ≡ true → times n (filter p xs) ≡ times n xs
  kept_times [] e = refl
  kept_times (x ∷ xs) e =
      let rest = kept_times xs e in
      elim (cases_Bool (p x)) [
        | inl t ↦ rw t (ap (λ z. same x n + z) rest)
        | inr f ↦ rw f (let none = unlike x false true (λ q. cc) f e in omega arith)
      ]

  -- and one that doesn't never
  left_times : (xs : List ℕ) → p n ≡ false → times n (filter p xs) ≡ 0
  left_times [] e = refl
  left_times (x ∷ xs) e =
      let rest = left_times xs e in
      elim (cases_Bool (p x)) [
        | inl t ↦ rw t (let none = unlike x true false (λ q. cc) t e in omega arith)
        | inr f ↦ rw f rest
      ]

  -- also in several lists
  kept_in_all : (lists : List (List ℕ)) → p n ≡ true → times_in_all n (map (filter p) lists) ≡ times_in_all n lists
  kept_in_all [] e = refl
  kept_in_all (l ∷ ls) e = let one = kept_times l e in let rest = kept_in_all ls e in omega arith

  left_in_all : (lists : List (List ℕ)) → p n ≡ false → times_in_all n (map (filter p) lists) ≡ 0
  left_in_all [] e = refl
  left_in_all (l ∷ ls) e = let one = left_times l e in let rest = left_in_all ls e in omega arith

  -- where lists have between them what one has, so it is with what the test keeps
  pub kept_of_all : (lists : List (List ℕ)) (xs : List ℕ) → times n xs ≡ times_in_all n lists
      → times n (filter p xs) ≡ times_in_all n (map (filter p) lists)
  kept_of_all lists xs same_times = elim (cases_Bool (p n)) [
    | inl t ↦ kept_times xs t ∙ same_times ∙ sym (kept_in_all lists t)
    | inr f ↦ left_times xs f ∙ sym (left_in_all lists f)
  ]

-- ---- what was taken out, and what comes in again

-- An octree of all points of which the bodies were taken out that leave their cells: what stays, the lists of those bodies, and all of them.
pub record IsTaken (olds news : List Site) (old tree : Stored) (shares lists : List (List ℕ)) (bodies : List ℕ) : Type 0 where
  pub many : length olds ≡ length news
  pub old_points : ArePoints olds
  pub new_points : ArePoints news
  pub is_old : IsOctreeOf olds old
  pub are : AreShares (length news) shares
  pub stays : StaysOf olds news old tree
  pub lists_are : lists ≡ map (movers_in olds news) shares
  pub bodies_are : (n : ℕ) → times n bodies ≡ times_in_all n lists

module _ {olds news : List Site} {old tree : Stored} {shares lists : List (List ℕ)} {bodies : List ℕ}
    (taken : IsTaken olds news old tree shares lists bodies) where
  -- all bodies
  abbrev all : List ℕ
  all = numbers (length news)

  abbrev keeps : ℕ → Bool
  keeps n = keeps_leaf (site_at olds) (site_at news) all n

  abbrev those : List ℕ
  those = movers (site_at olds) (site_at news) all

  abbrev others : List ℕ
  others = remaining (site_at olds) (site_at news) all

  -- those that were taken out are the movers
  mover_times : (n : ℕ) → times n bodies ≡ times n those
  mover_times n =
      taken.bodies_are n ∙ ap (times_in_all n) taken.lists_are
      ∙ sym (kept_of_all (λ m. not (keeps m)) n shares all (all_parted (length news) shares all taken.are refl n))

  mover_is : (n : ℕ) → IsIn bodies n ↔ IsIn those n
  mover_is n = (
    (λ i. let some = in_times n bodies i in let e = mover_times n in times_in n those (omega arith)),
    (λ i. let some = in_times n those i in let e = mover_times n in times_in n bodies (omega arith)),
  )

  -- so many leave
  pub many_leave : length bodies ≡ length those
  many_leave = length-same bodies those mover_times

  -- which are not more than all
  pub few_leave : length bodies ≤ length news
  few_leave = omega (arith, many_leave, length-filter_both keeps (λ n. not (keeps n)) (λ n. refl) all, length_numbers (length news))

  -- they may be put in
  pub movers_new : AreNew news tree bodies
  movers_new = record {
    once = times_once bodies (λ n. let a = once_times those (none_twice-filter (λ m. not (keeps m)) all (numbers_once (length news))) n in
        let e = mover_times n in omega arith);
    points = λ n i. (in_numbers (length news) n).0 (filter-member (λ m. not (keeps m)) all n ((mover_is n).0 i)).0;
    fresh = λ n i b.
        let leaves = (filter-member (λ m. not (keeps m)) all n ((mover_is n).0 i)).1 in
        let stays = (filter-member keeps all n ((taken.stays.bodies n).0 b)).1 in
        let off : not true ≡ true = ap not (sym stays) ∙ leaves in cc;
  }

  -- in their lists
  pub movers_shared : AreSharesOf bodies lists
  movers_shared =
      let count : length lists ≡ length shares = ap length taken.lists_are ∙ length-map shares (movers_in olds news) in
      record { some = omega (arith, count, taken.are.some); few = omega (arith, count, taken.are.few); parted = taken.bodies_are }

  -- the octree of what stays
  stay_tree : IsTreeOfItsBodies news tree → tree_of tree ≡ stay (site_at olds) (site_at news) all
  stay_tree law = law others (none_twice-filter keeps all (numbers_once (length news))) taken.stays.bodies

  old_placed : ArePlaced (site_at olds) all
  old_placed = subst (λ (k : ℕ). ArePlaced (site_at olds) (numbers k)) taken.many
      (placed_of_points olds (numbers (length olds)) taken.old_points (numbers_within (length olds)))

  new_placed : ArePlaced (site_at news) all
  new_placed = placed_of_points news all taken.new_points (numbers_within (length news))

  -- the cells of the octree before are those of what stays and the freed ones
  pub freed_cells : IsTreeOfItsBodies news tree
      → cell_count (tree_of old) ≡ cell_count (tree_of tree) + (update_counts (site_at olds) (site_at news) all).freed
  freed_cells law =
      ap cell_count (taken.is_old.tree ∙ ap (λ k. octree (site_at olds) (numbers k)) taken.many)
      ∙ (counts_are (site_at olds) (site_at news) all (numbers_once (length news)) old_placed new_placed).0
      ∙ ap (λ t. cell_count t + (update_counts (site_at olds) (site_at news) all).freed) (sym (stay_tree law))

  module _ (after : Stored) (put : IsWithBodies news tree bodies after) where
    -- at the end all bodies are there
    all_in : (n : ℕ) → HasBody after.words n ↔ IsIn all n
    all_in n = (
      (λ b. elim ((put.bodies_are n).0 b) [
        | inl old ↦ (filter-member keeps all n ((taken.stays.bodies n).0 old)).0
        | inr new ↦ (filter-member (λ m. not (keeps m)) all n ((mover_is n).0 new)).0
      ]),
      (λ i. elim (cases_Bool (keeps n)) [
        | inl t ↦ (put.bodies_are n).1 (inl ((taken.stays.bodies n).1 (filter-keeps keeps all n i t)))
        | inr f ↦ (put.bodies_are n).1 (inr ((mover_is n).1 (filter-keeps (λ m. not (keeps m)) all n i (ap not f))))
      ]),
    )

    after_tree : IsTreeOfItsBodies news after → tree_of after ≡ octree (site_at news) all
    after_tree law = law all (numbers_once (length news)) all_in

    -- so the octree is that of all new points
    pub updated : IsTreeOfItsBodies news after → IsOctreeOf news after
    updated law = record { base = put.base; canonical = put.canonical; tree = after_tree law }

    -- each cell of what stays has its old number
    pub numbers_kept : IsStored tree → IsTreeOfItsBodies news tree → KeepsNumbers (stay (site_at olds) (site_at news) all) old after
    numbers_kept stored law = λ key has.
        let f = cell_of_key tree key stored taken.stays.base (subst (λ (t : Tree). HasCellAt t key) (sym (stay_tree law)) has) in
        let was = taken.stays.cells f.0 f.1 in (
          record { 0 = f.0 },
          (was.0, sym was.1 ∙ f.2),
          (put.cells_stay f.0 f.1, put.keys_stay f.0 f.1 ∙ f.2),
        )

    -- its cells are those of what stays and the taken ones
    pub taken_cells : IsTreeOfItsBodies news tree → IsTreeOfItsBodies news after
        → cell_count (tree_of after) ≡ cell_count (tree_of tree) + (update_counts (site_at olds) (site_at news) all).taken
    taken_cells law_tree law_after =
        ap cell_count (after_tree law_after)
        ∙ (counts_are (site_at olds) (site_at news) all (numbers_once (length news)) old_placed new_placed).1
        ∙ ap (λ t. cell_count t + (update_counts (site_at olds) (site_at news) all).taken) (sym (stay_tree law_tree))

    -- so they are counted by numbers of cells
    pub counted : IsTreeOfItsBodies news tree → IsTreeOfItsBodies news after → (left before kept end : ℕ) → left ≡ length bodies
        → before ≡ cell_count (tree_of old) → kept ≡ cell_count (tree_of tree) → end ≡ cell_count (tree_of after)
        → record { left = left; freed = before - kept; taken = end - kept } ≡ update_counts (site_at olds) (site_at news) all
    counted law_tree law_after left before kept end many is_before is_kept is_end =
        let counts = update_counts (site_at olds) (site_at news) all in
        let l : left ≡ counts.left = many ∙ many_leave in
        let f : before - kept ≡ counts.freed = omega (arith, freed_cells law_tree) in
        let t : end - kept ≡ counts.taken = omega (arith, taken_cells law_tree law_after) in
        λ i. record { left = l i; freed = f i; taken = t i }
