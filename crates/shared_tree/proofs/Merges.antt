-- The walk that merges below a shared cell, child by child.
use Rattle.std.proofs.Common.{ℕ, ◌+◌, ◌-◌, ◌*◌, ◌^◌, ◌<◌, ◌≤◌, ◌≡◌, zero, suc, refl, sym, ◌∙◌, ap, subst, inl, inr, arith, List, [], ◌∷◌, ◌++◌}
use Rattle.std.proofs.Common.{length, take, drop}
use Rattle.std.proofs.Common.{length-drop}
use Rattle.std.proofs.Math.Seq.{take-add}
use Rattle.std.proofs.Math.Nat.{add-mul, mul-add}
use Rattle.std.proofs.lemmas.List.{length-append, length-take-le}
use Rattle.octant_code.specs.declared.limits.TheConstants.{LEVELS}
use Rattle.octant_code.specs.Points.{site_at}
use Rattle.octant_code.specs.Space.{Site, IsUnder, key_of, octant_of}
use Rattle.octant_code.proofs.Keys.{key-next-fits, same_level}
use Rattle.bh_model.specs.Bodies.{IsIn}
use Rattle.bh_model.specs.Trees.{in_octant, octree_from}
use Rattle.bh_model.proofs.Folds.{counts}
use Rattle.bh_model.proofs.MoreThan.{two_of_more}
use Rattle.bh_model.proofs.Trees.{octree-one}
use Rattle.octree.specs.Spot.{Spot as PartSpot, child_under}
use Rattle.octree.specs.Subtree.{IsBodyAt, IsCellAt, IsChildOf, IsNothingAt}
use Rattle.octree.proofs.Laws.{top_body_inside}
use Rattle.tree_rule.specs.declared.words.TheConstants.{CELLS_OF_ONE}
use Rattle.tree_rule.specs.Words.{child_place, lock_place}
use Rattle.tree_passes.specs.declared.view.View.{View}
use Rattle.tree_passes.specs.Counting.{times, Has}
use Rattle.tree_passes.specs.Locks.{OfChild}
use Rattle.tree_passes.specs.Making.{IsReady}
use Rattle.tree_passes.specs.Passes.{cell_note}
use Rattle.tree_passes.specs.Turns.{Descends, IsStill}
use Rattle.tree_passes.proofs.Laws.{in_times, still_refl, times-append}
use Rattle.shared_tree.specs.declared.publisher.Spot.{Spot}
use Rattle.shared_tree.specs.declared.subtrees.Copied.{Copied}
use Rattle.shared_tree.specs.Publishing.{IsSpot}
use Rattle.shared_tree.specs.Copying.{bodies_under, IsPartAt}
use Rattle.shared_tree.specs.Merging.{AreBlocks, IsAlone, IsMerged, IsPartIn, IsPartMerged, IsPutCopy, most_steps}
use Rattle.shared_tree.proofs.MergeBlocks.{AreBlocksUpTo, blocks_end, blocks_next, blocks_on, blocks_one, blocks_start, blocks_zero, octant_key}
use Rattle.shared_tree.proofs.MergeParts.{before_next, bodies_all, bodies_before, cells_all, cells_more, kid_among, kid_length}
use Rattle.shared_tree.proofs.PartTrees.{child_part, no_bodies, one_body}
use Rattle.shared_tree.proofs.PartCopies.{times_one}
use Rattle.shared_tree.proofs.PartPuts.{merged_from}

times_parts : (x n : ℕ) (l : List ℕ) → times x (take n l) + times x (drop n l) ≡ times x l
times_parts x zero l = omega arith
times_parts x (suc n) [] = omega arith
times_parts x (suc n) (y ∷ ys) = let r = times_parts x n ys in omega arith

-- nothing is merged where the pass only loaded
pub merged_none : (v w : View) → IsStill v w → IsMerged v w [] []
merged_none v w s = record {
  points = s.points;
  opening = s.opening;
  long = s.long;
  held = λ c. let e = ap (times c) s.held in omega arith;
  quota = s.quota;
  todo = λ x. let e = ap (times x) s.todo in omega arith;
  done = λ x. let e = ap (times x) s.done in omega arith;
  seen = s.seen;
  locks = s.locks;
  more_loads = s.more_loads;
  cell_notes = s.cell_notes;
}

-- one walk after another
pub merged_more : (u v w : View) (a b x y both : List ℕ) → ((c : ℕ) → times c both ≡ times c x + times c y)
    → IsMerged u v a x → IsMerged v w b y → IsMerged u w (a ++ b) both
merged_more u v w a b x y both cells m n = record {
  points = n.points ∙ m.points;
  opening = n.opening ∙ m.opening;
  long = n.long ∙ m.long;
  held = λ c. let p = m.held c in let q = n.held c in let e = cells c in omega arith;
  quota = n.quota ∙ m.quota;
  todo = λ x. let p = m.todo x in let q = n.todo x in let e = times-append x a b in omega arith;
  done = λ x. let p = m.done x in let q = n.done x in let e = times-append x a b in omega arith;
  seen = n.seen ∙ m.seen;
  locks = n.locks ∙ m.locks;
  more_loads = let p = m.more_loads in let q = n.more_loads in omega arith;
  cell_notes = λ c h. n.cell_notes c (m.cell_notes c h);
}

-- the first cells, and the first of the rest
pub cells_both : (a b c : ℕ) (l : List ℕ) → times c (take (a + b) l) ≡ times c (take a l) + times c (take b (drop a l))
cells_both a b c l = ap (times c) (take-add a b l) ∙ times-append c (take a l) (take b (drop a l))

-- the rest of the cells is ready
pub ready_merged : (v w : View) (words used : ℕ) (bodies spare : List ℕ) → IsMerged v w bodies (take used spare) → IsReady v words spare
    → IsReady w words (drop used spare)
ready_merged v w words used bodies spare m r =
    let parts : (c : ℕ) → times c (take used spare) + times c (drop used spare) ≡ times c spare = λ c. times_parts c used spare in
    record {
      long = m.long ∙ r.long;
      held = λ c. let a = m.held c in let b = r.held c in let t = parts c in omega arith;
      once = λ c. let b = r.once c in let t = parts c in omega arith;
      inside = λ c p. r.inside c (let t = parts c in omega arith);
    }

-- A cell was found below which the walk goes on: an opening's body that is none of the part lies under its key.
pub record IsRivalled (v : View) (sites : List Site) (key level : ℕ) (mine : List ℕ) : Type 0 where
  pub body : ℕ
  pub known : IsIn v.bodies body
  pub under : key ≡ key_of (site_at sites body) level
  pub left : times body v.todo ≡ 0
  pub apart : IsIn mine body → ⊥

-- a shared cell has a body that is none of the part
pub rival_found : (v w : View) (sites : List Site) (key level d : ℕ) (mine : List ℕ) (n : ℕ) → v.points ≡ sites → Descends v w key d
    → ((x : ℕ) → times x mine ≤ times x v.todo) → key ≡ key_of (site_at sites n) level → IsRivalled v sites key level mine
rival_found v w sites key level d mine n points down todo here =
    let t = two_of_more down.below.cell.more in
    let is = t.one_is in
    let u = subst (λ (z : List Site). IsUnder key (site_at z t.one)) (down.still.points ∙ points) is.1 in
    let same : u.0 ≡ level = same_level (site_at sites t.one) (site_at sites n) u.0 level (sym u.2 ∙ here) in
    record {
      body = t.one;
      known = subst (λ (z : List ℕ). IsIn z t.one) down.still.opening is.0.0;
      under = u.2 ∙ ap (key_of (site_at sites t.one)) same;
      left = ap (times t.one) (sym down.still.todo) ∙ is.0.1;
      apart = λ i. let a = in_times t.one mine i in let b = todo t.one in let z = is.0.1 in let e = ap (times t.one) down.still.todo in omega arith;
    }

-- so the pass is not alone
pub not_alone : (v : View) (sites : List Site) (key level : ℕ) (mine : List ℕ) → IsRivalled v sites key level mine → IsAlone v → ⊥
not_alone v sites key level mine r alone = let a = alone r.body r.known in let b = r.left in absurd (omega arith)

-- The children before child k of a part's cell are merged below the shared cell d.
pub record IsMergedUpTo (v w : View) (sites : List Site) (spare : List ℕ) (s : PartSpot) (key level d k used changes : ℕ) : Type 0 where
  pub merged : IsMerged v w (bodies_before s k) (take used spare)
  pub within : used ≤ length spare
  pub few : used ≤ CELLS_OF_ONE * length (bodies_before s k)
  pub count : w.changes ≡ v.changes + changes
  pub most : changes ≤ length (bodies_before s k)
  pub some : 1 ≤ length (bodies_before s k) → 1 ≤ changes
  pub blocks : AreBlocksUpTo v sites key level (bodies_under s) k changes
  pub note : Has w.cell_notes (cell_note d key)
  pub inside : lock_place d < length v.memory
  pub rival : IsRivalled v sites key level (bodies_under s)
  pub no_lock : w.locks ≡ []
  pub none_under : w.under ≡ []

pub merged_start : (v w : View) (sites : List Site) (spare : List ℕ) (s cell : PartSpot) (key level d : ℕ) → v.points ≡ sites → IsPartAt sites s key level
    → IsCellAt s cell → Descends v w key d → ((x : ℕ) → times x (bodies_under s) ≤ times x v.todo) → (w.locks ≡ []) × (w.under ≡ [])
    → IsMergedUpTo v w sites spare s key level d 0 0 0
merged_start v w sites spare s cell key level d points part at down todo free = record {
  merged = merged_none v w down.still;
  within = omega arith;
  few = omega arith;
  count = down.still.changes ∙ omega arith;
  most = omega arith;
  some = λ l. absurd (omega arith);
  blocks = blocks_start v sites key level (bodies_under s);
  note = down.below.note;
  inside = let a = down.below.cell.inside in let b = down.still.long in omega arith;
  rival = rival_found v w sites key level d (bodies_under s) at.some.body points down todo (part.under at.some.body at.some.inside);
  no_lock = free.0;
  none_under = free.1;
}

pub merged_next : (v w u : View) (sites : List Site) (spare : List ℕ) (s cell child : PartSpot) (key level d k used changes more_used more : ℕ)
    → IsPartAt sites s key level → IsCellAt s cell → IsChildOf cell k child → k < 8
    → IsMergedUpTo v w sites spare s key level d k used changes
    → IsPartMerged w u sites child (drop used spare) (8 * key + k) (level + 1) more_used more → (u.locks ≡ []) × (u.under ≡ [])
    → IsMergedUpTo v u sites spare s key level d (k + 1) (used + more_used) (changes + more)
merged_next v w u sites spare s cell child key level d k used changes more_used more part at is small i c free =
    let next : bodies_before s (k + 1) ≡ bodies_before s k ++ bodies_under child = before_next s cell at child k is in
    let longer : length (bodies_before s (k + 1)) ≡ length (bodies_before s k) + length (bodies_under child) =
    ap length next ∙ length-append (bodies_before s k) (bodies_under child) in
    let octant : bodies_under child ≡ in_octant (site_at sites) level k (bodies_under s) = (child_part sites s cell child key level k part at is small).1 in
    let blocks : AreBlocks v sites (8 * key + k) (level + 1) (in_octant (site_at sites) level k (bodies_under s)) more =
    blocks_on v w sites (8 * key + k) (level + 1) _ more i.merged.opening
    (subst (λ (z : List ℕ). AreBlocks w sites (8 * key + k) (level + 1) z more) octant c.blocks) in
    record {
      merged = subst (λ (z : List ℕ). IsMerged v u z (take (used + more_used) spare)) (sym next)
          (merged_more v w u (bodies_before s k) (bodies_under child) (take used spare) (take more_used (drop used spare)) (take (used + more_used) spare)
          (λ x. cells_both used more_used x spare) i.merged c.merged);
      within = let a = i.within in let b = c.within in let l = length-drop used spare in omega arith;
      few = let a = i.few in let b = c.few in omega arith;
      count = let a = i.count in let b = c.count in omega arith;
      most = let a = i.most in let b = c.most in omega arith;
      some = λ l. by_parts (length (bodies_before s k)) (length (bodies_under child)) changes more (omega arith) i.some c.some;
      blocks = blocks_next v sites key level k (bodies_under s) changes more small i.blocks blocks;
      note = c.merged.cell_notes (cell_note d key) i.note;
      inside = i.inside;
      rival = i.rival;
      no_lock = free.0;
      none_under = free.1;
    }
  where
    by_parts : (a b x y : ℕ) → 1 ≤ a + b → (1 ≤ a → 1 ≤ x) → (1 ≤ b → 1 ≤ y) → 1 ≤ x + y
    by_parts zero b x y l p q = let r = q (omega arith) in omega arith
    by_parts (suc a) b x y l p q = let r = p (omega arith) in omega arith

-- when all children are merged the part is
pub merged_end : (v w : View) (sites : List Site) (spare : List ℕ) (s cell : PartSpot) (key level d k used changes : ℕ) → 8 ≤ k → k ≤ 8 → level < LEVELS
    → IsPartAt sites s key level → IsCellAt s cell → IsMergedUpTo v w sites spare s key level d k used changes
    → IsPartMerged v w sites s spare key level used changes
merged_end v w sites spare s cell key level d k used changes end last low part at i =
    let eight : k ≡ 8 = omega arith in
    let all : bodies_before s k ≡ bodies_under s = ap (bodies_before s) eight ∙ sym (bodies_all s cell at) in
    let long : length (bodies_before s k) ≡ length (bodies_under s) = ap length all in
    record {
      merged = subst (λ (z : List ℕ). IsMerged v w z (take used spare)) all i.merged;
      within = i.within;
      few = let a = i.few in omega arith;
      count = i.count;
      most = let a = i.most in omega arith;
      some = λ l. i.some (omega arith);
      blocks = blocks_end v sites key level k (bodies_under s) changes at.some.body i.rival.body end last low at.some.inside i.rival.known i.rival.under
          i.rival.apart i.blocks;
    }

-- ---- the requirements and the answers of the walk

-- the word of a child of a shared cell
below_spot : (words : ℕ) (next : Spot) (d k : ℕ) → k < 8 → next.word ≡ child_place d k → next.lock ≡ lock_place d → lock_place d < words → IsSpot words next
below_spot words next d k small word lock inside =
    record { inside = omega arith; lock_inside = omega arith; lock_is = OfChild d k small word lock }

-- the part of a child is to be put in below the shared cell
pub child_in : (v w : View) (words : ℕ) (sites : List Site) (spare : List ℕ) (s cell child : PartSpot) (key d k used changes : ℕ) (spot next : Spot)
    → IsPartIn v words sites s key spot → IsCellAt s cell → IsChildOf cell k child → k < 8
    → IsMergedUpTo v w sites spare s key spot.level d k used changes
    → next.word ≡ child_place d k → next.lock ≡ lock_place d → next.level ≡ spot.level + 1
    → IsPartIn w words sites child (8 * key + k) next
child_in v w words sites spare s cell child key d k used changes spot next at top is small i word lock level = record {
  points = i.merged.points ∙ at.points;
  long = i.merged.long ∙ at.long;
  some = at.some;
  few = at.few;
  rule = at.rule;
  part = subst (IsPartAt sites child (8 * key + k)) (sym level) (child_part sites s cell child key spot.level k at.part top is small).0;
  todo = λ x. let a = kid_among s cell top child k x is small in let b = at.todo x in let c = i.merged.todo x in omega arith;
  spot = below_spot words next d k small word lock (let a = i.inside in let b = at.long in omega arith);
  known = inr (d, k, key, i.note, small, word, refl);
  no_lock = i.no_lock;
  none_under = i.none_under;
}

-- and the rest of the cells is enough for it
pub child_room : (v w : View) (sites : List Site) (spare : List ℕ) (s cell child : PartSpot) (key level d k used changes : ℕ) → IsCellAt s cell
    → IsChildOf cell k child → k < 8 → IsMergedUpTo v w sites spare s key level d k used changes → CELLS_OF_ONE * length (bodies_under s) ≤ length spare
    → CELLS_OF_ONE * length (bodies_under child) ≤ length (drop used spare)
child_room v w sites spare s cell child key level d k used changes at is small i room =
    let a = kid_length s cell at child k is small in let b = i.few in let l = length-drop used spare in omega arith

-- a list with a member
pub some_length : (l : List ℕ) (n : ℕ) → IsIn l n → 1 ≤ length l
some_length [] n i = absurd i
some_length (x ∷ xs) n i = omega arith

-- an empty part
pub nothing_merged : (v : View) (sites : List Site) (s : PartSpot) (spare : List ℕ) (key level : ℕ) → IsNothingAt s
    → IsPartMerged v v sites s spare key level 0 0
nothing_merged v sites s spare key level at =
    let none : bodies_under s ≡ [] = no_bodies s at in
    let zero_long : length (bodies_under s) ≡ 0 = ap length none in
    record {
      within = omega arith;
      few = omega arith;
      merged = subst (λ (z : List ℕ). IsMerged v v z (take 0 spare)) (sym none) (merged_none v v (still_refl v));
      count = omega arith;
      most = omega arith;
      some = λ l. absurd (omega arith);
      blocks = blocks_zero v sites key level (bodies_under s);
    }

-- a part that one publication put in
pub whole_merged : (v w : View) (words : ℕ) (sites : List Site) (s : PartSpot) (spare : List ℕ) (key n : ℕ) (spot : Spot) (copied : Copied)
    → IsPartIn v words sites s key spot → IsIn (bodies_under s) n → IsPutCopy v w (bodies_under s) spare copied
    → IsPartMerged v w sites s spare key spot.level copied.used 1
whole_merged v w words sites s spare key n spot copied at i put =
    let some : 1 ≤ length (bodies_under s) = some_length (bodies_under s) n i in
    let taken : length (take copied.used spare) ≡ copied.used = length-take-le copied.used spare put.within in
    record {
      within = put.within;
      few = let f = put.whole.few in omega arith;
      merged = put.whole.merged;
      count = put.whole.changes;
      most = omega arith;
      some = λ l. omega arith;
      blocks = blocks_one v sites key spot.level (bodies_under s) n at.rule at.part.low at.part.bodies_in at.part.under i;
    }

-- a part that is merged after the pass only loaded
pub still_merged : (v w u : View) (sites : List Site) (s : PartSpot) (spare : List ℕ) (key level used changes : ℕ) → IsStill v w
    → IsPartMerged w u sites s spare key level used changes → IsPartMerged v u sites s spare key level used changes
still_merged v w u sites s spare key level used changes still m = record {
  within = m.within;
  few = m.few;
  merged = merged_from v w u (bodies_under s) (take used spare) still m.merged;
  count = let a = m.count in let b = still.changes in omega arith;
  most = m.most;
  some = m.some;
  blocks = blocks_on v w sites key level (bodies_under s) changes still.opening m.blocks;
}

-- a part of one body is one a level deeper
pub deeper_in : (v w : View) (words : ℕ) (sites : List Site) (s : PartSpot) (n key d k : ℕ) (spot next : Spot) → IsPartIn v words sites s key spot
    → IsBodyAt s n → Descends v w key d → (w.locks ≡ []) × (w.under ≡ []) → k ≡ octant_of (site_at sites n) spot.level → k < 8
    → next.word ≡ child_place d k → next.lock ≡ lock_place d → next.level ≡ spot.level + 1
    → IsPartIn w words sites s (8 * key + k) next
deeper_in v w words sites s n key d k spot next at top down free octant small word lock level =
    let one : bodies_under s ≡ n ∷ [] = one_body s n top in
    let here : key ≡ key_of (site_at sites n) spot.level = at.part.under n (top_body_inside s n top) in
    let low : spot.level < LEVELS = down.below.cell.shallow (site_at sites n) spot.level here in
    let only : (m : ℕ) → IsIn (bodies_under s) m → m ≡ n = λ m i. elim (subst (λ (l : List ℕ). IsIn l m) one i) [ inl e ↦ e | inr f ↦ absurd f ] in
    record {
      points = down.still.points ∙ at.points;
      long = down.still.long ∙ at.long;
      some = at.some;
      few = at.few;
      rule = at.rule;
      part = record {
        low = omega arith;
        tree = top.tree
            ∙ sym (ap (octree_from (site_at sites) (LEVELS - next.level) next.level) one ∙ octree-one (site_at sites) (LEVELS - next.level) next.level n);
        once = at.part.once;
        bodies_in = at.part.bodies_in;
        under = λ m i.
            subst (λ (z : ℕ). 8 * key + k ≡ key_of (site_at sites m) z) (sym level)
            (octant_key (site_at sites m) key spot.level k (at.part.under m i)
            (ap (λ (z : ℕ). octant_of (site_at sites z) spot.level) (only m i) ∙ sym octant));
      };
      todo = λ x. subst (λ (z : List ℕ). times x (bodies_under s) ≤ times x z) (sym down.still.todo) (at.todo x);
      spot = below_spot words next d k small word lock (let a = down.below.cell.inside in let b = down.still.long in let c = at.long in omega arith);
      known = inr (d, k, key, down.below.note, small, word, refl);
      no_lock = free.0;
      none_under = free.1;
    }

pub deeper_merged : (v w u : View) (words : ℕ) (sites : List Site) (s : PartSpot) (spare : List ℕ) (n key d k inner used changes : ℕ) (spot : Spot)
    → IsPartIn v words sites s key spot → IsBodyAt s n → Descends v w key d
    → IsPartMerged w u sites s spare (8 * key + k) inner used changes → IsPartMerged v u sites s spare key spot.level used changes
deeper_merged v w u words sites s spare n key d k inner used changes spot at top down m =
    let one : length (bodies_under s) ≡ 1 = ap length (one_body s n top) in
    record {
      within = m.within;
      few = m.few;
      merged = merged_more v w u [] (bodies_under s) [] (take used spare) (take used spare) (λ c. omega arith) (merged_none v w down.still) m.merged;
      count = let a = m.count in let b = down.still.changes in omega arith;
      most = m.most;
      some = m.some;
      blocks = λ others r.
          let b = blocks_one v sites key spot.level (bodies_under s) n at.rule at.part.low at.part.bodies_in at.part.under (top_body_inside s n top) others r in
          let a = m.most in
          omega arith;
    }

-- a pass that is alone comes to no shared cell with a body
pub alone_body : (v w : View) (words : ℕ) (sites : List Site) (s : PartSpot) (n key d : ℕ) (spot : Spot) → IsPartIn v words sites s key spot
    → IsBodyAt s n → Descends v w key d → IsAlone v → ⊥
alone_body v w words sites s n key d spot at top down alone =
    not_alone v sites key spot.level (bodies_under s)
    (rival_found v w sites key spot.level d (bodies_under s) n at.points down at.todo (at.part.under n (top_body_inside s n top))) alone

-- ---- steps

-- a visit is within the steps of a part with a body
pub body_once : (s : PartSpot) (n level a b : ℕ) → IsBodyAt s n → level ≤ LEVELS → b ≤ a + 3 → b ≤ a + most_steps s level
body_once s n level a b top low few = omega (arith, few, times_one (LEVELS + 1 - level) n (bodies_under s) (one_body s n top))

pub body_deeper : (s : PartSpot) (n level inner a b c : ℕ) → IsBodyAt s n → level < LEVELS → inner ≡ level + 1 → b ≤ a + 3 → c ≤ b + most_steps s inner
    → c ≤ a + most_steps s level
body_deeper s n level inner a b c top low next few more =
    omega (
      arith,
      few,
      more,
      times_one (LEVELS + 1 - level) n (bodies_under s) (one_body s n top),
      times_one (LEVELS + 1 - inner) n (bodies_under s) (one_body s n top),
    )

pub cell_once : (s cell : PartSpot) (level a b : ℕ) → IsCellAt s cell → b ≤ a + 3 → b ≤ a + most_steps s level
cell_once s cell level a b at few = omega (arith, few, cells_all s cell at)

-- the steps of the children before child k
abbrev pub steps_before : PartSpot → ℕ → ℕ → ℕ
steps_before s level k = 3 * (counts (child_under s) k + (LEVELS - level) * length (bodies_before s k))

pub steps_next : (s cell child : PartSpot) (k level inner a b c : ℕ) → IsCellAt s cell → IsChildOf cell k child → inner ≡ level + 1
    → b ≤ a + 3 + steps_before s level k → c ≤ b + most_steps child inner → c ≤ a + 3 + steps_before s level (k + 1)
steps_next s cell child k level inner a b c at is next few more =
    let longer : length (bodies_before s (k + 1)) ≡ length (bodies_before s k) + length (bodies_under child) =
    ap length (before_next s cell at child k is) ∙ length-append (bodies_before s k) (bodies_under child) in
    let parts : (LEVELS - level) * length (bodies_before s (k + 1))
    ≡ (LEVELS - level) * length (bodies_before s k) + (LEVELS - level) * length (bodies_under child) =
    ap (λ y. (LEVELS - level) * y) longer ∙ mul-add (LEVELS - level) (length (bodies_before s k)) (length (bodies_under child)) in
    let same : (LEVELS + 1 - inner) * length (bodies_under child) ≡ (LEVELS - level) * length (bodies_under child) =
    ap (λ y. y * length (bodies_under child)) (omega arith) in
    omega (arith, few, more, parts, same, cells_more s cell at child k is)

pub steps_end : (s cell : PartSpot) (k level a b : ℕ) → IsCellAt s cell → 8 ≤ k → k ≤ 8 → level < LEVELS → b ≤ a + 3 + steps_before s level k
    → b ≤ a + most_steps s level
steps_end s cell k level a b at end last low few =
    let eight : k ≡ 8 = omega arith in
    let all : steps_before s level k ≡ 3 * (counts (child_under s) 8 + (LEVELS - level) * length (bodies_under s)) =
    ap (steps_before s level) eight ∙ ap (λ (l : List ℕ). 3 * (counts (child_under s) 8 + (LEVELS - level) * length l)) (sym (bodies_all s cell at)) in
    let each : (LEVELS + 1 - level) * length (bodies_under s) ≡ (LEVELS - level) * length (bodies_under s) + 1 * length (bodies_under s) =
    ap (λ y. y * length (bodies_under s)) (omega arith) ∙ add-mul (LEVELS - level) 1 (length (bodies_under s)) in
    omega (arith, few, all, each, cells_all s cell at)

-- ---- levels and keys

-- below a shared cell levels are left
pub body_low : (v w : View) (words : ℕ) (sites : List Site) (s : PartSpot) (n key d : ℕ) (spot : Spot) → IsPartIn v words sites s key spot → IsBodyAt s n
    → Descends v w key d → spot.level < LEVELS
body_low v w words sites s n key d spot at top down =
    down.below.cell.shallow (site_at sites n) spot.level (at.part.under n (top_body_inside s n top))

-- and the keys of the children fit
pub body_fits : (v : View) (words : ℕ) (sites : List Site) (s : PartSpot) (n key : ℕ) (spot : Spot) → IsPartIn v words sites s key spot → IsBodyAt s n
    → spot.level < LEVELS → 8 * key + 7 < 2 ^ 64
body_fits v words sites s n key spot at top low =
    let under : key ≡ key_of (site_at sites n) spot.level = at.part.under n (top_body_inside s n top) in
    omega (arith, key-next-fits (site_at sites n) spot.level low, under)

-- the publications are at most the spare cells
pub changes_fit : (v w : View) (sites : List Site) (spare : List ℕ) (s cell child : PartSpot) (key level d k used changes more : ℕ) → IsCellAt s cell
    → IsChildOf cell k child → k < 8 → IsMergedUpTo v w sites spare s key level d k used changes → more ≤ length (bodies_under child)
    → CELLS_OF_ONE * length (bodies_under s) ≤ length spare → changes + more ≤ length spare
changes_fit v w sites spare s cell child key level d k used changes more at is small i few room =
    let a = kid_length s cell at child k is small in let b = i.most in omega arith
