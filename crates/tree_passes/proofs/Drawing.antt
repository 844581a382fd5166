-- A cell is drawn from the shared pool.
use Rattle.std.proofs.Common.{◌≡◌, ◌≢◌, ℕ, zero, suc, ◌+◌, ◌-◌, ◌%◌, ◌^◌, ◌<◌, ◌≤◌, List, [], ◌∷◌, length, set, sym, refl, ap, ◌∙◌, subst, arith}
use Rattle.std.proofs.Common.{length-set, get_or-set_same, get_or-set_other}
use Rattle.std.proofs.Math.Nat.{mod-eq_of_lt}
use mathlib.Core.Option.{none, some}
use mathlib.Core.Logic.{dite}
use native.Mathlib.Decide.{ℕ_discrete}
use lib.ListN.{get_elem?}
use Rattle.atomic_table.specs.Table.{Allows, State, keeps, step}
use Rattle.tree_rule.specs.declared.words.TheConstants.{MOST_CELLS, POOL_PLACE}
use Rattle.tree_rule.specs.Words.{at_of, child_place, lock_place}
use Rattle.tree_passes.specs.declared.view.TheConstants.{ROW_WORDS}
use Rattle.tree_passes.specs.declared.view.View.{View}
use Rattle.tree_passes.specs.Counting.{same, sum_of, times}
use Rattle.tree_passes.specs.Opening.{Opening}
use Rattle.tree_passes.specs.Passes.{IsCell, Knows}
use Rattle.tree_passes.specs.Rule.{Kept, Parted}
use Rattle.tree_passes.specs.Locks.{Holds, Locked}
use Rattle.tree_passes.specs.Plays.{drawn, Mine}
use Rattle.tree_passes.proofs.Counts.{same-eq, same-ne, sum_of-set, sum_of_none, sum_of_one}
use Rattle.tree_passes.proofs.After.{knows_less, knows_on}
use Rattle.tree_passes.proofs.Storing.{IsAside, grows_aside, kept_aside}
use Rattle.tree_passes.proofs.FreeSteps.{place_no_pool}
use Rattle.tree_passes.proofs.LockSteps.{not_pool}
use Rattle.tree_passes.proofs.LockedRule.{holds_on, locked_after, one_on}

-- the words of a list with some of a cell's row as they are in others
row_copied : List ℕ → List ℕ → ℕ → ℕ → List ℕ
row_copied memory ws c zero = memory
row_copied memory ws c (suc j) = set (row_copied memory ws c j) (child_place c j) (at_of ws (child_place c j))

length_copied : (memory ws : List ℕ) (c n : ℕ) → length (row_copied memory ws c n) ≡ length memory
unfolding row_copied
length_copied memory ws c zero = refl
length_copied memory ws c (suc j) = length-set (row_copied memory ws c j) (child_place c j) (at_of ws (child_place c j)) ∙ length_copied memory ws c j

-- the words of the row are those
copied_row : (memory ws : List ℕ) (c n j : ℕ) → j < n → child_place c n ≤ length memory
    → at_of (row_copied memory ws c n) (child_place c j) ≡ at_of ws (child_place c j)
unfolding row_copied
copied_row memory ws c zero j l inside = absurd (omega arith)
copied_row memory ws c (suc n) j l inside =
    let before = row_copied memory ws c n in
    dite (ℕ_discrete j n)
    (λ (e : j ≡ n). ap (λ (z : ℕ). at_of (set before (child_place c n) (at_of ws (child_place c n))) (child_place c z)) e
    ∙ get_or-set_same before (child_place c n) (at_of ws (child_place c n)) 0 (let t = length_copied memory ws c n in omega arith)
    ∙ ap (λ (z : ℕ). at_of ws (child_place c z)) (sym e))
    (λ (e : j ≢ n). get_or-set_other before (child_place c n) (child_place c j) (at_of ws (child_place c n)) 0 (λ f. e (omega arith))
    ∙ copied_row memory ws c n j (omega arith) (omega arith))

-- and the others stay
copied_other : (memory ws : List ℕ) (c n i : ℕ) → ((j : ℕ) → j < n → i ≢ child_place c j) → at_of (row_copied memory ws c n) i ≡ at_of memory i
unfolding row_copied
copied_other memory ws c zero i apart = refl
copied_other memory ws c (suc n) i apart =
    get_or-set_other (row_copied memory ws c n) (child_place c n) i (at_of ws (child_place c n)) 0 (apart n (omega arith))
    ∙ copied_other memory ws c n i (λ j l. apart j (omega arith))

module _ (o : Opening) (s : State (Unit {0}) View) (f : Locked o s) (id : ℕ) (v : View) (at : get_elem? s.views id ≡ some v) (some_left : 1 ≤ v.quota) where
  abbrev h : Kept o s
  h = f.kept

  abbrev c : ℕ
  c = at_of s.words POOL_PLACE

  abbrev us : List ℕ
  us = set s.words POOL_PLACE (c + 1)

  k : Knows o s.words h.cells h.bodies v
  k = h.knows id v at

  -- the cell is one of the table's
  few : c + 1 ≤ MOST_CELLS
  few =
      let t = f.pool in
      let q = sum_of_one (λ (u : View). u.quota) s.views id v at in
      let l = h.long in
      let m = h.opened.long in
      let n = h.opened.few in
      omega arith

  inside : lock_place c < length s.words
  inside = let t = f.pool in let q = sum_of_one (λ (u : View). u.quota) s.views id v at in omega arith

  -- no pass has it
  none_has : sum_of (λ (u : View). times c u.published + times c u.held) s.views ≡ 0
  none_has = sum_of_none (λ (u : View). times c u.published + times c u.held) s.views
      (λ j u e. dite (ℕ_discrete (times c u.published + times c u.held) 0) (λ z. z)
      (λ z. absurd (let t = (f.holds j u e).given c (omega arith) in omega arith)))

  fresh : times c v.held ≡ 0
  fresh = let t = none_has in let q = sum_of_one (λ (u : View). times c u.published + times c u.held) s.views id v at in omega arith

  abbrev memory : List ℕ
  memory = row_copied v.memory s.words c ROW_WORDS

  abbrev w : View
  w = record v { held = c ∷ v.held; quota = v.quota - 1; memory = memory }

  memory_long : length memory ≡ length v.memory
  memory_long = length_copied v.memory s.words c ROW_WORDS

  memory_other : (i : ℕ) → ((j : ℕ) → j < ROW_WORDS → i ≢ child_place c j) → at_of memory i ≡ at_of v.memory i
  memory_other = copied_other v.memory s.words c ROW_WORDS

  parted : Parted o h.cells h.bodies (set s.views id w)
  parted =
      let p = h.parted in
      record {
        cells_are = λ d. let t = p.cells_are d in let z = sum_of-set (λ (u : View). times d u.published) s.views id v w at in omega arith;
        bodies_are = λ x. let t = p.bodies_are x in let z = sum_of-set (λ (u : View). times x u.done) s.views id v w at in omega arith;
        entrusted = λ x. let t = p.entrusted x in let z = sum_of-set (λ (u : View). times x u.todo + times x u.done) s.views id v w at in omega arith;
        cells_once = λ d.
            let z = sum_of-set (λ (u : View). times d u.published + times d u.held) s.views id v w at in
            dite (ℕ_discrete c d)
            (λ (e : c ≡ d). let n : sum_of (λ (u : View). times d u.published + times d u.held) s.views ≡ 0 =
            subst (λ (y : ℕ). sum_of (λ (u : View). times y u.published + times y u.held) s.views ≡ 0) e none_has in
            let one = same-eq c d e in
            omega arith)
            (λ (e : c ≢ d). let t = p.cells_once d in let no = same-ne c d e in omega arith);
        cells_fresh = λ d start.
            let z = sum_of-set (λ (u : View). times d u.published + times d u.held) s.views id v w at in
            let t = p.cells_fresh d start in
            let no = same-ne c d (λ e. let g = f.given d start in omega arith) in
            omega arith;
      }

  aside : IsAside o s h POOL_PLACE
  aside = record {
    no_place = λ key i p e. place_no_pool (at_of s.words) (IsCell o h.cells) key i p (sym e);
    no_key = λ d p e. omega arith;
  }

  -- the words of the cells that the pass holds are those of its memory
  memory_is : (d j : ℕ) → 1 ≤ same c d + times d v.held → j < ROW_WORDS → at_of us (child_place d j) ≡ at_of memory (child_place d j)
  memory_is d j mine low =
      get_or-set_other s.words POOL_PLACE (child_place d j) (c + 1) 0 (λ e. omega arith)
      ∙ dite (ℕ_discrete c d)
      (λ (e : c ≡ d). subst (λ (y : ℕ). at_of s.words (child_place y j) ≡ at_of memory (child_place y j)) e
      (sym (copied_row v.memory s.words c ROW_WORDS j low (let l = k.long in let t = inside in omega arith))))
      (λ (e : c ≢ d). k.memory d j (let no = same-ne c d e in omega arith) low ∙ sym (memory_other (child_place d j) (λ q l z. e (omega arith))))

  on : Knows o us h.cells h.bodies (record v { held = [] })
  on = knows_on o s.words us h.cells h.cells h.bodies h.bodies (grows_aside o s h POOL_PLACE (c + 1) aside) (record v { held = [] })
      (λ d l p q. absurd (omega arith))
      (knows_less (λ d. omega arith) k.under k)

  kept : Kept o record { words = us; homes = s.homes; views = set s.views id w }
  kept = kept_aside o s h POOL_PLACE (c + 1) aside id v w at parted (λ j u ne there d l p m e. omega arith) (record {
    points = k.points;
    opening = k.opening;
    long = memory_long ∙ on.long;
    memory = memory_is;
    inside = λ d p. let l = length-set s.words POOL_PLACE (c + 1) in
        dite (ℕ_discrete c d)
        (λ (e : c ≡ d). let t = inside in omega arith)
        (λ (e : c ≢ d). let t = k.inside d (let no = same-ne c d e in omega arith) in omega arith);
    cell_notes = on.cell_notes;
    body_notes = on.body_notes;
    seen = k.seen;
    under = on.under;
  })

  pool_now : at_of us POOL_PLACE ≡ c + 1
  pool_now = get_or-set_same s.words POOL_PLACE (c + 1) 0 (let t = inside in omega arith)

  -- what passes hold stays
  others : (j : ℕ) (u : View) → get_elem? s.views j ≡ some u → Holds us u
  others j u e = holds_on s.words us u
      (λ i n p. let t = (h.knows j u e).under i n p in
      get_or-set_other s.words POOL_PLACE i (c + 1) 0 (λ d. place_no_pool (at_of s.words) (IsCell o h.cells) t.0 i t.1 (sym d)))
      (let t = pool_now in omega arith) (f.holds j u e)

  locked_drawn : Locked o record { words = us; homes = s.homes; views = set s.views id w }
  locked_drawn = locked_after o s id v w us f at kept (record {
    long = length-set s.words POOL_PLACE (c + 1);
    counted = λ i l. let t = get_or-set_other s.words POOL_PLACE i (c + 1) 0 (λ e. not_pool i l (sym e)) in omega arith;
    one = one_on s id v w at refl f.one;
    pool = let t = pool_now in omega arith;
    given = let t = pool_now in omega arith;
    others = λ j u ne e. others j u e;
    mine =
        let g = others id v at in
        record {
          few = g.few;
          are_locks = g.are_locks;
          under = g.under;
          given = λ d p. dite (ℕ_discrete c d)
              (λ (e : c ≡ d). let t = pool_now in omega arith)
              (λ (e : c ≢ d). g.given d (let no = same-ne c d e in omega arith));
        };
  })

pub draws : (o : Opening) (slots id : ℕ) (me : Mine) → 1 ≤ me.0.quota
    → Allows (Locked o) slots id me POOL_PLACE (λ n. (n + 1) % 2 ^ 64) (drawn (step slots POOL_PLACE 1 0 none) me)
draws o slots id me some_left s f len at small =
    let v = me.0 in
    let l = few o s f id v at some_left in
    let long = (f.kept.knows id v at).long in
    let inside_now = inside o s f id v at some_left in (
      w o s f id v at some_left,
      keeps,
      tt,
      subst (λ (n : ℕ). Locked o record { words = set s.words POOL_PLACE n; homes = s.homes; views = set s.views id (w o s f id v at some_left) })
          (sym (mod-eq_of_lt (omega arith))) (locked_drawn o s f id v at some_left),
      (
        refl,
        record {
          memory = memory o s f id v at some_left;
          view = refl;
          long = memory_long o s f id v at some_left;
          others = memory_other o s f id v at some_left;
          fresh = fresh o s f id v at some_left;
          small = omega arith;
          inside = omega arith;
        },
      ),
    )
