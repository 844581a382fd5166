-- Publications under locks.
use Rattle.std.proofs.Common.{◌≡◌, ℕ, ◌+◌, ◌≤◌, List, [], ◌∷◌, length, sym, refl, ap, ◌∙◌, subst, inl, arith}
use Rattle.tree_rule.specs.declared.notes.CellNote.{CellNote}
use Rattle.tree_rule.specs.declared.notes.BodyNote.{BodyNote}
use Rattle.tree_passes.specs.declared.view.View.{View}
use Rattle.tree_passes.specs.Counting.{times, Has}
use Rattle.tree_passes.specs.Locks.{IsLock, IsLockOf, OfChild, OfRoot, CellsLock, RootsLock}
use Rattle.tree_passes.specs.Looks.{Tells}
use Rattle.tree_passes.specs.Passes.{after_publication, body_note, KnowsPlace, loaded, noted}
use Rattle.tree_passes.specs.Plays.{IsReadyFor, LookedUnder}
use Rattle.tree_passes.specs.Turns.{IsStill}
use Rattle.tree_passes.proofs.Laws.{same-eq, still_looked}
use Rattle.shared_tree.specs.Publishing.{HasFoundOther, HasLearnt, HasPublished}

-- the pass has the lock
pub lock_held : (v : View) (i lock : ℕ) → IsLockOf i lock → v.locks ≡ lock ∷ [] → (l : ℕ) × IsLockOf i l × (1 ≤ times l v.locks)
lock_held v i lock is held = (lock, is, let e = ap (times lock) held in let one = same-eq lock lock refl in omega arith)

pub lock_of : (i lock : ℕ) → IsLockOf i lock → IsLock lock
lock_of i lock (OfRoot e f) = RootsLock f
lock_of i lock (OfChild c k l e f) = CellsLock c f

-- the pass with locks
abbrev locked : View → List ℕ → View
locked v locks = record v { locks = locks }

-- where it took one it knows the place still
pub place_locked : (v l : View) (locks : List ℕ) (i key : ℕ) → l ≡ record v { locks = locks } → KnowsPlace v i key → KnowsPlace l i key
place_locked v l locks i key e k = subst (λ (z : View). KnowsPlace z i key) (sym e) k

pub ready_under : (v l u : View) (locks : List ℕ) (i at found key old new : ℕ) (cells bodies : List ℕ) → l ≡ record v { locks = locks }
    → LookedUnder l i at found u → IsReadyFor v key old new cells bodies → IsReadyFor u key old new cells bodies
ready_under v l u locks i at found key old new cells bodies e looked r =
    subst (λ (z : View). IsReadyFor z key old new cells bodies) (sym looked.view)
    (subst (λ (z : View). IsReadyFor (record z { under = (i, found) ∷ l.under }) key old new cells bodies) (sym looked.looked.view)
    (over looked.looked.cell_notes looked.looked.body_notes ((i, found) ∷ l.under)))
  where
    on : (cs : List CellNote) (bs : List BodyNote) (us : List (ℕ × ℕ))
        → IsReadyFor (record (noted (loaded (locked v locks) at found) cs bs) { under = us }) key old new cells bodies
    on cs bs us = record { held = r.held; todo = r.todo; no_cell = r.no_cell; grows = r.grows; stands = r.stands }

    over : (cs : List CellNote) (bs : List BodyNote) (us : List (ℕ × ℕ))
        → IsReadyFor (record (noted (loaded l at found) cs bs) { under = us }) key old new cells bodies
    over cs bs us = subst (λ (z : View). IsReadyFor (record (noted (loaded z at found) cs bs) { under = us }) key old new cells bodies) (sym e) (on cs bs us)

-- a load under the lock leaves what the pass has
pub still_under : (v : View) (i key value : ℕ) (w : View) → LookedUnder v i key value w → IsStill v w
still_under v i key value w l = subst (IsStill v) (sym l.view)
    (let s = still_looked v i key value l.plain l.looked in record {
      points = s.points;
      opening = s.opening;
      long = s.long;
      held = s.held;
      quota = s.quota;
      published = s.published;
      todo = s.todo;
      done = s.done;
      seen = s.seen;
      changes = s.changes;
      locks = s.locks;
      more_loads = s.more_loads;
      cell_notes = s.cell_notes;
      body_notes = s.body_notes;
    })

-- and what was found stays
pub loaded_under : (v : View) (i key value : ℕ) (w : View) → LookedUnder v i key value w → Has w.under (i, value)
loaded_under v i key value w l = subst (λ (z : View). Has z.under (i, value)) (sym l.view) (inl refl)

-- after a load the lock is held still
pub lock_still : (v l u : View) (lock i key value : ℕ) → l ≡ record v { locks = lock ∷ [] } → LookedUnder l i key value u → u.locks ≡ lock ∷ []
lock_still v l u lock i key value e looked = (still_under l i key value u looked).locks ∙ ap (λ (z : View). z.locks) e

-- and the memory is as long as it was
pub long_still : (v l u : View) (locks : List ℕ) (i key value words : ℕ) → l ≡ record v { locks = locks } → LookedUnder l i key value u
    → length v.memory ≡ words → length u.memory ≡ words
long_still v l u locks i key value words e looked long =
    (still_under l i key value u looked).long ∙ ap (λ (z : View). length z.memory) e ∙ long

-- Before, between and after the steps of a publication the pass differs only in its loads, its notes and its locks.
module _ (v l u : View) (lock i key found : ℕ) (taken : l ≡ record v { locks = lock ∷ [] }) (free : (v.locks ≡ []) × (v.under ≡ []))
    (looked : LookedUnder l i key found u) where
  abbrev cells_noted : List CellNote
  cells_noted = looked.looked.cell_notes

  abbrev bodies_noted : List BodyNote
  bodies_noted = looked.looked.body_notes

  -- the view under the lock
  under_is : u ≡ record (noted (loaded (locked v (lock ∷ [])) key found) cells_noted bodies_noted) { under = (i, found) ∷ l.under }
  under_is = looked.view ∙ ap (λ (z : View). record z { under = (i, found) ∷ l.under }) looked.looked.view
      ∙ ap (λ (z : View). record (noted (loaded z key found) cells_noted bodies_noted) { under = (i, found) ∷ l.under }) taken

  -- what the pass has learnt without a lock
  abbrev learnt : HasLearnt v (noted (loaded v key found) cells_noted bodies_noted)
  learnt = record {
    loads = v.loads + 1;
    last = (key, found);
    cell_notes = cells_noted;
    body_notes = bodies_noted;
    view = refl;
    more_loads = omega arith;
    cells_stay = λ n h. looked.looked.cells_stay n (subst (λ (z : View). Has z.cell_notes n) (sym taken) h);
    bodies_stay = λ n h. looked.looked.bodies_stay n (subst (λ (z : View). Has z.body_notes n) (sym taken) h);
  }

  pub has_published : (put w : View) (cells bodies : List ℕ) (us : List (ℕ × ℕ)) → put ≡ record (after_publication u cells bodies) { under = us }
      → w ≡ record put { locks = []; under = [] } → HasPublished v w cells bodies
  has_published put w cells bodies us e f = record {
    before = noted (loaded v key found) cells_noted bodies_noted;
    learnt = learnt;
    view = f ∙ ap (λ (z : View). record z { locks = []; under = [] }) e
        ∙ ap (λ (z : View). record (after_publication z cells bodies) { locks = []; under = [] }) under_is
        ∙ (λ k. record (after_publication (noted (loaded v key found) cells_noted bodies_noted) cells bodies) {
          locks = sym free.0 k;
          under = sym free.1 k;
        });
  }

  -- what a word tells is told without a lock
  told : Tells (loaded l key found) key found → Tells (loaded v key found) key found
  told t = unlocked (subst (λ (z : View). Tells (loaded z key found) key found) taken t)
    where
      unlocked : Tells (loaded (locked v (lock ∷ [])) key found) key found → Tells (loaded v key found) key found
      unlocked t = record {
        small = t.small;
        nobody = t.nobody;
        other = t.other;
        body = λ x e. let b = t.body x e in record { under = b.under; not_todo = b.not_todo; x_in = b.x_in };
        cell = λ d e. let c = t.cell d e in record { more = c.more; shallow = c.shallow; inside = c.inside };
      }

  pub has_found : (w : View) → w ≡ record u { locks = []; under = [] } → HasFoundOther v i key found w
  has_found w f = record {
    before = loaded v key found;
    learnt = record {
      loads = v.loads + 1;
      last = (key, found);
      cell_notes = v.cell_notes;
      body_notes = v.body_notes;
      view = refl;
      more_loads = omega arith;
      cells_stay = λ n h. h;
      bodies_stay = λ n h. h;
    };
    learns = record {
      cell_notes = cells_noted;
      body_notes = bodies_noted;
      view = f ∙ ap (λ (z : View). record z { locks = []; under = [] }) under_is
          ∙ (λ k. record (noted (loaded v key found) cells_noted bodies_noted) { locks = sym free.0 k; under = sym free.1 k });
      cells_stay = learnt.cells_stay;
      bodies_stay = learnt.bodies_stay;
      body_noted = looked.looked.body_noted;
      cell_noted = looked.looked.cell_noted;
      still = λ x h. looked.looked.still x (subst (λ (z : View). Has z.body_notes (body_note i x)) (sym taken) h);
      tells = told looked.looked.tells;
    };
  }

-- a store leaves the lock and the memory
pub put_parts : (u put : View) (cells bodies : List ℕ) (us : List (ℕ × ℕ)) → put ≡ record (after_publication u cells bodies) { under = us }
    → (put.locks ≡ u.locks) × (length put.memory ≡ length u.memory)
put_parts u put cells bodies us e = (ap (λ (z : View). z.locks) e, ap (λ (z : View). length z.memory) e)

-- where the lock was given up
pub unlocked_parts : (v w : View) → w ≡ record v { locks = []; under = [] } → (w.locks ≡ []) × (w.under ≡ [])
unlocked_parts v w e = (ap (λ (z : View). z.locks) e, ap (λ (z : View). z.under) e)
