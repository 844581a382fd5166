-- Steps that publish nothing and touch no lock, under both rules.
use Rattle.std.proofs.Common.{◌≡◌, ◌≢◌, ℕ, Bool, true, false, ◌<◌, ◌≤◌, ◌⊎◌, List, ◌∷◌, get_or, set, sym, refl, ap, ◌∙◌, subst, inl, inr, arith}
use Rattle.std.proofs.Common.{length-set, get_or-set_other}
use mathlib.Core.Option.{none, some}
use lib.ListN.{get_elem?}
use Rattle.atomic_table.specs.Table.{Act, Allows, State, Valid, carried_after, keeps, step, stepped}
use Rattle.octant_code.specs.Space.{Site}
use Rattle.octant_code.specs.Points.{site_at}
use Rattle.octant_code.specs.Space.{same_coordinates}
use Rattle.octant_code.proofs.SeenPoints.{same_coordinates_refl, same_coordinates_true}
use Rattle.bh_model.proofs.Equal.{same_or_not}
use Rattle.tree_rule.specs.declared.notes.BodyNote.{BodyNote}
use Rattle.tree_rule.specs.declared.notes.CellNote.{CellNote}
use Rattle.tree_rule.specs.Words.{at_of, body_word, child_place}
use Rattle.tree_rule.proofs.Laws.{ACell, NoBody, OneBody, WordIs, word_is}
use Rattle.tree_passes.specs.declared.view.TheConstants.{ROW_WORDS}
use Rattle.tree_rule.specs.declared.words.TheConstants.{POOL_PLACE}
use Rattle.tree_passes.specs.declared.view.Told.{Told}
use Rattle.tree_passes.specs.declared.view.View.{View}
use Rattle.tree_passes.specs.Counting.{times}
use Rattle.tree_passes.specs.Opening.{Opening, opening_of}
use Rattle.tree_passes.specs.Passes.{IsBody, Knows, KnowsPlace}
use Rattle.tree_passes.specs.Rule.{Kept}
use Rattle.tree_passes.specs.Looks.{Looked}
use Rattle.tree_passes.specs.Locks.{CellsLock, IsLock, RootsLock}
use Rattle.tree_passes.specs.Rules.{RuleOf}
use Rattle.tree_passes.proofs.Keeps.{IsKeptByQuiet}
use Rattle.tree_passes.proofs.BothRules.{kept_of, quiet_of}
use Rattle.tree_passes.specs.Plays.{Mine, read, sought, wrote}
use Rattle.tree_passes.proofs.Counts.{same-ne}
use Rattle.tree_passes.proofs.After.{SameLists, reviewed, set_read}
use Rattle.tree_passes.proofs.Looking.{after_load, knows_load, looked_load, named_body, same_key, there}
use Rattle.tree_passes.proofs.Storing.{kept_stored, place_not_held}

-- two sites are one or not
site_or : (s t : Site) → (s ≡ t) ⊎ (s ≢ t)
site_or s t = at_each (same_coordinates s t) refl
  where
    at_each : (b : Bool) → same_coordinates s t ≡ b → (s ≡ t) ⊎ (s ≢ t)
    at_each true e = inl (same_coordinates_true s t e)
    at_each false e = inr (λ f. let g : true ≡ false = sym (same_coordinates_refl s) ∙ ap (same_coordinates s) f ∙ e in cc)

-- a lock is none of the words of a cell that a pass writes
pub row_no_lock : (w : ℕ) → IsLock w → (c j : ℕ) → j < ROW_WORDS → child_place c j ≢ w
row_no_lock w (RootsLock d) c j l e = omega arith
row_no_lock w (CellsLock d f) c j l e = omega arith

-- the view changes in what no rule sees
pub record SameView (v w : View) : Type 0 where
  pub lists : SameLists v w
  pub locks : w.locks ≡ v.locks
  pub under : w.under ≡ v.under
  pub quota : w.quota ≡ v.quota

-- a view in which only loads, notes and what is seen are others
only_seen : (v : View) (loads : ℕ) (last : ℕ × ℕ) (cell_notes : List CellNote) (body_notes : List BodyNote) (seen : List ℕ)
    → SameView v (record v { loads = loads; last = last; cell_notes = cell_notes; body_notes = body_notes; seen = seen })
only_seen v loads last cell_notes body_notes seen = record {
  lists = record { todo = refl; done = refl; held = refl; published = refl };
  locks = refl;
  under = refl;
  quota = refl;
}

module _ (k : Told) where
  abbrev o : Opening
  o = opening_of k

  abbrev R : State (Unit {0}) View → Type 0
  R = RuleOf k.writing o

  kept : (s : State (Unit {0}) View) → R s → Kept o s
  kept = kept_of k.writing o

  quiet : IsKeptByQuiet o R
  quiet = quiet_of k.writing o

  -- a word is read
  reread : (s : State (Unit {0}) View) (holds : R s) (i id : ℕ) (me : Mine) (w : View) → get_elem? s.views id ≡ some me.0 → SameView me.0 w
      → Knows o s.words (kept s holds).cells (kept s holds).bodies w → R (stepped s i (get_or s.words i 0) id me.1 w keeps)
  reread s holds i id me w at same knows =
      subst (λ (us : List ℕ). R record { words = us; homes = s.homes; views = set s.views id w }) (sym (set_read s.words i))
      (quiet s id me.0 w s.words holds at (record {
        held = same.lists.held;
        published = same.lists.published;
        locks = same.locks;
        under = same.under;
        quota = same.quota;
        long = refl;
        lock_words = λ i l. refl;
        pool_word = refl;
        places = λ h key i p. refl;
      }) (reviewed o s (kept s holds) id me.0 w at same.lists knows))

  -- a word of a cell that the pass holds is written
  pub writes : (slots id : ℕ) (me : Mine) (c j i new : ℕ) → 1 ≤ times c me.0.held → j < ROW_WORDS → i ≡ child_place c j
      → Allows R slots id me i (λ _. new) (λ _. wrote (step slots i new 0 none) me new)
  writes slots id me c j i new mine low is s holds len at small =
      let v = me.0 in
      let w = record v { memory = set v.memory i new } in (
        w,
        keeps,
        tt,
        quiet s id v w (set s.words i new) holds at (record {
          held = refl;
          published = refl;
          locks = refl;
          under = refl;
          quota = refl;
          long = length-set s.words i new;
          lock_words = λ q l. get_or-set_other s.words i q new 0 (λ e. row_no_lock q l c j low (sym (e ∙ is)));
          pool_word = get_or-set_other s.words i POOL_PLACE new 0 (λ e. omega arith);
          places = λ h key q p. get_or-set_other s.words i q new 0 (λ e. place_not_held o s h id v at key q c j p mine low (sym is ∙ sym e));
        }) (kept_stored o s (kept s holds) id v at c j i new mine low is),
        (refl, refl),
      )

  -- and read
  pub reads : (slots id : ℕ) (me : Mine) (i : ℕ) → Allows R slots id me i (λ n. n) (read (step slots i 0 0 none) me)
  reads slots id me i s holds len at small =
      let v = me.0 in
      let k = (kept s holds).knows id v at in (
        v,
        keeps,
        tt,
        reread s holds i id me v at (only_seen me.0 _ _ _ _ _) k,
        (refl, refl, λ c j p low is. ap (at_of s.words) is ∙ k.memory c j p low ∙ ap (at_of v.memory) (sym is)),
      )

  -- a published word is loaded on the way to a body at a point
  module _ (slots id : ℕ) (me : Mine) (i key : ℕ) (point : Site) (place : KnowsPlace me.0 i key) (s : State (Unit {0}) View) (holds : R s)
      (at : get_elem? s.views id ≡ some me.0) where
    abbrev h : Kept o s
    h = kept s holds

    abbrev word : ℕ
    word = get_or s.words i 0

    abbrev plain : View
    plain = after_load o s h id me.0 at i key (there o s h id me.0 at i key place)

    knows : Knows o s.words h.cells h.bodies plain
    knows = knows_load o s h id me.0 at i key (there o s h id me.0 at i key place)

    tells : (other : ℕ) → KnowsPlace me.0 i other → Looked me.0 i other word plain
    tells other q = subst (λ (z : ℕ). Looked me.0 i z word plain) (same_key o s h id me.0 at i key (there o s h id me.0 at i key place) other q)
        (looked_load o s h id me.0 at i key (there o s h id me.0 at i key place))

    abbrev Owed : Type 0
    Owed = (w : View) × (a : Act (Unit {0})) × Valid s.homes me.1 a × R (stepped s i word id me.1 w a)
        × sought point (step slots i 0 0 none) me word (w, carried_after me.1 a)

    -- no body with the point was found
    not_found : ((y : ℕ) → word ≡ body_word y → site_at me.0.points y ≢ point) → Owed
    not_found apart = (
      plain,
      keeps,
      tt,
      reread s holds i id me plain at (only_seen me.0 _ _ _ _ _) knows,
      (refl, λ other q. record { plain = plain; looked = tells other q; hit = λ y e f. absurd (apart y e f); miss = λ _. refl }),
    )

    -- body x was found, which has the point
    found : (x : ℕ) → word ≡ body_word x → site_at me.0.points x ≡ point → Owed
    found x e is =
        let w = record plain { seen = x ∷ plain.seen } in
        let in_tree = (named_body o s h id me.0 at i key (there o s h id me.0 at i key place) x e).0 in (
          w,
          keeps,
          tt,
          reread s holds i id me w at (only_seen me.0 _ _ _ _ _) (record {
            points = knows.points;
            opening = knows.opening;
            long = knows.long;
            memory = knows.memory;
            inside = knows.inside;
            cell_notes = knows.cell_notes;
            body_notes = knows.body_notes;
            under = knows.under;
            seen = λ y q. elim (same_or_not x y) [
              | inl f ↦ subst (λ (u : ℕ). IsBody o h.bodies u) f in_tree
              | inr n ↦ knows.seen y (let g = same-ne x y n in omega arith)
            ];
          }),
          (
            refl,
            λ other q. record {
              plain = plain;
              looked = tells other q;
              hit = λ y f g. let one : x ≡ y = omega arith in λ j. record plain { seen = one j ∷ plain.seen };
              miss = λ n. absurd (n x e is);
            },
          ),
        )

    sought_in : WordIs word → Owed
    sought_in (NoBody e) = not_found (λ y f. absurd (omega arith))
    sought_in (ACell d e) = not_found (λ y f. absurd (omega arith))
    sought_in (OneBody x e) = elim (site_or (site_at me.0.points x) point) [
      | inl is ↦ found x e is
      | inr n ↦ not_found (λ y f g. let one : x ≡ y = omega arith in n (ap (site_at me.0.points) one ∙ g))
    ]

  pub seeks : (slots id : ℕ) (me : Mine) (i key : ℕ) (point : Site) → KnowsPlace me.0 i key
      → Allows R slots id me i (λ n. n) (sought point (step slots i 0 0 none) me)
  seeks slots id me i key point place s holds len at small = sought_in slots id me i key point place s holds at (word_is (get_or s.words i 0))
