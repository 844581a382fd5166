-- What the word at a published place tells a pass.
use Rattle.std.proofs.Common.{◌≡◌, ℕ, ◌+◌, ◌^◌, ◌<◌, ◌≤◌, ◌⊎◌, List, ◌∷◌, length, sym, refl, ap, ◌∙◌, subst, inl, inr, arith}
use mathlib.Core.Option.{some}
use mathlib.Core.Logic.{dite}
use native.Mathlib.Decide.{ℕ_discrete}
use lib.ListN.{get_elem?}
use Rattle.atomic_table.specs.Table.{State}
use Rattle.octant_code.specs.Space.{Site, IsUnder}
use Rattle.octant_code.specs.Points.{site_at}
use Rattle.octant_code.proofs.Keys.{same_level}
use Rattle.bh_model.specs.Bodies.{IsIn}
use Rattle.bh_model.proofs.Lists.{in_left, in_right}
use Rattle.bh_model.proofs.MoreThan.{more_so}
use Rattle.tree_rule.specs.declared.notes.CellNote.{CellNote}
use Rattle.tree_rule.specs.declared.notes.BodyNote.{BodyNote}
use Rattle.tree_rule.specs.Words.{at_of, body_word, cell_word, HasBody, HasCell}
use Rattle.tree_rule.specs.Flat.{IsPlaceOf, IsWordOf}
use Rattle.tree_rule.specs.Notes.{HasNamed, IsPublishedAs}
use Rattle.tree_rule.proofs.Laws.{ACell, NoBody, OneBody, WordIs, one_key, order_members, sharer, word_at_place, word_is, word_over}
use Rattle.tree_passes.specs.declared.view.View.{View}
use Rattle.tree_passes.specs.Counting.{times, Has}
use Rattle.tree_passes.specs.Opening.{Opening, all_bodies, start_bodies}
use Rattle.tree_passes.specs.Passes.{body_note, cell_note, IsBody, IsCell, Knows, KnowsPlace, loaded, Met, noted}
use Rattle.tree_passes.specs.Rule.{Kept}
use Rattle.tree_passes.specs.Looks.{FoundBody, FoundCell, Learns, Looked, Tells}
use Rattle.tree_passes.proofs.Counts.{sum_of-add, sum_of_one, times_in}
use Rattle.tree_passes.proofs.After.{known_place}

-- what was found holds for a view with the same lists
pub found_body_on : (v w : View) (key x : ℕ) → w.points ≡ v.points → w.todo ≡ v.todo → FoundBody v key x → FoundBody w key x
found_body_on v w key x p t f = record {
  under = subst (λ (z : List Site). IsUnder key (site_at z x)) (sym p) f.under;
  not_todo = ap (times x) t ∙ f.not_todo;
  x_in = let q = f.x_in in subst (λ (z : List Site). x < length z) (sym p) q;
}

pub found_cell_on : (v w : View) (key d : ℕ) → w.points ≡ v.points → w.bodies ≡ v.bodies → w.todo ≡ v.todo → length w.memory ≡ length v.memory
    → FoundCell v key d → FoundCell w key d
found_cell_on v w key d p b t l f = record {
  more = more_so
      (λ x q. (
        (subst (λ (z : List ℕ). IsIn z x) (sym b) q.0.0, ap (times x) t ∙ q.0.1),
        subst (λ (z : List Site). IsUnder key (site_at z x)) (sym p) q.1,
      )) f.more;
  shallow = f.shallow;
  inside = let q = f.inside in omega arith;
}

pub tells_on : (v w : View) (key value : ℕ) → w.points ≡ v.points → w.bodies ≡ v.bodies → w.todo ≡ v.todo → w.done ≡ v.done → w.seen ≡ v.seen
    → length w.memory ≡ length v.memory → Tells v key value → Tells w key value
tells_on v w key value p b t d s l h =
    let met : (x : ℕ) → Met w x → Met v x = λ x m.
    let e = ap (times x) d in let f = ap (times x) s in let n : 1 ≤ times x w.done + times x w.seen = m in omega arith in
    let under : (x : ℕ) → IsUnder key (site_at w.points x) → IsUnder key (site_at v.points x) =
    λ x u. subst (λ (z : List Site). IsUnder key (site_at z x)) p u in
    record {
      small = h.small;
      nobody = λ e x m u. h.nobody e x (met x m) (under x u);
      other = λ y e x m u. h.other y e x (met x m) (under x u);
      body = λ x e. found_body_on v w key x p t (h.body x e);
      cell = λ c e. found_cell_on v w key c p b t l (h.cell c e);
    }

-- what is learnt by an exchange is learnt by a load, which is counted
pub learns_loaded : (v : View) (i key value : ℕ) (w : View) (l : Learns v i key value w)
    → Looked v i key value (noted (loaded v key value) l.cell_notes l.body_notes)
learns_loaded v i key value w l = record {
  cell_notes = l.cell_notes;
  body_notes = l.body_notes;
  view = refl;
  cells_stay = l.cells_stay;
  bodies_stay = l.bodies_stay;
  body_noted = l.body_noted;
  cell_noted = l.cell_noted;
  still = l.still;
  tells = tells_on v (loaded v key value) key value refl refl refl refl refl refl l.tells;
}

-- a body of the tree is in no todo list
pub not_to_do : (o : Opening) (s : State (Unit {0}) View) (h : Kept o s) (id : ℕ) (v : View) → get_elem? s.views id ≡ some v → (x : ℕ)
    → IsBody o h.bodies x → times x v.todo ≡ 0
not_to_do o s h id v at x (inl b) = dite (ℕ_discrete (times x o.todo) 0)
    (λ none_there.
    let e = h.parted.entrusted x in
    let c = sum_of_one (λ (u : View). times x u.todo + times x u.done) s.views id v at in
    omega arith)
    (λ some_there. absurd (h.opened.todo_fresh x (omega arith) b))
not_to_do o s h id v at x (inr p) =
    let d = h.parted.bodies_are x in
    let e = h.parted.entrusted x in
    let a = h.opened.todo_once x in
    let b = sum_of-add (λ (u : View). times x u.todo) (λ (u : View). times x u.done) s.views in
    let c = sum_of_one (λ (u : View). times x u.todo) s.views id v at in
    omega arith

-- a body that was put in was entrusted
entrusted_body : (o : Opening) (s : State (Unit {0}) View) (h : Kept o s) (x : ℕ) → 1 ≤ h.bodies x → 1 ≤ times x o.todo
entrusted_body o s h x p =
    let d = h.parted.bodies_are x in
    let e = h.parted.entrusted x in
    let b = sum_of-add (λ (u : View). times x u.todo) (λ (u : View). times x u.done) s.views in
    omega arith

-- a body of the tree has a point
pub body_in : (o : Opening) (s : State (Unit {0}) View) (h : Kept o s) (x : ℕ) → IsBody o h.bodies x → x < length o.sites
body_in o s h x (inl b) = h.opened.start_in x b
body_in o s h x (inr p) = h.opened.todo_in x (entrusted_body o s h x p)

-- a body of the tree is one of the opening's
pub body_of_opening : (o : Opening) (s : State (Unit {0}) View) (h : Kept o s) (x : ℕ) → IsBody o h.bodies x → IsIn (all_bodies o) x
body_of_opening o s h x (inl b) =
    in_left (start_bodies o) o.todo x
    ((order_members (site_at o.sites) (at_of o.words) (at_of o.words 0) 1 (HasCell o.words) (HasBody o.words) h.opened.stand x).0 b)
body_of_opening o s h x (inr p) = in_right (start_bodies o) o.todo x (times_in x o.todo (entrusted_body o s h x p))

-- a body that the pass has done or seen is in the tree
pub met_body : (o : Opening) (s : State (Unit {0}) View) (h : Kept o s) (id : ℕ) (v : View) → get_elem? s.views id ≡ some v → (x : ℕ) → Met v x
    → IsBody o h.bodies x
met_body o s h id v at x m = dite (ℕ_discrete (times x v.seen) 0)
    (λ none_there. inr (
    let d = h.parted.bodies_are x in
    let c = sum_of_one (λ (u : View). times x u.done) s.views id v at in
    let n : 1 ≤ times x v.done + times x v.seen = m in
    omega arith
    ))
    (λ some_there. (h.knows id v at).seen x (omega arith))

-- a word that the pass knows to be published is
pub there : (o : Opening) (s : State (Unit {0}) View) (h : Kept o s) (id : ℕ) (v : View) → get_elem? s.views id ≡ some v → (i key : ℕ) → KnowsPlace v i key
    → IsPlaceOf (at_of s.words) 0 1 (IsCell o h.cells) key i
there o s h id v at i key place = known_place o s.words h.cells h.bodies v (h.knows id v at) i key place

-- a published word, with its key
module _ (o : Opening) (s : State (Unit {0}) View) (h : Kept o s) (id : ℕ) (v : View) (at : get_elem? s.views id ≡ some v) (i key : ℕ)
    (spot : IsPlaceOf (at_of s.words) 0 1 (IsCell o h.cells) key i) where
  abbrev word : ℕ
  word = at_of s.words i

  k : Knows o s.words h.cells h.bodies v
  k = h.knows id v at

  here : IsWordOf (at_of s.words) (at_of s.words 0) 1 (IsCell o h.cells) key word
  here = word_at_place (at_of s.words) 0 1 (IsCell o h.cells) key i spot

  -- the word says of each body under its key that the pass has met
  says : (x : ℕ) → Met v x → IsUnder key (site_at v.points x) → (word ≡ body_word x) ⊎ ((c : ℕ) × IsCell o h.cells c × (word ≡ cell_word c))
  says x m u =
      let under : IsUnder key (site_at o.sites x) = subst (λ (z : List Site). IsUnder key (site_at z x)) k.points u in
      word_over (site_at o.sites) (at_of s.words) (at_of s.words 0) 1 (IsCell o h.cells) (IsBody o h.bodies) (IsBody o h.bodies) h.stand x under.0 word
      (met_body o s h id v at x m)
      (subst (λ (z : ℕ). IsWordOf (at_of s.words) (at_of s.words 0) 1 (IsCell o h.cells) z word) under.2 here)

  nobody : word ≡ 0 → (x : ℕ) → Met v x → IsUnder key (site_at v.points x) → ⊥
  nobody e x m u = elim (says x m u) [ inl f ↦ omega arith | inr f ↦ let g = f.2 in omega arith ]

  other : (y : ℕ) → word ≡ body_word y → (x : ℕ) → Met v x → IsUnder key (site_at v.points x) → x ≡ y
  other y e x m u = elim (says x m u) [ inl f ↦ omega arith | inr f ↦ let g = f.2 in absurd (omega arith) ]

  -- the body that is named is in the tree
  pub named_body : (x : ℕ) → word ≡ body_word x → IsBody o h.bodies x × IsUnder key (site_at o.sites x)
  named_body x e = h.stand.names_body key x (subst (λ (z : ℕ). IsWordOf (at_of s.words) (at_of s.words 0) 1 (IsCell o h.cells) key z) e here)

  found_body : (x : ℕ) → word ≡ body_word x → FoundBody v key x
  found_body x e =
      let f = named_body x e in
      record {
        under = subst (λ (z : List Site). IsUnder key (site_at z x)) (sym k.points) f.1;
        not_todo = not_to_do o s h id v at x f.0;
        x_in = let q = body_in o s h x f.0 in subst (λ (z : List Site). x < length z) (sym k.points) q;
      }

  -- the cell that is named is published with the key
  named_cell : (d : ℕ) → word ≡ cell_word d → IsPublishedAs (at_of s.words) (IsCell o h.cells) d key
  named_cell d e = h.stand.names_cell key d (subst (λ (z : ℕ). IsWordOf (at_of s.words) (at_of s.words 0) 1 (IsCell o h.cells) key z) e here)

  found_cell : (d : ℕ) → word ≡ cell_word d → FoundCell v key d
  found_cell d e =
      let f = named_cell d e in
      let share = h.stand.shared d f.0 in
      let one = sharer share in
      record {
        more = more_so
            (λ x q. (
              (subst (λ (z : List ℕ). IsIn z x) (sym k.opening) (body_of_opening o s h x q.0), not_to_do o s h id v at x q.0),
              subst (λ (z : List Site). IsUnder key (site_at z x)) (sym k.points) (share.level, (let t = share.shallow in omega arith), sym f.1 ∙ q.1),
            )) share.sharers;
        shallow = λ p level q.
            let l : one.level ≡ level = same_level (site_at o.sites one.one) p one.level level (sym one.one_under ∙ f.1 ∙ q) in
            let t = one.shallow in omega arith;
        inside = let t = h.inside d f.0 in let l = k.long in omega arith;
      }

  -- the word is that of a body that has a point, or of a cell of the table
  small_of : WordIs word → word < 2 ^ 33
  small_of (NoBody e) = omega arith
  small_of (OneBody x e) = let q = body_in o s h x (named_body x e).0 in let few = h.opened.points.few in omega arith
  small_of (ACell d e) =
      let q = h.inside d (named_cell d e).0 in
      let l = h.long in
      let m = h.opened.long in
      let few = h.opened.few in
      omega arith

  pub tells : Tells v key word
  tells = record { small = small_of (word_is word); nobody = nobody; other = other; body = found_body; cell = found_cell }

  -- The new view, that it is in order, and what the word tells.
  pub record Answer : Type 0 where
    pub view : View
    pub learns : Learns v i key word view
    pub knows : Knows o s.words h.cells h.bodies view

  known_again : (cell_notes : List CellNote) (body_notes : List BodyNote)
      → ((c above : ℕ) → Has cell_notes (cell_note c above) → IsPublishedAs (at_of s.words) (IsCell o h.cells) c above)
      → ((j x : ℕ) → Has body_notes (body_note j x) → HasNamed (at_of s.words) 0 1 (IsCell o h.cells) j x)
      → Knows o s.words h.cells h.bodies (noted v cell_notes body_notes)
  known_again cell_notes body_notes a b = record {
    points = k.points;
    opening = k.opening;
    long = k.long;
    memory = k.memory;
    inside = k.inside;
    cell_notes = a;
    body_notes = b;
    seen = k.seen;
    under = k.under;
  }

  -- the answer with these notes, which have those that the pass had and those of the word
  noting : (cell_notes : List CellNote) (body_notes : List BodyNote) → ((n : CellNote) → Has v.cell_notes n → Has cell_notes n)
      → ((n : BodyNote) → Has v.body_notes n → Has body_notes n)
      → ((x : ℕ) → word ≡ body_word x → Has body_notes (body_note i x)) → ((d : ℕ) → word ≡ cell_word d → Has cell_notes (cell_note d key))
      → Knows o s.words h.cells h.bodies (noted v cell_notes body_notes) → Answer
  noting cell_notes body_notes cells_stay bodies_stay body cell knows = record {
    view = noted v cell_notes body_notes;
    knows = knows;
    learns = record {
      cell_notes = cell_notes;
      body_notes = body_notes;
      view = refl;
      cells_stay = cells_stay;
      bodies_stay = bodies_stay;
      body_noted = body;
      cell_noted = cell;
      still = λ x q. (k.body_notes i x q).remains;
      tells = tells;
    };
  }

  answer_of : WordIs word → Answer
  answer_of (NoBody e) =
      noting v.cell_notes v.body_notes (λ n q. q) (λ n q. q) (λ x f. absurd (omega arith)) (λ d f. absurd (omega arith))
      (known_again v.cell_notes v.body_notes k.cell_notes k.body_notes)
  answer_of (OneBody x e) =
      noting v.cell_notes (body_note i x ∷ v.body_notes) (λ n q. q) (λ n q. inr q)
      (λ y f. let one : x ≡ y = omega arith in inl (ap (body_note i) one)) (λ d f. absurd (omega arith))
      (known_again v.cell_notes (body_note i x ∷ v.body_notes) k.cell_notes
      (λ j y q. elim q [
        | inl f ↦ subst (λ (n : BodyNote). HasNamed (at_of s.words) 0 1 (IsCell o h.cells) n.place n.body) f
            (record { key = key; published = spot; remains = inl e })
        | inr f ↦ k.body_notes j y f
      ]))
  answer_of (ACell d e) =
      noting (cell_note d key ∷ v.cell_notes) v.body_notes (λ n q. inr q) (λ n q. q) (λ x f. absurd (omega arith))
      (λ c f. let one : d ≡ c = omega arith in inl (ap (λ (z : ℕ). cell_note z key) one))
      (known_again (cell_note d key ∷ v.cell_notes) v.body_notes
      (λ c above q. elim q [
        | inl f ↦ subst (λ (n : CellNote). IsPublishedAs (at_of s.words) (IsCell o h.cells) n.cell n.key) f (named_cell d e)
        | inr f ↦ k.cell_notes c above f
      ]) k.body_notes)

  pub answer : Answer
  answer = answer_of (word_is word)

  -- the view after a load, and that it is in order
  abbrev pub after_load : View
  after_load = noted (loaded v key word) answer.learns.cell_notes answer.learns.body_notes

  pub knows_load : Knows o s.words h.cells h.bodies after_load
  knows_load =
      let a = answer in
      let q = subst (λ (z : View). Knows o s.words h.cells h.bodies z) a.learns.view a.knows in
      record {
        points = q.points;
        opening = q.opening;
        long = q.long;
        memory = q.memory;
        inside = q.inside;
        cell_notes = q.cell_notes;
        body_notes = q.body_notes;
        seen = q.seen;
        under = q.under;
      }

  pub looked_load : Looked v i key word after_load
  looked_load = learns_loaded v i key word answer.view answer.learns

  -- what was found tells the same for each key that the word is known to have
  pub same_key : (other_key : ℕ) → KnowsPlace v i other_key → key ≡ other_key
  same_key other_key q = one_key (at_of s.words) 0 1 (IsCell o h.cells) key other_key i (omega arith) spot
      (known_place o s.words h.cells h.bodies v k i other_key q)
