-- Facts between the steps of one call, on the way down and at an insertion.
use Rattle.std.proofs.Common.{◌≡◌, ◌≢◌, ℕ, ◌+◌, ◌*◌, ◌<◌, ◌≤◌, List, [], ◌∷◌, length, take, sym, refl, ap, ◌∙◌, subst, inl, inr, arith}
use Rattle.octant_code.specs.declared.limits.TheConstants.{LEVELS}
use Rattle.octant_code.specs.Space.{Site, IsUnder, key_of}
use Rattle.octant_code.specs.Points.{site_at, ArePoints}
use Rattle.octant_code.proofs.Apart.{level_shallow}
use Rattle.octant_code.proofs.Keys.{same_level}
use Rattle.bh_model.specs.Bodies.{IsIn}
use Rattle.bh_model.proofs.Equal.{same_or_not}
use Rattle.tree_rule.specs.declared.notes.CellNote.{CellNote}
use Rattle.tree_rule.specs.declared.notes.BodyNote.{BodyNote}
use Rattle.tree_rule.specs.Words.{at_of, body_word, cell_word, child_place}
use Rattle.tree_rule.specs.Flat.{StandsFor}
use Rattle.tree_rule.proofs.Laws.{Nothing, Only, stands_body, stands_same}
use Rattle.octree.specs.Chain.{ArePair, IsOneOf}
use Rattle.tree_passes.specs.declared.view.View.{View}
use Rattle.tree_passes.specs.Counting.{times, Has, without_all}
use Rattle.tree_passes.specs.Passes.{after_publication, body_note, cell_note, KnowsPlace, loaded}
use Rattle.tree_passes.specs.Looks.{FoundBody, FoundCell, Learns, Looked}
use Rattle.tree_passes.specs.Plays.{IsPutOrNamed, IsReadyFor}
use Rattle.tree_passes.specs.Making.{HasWritten, IsReady}
use Rattle.tree_passes.specs.Turns.{Descends, IsBelow, IsFound, IsInserted, IsStill, IsThere}
use Rattle.tree_passes.proofs.Counts.{same-eq, same-ne, times-without_all}
use Rattle.tree_passes.proofs.Looking.{found_body_on, found_cell_on}
use Rattle.tree_passes.proofs.Made.{times_take}

pub still_on : (u v w : View) → IsStill u v → IsStill v w → IsStill u w
still_on u v w a b = record {
  points = b.points ∙ a.points;
  opening = b.opening ∙ a.opening;
  long = b.long ∙ a.long;
  held = b.held ∙ a.held;
  quota = b.quota ∙ a.quota;
  published = b.published ∙ a.published;
  todo = b.todo ∙ a.todo;
  done = b.done ∙ a.done;
  seen = b.seen ∙ a.seen;
  changes = b.changes ∙ a.changes;
  locks = b.locks ∙ a.locks;
  more_loads = let p = a.more_loads in let q = b.more_loads in omega arith;
  cell_notes = λ n h. b.cell_notes n (a.cell_notes n h);
  body_notes = λ n h. b.body_notes n (a.body_notes n h);
}

-- where it may write, load and learn
still_by : {v : View} {memory : List ℕ} {loads : ℕ} {last : ℕ × ℕ} {cell_notes : List CellNote} {body_notes : List BodyNote}
    → length memory ≡ length v.memory → v.loads ≤ loads → ((n : CellNote) → Has v.cell_notes n → Has cell_notes n)
    → ((n : BodyNote) → Has v.body_notes n → Has body_notes n)
    → IsStill v (record v { memory = memory; loads = loads; last = last; cell_notes = cell_notes; body_notes = body_notes })
still_by long more cells bodies = record {
  points = refl;
  opening = refl;
  long = long;
  held = refl;
  quota = refl;
  published = refl;
  todo = refl;
  done = refl;
  seen = refl;
  changes = refl;
  locks = refl;
  more_loads = more;
  cell_notes = cells;
  body_notes = bodies;
}

pub still_refl : (v : View) → IsStill v v
still_refl v = still_by refl (omega arith) (λ n h. h) (λ n h. h)

-- where a pass wrote into its cells
pub still_written : (v w : View) (cells : List ℕ) → HasWritten v w cells → IsStill v w
still_written v w cells h = subst (λ (z : View). IsStill v z) (sym h.view) (still_by h.long (omega arith) (λ n h. h) (λ n h. h))

-- and where it learnt
pub still_learnt : (v : View) (i key value : ℕ) (w : View) → Learns v i key value w → IsStill v w
still_learnt v i key value w l = subst (λ (z : View). IsStill v z) (sym l.view) (still_by refl (omega arith) l.cells_stay l.bodies_stay)

pub still_counted : (v : View) (key value : ℕ) → IsStill v (loaded v key value)
still_counted v key value = still_by refl (omega arith) (λ n h. h) (λ n h. h)

pub still_looked : (v : View) (i key value : ℕ) (w : View) → Looked v i key value w → IsStill v w
still_looked v i key value w l =
    still_on v (loaded v key value) w (still_counted v key value) (still_learnt (loaded v key value) i key value w l)

-- cells that the pass holds are still ready
pub ready_still : (v w : View) (words : ℕ) (spare : List ℕ) → IsStill v w → IsReady v words spare → IsReady w words spare
ready_still v w words spare s r = record {
  long = s.long ∙ r.long;
  held = λ c. let a = r.held c in let e = ap (times c) s.held in omega arith;
  once = r.once;
  inside = r.inside;
}

below_on : (v w : View) (key d : ℕ) → IsStill v w → Has w.cell_notes (cell_note d key) → FoundCell v key d → IsBelow w key d
below_on v w key d s n f = record { note = n; cell = found_cell_on v w key d s.points s.opening s.todo s.long f }

there_on : (v w : View) (word key x : ℕ) → IsStill v w → Has w.body_notes (body_note word x) → FoundBody v key x → IsThere w word key x
there_on v w word key x s n f = record { note = n; body = found_body_on v w key x s.points s.todo f }

-- what was learnt of a word that is not empty
pub found_learnt : (v : View) (i key value : ℕ) (w : View) → Learns v i key value w → value ≢ 0 → IsFound w i key value
found_learnt v i key value w l full =
    let s = still_learnt v i key value w l in
    record {
      there = full;
      body = λ x e. there_on v w i key x s
          (subst (λ (z : View). Has z.body_notes (body_note i x)) (sym l.view) (l.body_noted x e)) (l.tells.body x e);
      cell = λ d e. below_on v w key d s
          (subst (λ (z : View). Has z.cell_notes (cell_note d key)) (sym l.view) (l.cell_noted d e)) (l.tells.cell d e);
    }

-- what was found is so still
pub there_still : (v w : View) (word key x : ℕ) → IsStill v w → IsThere v word key x → IsThere w word key x
there_still v w word key x s t = there_on v w word key x s (s.body_notes (body_note word x) t.note) t.body

-- a place that was known is known still
pub place_still : (v w : View) (i key : ℕ) → IsStill v w → KnowsPlace v i key → KnowsPlace w i key
place_still v w i key s (inl e) = inl e
place_still v w i key s (inr p) = inr (p.0, p.1, p.2, s.cell_notes (cell_note p.0 p.2) p.3, p.4, p.5, p.6)

-- a body is still to be put in
pub todo_still : (v w : View) (n : ℕ) → IsStill v w → 1 ≤ times n v.todo → 1 ≤ times n w.todo
todo_still v w n s h = subst (λ (z : List ℕ). 1 ≤ times n z) (sym s.todo) h

-- the place below a cell
pub place_below : (v : View) (key d k : ℕ) → IsBelow v key d → k < 8 → KnowsPlace v (child_place d k) (8 * key + k)
place_below v key d k b l = inr (d, k, key, b.note, l, refl, refl)

pub descends_from : (u v w : View) (key d : ℕ) → IsStill u v → Descends v w key d → Descends u w key d
descends_from u v w key d s h = record { still = still_on u v w s h.still; below = h.below }

-- the pass goes on below the cell that a word names
pub descends_learnt : (u v w : View) (i key value d : ℕ) → IsStill u v → Learns v i key value w → value ≡ cell_word d → Descends u w key d
descends_learnt u v w i key value d s l e = record {
  still = still_on u v w s (still_learnt v i key value w l);
  below = (found_learnt v i key value w l (λ z. omega arith)).cell d e;
}

-- the word that was body x is a cell now
pub cell_instead : (v : View) (i key value x : ℕ) (w : View) → Learns v i key value w → Has v.body_notes (body_note i x) → value ≢ body_word x
    → (d : ℕ) × (value ≡ cell_word d)
cell_instead v i key value x w l n apart = elim (l.still x n) [ inl e ↦ absurd (apart e) | inr p ↦ p ]

pub inserted_from : (u v w : View) (n : ℕ) (cells : List ℕ) → IsStill u v → IsInserted v w n cells → IsInserted u w n cells
inserted_from u v w n cells s i = record {
  points = i.points ∙ s.points;
  opening = i.opening ∙ s.opening;
  long = i.long ∙ s.long;
  held = λ c. i.held c ∙ ap (times c) s.held;
  quota = i.quota ∙ s.quota;
  todo = i.todo ∙ ap (without_all (n ∷ [])) s.todo;
  done = i.done ∙ ap (λ (l : List ℕ). n ∷ l) s.done;
  seen = i.seen ∙ s.seen;
  changes = i.changes ∙ ap (λ (c : ℕ). c + 1) s.changes;
  locks = i.locks ∙ s.locks;
}

-- a publication of one body has put it in
pub inserted_published : (v w : View) (n : ℕ) (cells : List ℕ) → ((c : ℕ) → times c cells ≤ times c v.held)
    → w ≡ after_publication v cells (n ∷ []) → IsInserted v w n cells
inserted_published v w n cells among e = subst (λ (z : View). IsInserted v z n cells) (sym e)
    (record {
      points = refl;
      opening = refl;
      long = refl;
      held = times-without_all cells v.held among;
      quota = refl;
      todo = refl;
      done = refl;
      seen = refl;
      changes = refl;
      locks = refl;
    })

one_todo : (n : ℕ) (l : List ℕ) → 1 ≤ times n l → (x : ℕ) → times x (n ∷ []) ≤ times x l
one_todo n l h x = elim (same_or_not n x) [
  | inl e ↦ let q : 1 ≤ times x l = subst (λ (z : ℕ). 1 ≤ times z l) e h in omega (arith, same-eq n x e)
  | inr d ↦ omega (arith, same-ne n x d)
]

-- a body may take the place of an empty word
pub ready_alone : (v : View) (sites : List Site) (n level word : ℕ) → v.points ≡ sites → level ≤ LEVELS → 1 ≤ times n v.todo → word ≡ body_word n
    → IsReadyFor v (key_of (site_at sites n) level) 0 word [] (n ∷ [])
ready_alone v sites n level word p l h is = record {
  held = λ c. omega arith;
  todo = one_todo n v.todo h;
  no_cell = λ d e. absurd (omega arith);
  grows = λ x e. absurd (omega arith);
  stands =
      subst (λ (z : ℕ). StandsFor (site_at v.points) (at_of v.memory) z (key_of (site_at sites n) level) (IsIn []) (IsPutOrNamed (n ∷ []) 0)) (sym is)
      (stands_same (site_at v.points) (at_of v.memory) (body_word n) (key_of (site_at sites n) level) Nothing (IsIn []) (Only n) (IsPutOrNamed (n ∷ []) 0)
      (λ c. ((λ q. q), (λ q. q)))
      (λ m. ((λ q. inl (inl q)), (λ q. elim q [ inl a ↦ elim a [ inl e ↦ e | inr b ↦ absurd b ] | inr e ↦ absurd (omega arith) ])))
      (stands_body (site_at v.points) (at_of v.memory) (key_of (site_at sites n) level) n (Only n)
      (level, l, ap (λ (z : List Site). key_of (site_at z n) level) (sym p))));
}

-- cells may take the place of a body that stands in them with another
pub ready_over : (v : View) (sites : List Site) (x n key old new top : ℕ) (cells : List ℕ) → v.points ≡ sites
    → ((c : ℕ) → times c cells ≤ times c v.held) → 1 ≤ times n v.todo → old ≡ body_word x → new ≡ cell_word top
    → StandsFor (site_at sites) (at_of v.memory) (cell_word top) key (IsIn cells) (IsOneOf x n) → IsReadyFor v key old new cells (n ∷ [])
ready_over v sites x n key old new top cells p among h is_old is_new stands = record {
  held = among;
  todo = one_todo n v.todo h;
  no_cell = λ d e. absurd (omega arith);
  grows = λ y e. (top, is_new);
  stands = subst (λ (z : List Site). StandsFor (site_at z) (at_of v.memory) new key (IsIn cells) (IsPutOrNamed (n ∷ []) old)) (sym p)
      (subst (λ (z : ℕ). StandsFor (site_at sites) (at_of v.memory) z key (IsIn cells) (IsPutOrNamed (n ∷ []) old)) (sym is_new)
      (stands_same (site_at sites) (at_of v.memory) (cell_word top) key (IsIn cells) (IsIn cells) (IsOneOf x n) (IsPutOrNamed (n ∷ []) old)
      (λ c. ((λ q. q), (λ q. q)))
      (λ m. (
        (λ q. elim q [ inl e ↦ inr (is_old ∙ ap body_word (sym e)) | inr e ↦ inl (inl e) ]),
        (λ q. elim q [ inl a ↦ elim a [ inl e ↦ inr e | inr b ↦ absurd b ] | inr e ↦ inl (omega (arith, e, is_old)) ]),
      )) stands));
}

-- cells may take the place of an empty word, where they stand for bodies of the todo list
pub ready_part : (v : View) (sites : List Site) (key new top : ℕ) (cells bodies : List ℕ) → v.points ≡ sites
    → ((c : ℕ) → times c cells ≤ times c v.held) → ((x : ℕ) → times x bodies ≤ times x v.todo) → new ≡ cell_word top
    → StandsFor (site_at sites) (at_of v.memory) (cell_word top) key (IsIn cells) (IsIn bodies) → IsReadyFor v key 0 new cells bodies
ready_part v sites key new top cells bodies p among entrusted is stands = record {
  held = among;
  todo = entrusted;
  no_cell = λ d e. absurd (omega arith);
  grows = λ y e. absurd (omega arith);
  stands = subst (λ (z : List Site). StandsFor (site_at z) (at_of v.memory) new key (IsIn cells) (IsPutOrNamed bodies 0)) (sym p)
      (subst (λ (z : ℕ). StandsFor (site_at sites) (at_of v.memory) z key (IsIn cells) (IsPutOrNamed bodies 0)) (sym is)
      (stands_same (site_at sites) (at_of v.memory) (cell_word top) key (IsIn cells) (IsIn cells) (IsIn bodies) (IsPutOrNamed bodies 0)
      (λ c. ((λ q. q), (λ q. q))) (λ m. ((λ q. inl q), (λ q. elim q [ inl a ↦ a | inr e ↦ absurd (omega arith) ]))) stands));
}

-- the first of the ready cells are the pass's
pub some_held : (v : View) (words : ℕ) (spare : List ℕ) (used : ℕ) → IsReady v words spare → (c : ℕ) → times c (take used spare) ≤ times c v.held
some_held v words spare used r c = let a = r.held c in let b = times_take c used spare in omega arith

-- the body that was found and a body of the todo list are a pair in the word's cube
pub meets : (v : View) (sites : List Site) (x n level : ℕ) → ArePoints sites → v.points ≡ sites → 1 ≤ times n v.todo → n < length sites → level ≤ LEVELS
    → FoundBody v (key_of (site_at sites n) level) x → ArePair sites x n (key_of (site_at sites n) level) level
meets v sites x n level rule p h n_in low f =
    let u : IsUnder (key_of (site_at sites n) level) (site_at sites x) =
    subst (λ (z : List Site). IsUnder (key_of (site_at sites n) level) (site_at z x)) p f.under in
    let l : u.0 ≡ level = same_level (site_at sites x) (site_at sites n) u.0 level (sym u.2) in
    let x_in : x < length sites = (let q = f.x_in in subst (λ (z : List Site). x < length z) p q) in
    let differ : x ≢ n = λ e. let q = f.not_todo in let g : times n v.todo ≡ 0 = subst (λ (z : ℕ). times z v.todo ≡ 0) e q in omega arith in
    let x_under : key_of (site_at sites n) level ≡ key_of (site_at sites x) level = u.2 ∙ ap (key_of (site_at sites x)) l in
    record {
      shallow = omega (arith, level_shallow sites x n level rule x_in n_in differ low (sym x_under));
      x_in = x_in;
      n_in = n_in;
      differ = differ;
      x_under = x_under;
      n_under = refl;
    }
