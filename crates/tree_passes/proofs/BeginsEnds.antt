-- The rules at the start, and what they say at the end.
use Rattle.std.proofs.Common.{◌≡◌, ◌≢◌, ℕ, zero, suc, ◌+◌, ◌<◌, ◌↔◌, List, [], ◌∷◌, length, set, sym, refl, ap, ◌∙◌, subst, inl, inr, arith}
use Rattle.std.proofs.Common.{length-set, get_or-set_same, get_or-set_other}
use Rattle.std.proofs.lemmas.Bool.{cases_lt}
use Rattle.std.proofs.lemmas.List.{get_or_past}
use mathlib.Core.Option.{some, some-injective, some-ne-none}
use mathlib.Core.Logic.{dite}
use native.Mathlib.Decide.{ℕ_discrete}
use lib.ListN.{get_elem?}
use Rattle.atomic_table.specs.Table.{State, opening, Final, Seen}
use Rattle.octant_code.specs.Space.{Site}
use Rattle.octant_code.specs.Points.{site_at}
use Rattle.tree_rule.specs.Words.{at_of, child_place, key_place, lock_place, HasBody, HasCell}
use Rattle.tree_rule.specs.Flat.{StandsFor}
use Rattle.tree_rule.specs.Locks.{AreUnlocked}
use Rattle.tree_rule.proofs.Laws.{body_reached, cell_reached, sound_of_stands, stands_moved, stands_of_sound, stands_same}
use Rattle.octree.specs.Stored.{AreOctreeWords, word_count}
use Rattle.tree_rule.specs.declared.words.TheConstants.{POOL_PLACE}
use Rattle.tree_passes.specs.declared.view.View.{View}
use Rattle.tree_passes.specs.declared.view.Writing.{Writing}
use Rattle.tree_passes.specs.declared.view.Writing.TheVariants.{ByExchange, UnderLocks}
use Rattle.tree_passes.specs.Counting.{times}
use Rattle.tree_passes.specs.Opening.{Opening, fresh_view}
use Rattle.tree_passes.specs.Passes.{IsBody, IsCell, Knows}
use Rattle.tree_passes.specs.Rule.{Free, Kept}
use Rattle.tree_passes.specs.Rules.{RuleOf}
use Rattle.tree_passes.specs.Locks.{CellsLock, Holds, IsLock, Locked, RootsLock}
use Rattle.tree_passes.specs.Ends.{AreGivenOut, CanOpen, CanPool, IsClosed, NoneLocked}
use Rattle.tree_passes.proofs.Counts.{in_times, once_times, sum_of-add, sum_of_none, sum_of_one, times_in}
use Rattle.tree_passes.proofs.Looking.{body_in}
use Rattle.tree_passes.proofs.BothRules.{kept_of}

-- what holds of the one view at the start
one_view : (P : View → Type 0) (v : View) → P v → (id : ℕ) (u : View) → get_elem? (v ∷ []) id ≡ some u → P u
one_view P v p zero u e = subst P (some-injective v u e) p
one_view P v p (suc id) u e = absurd (some-ne-none u (sym e))

-- the table begins with words in which only the pool word may be another than in the start
module _ (sites : List Site) (words todo held : List ℕ) (quota : ℕ) (h : CanOpen sites words todo held) (ws : List ℕ) (long : length ws ≡ length words)
    (same : (i : ℕ) → i ≢ POOL_PLACE → at_of ws i ≡ at_of words i) where
  abbrev o : Opening
  o = record { sites = sites; words = words; todo = todo }

  abbrev none : ℕ → ℕ
  none c = 0

  abbrev v : View
  v = fresh_view o held quota todo

  start : StandsFor (site_at sites) (at_of words) (at_of words 0) 1 (HasCell words) (HasBody words)
  start = stands_of_sound (site_at sites) (at_of words) (at_of words 0) 1 (omega arith) h.octree.sound h.under

  stand : StandsFor (site_at sites) (at_of ws) (at_of ws 0) 1 (IsCell o none) (IsBody o none)
  stand = stands_same (site_at sites) (at_of ws) (at_of ws 0) 1 (HasCell words) (IsCell o none) (HasBody words) (IsBody o none)
      (λ c. ((λ p. inl p), (λ p. elim p [ inl q ↦ q | inr q ↦ absurd (omega arith) ])))
      (λ c. ((λ p. inl p), (λ p. elim p [ inl q ↦ q | inr q ↦ absurd (omega arith) ])))
      (subst (λ (z : ℕ). StandsFor (site_at sites) (at_of ws) z 1 (HasCell words) (HasBody words)) (sym (same 0 (λ e. omega arith)))
      (stands_moved (site_at sites) (at_of words) (at_of ws) (at_of words 0) 1 (HasCell words) (HasBody words)
      (λ c p. same (key_place c) (λ e. omega arith)) (λ c k p l. same (child_place c k) (λ e. omega arith)) start))

  pub kept_begins : Kept o (opening ws [] v)
  kept_begins = record {
    cells = none;
    bodies = none;
    opened = record {
      points = h.points;
      cells = h.octree.cells;
      few = h.octree.few;
      long = h.octree.long;
      stand = start;
      start_in = h.start_in;
      todo_in = λ x p. h.todo_in x (times_in x todo p);
      todo_once = λ x. once_times todo h.todo_once x;
      todo_fresh = λ x p. h.todo_fresh x (times_in x todo p);
    };
    long = long;
    stand = stand;
    inside = λ c p. elim p [ inl q ↦ (let t = h.octree.cells_held c q in let l = h.octree.long in omega arith) | inr q ↦ absurd (omega arith) ];
    keys_stay = λ c p. same (key_place c) (λ e. omega arith);
    parted = record {
      cells_are = λ c. omega arith;
      bodies_are = λ x. omega arith;
      entrusted = λ x. omega arith;
      cells_once = λ c. let t = once_times held h.held_once c in omega arith;
      cells_fresh = λ c p. dite (ℕ_discrete (times c held) 0) (λ z. omega arith) (λ z. absurd (h.held_fresh c (times_in c held (omega arith)) p));
    };
    knows = one_view (λ u. Knows o ws none none u) v (record {
      points = refl;
      opening = refl;
      long = sym long;
      memory = λ c j p l. same (child_place c j) (λ e. omega arith);
      inside = λ c p. let t = h.held_inside c (times_in c held p) in omega arith;
      cell_notes = λ c key p. absurd p;
      body_notes = λ i x p. absurd p;
      under = λ i x p. absurd p;
      seen = λ x p. absurd (omega arith);
    });
  }

-- how a tree without locks begins
pub free_begins : (sites : List Site) (words todo held : List ℕ) → CanOpen sites words todo held
    → Free (record { sites = sites; words = words; todo = todo }) (opening words []
    (fresh_view (record { sites = sites; words = words; todo = todo }) held 0 todo))
free_begins sites words todo held h = record {
  kept = kept_begins sites words todo held 0 h words refl (λ i n. refl);
  unlocked =
      let k = kept_begins sites words todo held 0 h words refl (λ i n. refl) in
      record {
        second = h.octree.unlocked.second;
        third = h.octree.unlocked.third;
        locks = λ c m. h.octree.unlocked.locks c (let a = k.opened.long in let b = h.octree.long in omega arith);
      };
}

-- how a tree with locks begins
pub locked_begins : (sites : List Site) (words todo held : List ℕ) (pool quota : ℕ) → CanOpen sites words todo held → CanPool words held pool quota
    → Locked (record { sites = sites; words = words; todo = todo })
    (opening (set words POOL_PLACE pool) [] (fresh_view (record { sites = sites; words = words; todo = todo }) held quota todo))
locked_begins sites words todo held pool quota h p =
    let ws : List ℕ = set words POOL_PLACE pool in
    let pool_now : at_of (set words POOL_PLACE pool) POOL_PLACE ≡ pool = get_or-set_same words POOL_PLACE pool 0 (let l = h.octree.long in omega arith) in
    record {
      kept = kept_begins sites words todo held quota h (set words POOL_PLACE pool) (length-set words POOL_PLACE pool)
          (λ i n. get_or-set_other words POOL_PLACE i pool 0 n);
      counted = λ w l. free_lock w l;
      one = λ w. omega arith;
      holds = one_view (λ u. Holds (set words POOL_PLACE pool) u) (fresh_view (record { sites = sites; words = words; todo = todo }) held quota todo) (record {
        few = omega arith;
        are_locks = λ w q. absurd (omega arith);
        under = λ i n q. absurd q;
        given = λ c q. let t = p.held_given c (times_in c held (omega arith)) in omega arith;
      });
      pool = length-set words POOL_PLACE pool ∙ p.sum ∙ ap word_count (omega arith);
      given = λ c q. let t = p.start_given c q in omega arith;
    }
  where
    free_lock : (w : ℕ) → IsLock w → at_of (set words POOL_PLACE pool) w ≡ 0 + 0
    free_lock w (RootsLock e) = get_or-set_other words POOL_PLACE w pool 0 (λ f. omega arith) ∙ ap (at_of words) e ∙ h.octree.unlocked.second
    free_lock w (CellsLock c e) = get_or-set_other words POOL_PLACE w pool 0 (λ f. omega arith) ∙ ap (at_of words) e ∙ elim (cases_lt c h.octree.cells) [
      | inl l ↦ h.octree.unlocked.locks c l
      | inr g ↦ get_or_past words (lock_place c) 0 (let l = h.octree.long in omega arith)
    ]

-- what a state says that keeps the rule, where a pass has all that was entrusted
pub closes : (o : Opening) (s : State (Unit {0}) View) → Kept o s → (id : ℕ) (v : View) → get_elem? s.views id ≡ some v
    → ((x : ℕ) → times x o.todo ≡ times x v.todo + times x v.done) → IsClosed o v.done v.seen s.words
closes o s h id v at all =
    let cells = cell_reached (site_at o.sites) (at_of s.words) (at_of s.words 0) 1 (IsCell o h.cells) (IsBody o h.bodies) h.stand in
    let bodies = body_reached (site_at o.sites) (at_of s.words) (at_of s.words 0) 1 (IsCell o h.cells) (IsBody o h.bodies) h.stand in
    let within : (x : ℕ) → HasBody s.words x → x < length o.sites = λ x p. body_in o s h x ((bodies x).1 p) in
    let done_all : (x : ℕ) → h.bodies x ≡ times x v.done = λ x.
    let d = h.parted.bodies_are x in
    let e = h.parted.entrusted x in
    let a = all x in
    let b = sum_of-add (λ (u : View). times x u.todo) (λ (u : View). times x u.done) s.views in
    let p = sum_of_one (λ (u : View). times x u.todo) s.views id v at in
    let q = sum_of_one (λ (u : View). times x u.done) s.views id v at in
    omega arith in
    record {
      cells = h.opened.cells;
      few = h.opened.few;
      long = h.long ∙ h.opened.long;
      stand = stands_same (site_at o.sites) (at_of s.words) (at_of s.words 0) 1 (IsCell o h.cells) (HasCell s.words) (IsBody o h.bodies) (HasBody s.words)
          cells bodies h.stand;
      cells_held = λ c p. let t = h.inside c ((cells c).1 p) in let l = h.long in let m = h.opened.long in omega arith;
      bodies_in = within;
      bodies_small = λ x p. let t = within x p in let f = h.opened.points.few in omega arith;
      bodies = λ x. (
        (λ p. elim ((bodies x).1 p) [ inl q ↦ inl q | inr q ↦ inr (times_in x v.done (let t = done_all x in omega arith)) ]),
        (λ p. (bodies x).0 (elim p [ inl q ↦ inl q | inr q ↦ inr (let a = in_times x v.done q in let t = done_all x in omega arith) ])),
      );
      seen_in = λ x p. (bodies x).0 ((h.knows id v at).seen x (in_times x v.seen p));
      cells_stay = λ c p. (cells c).0 (inl p);
      keys_stay = h.keys_stay;
    }

-- how a tree ends
pub ends : (k : Writing) (o : Opening) (id : ℕ) (v : View) (ws : List ℕ) (xs : List (Unit {0})) → Final (Seen (RuleOf k o) id v) ws xs
    → ((x : ℕ) → times x o.todo ≡ times x v.todo + times x v.done) → IsClosed o v.done v.seen ws
ends k o id v ws xs f all = subst (λ (z : List ℕ). IsClosed o v.done v.seen z) f.2 (closes o f.0 (kept_of k o f.0 f.1.0) id v f.1.1 all)

-- without locks none is set then
pub ends_unlocked : (k : Writing) (o : Opening) (id : ℕ) (v : View) (ws : List ℕ) (xs : List (Unit {0})) → Final (Seen (RuleOf k o) id v) ws xs
    → k ≡ ByExchange → NoneLocked ws
ends_unlocked k o id v ws xs f free = subst NoneLocked f.2
    (λ cells e. unlocked f.0 (subst (λ (z : Writing). RuleOf z o f.0) free f.1.0) cells e)
  where
    unlocked : (s : State (Unit {0}) View) → Free o s → NoneLocked s.words
    unlocked s h cells e = record {
      second = h.unlocked.second;
      third = h.unlocked.third;
      locks = λ c m. h.unlocked.locks c (let a = h.kept.opened.long in let b = h.kept.long in omega arith);
    }

-- under locks the cells that are reached were given out
pub ends_given : (k : Writing) (o : Opening) (id : ℕ) (v : View) (ws : List ℕ) (xs : List (Unit {0})) → Final (Seen (RuleOf k o) id v) ws xs
    → k ≡ UnderLocks → AreGivenOut ws
ends_given k o id v ws xs f locked = subst AreGivenOut f.2 (given f.0 (subst (λ (z : Writing). RuleOf z o f.0) locked f.1.0))
  where
    given : (s : State (Unit {0}) View) → Locked o s → AreGivenOut s.words
    given s h = record {
      within = let p = h.pool in omega arith;
      reached = λ c r.
          elim ((cell_reached (site_at o.sites) (at_of s.words) (at_of s.words 0) 1 (IsCell o h.kept.cells) (IsBody o h.kept.bodies) h.kept.stand c).1 r) [
            | inl begun ↦ h.given c begun
            | inr put ↦ elim (cases_lt c (at_of s.words POOL_PLACE)) [
              | inl l ↦ l
              | inr past ↦
                  let none_has = sum_of_none (λ (u : View). times c u.published) s.views
                  (λ j u e. dite (ℕ_discrete (times c u.published) 0) (λ z. z) (λ z. absurd (let g = (h.holds j u e).given c (omega arith) in omega arith))) in
                  absurd (let e = h.kept.parted.cells_are c in omega arith)
            ]
          ];
    }

-- closed words are those of an octree once no lock is set
pub octree_of_closed : (o : Opening) (done seen ws : List ℕ) (h : IsClosed o done seen ws) → AreUnlocked ws h.cells → AreOctreeWords ws
octree_of_closed o done seen ws h unlocked = record {
  cells = h.cells;
  few = h.few;
  long = h.long;
  unlocked = unlocked;
  sound = sound_of_stands (site_at o.sites) (at_of ws) (at_of ws 0) 1 (HasCell ws) (HasBody ws) h.stand;
  cells_held = h.cells_held;
  bodies_small = h.bodies_small;
}

-- words that agree in the root word and in the keys and the children of the cells that are read are closed as well
pub closed_moved : (o : Opening) (done seen ws us : List ℕ) → IsClosed o done seen ws → length us ≡ length ws → at_of us 0 ≡ at_of ws 0
    → ((c : ℕ) → HasCell ws c → at_of us (key_place c) ≡ at_of ws (key_place c))
    → ((c k : ℕ) → HasCell ws c → k < 8 → at_of us (child_place c k) ≡ at_of ws (child_place c k)) → IsClosed o done seen us
closed_moved o done seen ws us h long root keys children =
    let moved : StandsFor (site_at o.sites) (at_of us) (at_of us 0) 1 (HasCell ws) (HasBody ws) =
    subst (λ (z : ℕ). StandsFor (site_at o.sites) (at_of us) z 1 (HasCell ws) (HasBody ws)) (sym root)
    (stands_moved (site_at o.sites) (at_of ws) (at_of us) (at_of ws 0) 1 (HasCell ws) (HasBody ws) keys children h.stand) in
    let cells : (c : ℕ) → HasCell ws c ↔ HasCell us c = cell_reached (site_at o.sites) (at_of us) (at_of us 0) 1 (HasCell ws) (HasBody ws) moved in
    let bodies : (x : ℕ) → HasBody ws x ↔ HasBody us x = body_reached (site_at o.sites) (at_of us) (at_of us 0) 1 (HasCell ws) (HasBody ws) moved in
    record {
      cells = h.cells;
      few = h.few;
      long = long ∙ h.long;
      stand = stands_same (site_at o.sites) (at_of us) (at_of us 0) 1 (HasCell ws) (HasCell us) (HasBody ws) (HasBody us) cells bodies moved;
      cells_held = λ c p. h.cells_held c ((cells c).1 p);
      bodies_in = λ x p. h.bodies_in x ((bodies x).1 p);
      bodies_small = λ x p. h.bodies_small x ((bodies x).1 p);
      bodies = λ x. ((λ p. (h.bodies x).0 ((bodies x).1 p)), (λ p. (bodies x).0 ((h.bodies x).1 p)));
      seen_in = λ x p. (bodies x).0 (h.seen_in x p);
      cells_stay = λ c p. (cells c).0 (h.cells_stay c p);
      keys_stay = λ c p. keys c (h.cells_stay c p) ∙ h.keys_stay c p;
    }
