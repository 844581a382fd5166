-- A split and a join of passes keep what both rules share.
use Rattle.std.proofs.Common.{◌≡◌, ◌≢◌, ℕ, ◌+◌, ◌≤◌, List, [], ◌∷◌, ◌++◌, length, set, ap, ◌∙◌, subst, ⊎_elim, arith}
use mathlib.Core.Option.{some}
use mathlib.Core.Logic.{dite}
use native.Mathlib.Decide.{ℕ_discrete}
use lib.ListN.{get_elem?}
use Rattle.atomic_table.specs.Table.{State}
use Rattle.atomic_table.proofs.Lists.{at_set, at_snoc}
use Rattle.octant_code.specs.Space.{Site}
use Rattle.tree_passes.specs.declared.view.View.{View}
use Rattle.tree_passes.specs.Counting.{sum_of, times}
use Rattle.tree_passes.specs.Opening.{Opening}
use Rattle.tree_passes.specs.Passes.{given_part, joined, kept_part, Knows, spent}
use Rattle.tree_passes.specs.Rule.{Kept, Parted}
use Rattle.tree_passes.proofs.Counts.{sum_of-append, sum_of-set, times-append, times-without_all}
use Rattle.tree_passes.proofs.After.{each_set, knows_less}
use Rattle.tree_passes.proofs.Looking.{met_body}

-- a sum over all views, after a split
pub split_total : (f : View → ℕ) (views : List View) (id : ℕ) (v left right : View) → get_elem? views id ≡ some v
    → sum_of f (set views id left ++ right ∷ []) + f v ≡ sum_of f views + (f left + f right)
split_total f views id v left right at =
    let a = sum_of-set f views id v left at in
    let b = sum_of-append f (set views id left) (right ∷ []) in
    omega arith

-- and after a join
pub join_total : (f : View → ℕ) (views : List View) (id other : ℕ) (v u both gone : View) → get_elem? views id ≡ some v
    → get_elem? (set views id both) other ≡ some u
    → sum_of f (set (set views id both) other gone) + (f v + f u) ≡ sum_of f views + (f both + f gone)
join_total f views id other v u both gone at there =
    let a = sum_of-set f views id v both at in
    let b = sum_of-set f (set views id both) other u gone there in
    omega arith

-- what holds of each view, after a split
pub each_split : (P : View → Type 0) (views : List View) (id : ℕ) (left right : View) → ((j : ℕ) (u : View) → get_elem? views j ≡ some u → P u)
    → P left → P right
    → (j : ℕ) (u : View) → get_elem? (set views id left ++ right ∷ []) j ≡ some u → P u
each_split P views id left right each first second j u e =
    ⊎_elim
    (λ (q : get_elem? (set views id left) j ≡ some u). each_set (λ _ u. P u) views id left (λ j u _ e. each j u e) first j u q)
    (λ (q : right ≡ u). subst P q second)
    (at_snoc (set views id left) right u j e)

-- and after a join
pub each_join : (P : View → Type 0) (views : List View) (id other : ℕ) (both gone : View) → ((j : ℕ) (u : View) → get_elem? views j ≡ some u → P u)
    → P both → P gone
    → (j : ℕ) (u : View) → get_elem? (set (set views id both) other gone) j ≡ some u → P u
each_join P views id other both gone each first second =
    each_set (λ _ u. P u) (set views id both) other gone (λ j w _ e. each_set (λ _ u. P u) views id both (λ j u _ e. each j u e) first j w e) second

-- the pass that is taken in stood there before
pub was_there : (views : List View) (id other : ℕ) (both u : View) → ¬ (other ≡ id) → get_elem? (set views id both) other ≡ some u
    → get_elem? views other ≡ some u
was_there views id other both u apart there =
    ⊎_elim (λ (t : (other ≡ id) × (both ≡ u)). absurd (apart t.0)) (λ (t : (other ≢ id) × (get_elem? views other ≡ some u)). t.1)
    (at_set views id other both u there)

-- the rule with other views, where the words stay
with_views : (o : Opening) (s : State (Unit {0}) View) (h : Kept o s) (views : List View) → Parted o h.cells h.bodies views
    → ((id : ℕ) (v : View) → get_elem? views id ≡ some v → Knows o s.words h.cells h.bodies v)
    → Kept o record { words = s.words; homes = s.homes; views = views }
with_views o s h views p k = record {
  cells = h.cells;
  bodies = h.bodies;
  opened = h.opened;
  long = h.long;
  stand = h.stand;
  inside = h.inside;
  keys_stay = h.keys_stay;
  parted = p;
  knows = k;
}

pub kept_split : (o : Opening) (s : State (Unit {0}) View) (h : Kept o s) (id : ℕ) (v : View) (cells bodies : List ℕ) (quota : ℕ)
    → ((c : ℕ) → times c cells ≤ times c v.held) → ((x : ℕ) → times x bodies ≤ times x v.todo) → get_elem? s.views id ≡ some v
    → Kept o record { words = s.words; homes = s.homes; views = set s.views id (kept_part cells bodies quota v) ++ given_part cells bodies quota v ∷ [] }
kept_split o s h id v cells bodies quota own among at =
    let left = kept_part cells bodies quota v in
    let right = given_part cells bodies quota v in
    let k = h.knows id v at in
    let total = λ (f : View → ℕ). split_total f s.views id v left right at in
    with_views o s h (set s.views id left ++ right ∷ []) (record {
      cells_are = λ c. let t = h.parted.cells_are c in let z = total (λ (u : View). times c u.published) in omega arith;
      bodies_are = λ x. let t = h.parted.bodies_are x in let z = total (λ (u : View). times x u.done) in omega arith;
      entrusted = λ x.
          let t = h.parted.entrusted x in
          let z = total (λ (u : View). times x u.todo + times x u.done) in
          let b = times-without_all bodies v.todo among x in
          omega arith;
      cells_once = λ c.
          let t = h.parted.cells_once c in
          let z = total (λ (u : View). times c u.published + times c u.held) in
          let b = times-without_all cells v.held own c in
          omega arith;
      cells_fresh = λ c p.
          let t = h.parted.cells_fresh c p in
          let z = total (λ (u : View). times c u.published + times c u.held) in
          let b = times-without_all cells v.held own c in
          omega arith;
    })
    (each_split (λ u. Knows o s.words h.cells h.bodies u) s.views id left right h.knows
    (knows_less (λ c. let b = times-without_all cells v.held own c in omega arith) k.under k)
    (record {
      points = k.points;
      opening = k.opening;
      long = k.long;
      memory = λ c l q. k.memory c l (let b = own c in omega arith);
      inside = λ c q. k.inside c (let b = own c in omega arith);
      cell_notes = λ c key q. absurd q;
      body_notes = λ i x q. absurd q;
      under = λ i x q. absurd q;
      seen = λ x q. met_body o s h id v at x (let a = times-append x v.done v.seen in omega arith);
    }))

pub kept_join : (o : Opening) (s : State (Unit {0}) View) (h : Kept o s) (id : ℕ) (v : View) (other : ℕ) (u : View) (points : List Site)
    (bodies memory : List ℕ) → points ≡ v.points → bodies ≡ v.bodies → memory ≡ v.memory → get_elem? s.views id ≡ some v → ¬ (other ≡ id)
    → get_elem? (set s.views id (joined v u)) other ≡ some u
    → Kept o record { words = s.words; homes = s.homes; views = set (set s.views id (joined v u)) other (spent points bodies memory) }
kept_join o s h id v other u points bodies memory same_points same_bodies same_memory at apart there =
    let both = joined v u in
    let gone = spent points bodies memory in
    let k = h.knows id v at in
    let l = h.knows other u (was_there s.views id other both u apart there) in
    let total = λ (f : View → ℕ). join_total f s.views id other v u both gone at there in
    with_views o s h (set (set s.views id both) other gone) (record {
      cells_are = λ c.
          let t = h.parted.cells_are c in
          let z = total (λ (u : View). times c u.published) in
          let a = times-append c v.published u.published in
          omega arith;
      bodies_are = λ x.
          let t = h.parted.bodies_are x in let z = total (λ (u : View). times x u.done) in let a = times-append x v.done u.done in omega arith;
      entrusted = λ x.
          let t = h.parted.entrusted x in
          let z = total (λ (u : View). times x u.todo + times x u.done) in
          let a = times-append x v.done u.done in
          let b = times-append x v.todo u.todo in
          omega arith;
      cells_once = λ c.
          let t = h.parted.cells_once c in
          let z = total (λ (u : View). times c u.published + times c u.held) in
          let a = times-append c v.published u.published in
          omega arith;
      cells_fresh = λ c p.
          let t = h.parted.cells_fresh c p in
          let z = total (λ (u : View). times c u.published + times c u.held) in
          let a = times-append c v.published u.published in
          omega arith;
    })
    (each_join (λ u. Knows o s.words h.cells h.bodies u) s.views id other both gone h.knows
    (record {
      points = k.points;
      opening = k.opening;
      long = k.long;
      memory = k.memory;
      inside = k.inside;
      cell_notes = k.cell_notes;
      body_notes = k.body_notes;
      under = k.under;
      seen = λ x q. dite (ℕ_discrete (times x v.seen) 0)
          (λ z. l.seen x (let a = times-append x v.seen u.seen in omega arith))
          (λ z. k.seen x (omega arith));
    })
    (record {
      points = same_points ∙ k.points;
      opening = same_bodies ∙ k.opening;
      long = ap length same_memory ∙ k.long;
      memory = λ c j q. absurd (omega arith);
      inside = λ c q. absurd (omega arith);
      cell_notes = λ c key q. absurd q;
      body_notes = λ i x q. absurd q;
      under = λ i x q. absurd q;
      seen = λ x q. absurd (omega arith);
    }))
