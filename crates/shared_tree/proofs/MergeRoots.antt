-- A private octree of the whole cube as the part from which a merge begins.
use Rattle.std.proofs.Common.{ℕ, ◌-◌, ◌<◌, ◌≤◌, ◌≡◌, ◌↔◌, refl, sym, ◌∙◌, ap, subst, inl, inr, arith, Bool, true, false, not, eqb, eq-eqb, List, []}
use Rattle.std.proofs.Common.{◌∷◌, length}
use Rattle.std.specs.List.{filter}
use Rattle.std.proofs.lemmas.Bool.{cases_lt}
use Rattle.octant_code.specs.declared.limits.TheConstants.{LEVELS}
use Rattle.octant_code.specs.Points.{site_at, ArePoints}
use Rattle.octant_code.specs.Space.{Site}
use Rattle.octant_code.proofs.Keys.{key-zero}
use Rattle.bh_model.specs.Bodies.{IsIn, NoneTwice}
use Rattle.bh_model.specs.Trees.{Tree, octree_from, order}
use Rattle.bh_model.proofs.Equal.{not-eqb, same_or_not}
use Rattle.bh_model.proofs.Lists.{filter-keeps, filter-member, none_twice-filter}
use Rattle.bh_model.proofs.Orders.{order_has_none_twice}
use Rattle.octree.specs.Spot.{Spot as PartSpot, tree_under}
use Rattle.octree.specs.Stored.{IsCanonical, IsStored, Stored, tree_of, word_count}
use Rattle.octree.proofs.Laws.{whole_level}
use Rattle.tree_rule.specs.Words.{HasBody}
use Rattle.tree_rule.specs.declared.words.TheConstants.{MOST_CELLS, POOL_PLACE, ROOT_LOCK}
use Rattle.tree_passes.specs.declared.view.View.{View}
use Rattle.tree_passes.specs.Counting.{times}
use Rattle.tree_passes.specs.Locks.{OfRoot}
use Rattle.tree_passes.proofs.Laws.{once_times, times_in}
use Rattle.shared_tree.specs.Copying.{bodies_under}
use Rattle.shared_tree.specs.Merging.{IsPartIn}
use Rattle.shared_tree.proofs.Sought.{true_not_false}

-- the list with each member once
unique : List ℕ → List ℕ
unique [] = []
unique (x ∷ xs) = x ∷ filter (λ n. not (eqb n x)) (unique xs)

unique_in : (l : List ℕ) (m : ℕ) → IsIn l m ↔ IsIn (unique l) m
unfolding unique
unique_in [] m = ((λ i. i), (λ i. i))
unique_in (x ∷ xs) m = (
  λ i. elim i [
    | inl e ↦ inl e
    | inr j ↦ elim (same_or_not m x) [
      | inl e ↦ inl e
      | inr o ↦ inr (filter-keeps (λ n. not (eqb n x)) (unique xs) m ((unique_in xs m).0 j) (ap not (not-eqb m x o)))
    ]
  ],
  λ i. elim i [ inl e ↦ inl e | inr j ↦ inr ((unique_in xs m).1 (filter-member (λ n. not (eqb n x)) (unique xs) m j).0) ],
)

unique_once : (l : List ℕ) → NoneTwice (unique l)
unfolding unique
unique_once [] = tt
unique_once (x ∷ xs) = (
  λ i.
      let f = (filter-member (λ n. not (eqb n x)) (unique xs) x i).1 in
      true_not_false (sym (eq-eqb x x refl) ∙ flipped (eqb x x) f),
  none_twice-filter (λ n. not (eqb n x)) (unique xs) (unique_once xs),
)
  where
    flipped : (b : Bool) → not b ≡ true → b ≡ false
    flipped true e = sym e
    flipped false e = refl

-- A tree that is the canonical one of any list of its bodies has none twice, and is that of its order.
pub tree_once : (sites : List Site) (t : Tree)
    → ((bodies : List ℕ) → NoneTwice bodies → ((m : ℕ) → IsIn (order t) m ↔ IsIn bodies m) → t ≡ octree_from (site_at sites) LEVELS 0 bodies)
    → NoneTwice (order t)
tree_once sites t canonical =
    subst (λ (z : Tree). NoneTwice (order z)) (sym (canonical (unique (order t)) (unique_once (order t)) (unique_in (order t))))
    (order_has_none_twice (site_at sites) (unique (order t)))

-- so has an octree of the whole cube
pub whole_once : (sites : List Site) (o : Stored) → IsStored o → o.base ≡ 1
    → ((bodies : List ℕ) → NoneTwice bodies → ((m : ℕ) → IsIn (order (tree_of o)) m ↔ IsIn bodies m)
    → tree_of o ≡ octree_from (site_at sites) (LEVELS - o.level) o.level bodies)
    → NoneTwice (order (tree_of o))
whole_once sites o stored base canonical =
    tree_once sites (tree_of o)
    (λ bodies once is.
    subst (λ (l : ℕ). tree_of o ≡ octree_from (site_at sites) (LEVELS - l) l bodies) (whole_level o stored base) (canonical bodies once is))

-- the whole octree is a part at the root's word
pub root_in : (v : View) (words : ℕ) (sites : List Site) (o : Stored) (s : PartSpot) → tree_under s ≡ tree_of o → IsStored o → o.base ≡ 1
    → IsCanonical sites o
    → ((bodies : List ℕ) → NoneTwice bodies → ((m : ℕ) → IsIn (order (tree_of o)) m ↔ IsIn bodies m)
    → tree_of o ≡ octree_from (site_at sites) (LEVELS - o.level) o.level bodies)
    → ((n : ℕ) → IsIn (order (tree_of o)) n ↔ HasBody o.words n) → ArePoints sites → v.points ≡ sites → length v.memory ≡ words → POOL_PLACE < words
    → words ≤ word_count MOST_CELLS → (v.locks ≡ []) × (v.under ≡ []) → ((x : ℕ) → HasBody o.words x → 1 ≤ times x v.todo)
    → IsPartIn v words sites s 1 (record { word = 0; lock = ROOT_LOCK; level = 0 })
root_in v words sites o s tree stored base canon canonical members rule points long some few free todo =
    let level : o.level ≡ 0 = whole_level o stored base in
    let same : bodies_under s ≡ order (tree_of o) = ap order tree in
    let whole : (bodies : List ℕ) → NoneTwice bodies → ((m : ℕ) → IsIn (order (tree_of o)) m ↔ IsIn bodies m)
    → tree_of o ≡ octree_from (site_at sites) LEVELS 0 bodies =
    λ bodies once is. subst (λ (l : ℕ). tree_of o ≡ octree_from (site_at sites) (LEVELS - l) l bodies) level (canonical bodies once is) in
    let once : NoneTwice (order (tree_of o)) = tree_once sites (tree_of o) whole in
    let member : (n : ℕ) → IsIn (bodies_under s) n → HasBody o.words n = λ n i. (members n).0 (subst (λ (l : List ℕ). IsIn l n) same i) in
    let once_under : NoneTwice (bodies_under s) = subst NoneTwice (sym same) once in
    record {
      points = points;
      long = long;
      some = some;
      few = few;
      rule = rule;
      part = record {
        low = omega arith;
        tree = tree ∙ whole (order (tree_of o)) once (λ m. ((λ i. i), (λ i. i))) ∙ ap (octree_from (site_at sites) LEVELS 0) (sym same);
        once = once_under;
        bodies_in = λ n i. canon.bodies_in n (member n i);
        under = λ n i. sym (key-zero (site_at sites n));
      };
      todo = λ x. elim (cases_lt 0 (times x (bodies_under s))) [
        | inl l ↦
            let one = once_times (bodies_under s) once_under x in
            let put = todo x (member x (times_in x (bodies_under s) (omega arith))) in
            omega arith
        | inr l ↦ omega arith
      ];
      spot = record { inside = omega arith; lock_inside = omega arith; lock_is = OfRoot refl refl };
      known = inl (refl, refl);
      no_lock = free.0;
      none_under = free.1;
    }
