-- The octree of some of the points.
use Rattle.std.proofs.Common.{ℕ, ◌+◌, ◌*◌, ◌<◌, ◌≤◌, ◌≡◌, ◌↔◌, ◌-◌, sym, ◌∙◌, ap, inl, inr, arith, List, get_or, length, map}
use Rattle.std.proofs.lemmas.Bool.{cases_lt}
use Rattle.std.proofs.lemmas.List.{get_or-map, length-map}
use Rattle.octant_code.specs.Space.{IsUnder, Site}
use Rattle.octant_code.proofs.Keys.{key-zero}
use Rattle.bh_model.proofs.Lists.{in_numbers, numbers_once}
use Rattle.bh_model.specs.Bodies.{IsIn, NoneTwice, numbers}
use Rattle.bh_model.specs.Trees.{octree, octree_from, order}
use Rattle.octant_code.specs.Points.{site_at}
use Rattle.octree.proofs.Subtrees.{bodies_of_tree}
use Rattle.octree.proofs.WholeWords.{whole_level}
use Rattle.octree.proofs.ReadWords.{reached_blank}
use Rattle.octree.proofs.Rooms.{roomier_bodies, roomier_canonical}
use Rattle.octree.specs.Ranks.{HasEachOnce, IsAmong}
use Rattle.octree.specs.Stored.{IsCanonical, IsInserted, IsRoomier, IsStored, Stored, tree_of}
use Rattle.tree_rule.proofs.Laws.{forget}
use Rattle.tree_rule.specs.Words.{HasBody, at_of, body_word}

-- An octree of the whole cube holds the first bodies of a list that has each body once.
pub record IsBuilt (sites : List Site) (list : List ℕ) (o : Stored) (i : ℕ) : Type 0 where
  pub each : HasEachOnce (length sites) list
  pub canonical : IsCanonical sites o
  pub bodies : (m : ℕ) → HasBody o.words m ↔ IsAmong list i m
  pub base : o.base ≡ 1
  pub used : o.used ≤ 21 * i

-- an octree with no body is canonical
pub empty_canonical : (sites : List Site) (o : Stored) → at_of o.words 0 ≡ 0 → IsCanonical sites o
empty_canonical sites o e =
    let none : (m : ℕ) → HasBody o.words m → ⊥ = λ m r. omega (arith, reached_blank (at_of o.words) (at_of o.words 0) (body_word m) e r) in
    record {
      under = λ key n r. absurd (none n (forget (at_of o.words) (at_of o.words 0) o.base key (body_word n) r));
      bodies_in = λ n r. absurd (none n r);
    }

-- the empty octree holds none
pub built_none : (sites : List Site) (list : List ℕ) (o : Stored) → HasEachOnce (length sites) list → at_of o.words 0 ≡ 0 → o.base ≡ 1 → o.used ≡ 0
    → IsBuilt sites list o 0
built_none sites list o each e b u =
    record {
      each = each;
      canonical = empty_canonical sites o e;
      bodies = λ m. (
        (λ r. absurd (omega (arith, reached_blank (at_of o.words) (at_of o.words 0) (body_word m) e r))),
        (λ f. absurd (omega (arith, f.1))),
      );
      base = b;
      used = omega arith;
    }

module _ (sites : List Site) (list : List ℕ) (o next : Stored) (i : ℕ) (h : IsBuilt sites list o i) where
  -- more room changes nothing
  pub built_roomier : IsRoomier o next → IsBuilt sites list next i
  built_roomier r = record {
    each = h.each;
    canonical = roomier_canonical sites o next r h.canonical;
    bodies = λ m. ((λ b. (h.bodies m).0 ((roomier_bodies o next m r).0 b)), (λ l. (roomier_bodies o next m r).1 ((h.bodies m).1 l)));
    base = r.base_stays ∙ h.base;
    used = omega (arith, r.used_stays, h.used);
  }

  -- one more body
  pub built_more : (n : ℕ) → n ≡ get_or list i 0 → IsCanonical sites next → IsInserted n o next → IsBuilt sites list next (i + 1)
  built_more n is c s = record {
    each = h.each;
    canonical = c;
    bodies = λ m. (
      (λ r. elim ((s.bodies m).0 r) [
        | inl q ↦ let f = (h.bodies m).0 q in (f.0, omega (arith, f.1), f.2)
        | inr e ↦ (i, omega arith, sym is ∙ sym e)
      ]),
      (λ f. (s.bodies m).1 (elim (cases_lt f.0 i) [
        | inl l ↦ inl ((h.bodies m).1 (f.0, l, f.2))
        | inr g ↦ inr (sym f.2 ∙ ap (λ k. get_or list k 0) (let last : f.0 ≡ i = omega (arith, f.1, g) in last) ∙ sym is)
      ])),
    );
    base = s.base_stays ∙ h.base;
    used = omega (arith, s.used_few, h.used);
  }

-- the next body, by its rank
pub record IsNext (sites : List Site) (list : List ℕ) (o : Stored) (i n : ℕ) : Type 0 where
  pub is : n ≡ get_or list i 0
  pub fresh : HasBody o.words n → ⊥
  pub inside : n < length sites

pub next_body : (sites : List Site) (f : ℕ → ℕ) (ranks : List ℕ) (o : Stored) (i n : ℕ) → IsBuilt sites (map f ranks) o i → i < length ranks
    → n ≡ f (get_or ranks i 0) → IsNext sites (map f ranks) o i n
next_body sites f ranks o i n h l e =
    let is : n ≡ get_or (map f ranks) i 0 = e ∙ sym (get_or-map f ranks i 0 0 l) in
    let m : i < length sites = omega (arith, l, length-map ranks f, h.each.many) in
    record {
      is = is;
      fresh = λ b. let g = (h.bodies n).0 b in h.each.once g.0 i g.1 m (g.2 ∙ is);
      inside = omega (arith, h.each.below i m, is);
    }

-- every point lies in the whole cube
pub under_whole : (s : Site) (base : ℕ) → base ≡ 1 → IsUnder base s
under_whole s base e = (0, omega arith, e ∙ sym (key-zero s))

-- where all points were inserted, the tree is the canonical octree of their numbers
pub built_tree : (sites : List Site) (list : List ℕ) (o : Stored) (i : ℕ) → IsStored o → IsBuilt sites list o i → length list ≤ i
    → ((bodies : List ℕ) → NoneTwice bodies → ((m : ℕ) → IsIn (order (tree_of o)) m ↔ IsIn bodies m)
    → tree_of o ≡ octree_from (site_at sites) (21 - o.level) o.level bodies)
    → tree_of o ≡ octree (site_at sites) (numbers (length sites))
built_tree sites list o i stored h e tree =
    let all = numbers (length sites) in
    let members : (m : ℕ) → IsIn (order (tree_of o)) m ↔ IsIn all m = λ m. (
      (λ b. (in_numbers (length sites) m).1 (h.canonical.bodies_in m ((bodies_of_tree o stored m).0 b))),
      (λ b. (bodies_of_tree o stored m).1 ((h.bodies m).1
          (let f = h.each.all m ((in_numbers (length sites) m).0 b) in (f.0, omega (arith, f.1, e, h.each.many), f.2)))),
    ) in
    tree all (numbers_once (length sites)) members ∙ ap (λ l. octree_from (site_at sites) (21 - l) l all) (whole_level o stored h.base)
