-- The octrees of all pieces may be put together, and give the octree of all bodies.
use Rattle.std.proofs.Common.{ℕ, ◌+◌, ◌-◌, ◌/◌, ◌^◌, ◌<◌, ◌≤◌, ◌≡◌, ◌≢◌, ◌↔◌, zero, suc, refl, sym, ◌∙◌, ap, subst, inl, inr, arith}
use Rattle.std.proofs.Common.{List, [], ◌∷◌, drop, get_or, length, map, take}
use Rattle.std.specs.Prelude.{Any}
use Rattle.std.proofs.Math.Nat.{div-le_self}
use Rattle.std.proofs.lemmas.Bool.{cases_lt}
use Rattle.std.proofs.lemmas.List.{get_or-map, length-drop, length-map, length-take-le}
use Rattle.std.proofs.lemmas.Option.{slice_get-get_or}
use Rattle.std.proofs.lemmas.Slice.Zip.{AllZip-long}
use Rattle.octant_code.specs.Points.{site_at}
use Rattle.octant_code.specs.Prefixes.{AreInTreeOrder, IsPrefix, IsProperPrefix}
use Rattle.octant_code.specs.Space.{Site, IsUnder}
use Rattle.octant_code.proofs.Nested.{off_twice}
use Rattle.bh_model.specs.Bodies.{HasMoreThan, IsIn, NoneTwice, leaf_size, numbers}
use Rattle.bh_model.specs.Pieces.{cubes_from, octants_of}
use Rattle.bh_model.specs.Trees.{octree_from, order}
use Rattle.bh_model.proofs.Cells.{under_root}
use Rattle.bh_model.proofs.Lists.{in_numbers, numbers_once}
use Rattle.bh_model.proofs.MoreThan.{more_so}
use Rattle.bh_model.proofs.PieceKeys.{cubes_stand, keys_of}
use Rattle.tree_rule.specs.Words.{HasBody, at_of, body_word}
use Rattle.octree.specs.ByKeys.{AreParts, IsAssembled, IsInSome, StandsByKeys}
use Rattle.octree.specs.Stored.{IsOctreeOf, IsStored, Stored, root_word, tree_of}
use Rattle.octree.proofs.Laws.{bodies_of_tree, reached_blank, whole_level}
use Rattle.space_split.specs.Bodies.{AreCubesIn, bodies_of, numbers_of}
use Rattle.space_split.specs.Parts.{AreBuilt, IsPartOf}
use Rattle.space_split.specs.Ranges.{pair_of}
use Rattle.space_split.specs.Rows.{Follow}
use Rattle.space_split.specs.Sorted.{AreSorted}
use Rattle.space_split.specs.declared.codes.Coded.{Coded}
use Rattle.space_split.specs.declared.cube.Cube.{Cube}
use Rattle.space_split.proofs.Above.{more_above}
use Rattle.space_split.proofs.Members.{cover, map_drop, map_take, number_there}
use Rattle.space_split.proofs.Pushes.{at_place, made_cube}

-- the first of some bodies
first_number : (bodies : List Coded) → 1 ≤ length bodies → (n : ℕ) × IsIn (numbers_of bodies) n
first_number [] some = absurd (omega arith)
first_number (b ∷ bs) some = (b.body, inl refl)

-- what is said of a member of a list at a place
in_place : (f : ℕ → ℕ) (xs : List ℕ) (k d : ℕ) → k < length xs → IsIn xs (get_or xs k d)
in_place f [] k d l = absurd (omega arith)
in_place f (x ∷ xs) zero d l = inl refl
in_place f (x ∷ xs) (suc k) d l = inr (in_place f xs k d (omega arith))

-- a key that is a proper prefix of a key of the cube lies in the whole cube
under_one : (upper a : ℕ) → IsPrefix 1 a → IsProperPrefix upper a → IsPrefix 1 upper
under_one upper a p q = elim (cases_lt q.1 p.1) [
  | inl less ↦
      let far : p.1 ≡ suc q.1 + (p.1 - suc q.1) = omega arith in
      (p.0, p.1 - suc q.1, p.2 ∙ ap (λ y. a / 8 ^ y) far ∙ sym (off_twice a (suc q.1) (p.1 - suc q.1)) ∙ ap (λ y. y / 8 ^ (p.1 - suc q.1)) (sym q.2))
  | inr more ↦
      let far : suc q.1 ≡ p.1 + (1 + (q.1 - p.1)) = omega arith in
      let off : upper ≡ 1 / 8 ^ 1 / 8 ^ (q.1 - p.1) =
      q.2 ∙ ap (λ y. a / 8 ^ y) far ∙ sym (off_twice a p.1 (1 + (q.1 - p.1))) ∙ ap (λ y. y / 8 ^ (1 + (q.1 - p.1))) (sym p.2)
      ∙ sym (off_twice 1 1 (q.1 - p.1)) in
      let one : 1 / 8 ^ 1 ≡ 0 = refl in
      let none : upper ≡ 0 = off ∙ ap (λ y. y / 8 ^ (q.1 - p.1)) one ∙ zero_by (8 ^ (q.1 - p.1)) in
      absurd (omega (arith, q.0, none))
]
  where
    zero_by : (d : ℕ) → 0 / d ≡ 0
    zero_by d = omega (arith, div-le_self 0 d)

-- the keys of the octrees are those of the cubes
bases_are : (sites : List Site) (bodies : List Coded) (cubes : List Cube) (parts : List Stored) → AreBuilt sites bodies cubes parts
    → map (λ (o : Stored). o.base) parts ≡ map (λ (c : Cube). c.key) cubes
bases_are sites bodies [] [] built = refl
bases_are sites bodies [] (o ∷ os) built = absurd built
bases_are sites bodies (c ∷ cs) [] built = absurd built
bases_are sites bodies (c ∷ cs) (o ∷ os) built =
    ap (λ y. y ∷ map (λ (p : Stored). p.base) os) built.0.base ∙ ap (λ y. c.key ∷ y) (bases_are sites bodies cs os built.1)

keys_twice : (cubes : List Cube) → map (λ (c : Cube). c.key) cubes ≡ keys_of (map pair_of cubes)
keys_twice [] = refl
keys_twice (c ∷ cs) = ap (λ y. c.key ∷ y) (keys_twice cs)

module _ (sites : List Site) (bodies : List Coded) (sorted : AreSorted sites bodies) (most : ℕ) (cubes : List Cube) (parts : List Stored)
    (built : AreBuilt sites bodies cubes parts) (are : AreCubesIn sites bodies cubes) (follow : Follow 0 (length bodies) cubes)
    (undivided : map pair_of cubes ≡ cubes_from (octants_of (site_at sites)) most 21 0 1 (numbers (length sites))) (least : 1 ≤ most) where
  no_cube : Cube
  no_cube = made_cube 0 0 0

  no_part : Stored
  no_part = record { words = []; base = 0; level = 0; used = 0; held = 0 }

  -- the octree of a cube
  part_at : (k : ℕ) (d : Stored) → k < length parts
      → IsPartOf sites (get_or cubes k (made_cube 0 0 0)).key (bodies_of bodies (get_or cubes k (made_cube 0 0 0))) (get_or parts k d)
  part_at k d l =
      let long = AllZip-long (λ (cube : Cube) (o : Stored). IsPartOf sites cube.key (bodies_of bodies cube) o) cubes parts built in
      (at_place (λ (cube : Cube) (o : Stored). IsPartOf sites cube.key (bodies_of bodies cube) o) cubes parts k (made_cube 0 0 0) d built
      (omega (arith, l, long))).1

  -- each body is one of an octree's
  there : (n : ℕ) → n < length sites → IsInSome parts n
  there n l =
      let whole : length bodies ≡ length (numbers_of bodies) = sym (length-map bodies (λ (b : Coded). b.body)) in
      let r = cover 0 (length bodies) cubes (numbers_of bodies) follow whole n (made_cube 0 0 0) (number_there sites bodies sorted n l) in
      let c : Cube = get_or cubes r.0 (made_cube 0 0 0) in
      let h =
      at_place (λ (cube : Cube) (o : Stored). IsPartOf sites cube.key (bodies_of bodies cube) o) cubes parts r.0 (made_cube 0 0 0) no_part built r.1 in
      let own : numbers_of (bodies_of bodies c) ≡ take c.count (drop c.start (numbers_of bodies)) =
      map_take (λ (b : Coded). b.body) c.count (drop c.start bodies) ∙ ap (take c.count) (map_drop (λ (b : Coded). b.body) c.start bodies) in (
        r.0,
        get_or parts r.0 no_part,
        h.0,
        slice_get-get_or parts r.0 no_part h.0,
        (h.1.held n).1 (subst (λ (y : List ℕ). IsIn y n) (sym own) r.2),
      )

  -- each octree has a body
  some_body : (k : ℕ) (d : Stored) → k < length parts → root_word (get_or parts k d) ≢ 0
  some_body k d l e =
      let o : Stored = get_or parts k d in
      let long = AllZip-long (λ (cube : Cube) (p : Stored). IsPartOf sites cube.key (bodies_of bodies cube) p) cubes parts built in
      let c : Cube = get_or cubes k (made_cube 0 0 0) in
      let cube = are k (made_cube 0 0 0) (omega (arith, l, long)) in
      let size : length (bodies_of bodies c) ≡ c.count =
      length-take-le c.count (drop c.start bodies) (omega (arith, cube.inside, length-drop c.start bodies)) in
      let first = first_number (bodies_of bodies c) (omega (arith, size, cube.some)) in
      let has : HasBody o.words first.0 = ((part_at k d l).held first.0).1 first.1 in
      omega (arith, reached_blank (at_of o.words) (at_of o.words 0) (body_word first.0) e has)

  keys : map (λ (o : Stored). o.base) parts ≡ keys_of (cubes_from (octants_of (site_at sites)) most 21 0 1 (numbers (length sites)))
  keys = bases_are sites bodies cubes parts built ∙ keys_twice cubes ∙ ap keys_of undivided

  -- above each base key lie more bodies than a leaf holds
  shared_above : (key : ℕ) → Any (λ (o : Stored). IsProperPrefix key o.base) parts
      → HasMoreThan leaf_size (λ n. IsInSome parts n × IsUnder key (site_at sites n))
  shared_above key any =
      let base : ℕ = (any.1).base in
      let place : get_or (map (λ (o : Stored). o.base) parts) any.0 0 ≡ base =
      get_or-map (λ (o : Stored). o.base) parts any.0 any.1 0 any.2 ∙ ap (λ (o : Stored). o.base) any.3 in
      let inside : IsIn (map (λ (o : Stored). o.base) parts) base =
      subst (IsIn (map (λ (o : Stored). o.base) parts)) place (in_place (λ y. y) (map (λ (o : Stored). o.base) parts) any.0 0 (omega (
        arith,
        any.2,
        length-map parts (λ (o : Stored). o.base),
      ))) in
      let own = subst (λ (y : List ℕ). IsIn y base) keys inside in
      let below = (cubes_stand (octants_of (site_at sites)) most 21 0 1 (numbers (length sites)) (omega arith)).below base own in
      more_so (λ n h. (there n ((in_numbers (length sites) n).0 h.0), h.1))
      (more_above (site_at sites) 1 most least 21 0 1 (numbers (length sites)) refl (omega arith) (under_root (site_at sites) (numbers (length sites)))
      (numbers_once (length sites)) base key own (under_one key base below any.4) any.4)

  -- so they may be put together
  pub may_join : AreParts sites parts
  may_join = record {
    canonical = λ k d l. (part_at k d l).canonical;
    some = some_body;
    order = subst AreInTreeOrder (sym keys) (cubes_stand (octants_of (site_at sites)) most 21 0 1 (numbers (length sites)) (omega arith)).order;
    shared = shared_above;
  }

  module _ (o : Stored) (whole : IsAssembled sites parts o) where
    -- the octree that is put together is that of all points
    pub whole_octree : IsStored o
        → ((list : List ℕ) → NoneTwice list → ((m : ℕ) → IsIn (order (tree_of o)) m ↔ IsIn list m)
        → tree_of o ≡ octree_from (site_at sites) (21 - o.level) o.level list) → IsOctreeOf sites o
    whole_octree stored tree =
        let all : List ℕ = numbers (length sites) in
        let members : (m : ℕ) → IsIn (order (tree_of o)) m ↔ IsIn all m = λ m. (
          (λ b. (in_numbers (length sites) m).1 (whole.canonical.bodies_in m ((bodies_of_tree o stored m).0 b))),
          (λ b. (bodies_of_tree o stored m).1 ((whole.bodies m).1 (there m ((in_numbers (length sites) m).0 b)))),
        ) in
        record {
          base = whole.base;
          canonical = whole.canonical;
          tree = tree all (numbers_once (length sites)) members ∙ ap (λ l. octree_from (site_at sites) (21 - l) l all) (whole_level o stored whole.base);
        }

    -- and it stands by the keys of the pieces
    pub by_pieces : (found : List ℕ) → found ≡ keys_of (cubes_from (octants_of (site_at sites)) most 21 0 1 (numbers (length sites)))
        → StandsByKeys found o
    by_pieces found e = subst (λ (y : List ℕ). StandsByKeys y o) (keys ∙ sym e) whole.by_keys
