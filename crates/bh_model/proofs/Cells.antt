-- The canonical octree has a cell at a key exactly where two bodies of the list lie under the key.
use Rattle.std.proofs.Common.{◌<◌, All, length, ℕ, ◌+◌, ◌*◌, ◌≤◌, ◌≡◌, ◌≢◌, ◌↔◌, zero, suc, refl, sym, ◌∙◌, ap, subst, inl, inr, arith, List, [], ◌∷◌, eqb}
use Rattle.std.proofs.lemmas.Bool.{cases_lt, eqb-true, eq-eqb}
use Rattle.octant_code.specs.Points.{site_at, ArePoints}
use Rattle.octant_code.specs.Space.{origin, Site, IsInCube, octant_of, key_of}
use Rattle.octant_code.proofs.Keys.{key-zero, key-suc, octant-small, same_level, same_parent, same_child}
use Rattle.octant_code.proofs.InCube.{same_site}
use Rattle.bh_model.specs.Bodies.{IsIn, NoneTwice, HasMoreUnder}
use Rattle.bh_model.proofs.MoreThan.{more_of_two, two_of_more}
use Rattle.bh_model.specs.Trees.{in_octant, octree_from, octree, cell_keys_from, HasCellAt}
use Rattle.bh_model.proofs.Lists.{filter-keeps, filter-member, none_twice-filter, joined, in_joined, joined_in}
use Rattle.bh_model.proofs.Trees.{octree-none, octree-one, octree-deep, octree-many, keys-empty, keys-body, keys-cell}

-- the points of a list of bodies are in the cube, and no two are one
pub record ArePlaced (site : ℕ → Site) (bodies : List ℕ) : Type 0 where
  pub in_cube : (n : ℕ) → IsIn bodies n → IsInCube (site n)
  pub apart : (a b : ℕ) → IsIn bodies a → IsIn bodies b → site a ≡ site b → a ≡ b

-- a member of a list is one of those of which all is said
pub member_of_all : (P : ℕ → Type 0) (xs : List ℕ) (n : ℕ) → All P xs → IsIn xs n → P n
member_of_all P [] n h i = absurd i
member_of_all P (x ∷ xs) n h (inl e) = subst P (sym e) (h 0 0 (omega arith))
member_of_all P (x ∷ xs) n h (inr i) = member_of_all P xs n (λ k d l. h (suc k) d (omega arith)) i

-- numbers of a list of points are bodies with points of the cube, no two of which are one
pub placed_of_points : (sites : List Site) (bodies : List ℕ) → ArePoints sites → All (λ n. n < length sites) bodies → ArePlaced (site_at sites) bodies
placed_of_points sites bodies rule within =
    let inside : (n : ℕ) → IsIn bodies n → n < length sites = λ n i. member_of_all (λ m. m < length sites) bodies n within i in
    record {
      in_cube = λ n i. rule.in_cube n origin (inside n i);
      apart = λ a b i j e. elim (cases_lt a b) [
        | inl l ↦ absurd (rule.apart a b l (inside b j) e)
        | inr l ↦ elim (cases_lt b a) [ inl m ↦ absurd (rule.apart b a m (inside a i) (sym e)) | inr m ↦ omega arith ]
      ];
    }

-- the points of a list of bodies lie in the cube of a key of a level
abbrev pub LieUnder : (ℕ → Site) → ℕ → ℕ → List ℕ → Type 0
LieUnder site level key bodies = (n : ℕ) → IsIn bodies n → key_of (site n) level ≡ key

-- a member of the list of an octant is one of the whole list, and has that octant
pub in_octant-member : (site : ℕ → Site) (level k : ℕ) (bodies : List ℕ) (n : ℕ) → IsIn (in_octant site level k bodies) n
    → IsIn bodies n × (octant_of (site n) level ≡ k)
in_octant-member site level k bodies n i =
    let f = filter-member (λ m. eqb (octant_of (site m) level) k) bodies n i in
    (f.0, eqb-true (octant_of (site n) level) k f.1)

-- a body stands in the list of its octant
pub in_octant-keeps : (site : ℕ → Site) (level : ℕ) (bodies : List ℕ) (n k : ℕ) → IsIn bodies n → octant_of (site n) level ≡ k
    → IsIn (in_octant site level k bodies) n
in_octant-keeps site level bodies n k i e = filter-keeps (λ m. eqb (octant_of (site m) level) k) bodies n i (eq-eqb (octant_of (site n) level) k e)

-- no body stands twice in the list of an octant
pub in_octant-once : (site : ℕ → Site) (level k : ℕ) (bodies : List ℕ) → NoneTwice bodies → NoneTwice (in_octant site level k bodies)
in_octant-once site level k bodies d = none_twice-filter (λ m. eqb (octant_of (site m) level) k) bodies d

-- the bodies of an octant have points of the cube, no two of which are one
pub in_octant-placed : (site : ℕ → Site) (level k : ℕ) (bodies : List ℕ) → ArePlaced site bodies → ArePlaced site (in_octant site level k bodies)
in_octant-placed site level k bodies h = record {
  in_cube = λ n i. h.in_cube n (in_octant-member site level k bodies n i).0;
  apart = λ a b i j e. h.apart a b (in_octant-member site level k bodies a i).0 (in_octant-member site level k bodies b j).0 e;
}

-- the bodies of an octant lie in the child's cube
pub in_octant-under : (site : ℕ → Site) (level key k : ℕ) (bodies : List ℕ) → LieUnder site level key bodies
    → LieUnder site (suc level) (8 * key + k) (in_octant site level k bodies)
in_octant-under site level key k bodies h n i =
    let f = in_octant-member site level k bodies n i in
    key-suc (site n) level ∙ ap (λ y. 8 * y + octant_of (site n) level) (h n f.0) ∙ ap (λ y. 8 * key + y) f.1

-- points with one key at a level have one key at each level above
pub same_above : (s t : Site) (level upper : ℕ) → upper ≤ level → key_of s level ≡ key_of t level → key_of s upper ≡ key_of t upper
same_above s t zero upper l e = let z : 0 ≡ upper = omega arith in subst (λ (y : ℕ). key_of s y ≡ key_of t y) z e
same_above s t (suc level) upper l e =
    elim (cases_lt upper (suc level)) [
      | inl r ↦
          same_above s t level upper (omega arith)
          (same_parent (key_of s level) (key_of t level) (octant_of s level) (octant_of t level) (octant-small s level) (octant-small t level)
          (sym (key-suc s level) ∙ e ∙ key-suc t level))
      | inr r ↦ let z : suc level ≡ upper = omega arith in subst (λ (y : ℕ). key_of s y ≡ key_of t y) z e
    ]

-- two bodies of the list have a key at one level from a level on
pub record HasTwoFrom (site : ℕ → Site) (bodies : List ℕ) (level key : ℕ) : Type 0 where
  pub depth : ℕ
  pub low : level ≤ depth
  pub deep : depth ≤ 21
  pub one : ℕ
  pub other : ℕ
  pub one_in : IsIn bodies one
  pub other_in : IsIn bodies other
  pub differ : one ≢ other
  pub one_key : key ≡ key_of (site one) depth
  pub other_key : key ≡ key_of (site other) depth

-- the keys of the cells of the octree of two bodies or more
pub keys-many : (site : ℕ → Site) (below level key n m : ℕ) (rest : List ℕ) → cell_keys_from (octree_from site (suc below) level (n ∷ m ∷ rest)) key
    ≡ key ∷ joined (λ k. cell_keys_from (octree_from site below (suc level) (in_octant site level k (n ∷ m ∷ rest))) (8 * key + k)) 8
keys-many site below level key n m rest =
    ap (λ t. cell_keys_from t key) (octree-many site below level n m rest)
    ∙ keys-cell (λ k. octree_from site below (suc level) (in_octant site level k (n ∷ m ∷ rest))) key

-- where a cell stands, two bodies lie
pub two_where_cell : (site : ℕ → Site) (below level key : ℕ) (bodies : List ℕ) (q : ℕ) → level + below ≡ 21 → NoneTwice bodies → LieUnder site level key bodies
    → IsIn (cell_keys_from (octree_from site below level bodies) key) q → HasTwoFrom site bodies level q
two_where_cell site below level key [] q sum once under i =
    absurd (subst (λ (y : List ℕ). IsIn y q) (ap (λ t. cell_keys_from t key) (octree-none site below level) ∙ keys-empty key) i)
two_where_cell site below level key (n ∷ []) q sum once under i =
    absurd (subst (λ (y : List ℕ). IsIn y q) (ap (λ t. cell_keys_from t key) (octree-one site below level n) ∙ keys-body n key) i)
two_where_cell site zero level key (n ∷ m ∷ rest) q sum once under i =
    absurd (subst (λ (y : List ℕ). IsIn y q) (ap (λ t. cell_keys_from t key) (octree-deep site level n m rest) ∙ keys-empty key) i)
two_where_cell site (suc below) level key (n ∷ m ∷ rest) q sum once under i =
    let bodies : List ℕ = n ∷ m ∷ rest in
    let kids : ℕ → List ℕ = λ k. cell_keys_from (octree_from site below (suc level) (in_octant site level k bodies)) (8 * key + k) in
    let j : IsIn (key ∷ joined kids 8) q = subst (λ (y : List ℕ). IsIn y q) (keys-many site below level key n m rest) i in
    elim j [
      | inl e ↦ record {
        depth = level;
        low = omega arith;
        deep = omega arith;
        one = n;
        other = m;
        one_in = inl refl;
        other_in = inr (inl refl);
        differ = λ same. once.0 (inl same);
        one_key = e ∙ sym (under n (inl refl));
        other_key = e ∙ sym (under m (inr (inl refl)));
      }
      | inr z ↦
          let p = in_joined kids 8 q z in
          let t = two_where_cell site below (suc level) (8 * key + p.part) (in_octant site level p.part bodies) q (omega arith)
          (in_octant-once site level p.part bodies once) (in_octant-under site level key p.part bodies under) p.inside in
          record {
            depth = t.depth;
            low = omega (arith, t.low);
            deep = t.deep;
            one = t.one;
            other = t.other;
            one_in = (in_octant-member site level p.part bodies t.one t.one_in).0;
            other_in = (in_octant-member site level p.part bodies t.other t.other_in).0;
            differ = t.differ;
            one_key = t.one_key;
            other_key = t.other_key;
          }
    ]

-- where two bodies lie, a cell stands
cell_where_two : (site : ℕ → Site) (below level key : ℕ) (bodies : List ℕ) (q : ℕ) → level + below ≡ 21 → ArePlaced site bodies → LieUnder site level key bodies
    → HasTwoFrom site bodies level q → IsIn (cell_keys_from (octree_from site below level bodies) key) q
cell_where_two site below level key [] q sum placed under t = absurd t.one_in
cell_where_two site below level key (n ∷ []) q sum placed under t =
    elim t.one_in [ inl e ↦ elim t.other_in [ inl f ↦ absurd (t.differ (e ∙ sym f)) | inr f ↦ absurd f ] | inr e ↦ absurd e ]
cell_where_two site zero level key (n ∷ m ∷ rest) q sum placed under t =
    let last : t.depth ≡ 21 = omega (arith, t.low, t.deep) in
    let same : key_of (site t.one) 21 ≡ key_of (site t.other) 21 = subst (λ (y : ℕ). key_of (site t.one) y ≡ key_of (site t.other) y) last
    (sym t.one_key ∙ t.other_key) in
    absurd (t.differ (placed.apart t.one t.other t.one_in t.other_in
    (same_site (site t.one) (site t.other) (placed.in_cube t.one t.one_in) (placed.in_cube t.other t.other_in) same)))
cell_where_two site (suc below) level key (n ∷ m ∷ rest) q sum placed under t =
    let bodies : List ℕ = n ∷ m ∷ rest in
    let kids : ℕ → List ℕ = λ k. cell_keys_from (octree_from site below (suc level) (in_octant site level k bodies)) (8 * key + k) in
    let a : Site = site t.one in
    let b : Site = site t.other in
    let goal : IsIn (key ∷ joined kids 8) q = elim (cases_lt level t.depth) [
      | inl l ↦
          let next : key_of a (suc level) ≡ key_of b (suc level) = same_above a b t.depth (suc level) (omega arith) (sym t.one_key ∙ t.other_key) in
          let same : octant_of a level ≡ octant_of b level =
          same_child (key_of a level) (key_of b level) (octant_of a level) (octant_of b level) (octant-small a level) (octant-small b level)
          (sym (key-suc a level) ∙ next ∙ key-suc b level) in
          let k : ℕ = octant_of a level in
          let part : HasTwoFrom site (in_octant site level k bodies) (suc level) q = record {
            depth = t.depth;
            low = omega arith;
            deep = t.deep;
            one = t.one;
            other = t.other;
            one_in = in_octant-keeps site level bodies t.one k t.one_in refl;
            other_in = in_octant-keeps site level bodies t.other k t.other_in (sym same);
            differ = t.differ;
            one_key = t.one_key;
            other_key = t.other_key;
          } in
          inr (joined_in kids 8 k q (octant-small a level)
          (cell_where_two site below (suc level) (8 * key + k) (in_octant site level k bodies) q (omega arith)
          (in_octant-placed site level k bodies placed) (in_octant-under site level key k bodies under) part))
      | inr l ↦
          let here : t.depth ≡ level = omega (arith, t.low) in
          inl (t.one_key ∙ ap (key_of a) here ∙ under t.one t.one_in)
    ] in
    subst (λ (y : List ℕ). IsIn y q) (sym (keys-many site below level key n m rest)) goal

-- the whole cube holds every point
pub under_root : (site : ℕ → Site) (bodies : List ℕ) → LieUnder site 0 1 bodies
under_root site bodies n i = key-zero (site n)

-- the canonical octree has a cell at a key exactly where more bodies of the list lie under the key than a leaf holds
pub cell_at : (site : ℕ → Site) (bodies : List ℕ) (key : ℕ) → NoneTwice bodies → ArePlaced site bodies
    → HasCellAt (octree site bodies) key ↔ HasMoreUnder site bodies key
cell_at site bodies key once placed = (
  (λ i.
      let t = two_where_cell site 21 0 1 bodies key refl once (under_root site bodies) i in
      more_of_two t.one t.other (t.one_in, (t.depth, t.deep, t.one_key)) (t.other_in, (t.depth, t.deep, t.other_key)) t.differ),
  (λ more.
      let t = two_of_more more in
      let u = t.one_is.1 in
      let v = t.other_is.1 in
      let same : v.0 ≡ u.0 = same_level (site t.other) (site t.one) v.0 u.0 (sym v.2 ∙ u.2) in
      cell_where_two site 21 0 1 bodies key refl placed (under_root site bodies) (record {
        depth = u.0;
        low = omega arith;
        deep = u.1;
        one = t.one;
        other = t.other;
        one_in = t.one_is.0;
        other_in = t.other_is.0;
        differ = t.differ;
        one_key = u.2;
        other_key = v.2 ∙ ap (key_of (site t.other)) same;
      })),
)
