-- Small parts: no body, one body, and a cell over eight parts.
use Rattle.std.proofs.Common.{ℕ, ◌+◌, ◌*◌, ◌<◌, ◌≤◌, ◌≡◌, ◌⊎◌, refl, sym, ◌∙◌, ap, subst, inl, inr, arith}
use Rattle.std.proofs.lemmas.Bool.{cases_lt}
use Rattle.octant_code.specs.Space.{Site, key_of, IsUnder}
use Rattle.octant_code.proofs.Keys.{key-positive, key-deeper}
use Rattle.tree_rule.proofs.Flat.{below_top}
use Rattle.tree_rule.proofs.Shared.{shared_more, sharer}
use Rattle.tree_rule.proofs.Walk.{one_child}
use Rattle.tree_rule.specs.Flat.{Child, IsShared, IsWordOf, StandsAmid, StandsFor, Top}
use Rattle.tree_rule.specs.Words.{body_word, cell_word, child_place, key_place}

-- the empty set
abbrev pub Nothing : ℕ → Type 0
Nothing n = ⊥

-- the set of one number
abbrev pub Only : ℕ → ℕ → Type 0
Only n m = m ≡ n

-- where there is no cell the top word is the only one
top_word : (at : ℕ → ℕ) (top base key w : ℕ) → IsWordOf at top base Nothing key w → (key ≡ base) × (w ≡ top)
top_word at top base key w (Top k e) = (k, e)
top_word at top base key w (Child c j p l k e) = absurd p

-- the word 0 stands for no body
pub stands_none : (site : ℕ → Site) (at : ℕ → ℕ) (base : ℕ) → StandsFor site at 0 base Nothing Nothing
stands_none site at base = record {
  keys_differ = λ c d p q e. absurd p;
  cell_named = λ c p. absurd p;
  names_cell = λ key c x. let f = top_word at 0 base key (cell_word c) x in absurd (omega arith);
  body_named = λ n b. absurd b;
  names_body = λ key n x. let f = top_word at 0 base key (body_word n) x in absurd (omega arith);
  shared = λ c p. absurd p;
}

-- a body's word stands for the body in a cube that its point lies in
pub stands_body : (site : ℕ → Site) (at : ℕ → ℕ) (base n : ℕ) (V : ℕ → Type 0) → IsUnder base (site n)
    → StandsAmid site at (body_word n) base Nothing (Only n) V
stands_body site at base n V u = record {
  keys_differ = λ c d p q e. absurd p;
  cell_named = λ c p. absurd p;
  names_cell = λ key c x. let f = top_word at (body_word n) base key (cell_word c) x in absurd (omega arith);
  body_named = λ m b. record { level = u.0; shallow = u.1; named = Top (sym (u.2 ∙ ap (λ y. key_of (site y) u.0) (sym b))) (ap body_word b) };
  names_body = λ key m x. let f = top_word at (body_word n) base key (body_word m) x in
      let same : m ≡ n = omega (arith, f.1) in
      (same, let e : key ≡ key_of (site m) u.0 = f.0 ∙ u.2 ∙ ap (λ y. key_of (site y) u.0) (sym same) in (u.0, u.1, e));
  shared = λ c p. absurd p;
}

-- a member of one of eight sets
pub record Among (M : ℕ → ℕ → Type 0) (n : ℕ) : Type 0 where
  pub part : ℕ
  pub small : part < 8
  pub inside : M part n

-- the cell itself or a cell of one of the parts
abbrev pub ItOr : ℕ → (ℕ → ℕ → Type 0) → ℕ → Type 0
ItOr c P d = (d ≡ c) ⊎ Among P d

-- a cell, its key, and what stands below each of its children
pub record HasParts (site : ℕ → Site) (at : ℕ → ℕ) (c key : ℕ) (P M : ℕ → ℕ → Type 0) : Type 0 where
  pub key_is : at (key_place c) ≡ key
  pub part_stands : (k : ℕ) → k < 8 → StandsFor site at (at (child_place c k)) (8 * key + k) (P k) (M k)
  pub two : IsShared site (Among M) key

-- a word below a cell is the cell's or that of a part
pub data WordOfPart (at : ℕ → ℕ) (c key : ℕ) (P : ℕ → ℕ → Type 0) (k w : ℕ) : Type 0 where
  OfCell : k ≡ key → w ≡ cell_word c → WordOfPart at c key P k w
  OfPart : (j : ℕ) → j < 8 → IsWordOf at (at (child_place c j)) (8 * key + j) (P j) k w → WordOfPart at c key P k w

-- a word below a cell is the cell's or that of a part
which_part : (site : ℕ → Site) (at : ℕ → ℕ) (c key : ℕ) (P M : ℕ → ℕ → Type 0) → HasParts site at c key P M
    → (k w : ℕ) → IsWordOf at (cell_word c) key (ItOr c P) k w → WordOfPart at c key P k w
which_part site at c key P M h k w (Top e x) = OfCell e x
which_part site at c key P M h k w (Child d j (inl p) l e x) =
    OfPart j l (Top (e ∙ ap (λ y. 8 * y + j) (ap (λ y. at (key_place y)) p ∙ h.key_is)) (x ∙ ap (λ y. at (child_place y j)) p))
which_part site at c key P M h k w (Child d j (inr p) l e x) = OfPart p.part p.small (Child d j p.inside l e x)

-- a word of a part is one below the cell
of_part : (site : ℕ → Site) (at : ℕ → ℕ) (c key : ℕ) (P M : ℕ → ℕ → Type 0) → HasParts site at c key P M
    → (j k w : ℕ) → j < 8 → IsWordOf at (at (child_place c j)) (8 * key + j) (P j) k w → IsWordOf at (cell_word c) key (ItOr c P) k w
of_part site at c key P M h j k w l (Top e x) = Child c j (inl refl) l (e ∙ ap (λ y. 8 * y + j) (sym h.key_is)) x
of_part site at c key P M h j k w l (Child d i p m e x) = Child d i (inr (record { part = j; small = l; inside = p })) m e x

-- a cell's key is not 0
cell_key_positive : (site : ℕ → Site) (at : ℕ → ℕ) (c key : ℕ) (P M : ℕ → ℕ → Type 0) → HasParts site at c key P M → 1 ≤ key
cell_key_positive site at c key P M h = let f = sharer h.two in omega (arith, f.one_under, key-positive (site f.one) f.level)

-- a cell of a part has another key than the cell above
part_key_differs : (site : ℕ → Site) (at : ℕ → ℕ) (c key : ℕ) (P M : ℕ → ℕ → Type 0) → HasParts site at c key P M
    → (j d : ℕ) → j < 8 → P j d → at (key_place d) ≡ key → ⊥
part_key_differs site at c key P M h j d l p e =
    let part = h.part_stands j l in
    let f = sharer (part.shared d p) in
    let s : Site = site f.one in
    let x : IsWordOf at (at (child_place c j)) (8 * key + j) (P j) (key_of s f.level) (cell_word d) =
    subst (λ (y : ℕ). IsWordOf at (at (child_place c j)) (8 * key + j) (P j) y (cell_word d)) f.one_under (part.cell_named d p) in
    let b = below_top site at (at (child_place c j)) (8 * key + j) (P j) (M j) (M j) part s f.level (cell_word d) x in
    let pos : 1 ≤ key = cell_key_positive site at c key P M h in
    elim (cases_lt b.top_level f.level) [
      | inl r ↦ omega (arith, key-deeper s s b.top_level f.level r, b.is_base, f.one_under, e)
      | inr r ↦ let same : b.top_level ≡ f.level = omega (arith, b.above) in omega (arith, b.is_base ∙ ap (key_of s) same, f.one_under, e)
    ]

-- cells of two parts that have one key are of one part
one_part : (site : ℕ → Site) (at : ℕ → ℕ) (c key : ℕ) (P M : ℕ → ℕ → Type 0) → HasParts site at c key P M
    → (i j d e : ℕ) → i < 8 → j < 8 → P i d → P j e → at (key_place d) ≡ at (key_place e) → i ≡ j
one_part site at c key P M h i j d e l m p q same =
    let pi = h.part_stands i l in
    let pj = h.part_stands j m in
    let f = sharer (pi.shared d p) in
    let s : Site = site f.one in
    let x : IsWordOf at (at (child_place c i)) (8 * key + i) (P i) (key_of s f.level) (cell_word d) =
    subst (λ (y : ℕ). IsWordOf at (at (child_place c i)) (8 * key + i) (P i) y (cell_word d)) f.one_under (pi.cell_named d p) in
    let y : IsWordOf at (at (child_place c j)) (8 * key + j) (P j) (key_of s f.level) (cell_word e) =
    subst (λ (y : ℕ). IsWordOf at (at (child_place c j)) (8 * key + j) (P j) y (cell_word e)) (sym same ∙ f.one_under) (pj.cell_named e q) in
    let a = below_top site at (at (child_place c i)) (8 * key + i) (P i) (M i) (M i) pi s f.level (cell_word d) x in
    let b = below_top site at (at (child_place c j)) (8 * key + j) (P j) (M j) (M j) pj s f.level (cell_word e) y in
    let ua : IsUnder (8 * key + i) s = (a.top_level, omega (arith, a.above, f.shallow), a.is_base) in
    let ub : IsUnder (8 * key + j) s = (b.top_level, omega (arith, b.above, f.shallow), b.is_base) in
    one_child s key i j (cell_key_positive site at c key P M h) l m ua ub

-- two cells that have one key are one
cells_differ : (site : ℕ → Site) (at : ℕ → ℕ) (c key : ℕ) (P M : ℕ → ℕ → Type 0) → HasParts site at c key P M
    → (d e : ℕ) → ItOr c P d → ItOr c P e → at (key_place d) ≡ at (key_place e) → d ≡ e
cells_differ site at c key P M h d e (inl p) (inl q) same = p ∙ sym q
cells_differ site at c key P M h d e (inl p) (inr q) same =
    absurd (part_key_differs site at c key P M h q.part e q.small q.inside (sym same ∙ ap (λ y. at (key_place y)) p ∙ h.key_is))
cells_differ site at c key P M h d e (inr p) (inl q) same =
    absurd (part_key_differs site at c key P M h p.part d p.small p.inside (same ∙ ap (λ y. at (key_place y)) q ∙ h.key_is))
cells_differ site at c key P M h d e (inr p) (inr q) same =
    let i : p.part ≡ q.part = one_part site at c key P M h p.part q.part d e p.small q.small p.inside q.inside same in
    (h.part_stands q.part q.small).keys_differ d e (subst (λ (y : ℕ). P y d) i p.inside) q.inside same

-- each cell is named in the cube of its key
cell_is_named : (site : ℕ → Site) (at : ℕ → ℕ) (c key : ℕ) (P M : ℕ → ℕ → Type 0) → HasParts site at c key P M
    → (d : ℕ) → ItOr c P d → IsWordOf at (cell_word c) key (ItOr c P) (at (key_place d)) (cell_word d)
cell_is_named site at c key P M h d (inl p) = Top (ap (λ y. at (key_place y)) p ∙ h.key_is) (ap cell_word p)
cell_is_named site at c key P M h d (inr p) =
    of_part site at c key P M h p.part (at (key_place d)) (cell_word d) p.small ((h.part_stands p.part p.small).cell_named d p.inside)

-- a word that names a cell names one of these, with its key
names_a_cell : (site : ℕ → Site) (at : ℕ → ℕ) (c key : ℕ) (P M : ℕ → ℕ → Type 0) → HasParts site at c key P M
    → (k d : ℕ) → WordOfPart at c key P k (cell_word d) → ItOr c P d × (at (key_place d) ≡ k)
names_a_cell site at c key P M h k d (OfCell e x) =
    let same : d ≡ c = omega arith in (inl same, ap (λ y. at (key_place y)) same ∙ h.key_is ∙ sym e)
names_a_cell site at c key P M h k d (OfPart j l x) =
    let f = (h.part_stands j l).names_cell k d x in (inr (record { part = j; small = l; inside = f.0 }), f.1)

-- a word that names a body names one of these, whose point lies in the word's cube
names_a_body : (site : ℕ → Site) (at : ℕ → ℕ) (c key : ℕ) (P M : ℕ → ℕ → Type 0) → HasParts site at c key P M
    → (k n : ℕ) → WordOfPart at c key P k (body_word n) → Among M n × IsUnder k (site n)
names_a_body site at c key P M h k n (OfCell e x) = absurd (omega arith)
names_a_body site at c key P M h k n (OfPart j l x) =
    let f = (h.part_stands j l).names_body k n x in (record { part = j; small = l; inside = f.0 }, f.1)

-- under the key of each of the cells lie two bodies
shares : (site : ℕ → Site) (at : ℕ → ℕ) (c key : ℕ) (P M : ℕ → ℕ → Type 0) → HasParts site at c key P M
    → (d : ℕ) → ItOr c P d → IsShared site (Among M) (at (key_place d))
shares site at c key P M h d (inl p) = subst (λ (y : ℕ). IsShared site (Among M) y) (sym (ap (λ y. at (key_place y)) p ∙ h.key_is)) h.two
shares site at c key P M h d (inr p) =
    shared_more (λ n b. record { part = p.part; small = p.small; inside = b })
    ((h.part_stands p.part p.small).shared d p.inside)

-- a cell over eight parts stands for the bodies of all
pub cell_stands : (site : ℕ → Site) (at : ℕ → ℕ) (c key : ℕ) (P M : ℕ → ℕ → Type 0) → HasParts site at c key P M
    → StandsFor site at (cell_word c) key (ItOr c P) (Among M)
cell_stands site at c key P M h = record {
  keys_differ = cells_differ site at c key P M h;
  cell_named = cell_is_named site at c key P M h;
  names_cell = λ k d x. names_a_cell site at c key P M h k d (which_part site at c key P M h k (cell_word d) x);
  body_named = λ n b.
      let f = (h.part_stands b.part b.small).body_named n b.inside in
      record { level = f.level; shallow = f.shallow; named = of_part site at c key P M h b.part (key_of (site n) f.level) (body_word n) b.small f.named };
  names_body = λ k n x. names_a_body site at c key P M h k n (which_part site at c key P M h k (body_word n) x);
  shared = shares site at c key P M h;
}

-- a word of a cell whose children are empty that names a cell names this one
pub lone_cell : (at : ℕ → ℕ) (c key d key' : ℕ) → ((k : ℕ) → k < 8 → at (child_place c k) ≡ 0) → at (key_place c) ≡ key
    → IsWordOf at (cell_word c) key (Only c) key' (cell_word d) → (d ≡ c) × (at (key_place d) ≡ key')
lone_cell at c key d key' blank keyed (Top k e) = let same : d ≡ c = omega arith in (same, ap (λ y. at (key_place y)) same ∙ keyed ∙ sym k)
lone_cell at c key d key' blank keyed (Child b j p l k e) = absurd (omega (arith, ap (λ y. at (child_place y j)) p, blank j l))

-- and none names a body
pub lone_body : (at : ℕ → ℕ) (c key n key' : ℕ) → ((k : ℕ) → k < 8 → at (child_place c k) ≡ 0)
    → IsWordOf at (cell_word c) key (Only c) key' (body_word n) → ⊥
lone_body at c key n key' blank (Top k e) = omega arith
lone_body at c key n key' blank (Child b j p l k e) = omega (arith, ap (λ y. at (child_place y j)) p, blank j l)

-- a cell with empty children stands for no body, amid witnesses that share its cube
pub lone_stands : (site : ℕ → Site) (at : ℕ → ℕ) (c key : ℕ) (V : ℕ → Type 0) → ((k : ℕ) → k < 8 → at (child_place c k) ≡ 0) → at (key_place c) ≡ key
    → IsShared site V key → StandsAmid site at (cell_word c) key (Only c) Nothing V
lone_stands site at c key V blank keyed share = record {
  keys_differ = λ d e p q s. p ∙ sym q;
  cell_named = λ d p. Top (ap (λ y. at (key_place y)) p ∙ keyed) (ap cell_word p);
  names_cell = λ key' d x. lone_cell at c key d key' blank keyed x;
  body_named = λ n b. absurd b;
  names_body = λ key' n x. absurd (lone_body at c key n key' blank x);
  shared = λ d p. subst (λ (y : ℕ). IsShared site V y) (sym (ap (λ y. at (key_place y)) p ∙ keyed)) share;
}
