-- Prefixes of keys: their prefixes, those of bodies' keys, and that of two keys in tree order neither is the other's.
use Rattle.std.proofs.Common.{ℕ, ◌+◌, ◌-◌, ◌*◌, ◌/◌, ◌^◌, ◌<◌, ◌≤◌, ◌≡◌, refl, sym, ◌∙◌, ap, inl, inr, arith, List, [], ◌∷◌}
use Rattle.std.proofs.Math.Nat.{div-div-eq-div-mul, div-le_self, pow-zero}
use Rattle.std.proofs.lemmas.Bool.{cases_lt}
use Rattle.std.proofs.lemmas.Nat.{pow-add}
use Rattle.octant_code.specs.Prefixes.{AreInTreeOrder, HaveNoPrefixes, IsBefore, IsPrefix}
use Rattle.octant_code.specs.Space.{Site, IsUnder, key_of}
use Rattle.octant_code.proofs.Keys.{key-above, key-positive}

-- digits that are taken off in two goes
pub off_twice : (key a b : ℕ) → key / 8 ^ a / 8 ^ b ≡ key / 8 ^ (a + b)
off_twice key a b = div-div-eq-div-mul key (8 ^ a) (8 ^ b) ∙ ap (λ y. key / y) (sym (pow-add 8 a b))

no_digit_off : (key : ℕ) → key / 8 ^ 0 ≡ key
no_digit_off key = omega (arith, pow-zero 8)

-- each key is its own prefix
pub prefix_self : (key : ℕ) → 1 ≤ key → IsPrefix key key
prefix_self key some = (some, 0, sym (no_digit_off key))

-- a prefix of a prefix
pub prefix_then : (a b c : ℕ) → IsPrefix a b → IsPrefix b c → IsPrefix a c
prefix_then a b c p q = (p.0, q.1 + p.1, p.2 ∙ ap (λ y. y / 8 ^ p.1) q.2 ∙ off_twice c q.1 p.1)

-- a key is a prefix of each of its children
pub prefix_child : (key k : ℕ) → 1 ≤ key → k < 8 → IsPrefix key (8 * key + k)
prefix_child key k some small =
    let one : 8 ^ 1 ≡ 8 = refl in
    let off : (8 * key + k) / 8 ^ 1 ≡ key = omega (arith, one) in
    (some, 1, sym off)

-- two prefixes of one key, one with fewer digits: it is a prefix of the other's parent
shorter : (key p q i j : ℕ) → p ≡ key / 8 ^ i → q ≡ key / 8 ^ j → i < j → q ≤ p / 8
shorter key p q i j e f less =
    let far : j ≡ i + 1 + (j - i - 1) = omega arith in
    let whole : q ≡ key / 8 ^ (i + 1) / 8 ^ (j - i - 1) = f ∙ ap (λ y. key / 8 ^ y) far ∙ sym (off_twice key (i + 1) (j - i - 1)) in
    let next : key / 8 ^ (i + 1) ≡ p / 8 ^ 1 = sym (off_twice key i 1) ∙ ap (λ y. y / 8 ^ 1) (sym e) in
    let one : 8 ^ 1 ≡ 8 = refl in
    omega (arith, whole, next, one, div-le_self (key / 8 ^ (i + 1)) (8 ^ (j - i - 1)))

-- two children of one cube are no prefixes of one key
apart : (key above first second : ℕ) → 1 ≤ above → first < second → second < 8 → IsPrefix (8 * above + first) key → IsPrefix (8 * above + second) key → ⊥
apart key above first second some less small p q = elim (cases_lt p.1 q.1) [
  | inl l ↦ (let h = shorter key (8 * above + first) (8 * above + second) p.1 q.1 p.2 q.2 l in omega arith)
  | inr g ↦ elim (cases_lt q.1 p.1) [
    | inl l ↦ (let h = shorter key (8 * above + second) (8 * above + first) q.1 p.1 q.2 p.2 l in omega arith)
    | inr l ↦ (let same : p.1 ≡ q.1 = omega arith in omega (arith, p.2, q.2, ap (λ y. key / 8 ^ y) same))
  ]
]

-- of two keys in tree order neither is a prefix of the other
pub before_apart : (one other : ℕ) → IsBefore one other → (IsPrefix one other → ⊥) × (IsPrefix other one → ⊥)
before_apart one other h = (
  (λ p. apart other h.above h.first h.second h.is_key h.less h.small (prefix_then (8 * h.above + h.first) one other h.holds_one p) h.holds_other),
  (λ p. apart one h.above h.first h.second h.is_key h.less h.small h.holds_one (prefix_then (8 * h.above + h.second) other one h.holds_other p)),
)

-- keys in tree order have no prefixes among them
pub order_has_no_prefixes : (keys : List ℕ) → AreInTreeOrder keys → HaveNoPrefixes keys
order_has_no_prefixes [] h = tt
order_has_no_prefixes (key ∷ rest) h = ((λ k d l. before_apart key _ (h.0 k d l)), order_has_no_prefixes rest h.1)

-- of two keys of one point one is a prefix of the other
pub one_holds_other : (s : Site) (a b : ℕ) → IsUnder a s → IsUnder b s → (IsPrefix a b → ⊥) → (IsPrefix b a → ⊥) → ⊥
one_holds_other s a b p q not_one not_other = elim (cases_lt p.0 q.0) [
  | inl l ↦ not_one (held a b p.0 q.0 (omega arith) p.2 q.2)
  | inr g ↦ not_other (held b a q.0 p.0 g q.2 p.2)
]
  where
    held : (x y i j : ℕ) → i ≤ j → x ≡ key_of s i → y ≡ key_of s j → IsPrefix x y
    held x y i j l e f =
        let deep : i + (j - i) ≡ j = omega arith in
        let up : key_of s j / 8 ^ (j - i) ≡ key_of s i = ap (λ z. key_of s z / 8 ^ (j - i)) (sym deep) ∙ key-above s i (j - i) in
        (omega (arith, e, key-positive s i), j - i, e ∙ sym up ∙ ap (λ z. z / 8 ^ (j - i)) (sym f))
