-- The records that a reader has reached are the first of those of the text.
use Rattle.std.proofs.Common.{◌≡◌, ◌∙◌, ◌≤◌, ◌+◌, ◌-◌, ◌⊎◌, ℕ, suc, zero, Bool, true, false, List, [], ◌∷◌, ◌++◌, length, Option, Some, None, if◌then◌else◌}
use Rattle.std.proofs.Common.{refl, sym, ap, arith, inl, inr, zero-add}
use Rattle.std.proofs.lemmas.List.{append-nil}
use Rattle.csv.specs.Machine.{Read, next_record, step, is_end, fields_after, field_after, ends_at_end}
use Rattle.csv.specs.Reading.{Reached, records, records_from, strip_bom, is_bom}
use Rattle.csv.specs.declared.parser.Config.{Config}
use Rattle.csv.specs.declared.parser.State.{State}
use Rattle.csv.specs.declared.parser.State.TheVariants as st

split_if : {A : Type 0} (b : Bool) (x y : Option A) (p : A) → (if b then x else y) ≡ Some p → (x ≡ Some p) ⊎ (y ≡ Some p)
split_if true x y p e = inl e
split_if false x y p e = inr e

shorter_if : (b : Bool) (xs ys : List ℕ) → length xs ≤ length ys → length (if b then xs else ys) ≤ length ys
shorter_if true xs ys h = h
shorter_if false xs ys h = omega arith

-- what a record leaves
left_is : (q p : Read) → Some q ≡ Some p → (p.1 ≡ q.1) × (p.2 ≡ q.2)
left_is q p e =
    let same : q ≡ p = cc in
    (ap (λ (r : Read). r.1) (sym same), ap (λ (r : Read). r.2) (sym same))

-- a record leaves no more than there was
no_longer : (cfg : Config) (s : State) (fields : List (List ℕ)) (field xs : List ℕ) (p : Read) → next_record cfg s fields field xs ≡ Some p
    → length p.2 ≤ length xs
unfolding next_record
no_longer cfg s fields field [] p e = elim (split_if (ends_at_end s) _ _ p e) [
  | inl h ↦ rw ((left_is _ p h).1) (omega arith)
  | inr h ↦ cc
]
no_longer cfg s fields field (c ∷ rest) p e = elim (split_if (is_end (step cfg s c).1) _ _ p e) [
  | inl h ↦ rw ((left_is _ p h).1) (omega arith)
  | inr h ↦ let less = no_longer cfg (step cfg s c).0 (fields_after (step cfg s c).1 fields field) (field_after (step cfg s c).1 c field) rest p h in omega
      arith
]

-- a record takes at least one byte of a text that has one
pub shorter : (cfg : Config) (s : State) (fields : List (List ℕ)) (field : List ℕ) (c : ℕ) (rest : List ℕ) (p : Read)
    → next_record cfg s fields field (c ∷ rest) ≡ Some p → length p.2 ≤ length rest
unfolding next_record
shorter cfg s fields field c rest p e = elim (split_if (is_end (step cfg s c).1) _ _ p e) [
  | inl h ↦ rw ((left_is _ p h).1) (omega arith)
  | inr h ↦ no_longer cfg (step cfg s c).0 (fields_after (step cfg s c).1 fields field) (field_after (step cfg s c).1 c field) rest p h
]

-- at the end of a text a record leaves nothing, between two records
pub at_nothing : (cfg : Config) (s : State) (p : Read) → next_record cfg s [] [] [] ≡ Some p → (p.1 ≡ st.StartRecord) × (p.2 ≡ [])
unfolding next_record
at_nothing cfg s p e = elim (split_if (ends_at_end s) _ _ p e) [
  | inl h ↦ left_is _ p h
  | inr h ↦ cc
]

-- no record comes there
nothing_more : (cfg : Config) (s : State) (xs : List ℕ) (p : Read) → s ≡ st.StartRecord → xs ≡ [] → next_record cfg s [] [] xs ≡ Some p → ⊥
unfolding next_record
nothing_more cfg s xs p at here e = let bad = rw (at, here) at e in cc

-- no more records than bytes, and one
pub count : (cfg : Config) (s s2 : State) (xs ys : List ℕ) (rows : List (List (List ℕ))) → Reached cfg s xs rows s2 ys → length rows ≤ length xs + 1
unfolding Reached
count cfg s s2 xs ys [] h = omega arith
count cfg s s2 [] ys (r ∷ []) h = omega arith
count cfg s s2 [] ys (r ∷ q ∷ rs) h =
    let at = at_nothing cfg s h.0 h.1 in
    absurd (nothing_more cfg h.0.1 h.0.2 h.3.0 at.0 at.1 h.3.1)
count cfg s s2 (c ∷ xs) ys (r ∷ rs) h =
    let less = shorter cfg s [] [] c xs h.0 h.1 in
    let more = count cfg h.0.1 s2 h.0.2 ys rs h.3 in
    omega arith

-- the records of a text from a state are those that were reached, and then those from there
pub front : (cfg : Config) (s s2 : State) (xs ys : List ℕ) (rows : List (List (List ℕ))) (n : ℕ) → Reached cfg s xs rows s2 ys
    → records_from cfg (length rows + n) s xs ≡ rows ++ records_from cfg n s2 ys
unfolding Reached records_from
front cfg s s2 xs ys [] n h = rw (zero-add n, h.0, h.1) refl
front cfg s s2 xs ys (r ∷ rs) n h =
    let e : length (r ∷ rs) + n ≡ suc (length rs + n) = omega arith in
    rw (e, h.1, front cfg h.0.1 s2 h.0.2 ys rs n h.3, h.2) refl

-- no records where the next is none
pub none_from : (cfg : Config) (s : State) (xs : List ℕ) (n : ℕ) → next_record cfg s [] [] xs ≡ None → records_from cfg n s xs ≡ []
unfolding records_from
none_from cfg s xs zero e = refl
none_from cfg s xs (suc n) e = rw e refl

-- what was reached stands at the front of all records
pub records_front : (cfg : Config) (s2 : State) (xs ys : List ℕ) (rows : List (List (List ℕ))) → Reached cfg st.StartRecord xs rows s2 ys
    → records cfg xs ≡ rows ++ records_from cfg (length xs + 1 - length rows) s2 ys
records_front cfg s2 xs ys rows h =
    let few = count cfg st.StartRecord s2 xs ys rows h in
    let whole : length rows + (length xs + 1 - length rows) ≡ length xs + 1 = omega arith in
    rw whole at (front cfg st.StartRecord s2 xs ys rows (length xs + 1 - length rows) h)

-- and is all of them where no more come
pub records_all : (cfg : Config) (s2 : State) (xs ys : List ℕ) (rows : List (List (List ℕ))) → Reached cfg st.StartRecord xs rows s2 ys
    → next_record cfg s2 [] [] ys ≡ None → records cfg xs ≡ rows
records_all cfg s2 xs ys rows h none =
    records_front cfg s2 xs ys rows h ∙ ap (λ v. rows ++ v) (none_from cfg s2 ys (length xs + 1 - length rows) none) ∙ append-nil rows

-- a text without its mark is no longer
pub strip_bom_short : (xs : List ℕ) → length (strip_bom xs) ≤ length xs
unfolding strip_bom
strip_bom_short [] = omega arith
strip_bom_short (a ∷ []) = omega arith
strip_bom_short (a ∷ b ∷ []) = omega arith
strip_bom_short (a ∷ b ∷ c ∷ rest) = shorter_if (is_bom a b c) rest (a ∷ b ∷ c ∷ rest) (omega arith)
