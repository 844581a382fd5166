-- How the cells that can't be reached are found: those that can are marked, and the others listed.
use Rattle.std.proofs.Common.{ℕ, ◌+◌, ◌<◌, ◌≡◌, ◌⊎◌, ◌↔◌, refl, sym, ◌∙◌, ap, subst, inl, inr, arith, Bool, true, false, List, [], ◌∷◌, ◌++◌}
use Rattle.std.proofs.Common.{length, get_or, set}
use Rattle.std.proofs.Common.{get_or-set_same, get_or-set_other, length-append, replicate}
use Rattle.std.proofs.lemmas.Bool.{cases_Bool, cases_lt}
use Rattle.std.proofs.lemmas.List.{get_or-replicate, get_or_past, length-replicate}
use Rattle.bh_model.proofs.AllBodies.{same_length}
use Rattle.bh_model.proofs.Equal.{same_or_not}
use Rattle.bh_model.proofs.Lists.{in_append, in_left, in_right, in_numbers, none_twice-append, numbers_once}
use Rattle.bh_model.proofs.Standing.{length_numbers}
use Rattle.bh_model.specs.Bodies.{IsIn, NoneTwice, numbers}
use Rattle.octree.proofs.Counts.{cells_are_once, cells_of_tree}
use Rattle.octree.proofs.Subtrees.{cells_of_octree}
use Rattle.octree.specs.Free.{AreFreeCells, AreMarked, AreUnmarked, IsMarked, IsRising}
use Rattle.octree.specs.Spot.{IsCellUnder, IsReachable, IsUnderChild, Spot, cell_at}
use Rattle.octree.specs.Stored.{IsStored, Stored, cells_of}
use Rattle.octree.specs.Subtree.{IsCellAt, IsChildOf}

-- ---- marks

-- no number is marked in a list of so many times false
pub none_marked : (n d : ℕ) → IsMarked (replicate n false) d → ⊥
none_marked n d m = elim (cases_lt d n) [
  | inl l ↦ (let x : true ≡ false = sym m ∙ get_or-replicate n d false false l in cc)
  | inr past ↦ (let x : true ≡ false = sym m ∙ get_or_past (replicate n false) d false (omega (arith, length-replicate {A = Bool} n false)) in cc)
]

-- a cell stands below one of the first k children of a cell
pub record IsUnderFirst (cell : Spot) (k d : ℕ) : Type 0 where
  pub octant : ℕ
  pub small : octant < k
  pub under : IsUnderChild cell octant d

-- a cell is marked, and those below its first k children
pub AreMarkedUpTo : Spot → ℕ → List Bool → List Bool → Type 0
AreMarkedUpTo cell k before now = (d : ℕ) → IsMarked now d ↔ (IsMarked before d ⊎ ((d ≡ cell_at cell) ⊎ IsUnderFirst cell k d))

-- before the first child
pub marked_itself : (cell : Spot) (c : ℕ) (before now : List Bool) → c ≡ cell_at cell → c < length before → now ≡ set before c true
    → AreMarkedUpTo cell 0 before now
unfolding AreMarkedUpTo
marked_itself cell c before now is within e d =
    elim (same_or_not d c) [
      | inl same ↦ (
        λ m. inr (inl (same ∙ is)),
        λ h. ap (λ l. get_or l d false) e ∙ ap (λ i. get_or (set before c true) i false) same ∙ get_or-set_same before c true false within,
      )
      | inr apart ↦
          let at : get_or now d false ≡ get_or before d false = ap (λ l. get_or l d false) e ∙ get_or-set_other before c d true false apart in (
            λ m. inl (sym at ∙ m),
            λ h. elim h [
              | inl m ↦ at ∙ m
              | inr other ↦ elim other [ inl s ↦ absurd (apart (s ∙ sym is)) | inr f ↦ absurd (let l = f.small in omega arith) ]
            ],
          )
    ]

-- one child more
pub marked_more : (cell child : Spot) (k : ℕ) (before now next : List Bool) → IsChildOf cell k child → AreMarkedUpTo cell k before now
    → AreMarked child now next → AreMarkedUpTo cell (k + 1) before next
unfolding AreMarkedUpTo
marked_more cell child k before now next is upto marked d = (
  λ m. elim ((marked d).0 m) [
    | inl n ↦ elim ((upto d).0 n) [
      | inl b ↦ inl b
      | inr other ↦ inr (elim other [
        | inl s ↦ inl s
        | inr f ↦ inr (record { octant = f.octant; small = let l = f.small in omega arith; under = f.under })
      ])
    ]
    | inr u ↦ inr (inr (record { octant = k; small = omega arith; under = (is.cells d).0 u }))
  ],
  λ h. (marked d).1 (elim h [
    | inl b ↦ inl ((upto d).1 (inl b))
    | inr other ↦ elim other [
      | inl s ↦ inl ((upto d).1 (inr (inl s)))
      | inr f ↦ elim (cases_lt f.octant k) [
        | inl less ↦ inl ((upto d).1 (inr (inr (record { octant = f.octant; small = less; under = f.under }))))
        | inr last ↦
            let l = f.small in
            let same : f.octant ≡ k = omega arith in
            inr ((is.cells d).1 (subst (λ (j : ℕ). IsUnderChild cell j d) same f.under))
      ]
    ]
  ]),
)

-- after all children
pub marked_all : (s cell : Spot) (k : ℕ) (before now : List Bool) → IsCellAt s cell → k ≡ 8 → AreMarkedUpTo cell k before now → AreMarked s before now
unfolding AreMarkedUpTo
marked_all s cell k before now at all upto d = (
  λ m. elim ((upto d).0 m) [
    | inl b ↦ inl b
    | inr other ↦ inr (elim other [
      | inl same ↦ subst (λ (c : ℕ). IsCellUnder s c) (sym same) at.parts.itself
      | inr f ↦ at.parts.below f.octant d (let l = f.small in omega arith) f.under
    ])
  ],
  λ h. (upto d).1 (elim h [
    | inl b ↦ inl b
    | inr u ↦ inr (elim (at.parts.nothing_else d u) [
      | inl same ↦ inl same
      | inr f ↦ inr (record { octant = f.octant; small = let l = f.small in omega arith; under = f.under })
    ])
  ]),
)

-- ---- the numbers that are not marked

-- no number stands twice in a list that rises
pub rising_once : (xs : List ℕ) → IsRising xs → NoneTwice xs
rising_once [] h = tt
rising_once (x ∷ xs) h = ((λ i. let l : x < x = h.0 x i in absurd (omega arith)), rising_once xs h.1)

-- with a greater number at its end it rises too
rising_more : (xs : List ℕ) (n : ℕ) → IsRising xs → ((x : ℕ) → IsIn xs x → x < n) → IsRising (xs ++ n ∷ [])
rising_more [] n h less = ((λ y i. absurd i), tt)
rising_more (x ∷ xs) n h less = (
  λ y i. elim (in_append xs (n ∷ []) y i) [
    | inl j ↦ h.0 y j
    | inr j ↦ elim j [ inl e ↦ (let l : x < n = less x (inl refl) in omega arith) | inr none ↦ absurd none ]
  ],
  rising_more xs n h.1 (λ y i. less y (inr i)),
)

-- before the first number
pub unmarked_none : (marks : List Bool) → AreUnmarked marks 0 []
unmarked_none marks = record { rising = tt; each = λ c. (λ i. absurd i, λ h. let l : c < 0 = h.0 in absurd (omega arith)) }

-- one number more, which is marked
pub unmarked_skip : (marks : List Bool) (n : ℕ) (list : List ℕ) → AreUnmarked marks n list → IsMarked marks n → AreUnmarked marks (n + 1) list
unmarked_skip marks n list h m = record {
  rising = h.rising;
  each = λ c. (
    λ i. let f = (h.each c).0 i in (let l = f.0 in omega arith, f.1),
    λ g. (h.each c).1 (elim (cases_lt c n) [
      | inl less ↦ (less, g.1)
      | inr last ↦ let l = g.0 in let same : n ≡ c = omega arith in absurd (g.1 (subst (IsMarked marks) same m))
    ]),
  );
}

-- or is not
pub unmarked_more : (marks : List Bool) (n : ℕ) (list next : List ℕ) → AreUnmarked marks n list → (IsMarked marks n → ⊥) → next ≡ list ++ n ∷ []
    → AreUnmarked marks (n + 1) next
unmarked_more marks n list next h m e = subst (AreUnmarked marks (n + 1)) (sym e) record {
  rising = rising_more list n h.rising (λ x i. ((h.each x).0 i).0);
  each = λ c. (
    λ i. elim (in_append list (n ∷ []) c i) [
      | inl j ↦ let f = (h.each c).0 j in (let l = f.0 in omega arith, f.1)
      | inr j ↦ elim j [ inl same ↦ (omega arith, λ k. m (subst (IsMarked marks) same k)) | inr none ↦ absurd none ]
    ],
    λ g. elim (cases_lt c n) [
      | inl less ↦ in_left list (n ∷ []) c ((h.each c).1 (less, g.1))
      | inr last ↦ (let l = g.0 in in_right list (n ∷ []) c (inl (omega arith)))
    ],
  );
}

-- ---- the cells that can't be reached

-- those that are not marked, where those are marked that can be reached
pub free_are : (o : Stored) (marks : List Bool) (list : List ℕ) → IsStored o → ((c : ℕ) → IsMarked marks c ↔ IsReachable o c) → AreUnmarked marks o.held list
    → AreFreeCells o list
free_are o marks list stored marked h =
    let apart : (c : ℕ) → IsIn list c → IsIn (cells_of o) c → ⊥ = λ c i j. ((h.each c).0 i).1 ((marked c).1 ((cells_of_octree o stored c).0 j)) in
    let below : (c : ℕ) → IsReachable o c → c < o.held = λ c r. omega (arith, stored.cells_used c r, stored.used_held) in
    let all : length (numbers o.held) ≡ length (list ++ cells_of o) =
    same_length (numbers o.held) (list ++ cells_of o) (numbers_once o.held)
    (none_twice-append list (cells_of o) (rising_once list h.rising) (cells_are_once o stored) apart)
    (λ c i. elim (cases_Bool (get_or marks c false)) [
      | inl m ↦ in_right list (cells_of o) c ((cells_of_octree o stored c).1 ((marked c).0 m))
      | inr m ↦ in_left list (cells_of o) c ((h.each c).1 ((in_numbers o.held c).0 i, λ n. let x : true ≡ false = sym n ∙ m in cc))
    ])
    (λ c i. (in_numbers o.held c).1 (elim (in_append list (cells_of o) c i) [
      | inl j ↦ ((h.each c).0 j).0
      | inr j ↦ below c ((cells_of_octree o stored c).0 j)
    ])) in
    record {
      rising = h.rising;
      each = λ c. (
        λ i. let f = (h.each c).0 i in (f.0, λ r. f.1 ((marked c).1 r)),
        λ g. (h.each c).1 (g.0, λ m. g.1 ((marked c).0 m)),
      );
      count = omega (arith, all, length_numbers o.held, length-append list (cells_of o), cells_of_tree o);
    }
