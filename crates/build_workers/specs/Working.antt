-- What a worker is given, what it leaves, and what all workers leave together.
use Rattle.std.specs.Prelude.{ℕ, ◌≡◌, ◌+◌, List, [], ◌∷◌, length}
use Rattle.tree_passes.specs.Counting.{times}
use Rattle.shared_tree.specs.Seen.{IsOf, PassState, SharedTree}
use Rattle.build_workers.specs.Shares.{times_in_all}

-- The pass is of the tree, is to put in the share, and has done nothing.
pub record IsReady (t : SharedTree) (p : PassState) (share : List ℕ) : Type 0 where
  pub tree : IsOf p t
  pub todo : p.todo ≡ share
  pub done : p.done ≡ []
  pub changes : p.changes ≡ 0

-- The pass has put the share in, by so many publications as a worker may need for it, and has nothing left to do.
pub record IsDone (t : SharedTree) (may : List ℕ → ℕ → Type 0) (p : PassState) (share : List ℕ) : Type 0 where
  pub tree : IsOf p t
  pub todo : p.todo ≡ []
  pub done : (x : ℕ) → times x p.done ≡ times x share
  pub changes : may share p.changes

-- The pass is of the tree, and has nothing left to do.
pub record IsSpent (t : SharedTree) (p : PassState) : Type 0 where
  pub tree : IsOf p t
  pub todo : p.todo ≡ []

-- each body of a share is put in by a publication of its own
abbrev pub one_for_each : List ℕ → ℕ → Type 0
one_for_each share changes = changes ≡ length share

-- a sum of numbers, of which each is one that its share may have
abbrev pub IsSumFor : (List ℕ → ℕ → Type 0) → List (List ℕ) → ℕ → Type 0
IsSumFor may [] sum = sum ≡ 0
IsSumFor may (s ∷ ss) sum = (first : ℕ) × (rest : ℕ) × may s first × IsSumFor may ss rest × (sum ≡ first + rest)

-- A pass that had done nothing has put the shares in, by so many publications as its workers may need for them, and has nothing left to do.
pub record HasPutShares (t : SharedTree) (may : List ℕ → ℕ → Type 0) (shares : List (List ℕ)) (p : PassState) : Type 0 where
  pub tree : IsOf p t
  pub todo : p.todo ≡ []
  pub done : (x : ℕ) → times x p.done ≡ times_in_all x shares
  pub changes : IsSumFor may shares p.changes
