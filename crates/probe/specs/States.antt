-- What probes keep of the frames that they saw, when they have seen enough, and what they tell.
use Rattle.std.specs.Prelude.{ℕ, ◌^◌, ℤ, pos, neg_ℤ, ◌+ℤ◌, ◌-ℤ◌, int_le, Bool, true, false, if◌then◌else◌, List, [], ◌∷◌, ◌++◌, codes}
use Rattle.std.specs.Fmt.{signed_decimal}
use Rattle.std.specs.Int.{int_max, int_min}
use Rattle.bh_model.specs.Pulls.{IsWithin}
use Rattle.probe.specs.Figures.{FrameFigures}
use Rattle.probe.specs.declared.kind.Kind.{Kind}
use Rattle.probe.specs.declared.kind.Kind.TheVariants as kind
use Rattle.probe.specs.declared.kind.Verdict.{Verdict}
use Rattle.probe.specs.declared.kind.Verdict.TheVariants as verdict

-- ---- what is kept

-- the states before the first frame: of Balance (frames, cost, greatest), of Momentum (frames, x, y, z), and of First (left, cells)
abbrev pub balance_opening : List ℤ
balance_opening = pos 0 ∷ pos 0 ∷ pos 0 ∷ []

abbrev pub momentum_opening : List ℤ
momentum_opening = pos 0 ∷ pos 0 ∷ pos 0 ∷ pos 0 ∷ []

abbrev pub first_opening : ℕ → List ℤ
first_opening n = pos n ∷ pos 0 ∷ []

-- a count of frames or a sum of costs goes on to at most 2 ^ 63
abbrev pub next_count : ℤ → ℕ → ℤ
next_count n more = int_min (n +ℤ pos more) (pos (2 ^ 63))

-- a sum of pushes along an axis goes on within 2 ^ 126
abbrev pub next_push : ℤ → ℤ → ℤ
next_push sum push = int_max (neg_ℤ (pos (2 ^ 126))) (int_min (sum +ℤ push) (pos (2 ^ 126)))

-- sums of pushes along each axis, each within 2 ^ 126
pub record AreSums (x y z : ℤ) : Type 0 where
  pub along_x : IsWithin (2 ^ 126) x
  pub along_y : IsWithin (2 ^ 126) y
  pub along_z : IsWithin (2 ^ 126) z

-- The state after one more frame. Balance counts frames and sums up their costs and the greatest costs of a zone. Momentum counts frames and sums up
-- their pushes. First counts down how many frames it has still to see, and keeps the cells of the last one that it saw.
unfoldable pub state_after : Kind → FrameFigures → List ℤ → List ℤ
state_after kind.Balance f (frames ∷ cost ∷ greatest ∷ []) = next_count frames 1 ∷ next_count cost f.cost ∷ next_count greatest f.greatest ∷ []
state_after kind.Momentum f (frames ∷ x ∷ y ∷ z ∷ []) =
    next_count frames 1 ∷ next_push x f.push_x ∷ next_push y f.push_y ∷ next_push z f.push_z ∷ []
state_after kind.First f (left ∷ cells ∷ []) = int_max (left -ℤ pos 1) (pos 0) ∷ pos f.cells ∷ []
state_after _ f state = state

-- ---- what is answered

-- First has seen enough where it has no frame still to see, and the others never
unfoldable pub is_finished : Kind → List ℤ → Bool
is_finished kind.First (left ∷ cells ∷ []) = int_le left (pos 0)
is_finished _ state = false

-- what a probe answers of a frame, by the state after it
abbrev pub verdict_of : Kind → List ℤ → Verdict
verdict_of k state = if is_finished k state then verdict.Finished else verdict.More

-- ---- what is told

-- a whole number in decimal behind a word and a space
abbrev pub named : List ℕ → ℤ → List ℕ
named word z = word ++ 32 ∷ signed_decimal z

-- the line of a state, without a newline
unfoldable pub line_of : Kind → List ℤ → List ℕ
line_of kind.Balance (frames ∷ cost ∷ greatest ∷ []) =
    named (codes "balance frames") frames ++ named (codes " cost") cost ++ named (codes " greatest") greatest
line_of kind.Momentum (frames ∷ x ∷ y ∷ z ∷ []) =
    named (codes "momentum frames") frames ++ named (codes " push") x ++ named [] y ++ named [] z
line_of kind.First (left ∷ cells ∷ []) = named (codes "first left") left ++ named (codes " cells") cells
line_of _ state = []

-- ---- as contracts see a probe

-- a probe: its kind and its state
pub record ProbeState : Type 0 where
  pub kind : Kind
  pub state : List ℤ

-- Balance that refuses: its state, how many frames it still sees, and whether it refuses its line
pub record Refusing : Type 0 where
  pub state : List ℤ
  pub good : ℕ
  pub refuses_line : Bool
