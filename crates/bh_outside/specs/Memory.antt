-- What clauses see of the sources and sinks over memory.
use Rattle.std.specs.Prelude.{ℕ, Bool, List, ◌+◌, ◌-◌, ◌^◌, ◌++◌, ◌==◌, length, min, nat_lt, Option, Some, None, Result, Ok, Err, if◌then◌else◌}

-- A source over memory: the bytes that are left, how many a call gives at most, the numbers of the calls that fail, and how many calls and faults there were.
pub record Giving : Type 0 where
  pub left : List ℕ
  pub give : ℕ
  pub failing : List ℕ
  pub calls : ℕ
  pub faults : ℕ

-- A sink over memory: the bytes that it keeps, its room, how many a call takes at most, the numbers of the calls that fail, and how many calls and faults
-- there were.
pub record Taking : Type 0 where
  pub kept : List ℕ
  pub room : ℕ
  pub most : ℕ
  pub failing : List ℕ
  pub calls : ℕ
  pub faults : ℕ

-- A sink that never fails: what it tells of the bytes that it took, and its room.
pub record Telling : Type 0 where
  pub told : Option (List ℕ)
  pub room : ℕ

-- Whether no number is in the list.
abbrev pub is_empty_list : List ℕ → Bool
is_empty_list xs = length xs == 0

-- What a sure sink with this room tells after a write: all bytes while they fit, and nothing once they don't.
abbrev pub told_after : ℕ → Option (List ℕ) → List ℕ → Option (List ℕ)
told_after room None bytes = None
told_after room (Some xs) bytes = if nat_lt room (length (xs ++ bytes)) then None else Some (xs ++ bytes)

-- The count of faults after a call: one more where the call failed, up to the end of its type, and the same where it did not.
abbrev pub faults_after : {T E : Type 0} → Result T E → ℕ → ℕ
faults_after (Ok n) faults = faults
faults_after (Err e) faults = min (faults + 1) (2 ^ 64 - 1)
