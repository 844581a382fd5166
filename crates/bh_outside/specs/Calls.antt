-- What the reading of a whole input answers.
use Rattle.std.specs.Prelude.{◌<◌, ◌≤◌, ℕ, List, length, ⊤, Option, Result, Ok, Err}
use Rattle.std.specs.Io.KnownBytes.{Consumes, IsAtEnd}
use Rattle.bh_outside.specs.Outside.{Rose}
use Rattle.bh_outside.specs.declared.calls.Input.{Input}
use Rattle.bh_outside.specs.declared.calls.Input.TheVariants as input
use Rattle.bh_outside.specs.declared.calls.ReadAllFault.{ReadAllFault}
use Rattle.bh_outside.specs.declared.calls.ReadAllFault.TheVariants as fault

-- The source gave these bytes: where it told what was left, it was these and what is told now.
abbrev pub Gave : Option (List ℕ) → Option (List ℕ) → List ℕ → Type 0
Gave old new bytes = Consumes old new bytes

-- Whole has all bytes to the end, at most the limit; at TooLong the source gave more; at an error it gave at most the limit.
abbrev pub ReadsAll : Option (List ℕ) → Option (List ℕ) → ℕ → Result Input ReadAllFault → Type 0
ReadsAll old new limit (Ok (input.Whole bytes)) = Gave old new bytes.items × IsAtEnd new × (length bytes.items ≤ limit)
ReadsAll old new limit (Ok input.TooLong) = (bytes : List ℕ) × Gave old new bytes × (limit < length bytes)
ReadsAll old new limit (Err e) = (bytes : List ℕ) × Gave old new bytes × (length bytes ≤ limit)

-- Failed comes only where the faults rose.
abbrev pub FailsAll : ℕ → ℕ → Result Input ReadAllFault → Type 0
FailsAll before now (Ok x) = ⊤
FailsAll before now (Err fault.Failed) = Rose before now
FailsAll before now (Err fault.OutOfMemory) = ⊤
