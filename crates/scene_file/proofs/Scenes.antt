-- How records are added one after another.
use Rattle.std.proofs.Common.{◌≡◌, ◌+◌, ℕ, List, ◌∷◌, Result, Ok, Err, refl}
use Rattle.scene_file.specs.Scene.{IsFaultOf, SoFar, scene_after, with_record}
use Rattle.scene_file.specs.declared.fault.SceneFault.{SceneFault}
use Rattle.scene_file.specs.declared.fault.SceneFault.TheVariants as fault

-- a record that is accepted, and more
pub accepted_more : (fields : List (List ℕ)) (rows : List (List (List ℕ))) (number : ℕ) (old new : SoFar) → with_record number old fields ≡ Ok new
    → scene_after (fields ∷ rows) number old ≡ scene_after rows (number + 1) new
unfolding scene_after
accepted_more fields rows number old new e = rw e refl

-- a record that has a fault, whatever comes after it
pub refused_at : (fields : List (List ℕ)) (rows : List (List (List ℕ))) (number : ℕ) (old : SoFar) (f : SceneFault) → with_record number old fields ≡ Err f
    → scene_after (fields ∷ rows) number old ≡ Err f
unfolding scene_after
refused_at fields rows number old f e = rw e refl

-- the fault of a record is that of the scene
pub fault_is : {A B : Type 0} (f : SceneFault) (step : Result A SceneFault) (wanted : Result B SceneFault) → IsFaultOf step f
    → (step ≡ Err f → wanted ≡ Err f) → IsFaultOf wanted f
fault_is fault.TooLong step wanted h k = k h
fault_is (fault.BadRecord n) step wanted h k = k h
fault_is (fault.BadNumber n field) step wanted h k = k h
fault_is (fault.OutOfRange n field) step wanted h k = k h
fault_is (fault.TooMany n) step wanted h k = k h
fault_is (fault.MassTotal n) step wanted h k = k h
fault_is (fault.Coincident n earlier later) step wanted h k = k h
fault_is (fault.BodyAfterMove n) step wanted h k = k h
fault_is (fault.UnknownBody n) step wanted h k = k h
fault_is (fault.MovedTwice n body) step wanted h k = k h
fault_is (fault.PassCoincident n earlier later) step wanted h k = k h
fault_is fault.OutOfMemory step wanted h k = tt
