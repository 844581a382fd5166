-- What the parts of a text do to a sink and to the bytes that wait for it.
use Rattle.std.specs.Prelude.{◌≡◌, ℕ, List, ◌++◌, Option, Result, Ok, Err}
use Rattle.bh_outside.specs.Outside.{Took}

-- All of a text was put: the sink took the first of the bytes that waited and the text, and the others wait.
pub record PutsAll (old new : Option (List ℕ)) (waited waits text : List ℕ) : Type 0 where
  pub done : List ℕ
  pub joins : waited ++ text ≡ done ++ waits
  pub took : Took old new done

-- A put failed: the sink took the first of the bytes that waited and the text.
pub record PutsFront (old new : Option (List ℕ)) (waited text : List ℕ) : Type 0 where
  pub done : List ℕ
  pub rest : List ℕ
  pub splits : waited ++ text ≡ done ++ rest
  pub took : Took old new done

-- What putting a text does to the bytes that were written and to those that wait: all of it is put at Ok, and a front at a failure.
abbrev pub Puts : {T E : Type 0} → Option (List ℕ) → Option (List ℕ) → List ℕ → List ℕ → List ℕ → Result T E → Type 0
Puts old new waited waits text (Ok done) = PutsAll old new waited waits text
Puts old new waited waits text (Err e) = PutsFront old new waited text
