-- How one more word changes what a line gives.
use Rattle.std.proofs.Common.{◌≡◌, ◌∙◌, ◌&&◌, Bool, true, false, not, sym, ap, refl, List, [], ◌∷◌, ◌++◌, map, Option, Some, None, is_some, option_map, codes}
use Rattle.std.proofs.Common.{if◌then◌else◌, Bor}
use Rattle.std.specs.List.{list_any}
use Rattle.std.specs.Str.{bytes_eq}
use Rattle.clap.proofs.WalkLemmas.{list_any-map}
use Rattle.nbody_options.specs.Plain.{Given, Text, given_after, goes_on, is_given, is_value, meant, scanned, with_use}

-- a name is among those that were given exactly where it stands in the list of them
pub names_given : (given : Given) (names : List (Bor Text)) (name : Text) → map (λ p. p.0) given ≡ map (λ s. s.now) names
    → list_any (λ s. bytes_eq s.now name) names ≡ is_given name given
names_given given names name same =
    list_any-map (λ n. bytes_eq n name) (λ s. s.now) names ∙ ap (list_any (λ n. bytes_eq n name)) (sym same)
    ∙ sym (list_any-map (λ n. bytes_eq n name) (λ p. p.0) given)

module _ (given : Given) (waits : Option Text) (word : Text) (words : List Text) (name : Text) where
  -- an option waits for its value
  pub waits_next : meant waits word ≡ (name, None)
      → given_after (word ∷ words) (record { given = given; waits = waits }) ≡ given_after words (record { given = given; waits = Some name })
  unfolding given_after scanned
  waits_next about = ap (λ u. goes_on (given_after words) (with_use given u)) about

  -- a value is given
  pub gives_next : (value : Text) → meant waits word ≡ (name, Some value) → is_value value ≡ true → is_given name given ≡ false
      → given_after (word ∷ words) (record { given = given; waits = waits }) ≡ given_after words (record { given = given ++ (name, value) ∷ []; waits = None })
  unfolding given_after scanned
  gives_next value about proper new = ap (λ u. goes_on (given_after words) (with_use given u)) about ∙ rw (proper, new) refl

  -- a value can't be given
  pub refused_next : (value : Text) → meant waits word ≡ (name, Some value) → (is_value value && not (is_given name given)) ≡ false
      → is_some (given_after (word ∷ words) (record { given = given; waits = waits })) ≡ false
  unfolding given_after scanned
  refused_next value about bad = ap (λ u. is_some (goes_on (given_after words) (with_use given u))) about ∙ rw bad refl

-- an optional value under a test is there where the test passes
if_is_some : {X : Type 0} (b : Bool) (x : X) → is_some (if b then Some x else None) ≡ b
if_is_some true x = refl
if_is_some false x = refl

-- what is whole where no word is left
pub plain_end : (given : Given) (waits : Option (Bor Text)) → is_some (given_after [] (record { given = given; waits = option_map (λ s. s.now) waits }))
    ≡ (not (is_some waits) && is_given (codes "command") given)
unfolding given_after
plain_end given None = if_is_some (is_given (codes "command") given) given
plain_end given (Some name) = refl
