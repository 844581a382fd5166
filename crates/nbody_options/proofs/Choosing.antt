-- What clap's answers say of words in the plain form.
use Rattle.std.proofs.Common.{◌≡◌, ◌∙◌, ap, sym, subst, refl, true, List, [], Option, Some, None, is_some, true≢false, ⊎_elim, option_and_then}
use Rattle.clap.specs.Walk.{first_of}
use Rattle.clap.specs.Matches.{first_value, found_of}
use Rattle.clap.specs.Faults.{fault_of, is_simple_and_free}
use Rattle.clap.specs.Kinds.{HasKind}
use Rattle.clap.specs.Values.{kind_of}
use Rattle.clap.specs.Simple.{App, HasMatchesOf, is_simple, matches_of}
use Rattle.clap.specs.declared.error.Error.{Error}
use Rattle.clap.specs.declared.error.kind.ErrorKind.TheVariants as kind
use Rattle.clap.specs.declared.parser.matches.ArgMatches.{ArgMatches}
use Rattle.clap.proofs.WalkLemmas.{first_value-rows}
use Rattle.nbody_options.specs.Line.{line}
use Rattle.nbody_options.specs.Options.{choices_of, options_in, options_of}
use Rattle.nbody_options.specs.Plain.{Text, given_by, option_names, value_of}
use Rattle.nbody_options.proofs.ClapLine.{faults, first_of-value_of, found_in, plain_words_pass}

-- clap states the matches of the line
line_is_simple : is_simple line ≡ true
unfolding line option_names
line_is_simple = refl

-- clap states the faults of the line
line_is_free : is_simple_and_free line ≡ true
unfolding line option_names
line_is_free = refl

-- the value that is there
is_there : {X : Type 0} (o : Option X) → is_some o ≡ true → (x : X) × (o ≡ Some x)
is_there None e = absurd (true≢false (sym e))
is_there (Some x) e = (x, refl)

-- clap refuses words in the plain form for want of memory alone
pub refuses_for_memory : (a : App) (words : List Text) (e : Error) → a ≡ line → is_some (given_by words) ≡ true
    → (is_simple_and_free a ≡ true → HasKind (fault_of a words) e) → kind_of e ≡ kind.OutOfMemory
unfolding faults
refuses_for_memory a words e same plain kinds =
    let given = is_there (given_by words) plain in
    let none : fault_of a words ≡ [] = ap (λ (b : App). fault_of b words) same ∙ (plain_words_pass words given.0 given.1).0 in
    ⊎_elim (λ h. h) (λ h. absurd h) (subst (λ ks. HasKind ks e) none (kinds (ap is_simple_and_free same ∙ line_is_free)))

-- the values that clap finds are those that the words give
pub values_found : (a : App) (words : List Text) (m : ArgMatches) → a ≡ line → is_some (given_by words) ≡ true → HasMatchesOf a words m
    → options_of words ≡ choices_of (first_value (found_of m))
unfolding found_in
values_found a words m same plain matches =
    let given = is_there (given_by words) plain in
    let rows = (matches (ap is_simple same ∙ line_is_simple)).0 ∙ ap (λ (b : App). matches_of b words) same ∙ (plain_words_pass words given.0 given.1).1 in
    let found : (name : Text) → value_of name given.0 ≡ first_value (found_of m) name =
    λ name. sym (first_value-rows (found_of m) name ∙ ap (first_of name) rows ∙ first_of-value_of name given.0) in
    ap (option_and_then options_in) given.1 ∙ (λ i. choices_of (λ name. found name i))
