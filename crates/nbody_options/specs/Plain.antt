-- The plain form of a command line: one command, and options with their values, each at most once, in any order.
use Rattle.std.specs.Prelude.{◌==◌, ◌+◌, ◌&&◌, not, ℕ, Bool, false, List, [], ◌∷◌, ◌++◌, Option, Some, None, codes, take, drop, find, map, option_map}
use Rattle.std.specs.Prelude.{option_and_then, position, if◌then◌else◌}
use Rattle.std.specs.List.{list_any}
use Rattle.std.specs.Str.{bytes_eq}
use Rattle.nbody_options.specs.declared.plain.TheConstants.{OPTION_NAMES}

-- a word, by its bytes
abbrev pub Text : Type 0
Text = List ℕ

-- the names of the options
unfoldable pub option_names : List Text
option_names = map (λ name. name.now) OPTION_NAMES

-- the name, of some names, that the word is after two hyphens (45)
abbrev pub name_of : Text → List Text → Option Text
name_of word names = find (λ name. bytes_eq word (45 ∷ 45 ∷ name)) names

-- the option that a word names
abbrev pub option_named : Text → Option Text
option_named word = name_of word option_names

-- the option that stands before the place `at`, with the value that stands after it
abbrev pub cut_at : Text → ℕ → Option (Text × Text)
cut_at word at = option_map (λ name. (name, drop (at + 1) word)) (option_named (take at word))

-- the option and the value of a word that joins them by `=` (61)
abbrev pub named_value : Text → Option (Text × Text)
named_value word = option_and_then (cut_at word) (position (λ b. b == 61) word)

-- a word that isn't empty and doesn't begin with a hyphen
abbrev pub is_value : Text → Bool
is_value [] = false
is_value (b ∷ bytes) = not (b == 45)

-- what was given: the name of each option with its value, and the command under the name `command`
abbrev pub Given : Type 0
Given = List (Text × Text)

-- whether a value was given for a name
abbrev pub is_given : Text → Given → Bool
is_given name given = list_any (λ p. bytes_eq p.0 name) given

-- what a line has given so far, and the option whose value is the next word
pub record Scan : Type 0 where
  pub given : Given
  pub waits : Option Text

-- a value, of what wasn't given before
abbrev pub with_value : Given → Text → Text → Option Scan
with_value given name value =
    if is_value value && not (is_given name given) then Some (record { given = given ++ (name, value) ∷ []; waits = None }) else None

-- the name that a word is about, and the value that it gives for it: an option joined to its value, or the command
abbrev pub joined : Text → Option (Text × Text) → Text × Option Text
joined word (Some p) = (p.0, Some p.1)
joined word None = (codes "command", Some word)

-- the same of an option whose value is the next word, or of another word
abbrev pub met : Text → Option Text → Text × Option Text
met word (Some name) = (name, None)
met word None = joined word (named_value word)

-- the same of any word, which is a value where an option waits for one
abbrev pub meant : Option Text → Text → Text × Option Text
meant (Some name) word = (name, Some word)
meant None word = met word (option_named word)

-- what was given, with a value where there is one
abbrev pub with_use : Given → Text × Option Text → Option Scan
with_use given (name, Some value) = with_value given name value
with_use given (name, None) = Some (record { given = given; waits = Some name })

-- one more word
unfoldable pub scanned : Scan → Text → Option Scan
scanned s word = with_use s.given (meant s.waits word)

-- a line is whole where no option waits and the command was given
abbrev pub whole : Given → Option Text → Option Given
whole given (Some name) = None
whole given None = if is_given (codes "command") given then Some given else None

-- what more words give, where the words so far fit the form
abbrev pub goes_on : (Scan → Option Given) → Option Scan → Option Given
goes_on more None = None
goes_on more (Some s) = more s

-- what is given by words that go on a line
unfoldable pub given_after : List Text → Scan → Option Given
given_after [] s = whole s.given s.waits
given_after (word ∷ words) s = goes_on (given_after words) (scanned s word)

-- what is given by words that have the plain form, and nothing where they don't have it
abbrev pub given_by : List Text → Option Given
given_by words = given_after words (record { given = []; waits = None })

-- the value that was given for a name
abbrev pub value_of : Text → Given → Option Text
value_of name given = option_map (λ p. p.1) (find (λ p. bytes_eq p.0 name) given)
