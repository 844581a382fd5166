-- What clap makes of words in the plain form.
use Rattle.std.proofs.Common.{◌≡◌, ◌∙◌, ◌+◌, ◌==◌, ◌&&◌, ◌||◌, ℕ, Bool, cond, codes, true, false, not, suc, refl, sym, ap, ap₂, subst, arith, List, [], ◌∷◌}
use Rattle.std.proofs.Common.{◌++◌, map, take, drop, find, get_or, Option, Some, None, option_map, option_and_then, if◌then◌else◌, true≢false}
use Rattle.std.specs.Prelude.{⊤}
use Rattle.std.specs.List.{list_any, position, fold}
use Rattle.std.specs.Option.{option_map_or}
use Rattle.std.specs.Str.{bytes_eq}
use Rattle.std.specs.Cmp.Lexicographic.{bytes_decides}
use Rattle.std.proofs.lemmas.List.{map-append, set-get_or, set_split}
use Rattle.std.proofs.lemmas.Bool.Decides.{nat_tests}
use Rattle.std.proofs.lemmas.List.Folds.{list_any-append}
use Rattle.std.proofs.lemmas.List.Quantifiers.{position-Some}
use Rattle.std.proofs.lemmas.Option.{none-some, same_Some}
use Rattle.clap.specs.Lexer.{long_of, short_of}
use Rattle.clap.specs.Kinds.{Kinds, or_else}
use Rattle.clap.specs.Walk.{at_row, more_values, is_pending, rows_after, used_by_id, with_values, without, Held, Row, Rule, Walk, Waiting, idle, option}
use Rattle.clap.specs.Walk.{arg_by_id, arg_by_long, first_of, has_row, nothing_held, settled, used, walked, with_default}
use Rattle.clap.specs.Facts.{explicit_source}
use Rattle.clap.proofs.FaultLemmas.{leaf_fault}
use Rattle.clap.specs.Faults.{built_fault, default_fault, fault_of, settle_fault, turn_fault, use_fault, walk_fault, defaults_fault, check_fault, level_fault}
use Rattle.clap.specs.Takes.{is_given as is_row_given}
use Rattle.clap.specs.Simple.{App, Shape, argument_words, names_of, built, filled, matches_of, new_rule, new_shape, with_index}
use Rattle.clap.specs.declared.builder.action.ArgAction.TheVariants.{Set}
use Rattle.clap.specs.declared.parser.matches.ValueSource.TheVariants.{CommandLine}
use Rattle.clap.specs.declared.builder.value_parser.Reading.TheVariants.{AsWritten}
use Rattle.nbody_options.specs.Plain.{Given, Scan, Text, cut_at, given_after, given_by, goes_on, is_given, is_value, joined, met, named_value, option_named}
use Rattle.nbody_options.specs.Plain.{option_names, scanned, meant, value_of, whole, with_use, with_value}
use Rattle.nbody_options.specs.Line.{command_rule, line, option_rule}

-- the kinds of error that clap may give at the words, none where it takes them
unfoldable pub faults : List Text → Kinds
faults words = fault_of line words

-- what clap finds in the words
unfoldable pub found_in : List Text → List Row
found_in words = matches_of line words

-- ---- the rows of what was given

abbrev pub row_for : Text × Text → Row
row_for p = record { id = p.0; values = p.1 ∷ []; count = None; source = Some CommandLine; reading = AsWritten }

abbrev pub rows_for : Given → List Row
rows_for given = map row_for given

-- a name has a row exactly where it was given
pub has_row-is_given : (name : Text) (given : Given) → has_row name (rows_for given) ≡ is_given name given
has_row-is_given name [] = refl
has_row-is_given name (p ∷ ps) = ap (λ b. bytes_eq p.0 name || b) (has_row-is_given name ps)

-- the first value of a name among the rows
pub first_of-value_of : (name : Text) (given : Given) → first_of name (rows_for given) ≡ value_of name given
first_of-value_of name [] = refl
first_of-value_of name (p ∷ ps) = go (bytes_eq p.0 name) (first_of-value_of name ps)
  where
    go : (b : Bool) → first_of name (rows_for ps) ≡ value_of name ps
        → option_and_then (λ (r : Row). Rattle.std.specs.Prelude.slice_get r.values 0)
        (cond b (Some (row_for p)) (find (λ (r : Row). bytes_eq r.id name) (rows_for ps)))
        ≡ option_map (λ (q : Text × Text). q.1) (cond b (Some p) (find (λ (q : Text × Text). bytes_eq q.0 name) ps))
    go true e = refl
    go false e = e

-- ---- one argument with a value, as clap completes it

abbrev pub value_rule : Text → Option Text → Bool → Rule
value_rule id long required = filled (record (new_rule id) { long = long; action = Some Set; required = required })

abbrev pub command_filled : Rule
command_filled = with_index 1 (filled command_rule)

abbrev pub option_filled : Text → Rule
option_filled name = filled (option_rule name)

abbrev pub rules_of_names : List Text → List Rule
rules_of_names names = command_filled ∷ map option_filled names

-- the rules of the line are completed so
pub line_rules : (built line).top.rules ≡ rules_of_names option_names
unfolding line option_names
line_rules = refl

-- ---- tests

-- what an optional value under a test says, where it is there
pub if_some : {X : Type 0} (b : Bool) (x y : X) → (if b then Some x else None) ≡ Some y → (b ≡ true) × (x ≡ y)
if_some true x y e = (refl, same_Some x y e)
if_some false x y e = absurd (none-some y e)

-- two tests that both pass
pub both : (a b : Bool) → (a && b) ≡ true → (a ≡ true) × (b ≡ true)
both true b e = (refl, e)
both false b e = absurd (true≢false (sym e))

-- a test whose negation passes
pub not_true : (b : Bool) → not b ≡ true → b ≡ false
not_true true e = absurd (true≢false (sym e))
not_true false e = refl

-- a test, or one that fails
or_false : (b : Bool) → (b || false) ≡ b
or_false true = refl
or_false false = refl

-- a test, or one that passes
or_true : (b : Bool) → (b || true) ≡ true
or_true true = refl
or_true false = refl

-- a test, and one that fails
and_false : (b : Bool) → (b && false) ≡ false
and_false true = refl
and_false false = refl

-- a choice between the same
either_way : {X : Type 0} (b : Bool) (x : X) → (if b then x else x) ≡ x
either_way true x = refl
either_way false x = refl

-- a text is equal to itself
pub same_bytes : (xs : Text) → bytes_eq xs xs ≡ true
same_bytes xs = (bytes_decides xs xs).1 refl

-- ---- how clap reads the words of the form

record IsPlainWord (word : Text) : Type 0 where
  pub no_end : bytes_eq word (45 ∷ 45 ∷ []) ≡ false
  pub no_long : long_of word ≡ None
  pub no_short : short_of word ≡ None

-- a value is no option and no `--` to clap
value_is_plain : (word : Text) → is_value word ≡ true → IsPlainWord word
value_is_plain [] e = absurd (true≢false (sym e))
value_is_plain (b ∷ bytes) e =
    let other : (b == 45) ≡ false = not_true _ e in
    record {
      no_end = rw other refl;
      no_long = rw other refl;
      no_short = rw other refl;
    }

-- what clap needs to know of an option's name, where the rules of the line are those of `names`
record IsOption (names : List Text) (name : Text) : Type 0 where
  pub word_long : long_of (45 ∷ 45 ∷ name) ≡ Some (name, None)
  pub word_no_end : bytes_eq (45 ∷ 45 ∷ name) (45 ∷ 45 ∷ []) ≡ false
  pub joined_long : (value : Text) → long_of (45 ∷ 45 ∷ (name ++ 61 ∷ value)) ≡ Some (name, Some value)
  pub joined_no_end : (value : Text) → bytes_eq (45 ∷ 45 ∷ (name ++ 61 ∷ value)) (45 ∷ 45 ∷ []) ≡ false
  pub by_long : arg_by_long (rules_of_names names) name ≡ Some (option_filled name)
  pub by_id : arg_by_id (rules_of_names names) name ≡ Some (option_filled name)
  pub no_command : bytes_eq name (codes "command") ≡ false

-- each of the names is that of an option
abbrev AreOptions : List Text → List Text → Type 0
AreOptions names [] = ⊤
AreOptions names (x ∷ xs) = IsOption names x × AreOptions names xs

-- what clap computes of a name, with a value that it may be joined to
abbrev Told : Type 0
Told = Option (Text × Option Text) × Bool × Option (Text × Option Text) × Bool × Option Rule × Option Rule × Bool

abbrev told_of : List Text → Text → Text → Told
told_of names name value = (
  long_of (45 ∷ 45 ∷ name),
  bytes_eq (45 ∷ 45 ∷ name) (45 ∷ 45 ∷ []),
  long_of (45 ∷ 45 ∷ (name ++ 61 ∷ value)),
  bytes_eq (45 ∷ 45 ∷ (name ++ 61 ∷ value)) (45 ∷ 45 ∷ []),
  arg_by_long (rules_of_names names) name,
  arg_by_id (rules_of_names names) name,
  bytes_eq name (codes "command"),
)

option_is : {names : List Text} {name : Text}
    → ((value : Text) → told_of names name value ≡ (
      Some (name, None),
      false,
      Some (name, Some value),
      false,
      Some (option_filled name),
      Some (option_filled name),
      false,
    ))
    → IsOption names name
option_is told = record {
  word_long = ap (λ t. t.0) (told []);
  word_no_end = ap (λ t. t.1) (told []);
  joined_long = λ v. ap (λ t. t.2) (told v);
  joined_no_end = λ v. ap (λ t. t.3) (told v);
  by_long = ap (λ t. t.4) (told []);
  by_id = ap (λ t. t.5) (told []);
  no_command = ap (λ t. t.6) (told []);
}

-- the ten names are those of options
names_are_options : AreOptions option_names option_names
unfolding option_names
names_are_options = (
  option_is (λ v. refl),
  (
    option_is (λ v. refl),
    (
      option_is (λ v. refl),
      (
        option_is (λ v. refl),
        (
          option_is (λ v. refl),
          (
            option_is (λ v. refl),
            (option_is (λ v. refl), (option_is (λ v. refl), (option_is (λ v. refl), (option_is (λ v. refl), tt)))),
          ),
        ),
      ),
    ),
  ),
)

-- ---- one use

-- the command line as clap completes it, with the options of `names`
abbrev line_shape : List Text → Shape
line_shape names = record (new_shape (codes "nbody")) {
  rules = rules_of_names names;
  no_binary_name = true;
  disable_help_flag = true;
  disable_help_subcommand = true;
  is_built = true;
}

-- the line is completed so
line_is : (built line).top ≡ line_shape option_names
unfolding line option_names
line_is = refl

-- a new row goes to the end
row_added : (id : Text) (change : Row → List Row) (missing : List Row) (given : Given) → is_given id given ≡ false
    → at_row id change missing (rows_for given) ≡ rows_for given ++ missing
row_added id change missing [] e = refl
row_added id change missing (p ∷ ps) e = go (bytes_eq p.0 id) e (λ f. row_added id change missing ps f)
  where
    go : (b : Bool) → (b || is_given id ps) ≡ false → (is_given id ps ≡ false → at_row id change missing (rows_for ps) ≡ rows_for ps ++ missing)
        → cond b (change (row_for p) ++ rows_for ps) (row_for p ∷ at_row id change missing (rows_for ps)) ≡ row_for p ∷ (rows_for ps ++ missing)
    go true f more = absurd (true≢false f)
    go false f more = ap (λ rs. row_for p ∷ rs) (more f)

-- one more value is one more row
rows_more : (given : Given) (p : Text × Text) → rows_for (given ++ p ∷ []) ≡ rows_for given ++ row_for p ∷ []
rows_more given p = map-append row_for given (p ∷ [])

-- nothing at the end
append_none : {X : Type 0} (xs : List X) → xs ++ [] ≡ xs
append_none [] = refl
append_none (x ∷ xs) = ap (λ ys. x ∷ ys) (append_none xs)

-- a first use of an option gives one more row
use_adds : (name value : Text) (given : Given) → is_given name given ≡ false
    → used (option_filled name) (value ∷ []) (rows_for given) ≡ rows_for (given ++ (name, value) ∷ [])
use_adds name value given new =
    let gone : without name (rows_for given) ≡ rows_for given = row_added name (λ _. []) [] given new ∙ append_none (rows_for given) in
    ap (with_values name AsWritten CommandLine (value ∷ [])) gone ∙ row_added name (more_values CommandLine (value ∷ [])) _ given new
    ∙ sym (rows_more given (name, value))

-- a first use of the command gives one more row
command_adds : (value : Text) (given : Given) → is_given (codes "command") given ≡ false
    → used command_filled (value ∷ []) (rows_for given) ≡ rows_for (given ++ (codes "command", value) ∷ [])
command_adds value given new = use_adds (codes "command") value given new

-- a first use has no fault
use_passes : (name value : Text) (given : Given) → is_given name given ≡ false → use_fault false (option_filled name) (value ∷ []) (rows_for given) ≡ []
use_passes name value given new = rw (has_row-is_given name given, new) refl

-- ---- where clap's walk stands

-- the walk between two words of the form, which has no `--` behind it and met no subcommand
abbrev walk_at : Held → Waiting → ℕ → Walk
walk_at h waiting position = record { held = h; waiting = waiting; position = position; is_trailing = false; stopped = None }

-- what the walk waits for
abbrev waiting_for : Option Text → Waiting
waiting_for None = idle
waiting_for (Some name) = option name

-- the place of the next positional
abbrev place_of : Given → ℕ
place_of given = if is_given (codes "command") given then 2 else 1

-- what the walk holds: used without a fault it gives the rows of what was given, and where an option waits it is pending without a value
abbrev Stands : List Text → Given → Option Text → Held → Type 0
Stands names given None h = (settle_fault (rules_of_names names) false h ≡ []) × ((settled (rules_of_names names) h).rows ≡ rows_for given)
Stands names given (Some name) h = (h.rows ≡ rows_for given) × (h.pending ≡ Some (name, [])) × IsOption names name

-- the walk where the scan stands
abbrev walk_of : Scan → Held → Walk
walk_of s h = walk_at h (waiting_for s.waits) (place_of s.given)

-- what one word makes of the walk
record Moves (names : List Text) (s : Scan) (h : Held) (word : Text) (t : Scan) : Type 0 where
  pub held : Held
  pub stands : Stands names t.given t.waits held
  pub passes : turn_fault (line_shape names) [] (walk_of s h) word ≡ []
  pub goes : walked (rules_of_names names) [] (walk_of s h) word ≡ walk_of t held

-- a value that is pending is used without a fault, and gives one more row
value_stands : (names : List Text) (a : Rule) (name value : Text) (given : Given) (rows : List Row) (skip : ℕ) → arg_by_id (rules_of_names names) name ≡ Some a
    → rows ≡ rows_for given → use_fault false a (value ∷ []) (rows_for given) ≡ []
    → used a (value ∷ []) (rows_for given) ≡ rows_for (given ++ (name, value) ∷ [])
    → Stands names (given ++ (name, value) ∷ []) None (record { rows = rows; pending = Some (name, value ∷ []); skip = skip })
value_stands names a name value given rows skip found same fits adds = (
  ap (λ o. option_map_or (λ (r : Rule). use_fault false r (value ∷ []) rows) o []) found ∙ ap (use_fault false a (value ∷ [])) same ∙ fits,
  ap (λ o. used_by_id o (value ∷ []) rows) found ∙ ap (used a (value ∷ [])) same ∙ adds,
)

-- an option leaves the place of the next positional
place_kept : (name value : Text) (given : Given) → bytes_eq name (codes "command") ≡ false → place_of (given ++ (name, value) ∷ []) ≡ place_of given
place_kept name value given other =
    ap (λ b. if b then 2 else 1)
    (list_any-append (λ (p : Text × Text). bytes_eq p.0 (codes "command")) given ((name, value) ∷ [])
    ∙ ap (λ b. is_given (codes "command") given || (b || false)) other ∙ or_false _)

-- the value that an option waits for
takes_value : (names : List Text) (given : Given) (name word : Text) (h : Held) → Stands names given (Some name) h → is_value word ≡ true
    → is_given name given ≡ false
    → Moves names (record { given = given; waits = Some name }) h word (record { given = given ++ (name, word) ∷ []; waits = None })
unfolding walked
takes_value names given name word h (same, waits, known) proper new =
    let plain = value_is_plain word proper in
    record {
      held = record { rows = h.rows; pending = Some (name, word ∷ []); skip = h.skip };
      stands = value_stands names (option_filled name) name word given h.rows h.skip known.by_id same (use_passes name word given new)
          (use_adds name word given new);
      passes = rw (plain.no_end, plain.no_long, plain.no_short) refl;
      goes = rw (plain.no_end, plain.no_long, plain.no_short, waits, known.by_id, same_bytes name, place_kept name word given known.no_command) refl;
    }

-- an option whose value is the next word
takes_option : (names : List Text) (given : Given) (name : Text) (h : Held) → Stands names given None h → IsOption names name
    → Moves names (record { given = given; waits = None }) h (45 ∷ 45 ∷ name) (record { given = given; waits = Some name })
unfolding walked
takes_option names given name h (fits, same) known =
    record {
      held = record { rows = (settled (rules_of_names names) h).rows; pending = Some (name, []); skip = h.skip };
      stands = (same, refl, known);
      passes = rw (known.word_no_end, known.word_long, known.by_long, fits) refl;
      goes = rw (known.word_no_end, known.word_long, known.by_long) refl;
    }

-- an option joined to its value
takes_joined : (names : List Text) (given : Given) (name value : Text) (h : Held) → Stands names given None h → IsOption names name
    → is_given name given ≡ false
    → Moves names (record { given = given; waits = None }) h (45 ∷ 45 ∷ (name ++ 61 ∷ value)) (record { given = given ++ (name, value) ∷ []; waits = None })
unfolding walked
takes_joined names given name value h (fits, same) known new =
    record {
      held = record { rows = used (option_filled name) (value ∷ []) (settled (rules_of_names names) h).rows; pending = None; skip = h.skip };
      stands = (refl, ap (used (option_filled name) (value ∷ [])) same ∙ use_adds name value given new);
      passes = rw (known.joined_no_end value, known.joined_long value, known.by_long, fits)
          (ap (λ k. or_else k []) (ap (use_fault false (option_filled name) (value ∷ [])) same ∙ use_passes name value given new));
      goes = rw (known.joined_no_end value, known.joined_long value, known.by_long, place_kept name value given known.no_command) refl;
    }

-- the command takes the first place
place_moved : (value : Text) (given : Given) → place_of (given ++ (codes "command", value) ∷ []) ≡ 2
place_moved value given =
    ap (λ b. if b then 2 else 1)
    (list_any-append (λ (p : Text × Text). bytes_eq p.0 (codes "command")) given ((codes "command", value) ∷ []) ∙ or_true (is_given (codes "command") given))

-- clap finds the command by its id
command_by_id : (names : List Text) → arg_by_id (rules_of_names names) (codes "command") ≡ Some command_filled
command_by_id names = refl

-- the command
takes_command : (names : List Text) (given : Given) (word : Text) (h : Held) → Stands names given None h → is_value word ≡ true
    → is_given (codes "command") given ≡ false
    → Moves names (record { given = given; waits = None }) h word (record { given = given ++ (codes "command", word) ∷ []; waits = None })
unfolding walked
takes_command names given word h (fits, same) proper new =
    let plain = value_is_plain word proper in
    record {
      held = record { rows = (settled (rules_of_names names) h).rows; pending = Some (codes "command", word ∷ []); skip = h.skip };
      stands = value_stands names command_filled (codes "command") word given _ h.skip (command_by_id names) same
          (use_passes (codes "command") word given new) (command_adds word given new);
      passes = rw (plain.no_end, plain.no_long, plain.no_short, new, and_false (is_pending command_filled h.pending)) fits;
      goes = rw (plain.no_end, plain.no_long, plain.no_short, new, and_false (is_pending command_filled h.pending), place_moved word given) refl;
    }

-- ---- the words of the form

-- the name of an option that a word begins with
named_in : (names xs : List Text) (word name : Text) → AreOptions names xs → find (λ n. bytes_eq word (45 ∷ 45 ∷ n)) xs ≡ Some name
    → (word ≡ 45 ∷ 45 ∷ name) × IsOption names name
named_in names [] word name known found = absurd (none-some name found)
named_in names (x ∷ xs) word name (here, rest) found = go (bytes_eq word (45 ∷ 45 ∷ x)) refl found (λ f. named_in names xs word name rest f)
  where
    go : (b : Bool) → bytes_eq word (45 ∷ 45 ∷ x) ≡ b → cond b (Some x) (find (λ n. bytes_eq word (45 ∷ 45 ∷ n)) xs) ≡ Some name
        → (find (λ n. bytes_eq word (45 ∷ 45 ∷ n)) xs ≡ Some name → (word ≡ 45 ∷ 45 ∷ name) × IsOption names name)
        → (word ≡ 45 ∷ 45 ∷ name) × IsOption names name
    go true e f more =
        let is : x ≡ name = same_Some x name f in
        ((bytes_decides word (45 ∷ 45 ∷ x)).0 e ∙ ap (λ n. 45 ∷ 45 ∷ n) is, subst (IsOption names) is here)
    go false e f more = more f

-- what one word makes of the walk over the line
abbrev LineMoves : Scan → Held → Text → Scan → Type 0
LineMoves = Moves option_names

-- a value, where it may stand, leads on
value_leads : (given : Given) (name value : Text) (t : Scan) (P : Scan → Type 0) → with_value given name value ≡ Some t
    → (is_value value ≡ true → is_given name given ≡ false → P (record { given = given ++ (name, value) ∷ []; waits = None })) → P t
value_leads given name value t P e next =
    let parts = if_some (is_value value && not (is_given name given)) _ t e in
    let tests = both (is_value value) (not (is_given name given)) parts.0 in
    subst P parts.1 (next tests.0 (not_true _ tests.1))

-- the word that was cut at its first `=`
word_cut : (word : Text) (at : ℕ) → position (λ b. b == 61) word ≡ Some at → word ≡ take at word ++ 61 ∷ drop (at + 1) word
word_cut word at e =
    let cut = position-Some (λ b. b == 61) word at 0 e in
    let here : get_or word at 0 ≡ 61 = grind (arith, nat_tests) in
    let next : at + 1 ≡ suc at = omega arith in
    let whole = sym (set_split word at (get_or word at 0) cut.0) ∙ set-get_or word at 0 in
    sym whole ∙ ap₂ (λ b n. take at word ++ b ∷ drop n word) here (sym next)

-- a word that joins an option to its value
joined_is : (word : Text) (p : Text × Text) → named_value word ≡ Some p → (word ≡ 45 ∷ 45 ∷ (p.0 ++ 61 ∷ p.1)) × IsOption option_names p.0
joined_is word p e = go (position (λ b. b == 61) word) refl e
  where
    go : (o : Option ℕ) → position (λ b. b == 61) word ≡ o → option_and_then (cut_at word) o ≡ Some p
        → (word ≡ 45 ∷ 45 ∷ (p.0 ++ 61 ∷ p.1)) × IsOption option_names p.0
    go None at f = absurd (none-some p f)
    go (Some i) at f = named (option_named (take i word)) refl f
      where
        named : (o : Option Text) → option_named (take i word) ≡ o → option_map (λ name. (name, drop (i + 1) word)) o ≡ Some p
            → (word ≡ 45 ∷ 45 ∷ (p.0 ++ 61 ∷ p.1)) × IsOption option_names p.0
        named None known g = absurd (none-some p g)
        named (Some name) known g =
            let parts = named_in option_names option_names (take i word) name names_are_options known in
            let is : (name, drop (i + 1) word) ≡ p = same_Some _ p g in
            subst (λ (q : Text × Text). (word ≡ 45 ∷ 45 ∷ (q.0 ++ 61 ∷ q.1)) × IsOption option_names q.0) is
            (word_cut word i at ∙ ap (λ (ws : Text). ws ++ 61 ∷ drop (i + 1) word) parts.0, parts.1)

-- a word that joins an option to its value, or the command, moves the walk
joined_leads : (given : Given) (word : Text) (h : Held) (t : Scan) (o : Option (Text × Text)) → named_value word ≡ o → Stands option_names given None h
    → with_use given (joined word o) ≡ Some t → LineMoves (record { given = given; waits = None }) h word t
joined_leads given word h t None e stands leads =
    value_leads given (codes "command") word t (LineMoves (record { given = given; waits = None }) h word) leads
    (takes_command option_names given word h stands)
joined_leads given word h t (Some p) e stands leads =
    let cut = joined_is word p e in
    value_leads given p.0 p.1 t (LineMoves (record { given = given; waits = None }) h word) leads (λ proper new.
    subst (λ (w : Text). LineMoves (record { given = given; waits = None }) h w (record { given = given ++ (p.0, p.1) ∷ []; waits = None })) (sym cut.0)
    (takes_joined option_names given p.0 p.1 h stands cut.1 new))

-- a word that no option waits for moves the walk
met_leads : (given : Given) (word : Text) (h : Held) (t : Scan) (o : Option Text) → option_named word ≡ o → Stands option_names given None h
    → with_use given (met word o) ≡ Some t → LineMoves (record { given = given; waits = None }) h word t
met_leads given word h t None e stands leads = joined_leads given word h t (named_value word) refl stands leads
met_leads given word h t (Some name) e stands leads =
    let known = named_in option_names option_names word name names_are_options e in
    let there = subst (λ (w : Text). LineMoves (record { given = given; waits = None }) h w (record { given = given; waits = Some name })) (sym known.0)
    (takes_option option_names given name h stands known.1) in
    subst (LineMoves (record { given = given; waits = None }) h word) (same_Some _ t leads) there

-- a word that fits the form moves the walk
scan_leads : (given : Given) (waits : Option Text) (word : Text) (h : Held) (t : Scan) → Stands option_names given waits h
    → with_use given (meant waits word) ≡ Some t → LineMoves (record { given = given; waits = waits }) h word t
scan_leads given None word h t stands leads = met_leads given word h t (option_named word) refl stands leads
scan_leads given (Some name) word h t stands leads =
    value_leads given name word t (LineMoves (record { given = given; waits = Some name }) h word) leads (takes_value option_names given name word h stands)

-- where clap's walk ends
record Ends (w : Walk) (given : Given) : Type 0 where
  pub stopped : w.stopped ≡ None
  pub fits : settle_fault (rules_of_names option_names) false w.held ≡ []
  pub rows : (settled (rules_of_names option_names) w.held).rows ≡ rows_for given
  pub commanded : is_given (codes "command") given ≡ true

-- where the line is whole, the walk ends with what was given
ends_whole : (s : Scan) (h : Held) (given : Given) → Stands option_names s.given s.waits h → whole s.given s.waits ≡ Some given → Ends (walk_of s h) given
ends_whole s h given = go s.given s.waits
  where
    go : (g : Given) (waits : Option Text) → Stands option_names g waits h → whole g waits ≡ Some given
        → Ends (walk_of (record { given = g; waits = waits }) h) given
    go g (Some name) stands e = absurd (none-some given e)
    go g None stands e =
        let parts = if_some (is_given (codes "command") g) g given e in
        record {
          stopped = refl;
          fits = stands.0;
          rows = stands.1 ∙ ap rows_for parts.1;
          commanded = ap (is_given (codes "command")) (sym parts.1) ∙ parts.0;
        }

-- the walk over the words has no fault, and ends with the rows of what was given
walks : (words : List Text) (s : Scan) (h : Held) (given : Given) → Stands option_names s.given s.waits h → given_after words s ≡ Some given
    → (walk_fault (line_shape option_names) [] (walk_of s h) words ≡ []) × Ends (fold (walked (rules_of_names option_names) []) (walk_of s h) words) given
unfolding given_after scanned walk_fault
walks [] s h given stands e = (refl, ends_whole s h given stands e)
walks (word ∷ words) s h given stands e = go (with_use s.given (meant s.waits word)) refl e (λ t k stand f. walks words t k given stand f)
  where
    go : (o : Option Scan) → with_use s.given (meant s.waits word) ≡ o → goes_on (given_after words) o ≡ Some given
        → ((t : Scan) (k : Held) → Stands option_names t.given t.waits k → given_after words t ≡ Some given
        → (walk_fault (line_shape option_names) [] (walk_of t k) words ≡ []) × Ends (fold (walked (rules_of_names option_names) []) (walk_of t k) words) given)
        → (walk_fault (line_shape option_names) [] (walk_of s h) (word ∷ words) ≡ [])
        × Ends (fold (walked (rules_of_names option_names) []) (walk_of s h) (word ∷ words)) given
    go None leads f more = absurd (none-some given f)
    go (Some t) leads f more =
        let step = scan_leads s.given s.waits word h t stands leads in
        let rest = more t step.held step.stands f in (
          ap₂ or_else step.passes (ap (λ (w : Walk). walk_fault (line_shape option_names) [] w words) step.goes ∙ rest.0),
          subst (λ (w : Walk). Ends (fold (walked (rules_of_names option_names) []) w words) given) (sym step.goes) rest.1,
        )

-- ---- after the words

-- no option has a default value
no_default : (rows : List Row) (name : Text) → default_fault rows (option_filled name) ≡ []
no_default rows name = rw (or_true (has_row name rows)) refl

-- the command has no default value
no_command_default : (rows : List Row) → default_fault rows command_filled ≡ []
no_command_default rows = rw (or_true (has_row (codes "command") rows)) refl

-- the defaults of the options have no fault
defaults_pass : (rows : List Row) (names : List Text) → defaults_fault rows (map option_filled names) ≡ []
unfolding defaults_fault
defaults_pass rows [] = refl
defaults_pass rows (name ∷ names) =
    ap₂ or_else (no_default rows name) (ap (λ rs. defaults_fault rs (map option_filled names)) (either_way (has_row name rows) rows) ∙ defaults_pass rows names)

-- no default has a fault
all_pass : (rows : List Row) (names : List Text) → defaults_fault rows (rules_of_names names) ≡ []
unfolding defaults_fault
all_pass rows names =
    ap₂ or_else (no_command_default rows)
    (ap (λ rs. defaults_fault rs (map option_filled names)) (either_way (has_row (codes "command") rows) rows) ∙ defaults_pass rows names)

-- the options' defaults add no row
options_add_none : (rows : List Row) (names : List Text) → fold with_default rows (map option_filled names) ≡ rows
options_add_none rows [] = refl
options_add_none rows (name ∷ names) =
    ap (λ rs. fold with_default rs (map option_filled names)) (either_way (has_row name rows) rows) ∙ options_add_none rows names

-- no default adds a row
all_add_none : (rows : List Row) (names : List Text) → fold with_default rows (rules_of_names names) ≡ rows
all_add_none rows names =
    ap (λ rs. fold with_default rs (map option_filled names)) (either_way (has_row (codes "command") rows) rows) ∙ options_add_none rows names

-- the command is given in the words
row_is_given : (name : Text) (given : Given) → is_row_given name (rows_for given) ≡ is_given name given
row_is_given name [] = refl
row_is_given name (p ∷ ps) = go (bytes_eq p.0 name) (row_is_given name ps)
  where
    go : (b : Bool) → is_row_given name (rows_for ps) ≡ is_given name ps
        → option_map_or (λ (r : Row). explicit_source r.source) (cond b (Some (row_for p)) (find (λ (r : Row). bytes_eq r.id name) (rows_for ps)))
        false ≡ (b || is_given name ps)
    go true e = refl
    go false e = e

-- no option is missing, since none is required
options_missing : (rows : List Row) (names : List Text) → list_any (λ (a : Rule). a.required && not (is_row_given a.id rows)) (map option_filled names) ≡ false
options_missing rows [] = refl
options_missing rows (name ∷ names) = options_missing rows names

-- where the command was given, clap's last checks pass
check_passes : (given : Given) (names : List Text) → is_given (codes "command") given ≡ true → check_fault (line_shape names) (rows_for given) false ≡ []
check_passes given names e = rw (row_is_given (codes "command") given, e, options_missing (rows_for given) names) refl

-- the line, completed, has no subcommand
line_built : built line ≡ record { top = line_shape option_names; subs = [] }
unfolding line option_names
line_built = refl

-- all words are the line's
line_words : (words : List Text) → argument_words line words ≡ words
unfolding line
line_words words = refl

-- the line has no fault at words of the form, and the rows of what they give
level_passes : (words : List Text) (given : Given) → given_by words ≡ Some given
    → (level_fault (line_shape option_names) [] nothing_held words false [] ≡ []) × (rows_after (rules_of_names option_names) [] words ≡ rows_for given)
unfolding option_names
level_passes words given e =
    let walk = walks words (record { given = []; waits = None }) nothing_held given (refl, refl) e in
    let end = walk.1 in (
      rw (walk.0, end.fits, end.rows, all_pass (rows_for given) option_names, all_add_none (rows_for given) option_names)
          (check_passes given option_names end.commanded),
      rw (end.rows) (all_add_none (rows_for given) option_names),
    )

-- at words in the plain form clap has no fault, and finds what is given
pub plain_words_pass : (words : List Text) (given : Given) → given_by words ≡ Some given → (faults words ≡ []) × (found_in words ≡ rows_for given)
unfolding faults found_in
plain_words_pass words given e =
    let level = level_passes words given e in (
      ap₂ (λ (a : App) (ws : List Text). built_fault a nothing_held ws) line_built (line_words words)
          ∙ leaf_fault (record { top = line_shape option_names; subs = [] }) nothing_held words refl ∙ level.0,
      ap₂ (λ (a : App) (ws : List Text). rows_after a.top.rules (names_of a) ws) line_built (line_words words) ∙ level.1,
    )
