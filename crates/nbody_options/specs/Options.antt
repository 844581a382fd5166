-- The options of a list of words.
use Rattle.std.specs.Prelude.{◌≡◌, ◌==◌, ◌+◌, ◌-◌, ◌^◌, ℕ, List, Option, Some, None, Result, Ok, Err, codes, take, drop, position}
use Rattle.std.specs.Prelude.{option_and_then, nat_le, if◌then◌else◌, ⊤}
use Rattle.std.specs.Result.{result_ok}
use Rattle.std.specs.Str.{bytes_eq}
use Rattle.octant_code.specs.Decimal.{decimal_read}
use Rattle.octant_code.specs.declared.limits.TheConstants.{MOST_BODIES}
use Rattle.nbody_options.specs.Plain.{Given, Text, given_by, value_of}
use Rattle.bh_model.specs.Plans.{TreePlan}
use Rattle.bh_model.specs.Pulls.{PullLaw}
use Rattle.nbody_options.specs.Choices.{Choices}
use Rattle.bh_model.specs.declared.plan.Builder.{Builder}
use Rattle.bh_model.specs.declared.plan.Builder.TheVariants as builder
use Rattle.nbody_options.specs.declared.options.Command.{Command}
use Rattle.nbody_options.specs.declared.options.Command.TheVariants as command
use Rattle.probe.specs.declared.kind.Kind.TheVariants as kind
use Rattle.nbody_options.specs.declared.options.Made.{Made}
use Rattle.nbody_options.specs.declared.options.OptionsFault.{OptionsFault}
use Rattle.nbody_options.specs.declared.options.OptionsFault.TheVariants as fault
use Rattle.nbody_options.specs.declared.options.ProbeChoice.{ProbeChoice}
use Rattle.nbody_options.specs.declared.options.ProbeChoice.TheVariants as probe
use Rattle.scene_file.specs.declared.made.Shape.{Shape}
use Rattle.scene_file.specs.declared.made.Shape.TheVariants as shape

-- ---- the rule of each value

-- the command that a word names
abbrev pub command_of : Text → Option Command
command_of word =
    if bytes_eq word (codes "tree") then Some command.Tree else if bytes_eq word (codes "passes") then Some command.Passes
    else if bytes_eq word (codes "run") then Some command.Run else if bytes_eq word (codes "trial") then Some command.Trial else None

-- the builder that a word names
abbrev pub builder_of : Text → Option Builder
builder_of word =
    if bytes_eq word (codes "orig") then Some builder.Orig else if bytes_eq word (codes "local") then Some builder.Local
    else if bytes_eq word (codes "update") then Some builder.Update else if bytes_eq word (codes "partree") then Some builder.Partree
    else if bytes_eq word (codes "space") then Some builder.Space else None

-- the probes that a word names
abbrev pub probe_of : Text → Option ProbeChoice
probe_of word =
    if bytes_eq word (codes "none") then Some probe.Nobody else if bytes_eq word (codes "all") then Some probe.All
    else if bytes_eq word (codes "balance") then Some (probe.Only kind.Balance)
    else if bytes_eq word (codes "momentum") then Some (probe.Only kind.Momentum)
    else if bytes_eq word (codes "first") then Some (probe.Only kind.First) else None

-- the shape that a word names
abbrev pub shape_of : Text → Option Shape
shape_of word =
    if bytes_eq word (codes "uniform") then Some shape.Uniform else if bytes_eq word (codes "corner") then Some shape.Corner else None

-- a number that is at least `least`
abbrev pub at_least : ℕ → Option ℕ → Option ℕ
at_least least None = None
at_least least (Some n) = if nat_le least n then Some n else None

-- the number from `least` to `most` that a word writes in decimal
abbrev pub decimal_from : ℕ → ℕ → Text → Option ℕ
decimal_from least most word = at_least least (result_ok (decimal_read word most))

-- a numerator and a denominator, where both are there
abbrev pub fraction : Option ℕ → Option ℕ → Option (ℕ × ℕ)
fraction (Some num) (Some den) = Some (num, den)
fraction _ _ = None

-- the fraction whose numerator ends at a place
abbrev pub theta_at : Text → ℕ → Option (ℕ × ℕ)
theta_at word at = fraction (decimal_from 0 65535 (take at word)) (decimal_from 1 65535 (drop (at + 1) word))

-- two decimals joined by one `/` (47)
abbrev pub theta_of : Text → Option (ℕ × ℕ)
theta_of word = option_and_then (theta_at word) (position (λ b. b == 47) word)

-- ---- the choices of the values that were given

-- the value of an option, which has a default
abbrev pub given_or : {X : Type 0} → X → (Text → Option X) → Option Text → Option X
given_or default read None = Some default
given_or default read (Some word) = read word

-- a law, where each of its values is there
abbrev pub law_from : Option (ℕ × ℕ) → Option ℕ → Option ℕ → Option PullLaw
law_from (Some theta) (Some eps2) (Some g) = Some (record { theta_num = theta.0; theta_den = theta.1; eps2 = eps2; g = g })
law_from _ _ _ = None

-- the law of the values, each by its rule or its default
abbrev pub law_of : (Text → Option Text) → Option PullLaw
law_of value =
    law_from (given_or (1, 1) theta_of (value (codes "theta"))) (given_or 0 (decimal_from 0 (2 ^ 44 - 1)) (value (codes "eps2")))
    (given_or 4294967296 (decimal_from 0 (2 ^ 40)) (value (codes "g")))

-- a plan, where each of its parts is there
abbrev pub plan_from : Option Builder → Option ℕ → Option PullLaw → Option TreePlan
plan_from (Some builder) (Some workers) (Some law) = Some (record { builder = builder; workers = workers; law = law })
plan_from _ _ _ = None

-- the plan of the values, each by its rule or its default
abbrev pub plan_of : (Text → Option Text) → Option TreePlan
plan_of value =
    plan_from (given_or builder.Orig builder_of (value (codes "builder"))) (given_or 1 (decimal_from 1 64) (value (codes "workers"))) (law_of value)

-- a scene to be made, where each of its values is there
abbrev pub made_from : Option ℕ → Option ℕ → Option Shape → Option Made
made_from (Some count) (Some seed) (Some shape) = Some (record { count = count; seed = seed; shape = shape })
made_from _ _ _ = None

-- the scene to be made of the values, each by its rule or its default
abbrev pub made_of : (Text → Option Text) → Option Made
made_of value =
    made_from (given_or 1000 (decimal_from 0 MOST_BODIES) (value (codes "count"))) (given_or 0 (decimal_from 0 (2 ^ 64 - 1)) (value (codes "seed")))
    (given_or shape.Uniform shape_of (value (codes "shape")))

-- the choices, where each part is there
abbrev pub choices_from : Option Command → Option TreePlan → Option ℕ → Option ProbeChoice → Option Made → Option Choices
choices_from (Some command) (Some plan) (Some steps) (Some probe) (Some made) =
    Some (record { command = command; plan = plan; steps = steps; probe = probe; made = made })
choices_from _ _ _ _ _ = None

-- the choices of values, where each keeps its rule
unfoldable pub choices_of : (Text → Option Text) → Option Choices
choices_of value =
    choices_from (option_and_then command_of (value (codes "command"))) (plan_of value) (given_or 1 (decimal_from 1 10000) (value (codes "steps")))
    (given_or probe.Nobody probe_of (value (codes "probe"))) (made_of value)

-- ---- the words

-- the options of what the words give
abbrev pub options_in : Given → Option Choices
options_in given = choices_of (λ name. value_of name given)

-- the options of the words: those of what the words give, where they have the plain form and every value keeps its rule
abbrev pub options_of : List Text → Option Choices
options_of words = option_and_then options_in (given_by words)

-- what is answered are the options of the words, or that there are none, or that memory ran out
abbrev pub Chooses : Result Choices OptionsFault → Option Choices → Type 0
Chooses (Ok options) wanted = wanted ≡ Some options
Chooses (Err fault.Usage) wanted = wanted ≡ None
Chooses (Err fault.OutOfMemory) wanted = ⊤
