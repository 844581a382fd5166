-- The command line as `clap` is told it.
use Rattle.std.specs.Prelude.{List, [], ◌∷◌, ◌++◌, true, Some, codes, map}
use Rattle.clap.specs.Walk.{Rule}
use Rattle.clap.specs.Simple.{App, new_rule, new_shape, on_top}
use Rattle.clap.specs.declared.builder.action.ArgAction.TheVariants.{Set}
use Rattle.nbody_options.specs.Plain.{Text, option_names}

-- the one positional
abbrev pub command_rule : Rule
command_rule = record (new_rule (codes "command")) { action = Some Set; required = true }

-- an option with a value
abbrev pub option_rule : Text → Rule
option_rule name = record (new_rule name) { long = Some name; action = Some Set }

-- a command line with more options
abbrev pub with_options : App → List Text → App
with_options a names = on_top (λ s. record s { rules = s.rules ++ map option_rule names }) a

-- the command and the options, with no name of the program among the words, and no help
unfoldable pub line : App
line = record {
  top = record (new_shape (codes "nbody")) { rules = command_rule ∷ map option_rule option_names; no_binary_name = true; disable_help_flag = true };
  subs = [];
}
