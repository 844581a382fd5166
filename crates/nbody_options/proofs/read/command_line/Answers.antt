use Rattle.std.proofs.Common.{◌≡◌, ◌∙◌, ap, ap₂, codes, map, true}
use Rattle.std.proofs.lemmas.Result.{IfOk-weaker}
use Rattle.clap.specs.Simple.{App, app_of, app_of_fields, new_app, on_top, with_rule}
use Rattle.nbody_options.specs.Plain.{option_names}
use Rattle.nbody_options.specs.Line.{line, with_options}
use Rattle.nbody_options.proofs.read.command_line.Goals as goal

abbrev bare : App
bare = on_top (λ s. record s { no_binary_name = true; disable_help_flag = true }) (new_app (codes "nbody"))

pub returns : goal.returns
unfolding line option_names
returns c =
    let named = ap app_of_fields c.no_binary_name.ensures ∙ ap (on_top (λ s. record s { no_binary_name = true })) c.new.ensures.app in
    let bare_is : app_of c.disable_help_flag-bare.result ≡ bare = ap app_of_fields c.disable_help_flag-bare.ensures
    ∙ ap (on_top (λ s. record s { disable_help_flag = true })) named in
    let one = c.in_ok-arg.ensures.shape c.command_word.ensures.local ∙ ap₂ with_rule bare_is c.command_word.ensures.rule in
    IfOk-weaker c.with_options.result _ _ (λ k h. h ∙ ap₂ with_options one (ap (map (λ s. s.now)) c.as_slice.ensures)) c.with_options.ensures
