use Rattle.std.proofs.Common.{◌≡◌, ◌∙◌, ◌++◌, ◌∷◌, [], List, ap, ap₂, map, sym, take, append-nil, append_assoc}
use Rattle.std.proofs.lemmas.List.{map_more, map_push, take_all}
use Rattle.clap.specs.Simple.{App, app_of, on_top, with_rule}
use Rattle.nbody_options.specs.Plain.{Text}
use Rattle.nbody_options.specs.Line.{option_rule, with_options}
use Rattle.nbody_options.proofs.read.with_options.Goals as goal

-- no option more
with_none : (a : App) → a ≡ with_options a []
with_none a = ap (λ rs. on_top (λ s. record s { rules = rs }) a) (sym (append-nil a.top.rules))

-- one option more
with_more : (a : App) (names : List Text) (name : Text) → with_rule (with_options a names) (option_rule name) ≡ with_options a (names ++ name ∷ [])
with_more a names name =
    ap (λ rs. on_top (λ s. record s { rules = rs }) a)
    (append_assoc a.top.rules (map option_rule names) (option_rule name ∷ []) ∙ ap (λ rs. a.top.rules ++ rs) (sym (map_push option_rule names name)))

pub loop-name-init : goal.loop-name-init
loop-name-init c = with_none (app_of c.args.line)

pub loop-name-preserved : goal.loop-name-preserved
loop-name-preserved c =
    let a = app_of c.args.line in
    c.in_ok-command.ensures.shape c.option_of.ensures.local ∙ ap₂ with_rule c.loop-name.invariant c.option_of.ensures.rule
    ∙ with_more a (map (λ s. s.now) (take c.loop-name.name-index c.args.names.now)) _
    ∙ ap (with_options a)
    (sym (map_more (λ s. s.now) c.args.names.now c.loop-name.name-index (record { ref_ptr = (0, 0); now = [] }) c.loop-name-test.true))

pub returns : goal.returns
returns c =
    c.loop-name.invariant ∙ ap (λ ns. with_options (app_of c.args.line) (map (λ s. s.now) ns))
    (take_all c.loop-name.name-index c.args.names.now c.loop-name-test.false)
