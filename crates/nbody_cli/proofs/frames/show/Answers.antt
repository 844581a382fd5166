use Rattle.std.proofs.Common.{◌∙◌, ap, sym}
use Rattle.nbody_options.specs.Choices.{Choices}
use Rattle.nbody_options.specs.declared.options.Command.TheVariants as command
use Rattle.nbody_cli.proofs.Stages.{left_alone, no_run, shown_alone, shown_as}
use Rattle.nbody_cli.proofs.frames.show.Goals as goal

pub returns-in-Tree-clause-shows : goal.returns-in-Tree-clause-shows
returns-in-Tree-clause-shows g c =
    let is = sym (ap (λ (o : Choices). o.command) c.options.view_is) ∙ c.in-Tree.is in
    shown_alone _ command.Tree c.args.options.now c.args.engine.now _ _ _ _ _ _ c.show_tree.result is
    (c.requires.kept (no_run _ command.Tree is (λ e. cc))) c.show_tree.ensures

pub returns-in-Tree-clause-left : goal.returns-in-Tree-clause-left
returns-in-Tree-clause-left g c =
    let is = sym (ap (λ (o : Choices). o.command) c.options.view_is) ∙ c.in-Tree.is in
    λ done. left_alone _ _ (c.requires.kept (no_run _ command.Tree is (λ e. cc)))

pub returns-in-Passes-clause-shows : goal.returns-in-Passes-clause-shows
returns-in-Passes-clause-shows g c =
    let is = sym (ap (λ (o : Choices). o.command) c.options.view_is) ∙ c.in-Passes.is in
    shown_alone _ command.Passes c.args.options.now c.args.engine.now _ _ _ _ _ _ c.show_pass.result is
    (c.requires.kept (no_run _ command.Passes is (λ e. cc))) c.show_pass.ensures

pub returns-in-Passes-clause-left : goal.returns-in-Passes-clause-left
returns-in-Passes-clause-left g c =
    let is = sym (ap (λ (o : Choices). o.command) c.options.view_is) ∙ c.in-Passes.is in
    λ done. left_alone _ _ (c.requires.kept (no_run _ command.Passes is (λ e. cc)))

pub returns-in-Trial-clause-shows : goal.returns-in-Trial-clause-shows
returns-in-Trial-clause-shows g c =
    let is = sym (ap (λ (o : Choices). o.command) c.options.view_is) ∙ c.in-Trial.is in
    shown_alone _ command.Trial c.args.options.now c.args.engine.now _ _ _ _ _ _ c.show_trial.result is
    (c.requires.kept (no_run _ command.Trial is (λ e. cc))) c.show_trial.ensures.shows

pub returns-in-Trial-clause-left : goal.returns-in-Trial-clause-left
returns-in-Trial-clause-left g c =
    let is = sym (ap (λ (o : Choices). o.command) c.options.view_is) ∙ c.in-Trial.is in
    λ done. left_alone _ _ (c.requires.kept (no_run _ command.Trial is (λ e. cc)))

pub returns-in-Run-clause-shows : goal.returns-in-Run-clause-shows
returns-in-Run-clause-shows g c =
    let is = sym (ap (λ (o : Choices). o.command) c.options.view_is) ∙ c.in-Run.is in
    shown_as _ command.Run c.args.options.now c.args.engine.now _ _ _ _ _ c.show_step.result is c.show_step.ensures.shows
