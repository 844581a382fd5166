use Rattle.std.proofs.Common.{◌≡◌, sym, ◌∙◌, ap, rules}
use Rattle.octant_code.specs.Points.{site_at}
use Rattle.octant_code.specs.Space.{key_of}
use Rattle.update_build.proofs.WaysDown.{other_leaves, same_keeps, still_keeps}
use Rattle.update_build.proofs.movers.mover.Goals as goal

pub returns-then-eq : goal.returns-then-eq
returns-then-eq c =
    let same : c.at-before.result ≡ c.at-after.result = search rules in
    still_keeps c.args.old.now c.args.words.now.items c.requires.words c.args.new.now c.args.n c.requires.many c.requires.there
    (sym c.at-before.ensures.value ∙ same ∙ c.at-after.ensures.value)

pub returns-then-key_at : goal.returns-then-key_at
returns-then-key_at c =
    let level = c.leaf_of-leaf.result.level in
    let here = c.key_at.ensures ∙ ap (λ s. key_of s level) c.at-before.ensures.value in
    let there = c.key_at-2.ensures ∙ ap (λ s. key_of s level) c.at-after.ensures.value in
    same_keeps c.args.old.now c.args.words.now.items c.requires.words c.args.new.now c.args.n c.leaf_of-leaf.result.place level c.requires.many
    c.leaf_of-leaf.ensures.shallow c.leaf_of-leaf.ensures.leaf (sym here ∙ c.if-key_at.true ∙ there)

pub returns : goal.returns
returns c =
    let level = c.leaf_of-leaf.result.level in
    let here = c.key_at.ensures ∙ ap (λ s. key_of s level) c.at-before.ensures.value in
    let there = c.key_at-2.ensures ∙ ap (λ s. key_of s level) c.at-after.ensures.value in (
      key_of (site_at c.args.old.now c.args.n) level,
      other_leaves c.args.old.now c.args.words.now.items c.requires.words c.args.new.now c.args.n c.leaf_of-leaf.result.place level c.requires.many
          c.leaf_of-leaf.ensures.shallow c.leaf_of-leaf.ensures.leaf (λ e. c.if-key_at.false (here ∙ e ∙ sym there)),
      c.leaf_of-leaf.ensures.leaf,
    )
