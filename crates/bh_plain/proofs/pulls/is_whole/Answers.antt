use Rattle.std.proofs.Common.{◌∙◌, ◌≡◌, sym}
use Rattle.octant_code.specs.Space.{key_of}
use Rattle.bh_plain.proofs.ListPulls.{whole_inside, whole_outside}
use Rattle.bh_plain.proofs.pulls.is_whole.Goals as goal

pub returns-then-key_at-key : goal.returns-then-key_at-key
returns-then-key_at-key c = whole_inside c.args.law.now c.args.level c.args.key c.args.from c.args.to c.requires (sym c.key_at.ensures ∙ c.if-key_at-key.true)

pub returns : goal.returns
returns c =
    c.is_far.ensures
    ∙ whole_outside c.args.law.now c.args.level c.args.key c.args.from c.args.to c.requires
    (λ (e : key_of c.args.from c.args.level ≡ c.args.key). c.if-key_at-key.false (c.key_at.ensures ∙ e))
