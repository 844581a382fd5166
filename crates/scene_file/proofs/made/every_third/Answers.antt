use Rattle.std.proofs.Common.{◌+◌, ◌*◌, ◌/◌, ◌^◌, ◌≡◌, ◌∙◌, ap, sym, arith, add-one}
use Rattle.std.proofs.Math.Nat.{pow-suc}
use Rattle.scene_file.proofs.Making.{third-zero, third_more}
use Rattle.scene_file.proofs.made.every_third.Goals as goal

pub loop-level-init : goal.loop-level-init
loop-level-init c = (sym (third-zero (c.args.code / 9223372036854775808)), omega arith)

pub loop-level-preserved : goal.loop-level-preserved
loop-level-preserved c =
    let level = c.loop-level.level in
    let (now, small) = c.loop-level.invariant in
    let power : 2 ^ (level + 1) ≡ 2 ^ level * 2 = ap (λ y. 2 ^ y) (add-one level) ∙ pow-suc 2 level in
    (rw now (sym (third_more c.args.code level c.loop-level-test.true)), omega (arith, power))
