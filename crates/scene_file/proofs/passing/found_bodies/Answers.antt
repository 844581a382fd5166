use Rattle.std.proofs.Common.{◌≡◌, ◌∙◌, ◌==◌, ℕ, Option, Some, cond, ap, nat_eq}
use Rattle.std.proofs.lemmas.List.{get_or_read}
use Rattle.std.specs.HashMap as hash
use Rattle.octant_code.specs.Space.{packed}
use Rattle.scene_file.specs.Bodies.{body_at, nobody}
use Rattle.scene_file.specs.declared.bodies.Body.{Body}
use Rattle.scene_file.proofs.Finding.{found_more}
use Rattle.scene_file.proofs.passing.found_bodies.Goals as goal

pub loop-i-preserved : goal.loop-i-preserved
loop-i-preserved c =
    let bodies = c.args.bodies.now in
    let i = c.loop-i.i in
    let get : ℕ → Option ℕ = λ q. hash.get nat_eq c.loop-i.numbers q in
    let key : c.packed.result ≡ packed (body_at bodies i).at =
    c.packed.ensures ∙ ap (λ (b : Body). packed b.at) (get_or_read bodies i c.index-bodies-i.result c.loop-i-test.true c.index-bodies-i.is nobody) in
    found_more bodies get (λ q. hash.get nat_eq c.insert.new.self q) i c.requires.apart c.requires.inside c.loop-i-test.true c.loop-i.invariant
    (λ q. c.in_ok-insert.ensures.updates.0 q ∙ ap (λ k. cond (k == q) (Some i) (get q)) key)
