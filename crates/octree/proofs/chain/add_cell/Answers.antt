use Rattle.std.proofs.Common.{◌≡◌, ◌∙◌, ◌-◌, length, vec_len, refl, arith}
use Rattle.std.proofs.lemmas.List.{get_or-replicate}
use Rattle.octree.proofs.Chains.{added}
use Rattle.octree.proofs.Words.{at_longer}
use Rattle.octree.proofs.chain.add_cell.Goals as goal

pub returns-clause-added : goal.returns-clause-added
returns-clause-added c =
    let was : vec_len c.args.words.now ≡ length c.args.words.now.items = c.args.words.now.ok.0 in
    let is : vec_len c.extend_from_slice.new.self ≡ length c.extend_from_slice.new.self.items = c.extend_from_slice.new.self.ok.0 in
    let same = at_longer c.args.words.now.items c.extend_from_slice.new.self.items (omega (arith, was, is, c.in-Ok.ensures.len))
    (λ i l. c.in-Ok.ensures.by_index.0 i 0 (omega (arith, l, was)))
    (λ i m l. c.in-Ok.ensures.by_index.1 i 0 refl (omega (arith, m, was))
    ∙ get_or-replicate 10 (i - vec_len c.args.words.now) 0 0 (omega (arith, l, is, c.in-Ok.ensures.len))) in
    added c.args.words.now.items c.extend_from_slice.new.self.items c.args.cell c.args.key c.place_of_key.result c.requires.len
    (omega (arith, is, c.in-Ok.ensures.len)) same c.place_of_key.ensures c.requires.unlocked
