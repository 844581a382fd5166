use Rattle.std.proofs.Common.{ℕ, List, [], ap, sym, subst}
use Rattle.atomic_table.specs.Table.{opening}
use Rattle.update_build.specs.Sweeping.{Sweeps}
use Rattle.update_build.proofs.Sweeping.{begins}
use Rattle.update_build.proofs.sweep.open_sweep.Goals as goal

pub of_words-requires : goal.of_words-requires
of_words-requires c =
    let words = sym (ap (λ v. v.items) c.of.ensures) in
    let places = sym (ap (λ v. v.items) c.of-2.ensures) in
    let here = sym c.deref.ensures.value in
    subst (λ (z : List ℕ × List ℕ × List ℕ). Sweeps (record { words = z.0; places = z.2 }) (opening z.1 [] (record { todo = z.2; removed = [] })))
    (λ i. (words i, here i, places i)) (begins c.args.words.now.items c.args.places.now.items)
