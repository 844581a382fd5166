use Rattle.bh_outside.proofs.MemorySources.{gives_front}
use Rattle.bh_outside.proofs.memory.MemorySourceSource.read_some.Goals as goal

pub returns-clause-bytes : goal.returns-clause-bytes
returns-clause-bytes c =
    let same = c.deref-2.ensures.value in
    let given = c.give_front-count.ensures in
    (rw (← c.self.view_is) (gives_front _ _ _ _ (rw same at given.copied)), λ none some. rw same at (given.end none some))
