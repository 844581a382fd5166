use Rattle.std.proofs.lemmas.Result.{IfOk-at_ok}
use Rattle.update_build.proofs.Leaving.{found_shared}
use Rattle.update_build.proofs.movers.+search.Goals as goal

pub returns-clause-places : goal.returns-clause-places
returns-clause-places g t c =
    found_shared (λ v. v.items) (λ r. r.movers.items) (λ r. r.places.items) c.args.words.now.items c.with_share-2.result c.in_ok-all.all.movers.items
    c.in_ok-all.all.places.items c.in_ok-own-2.own.movers c.in_ok-own-2.own.places c.with_share-2.ensures.movers c.with_share-2.ensures.places
    (IfOk-at_ok _ c.in_ok-all.was c.join-own.ensures.second).1 (IfOk-at_ok _ c.in_ok-own-2.was c.join-own.ensures.first).1
