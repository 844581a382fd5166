use Rattle.std.proofs.Common.{◌≡◌, ◌∙◌, map, subst}
use Rattle.tree_passes.specs.Counting.{all_of}
use Rattle.update_build.specs.Moving.{AreWordsOf, IsThinnedBy}
use Rattle.update_build.specs.Sweeping.{AreSwept}
use Rattle.update_build.proofs.Removal.{stays_of, thinned_of, words_alone, words_of_octree}
use Rattle.update_build.proofs.taking.take_out.Given.{Over}
use Rattle.update_build.proofs.taking.take_out.Goals.{In_ok-words}
use Rattle.update_build.proofs.taking.take_out.Goals as goal

pub search_shares-requires-clause-words : goal.search_shares-requires-clause-words
search_shares-requires-clause-words g c = λ κs within.
    words_of_octree c.args.old_points.now c.args.old c.into_words-words.result.items c.len.ensures.rule c.held.ensures.rule c.requires.old
    (c.into_words-words.ensures.words ∙ words_alone c.args.old c.without_spare.result c.without_spare.ensures) c.into_words-words.ensures.of_words

-- the words are those of the octree before
same : (g : Over) (c : In_ok-words g) → c.into_words-words.result.items ≡ c.args.old.words
same g c = c.into_words-words.ensures.words ∙ words_alone c.args.old c.without_spare.result c.without_spare.ensures

are : (g : Over) (c : In_ok-words g) → AreWordsOf c.args.old_points.now c.into_words-words.result.items
are g c =
    words_of_octree c.args.old_points.now c.args.old c.into_words-words.result.items c.len.ensures.rule c.held.ensures.rule c.requires.old (same g c)
    c.into_words-words.ensures.of_words

-- and those of the movers were emptied
swept : (g : Over) (c : In_ok-words g)
    → AreSwept c.into_words-words.result.items c.in_ok-words.words.items (all_of (λ v. v.items) c.in_ok-found.found.places.items)
swept g c =
    subst (λ z. AreSwept c.into_words-words.result.items c.in_ok-words.words.items (all_of (λ v. v.items) z)) c.deref.ensures.value c.in_ok-words.ensures

thinned : (g : Over) (c : In_ok-words g)
    → IsThinnedBy c.args.old_points.now c.args.new_points.now c.into_words-words.result.items c.in_ok-words.words.items
    (all_of (λ v. v.items) c.in_ok-found.found.movers.items)
thinned g c =
    thinned_of c.args.old_points.now c.args.new_points.now c.into_words-words.result.items (are g c) c.requires.many (λ v. v.items)
    c.in_ok-found.found.movers.items c.in_ok-found.found.places.items (map (λ v. v.items) c.args.shares.now) c.in_ok-found.ensures.movers c.requires.all
    c.in_ok-found.ensures.places c.in_ok-words.words.items (swept g c)

pub what_stays-requires-clause-thinned : goal.what_stays-requires-clause-thinned
what_stays-requires-clause-thinned g c = λ κs within. (thinned g (goal.at.what_stays-requires-clause-thinned g c).In_ok-words).thinned

pub what_stays-requires-clause-under : goal.what_stays-requires-clause-under
what_stays-requires-clause-under g c = λ κs within. (thinned g (goal.at.what_stays-requires-clause-under g c).In_ok-words).under

pub returns-clause-stays : goal.returns-clause-stays
returns-clause-stays g c =
    let at = (goal.at.returns-clause-stays g c).In_ok-words in
    stays_of c.args.old_points.now c.args.new_points.now c.into_words-words.result.items (are g at) c.requires.many (λ v. v.items)
    c.in_ok-found.found.movers.items c.in_ok-found.found.places.items (map (λ v. v.items) c.args.shares.now) c.in_ok-found.ensures.movers c.requires.all
    c.in_ok-found.ensures.places c.args.old c.in_ok-stays.stays c.in_ok-words.words.items (same g at) (swept g at) c.in_ok-stays.ensures
