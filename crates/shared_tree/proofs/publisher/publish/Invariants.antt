use Rattle.shared_tree.specs.Publishing.{batch_bodies}
use Rattle.shared_tree.proofs.publisher.publish.Given as goal

abbrev pub ghosts-publish_batch : goal.ghosts-publish_batch
ghosts-publish_batch g a = record { cells = a.cells.now; bodies = batch_bodies a.bodies }
