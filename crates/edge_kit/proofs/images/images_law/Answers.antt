use Rattle.edge_kit.proofs.ImageLemmas.{only_images, each_image}
use Rattle.edge_kit.proofs.images.images_law.Goals as goal

pub returns-clause-only : goal.returns-clause-only
returns-clause-only c = only_images

pub returns-clause-each : goal.returns-clause-each
returns-clause-each c = each_image
