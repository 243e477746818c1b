use Rattle.label_reader.proofs.FileSizes.{labels_sized}
use Rattle.label_reader.proofs.files.read_labels_from.Goals as goal

pub returns-clause-sizes : goal.returns-clause-sizes
returns-clause-sizes g c = labels_sized c.args.states
    (g.H.Shelf.held c.args.shelf.now) c.args.name.now c.args.limit c.read_from.result c.read_from.ensures.reads
