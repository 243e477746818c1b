use Rattle.std.proofs.Common.{◌≡◌, sym, ◌∙◌, subst}
use Rattle.game_outside.specs.Files.{ReadsFile}
use Rattle.transition_lines.specs.Text.{game_of}
use Rattle.tra_reader.proofs.FileAnswers.{reads_exactly, reads_in_order}
use Rattle.tra_reader.proofs.file.read_tra_from.Goals as goal

pub returns-in-Some-clause-reads : goal.returns-in-Some-clause-reads
returns-in-Some-clause-reads g c =
    subst (λ read. ReadsFile (λ text answer. game_of text ≡ answer)
    (g.H.Shelf.held c.args.shelf.now) c.args.name.now c.args.limit read) (sym c.without_want.ensures)
    (reads_exactly (g.H.Shelf.held c.args.shelf.now) c.args.name.now c.args.limit game_of c.in-Some.read
    (reads_in_order (g.H.Shelf.held c.args.shelf.now) c.args.name.now c.args.limit game_of c.read_in_order.result
    c.in-Some.read (sym c.in-Some.is ∙ c.in_order.ensures) c.read_in_order.ensures.reads))
