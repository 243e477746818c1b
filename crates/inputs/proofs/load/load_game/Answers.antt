use Rattle.std.proofs.Common.{Err, ap, sym, ◌∙◌}
use Rattle.std.proofs.lemmas.Result.{err_from_is_err_and}
use Rattle.transition_lines.specs.Text.{game_of}
use Rattle.output.specs.declared.refusal.Text.TheVariants.{Tra}
use Rattle.output.specs.declared.refusal.Refusal.TheVariants.{OfTra}
use Rattle.inputs.proofs.FilesLoaded.{file_read, file_refused, file_unread}
use Rattle.inputs.proofs.load.load_game.Goals as goal

pub returns-in-Ok-clause-says : goal.returns-in-Ok-clause-says
returns-in-Ok-clause-says g c =
    file_read Tra OfTra game_of (g.H.Shelf.held c.args.shelf.now)
    (g.H.Shelf.steady c.args.shelf.now) c.args.name.now _ c.in-Ok.ensures.reads

pub returns-in_err-fault-in-Err-clause-says : goal.returns-in_err-fault-in-Err-clause-says
returns-in_err-fault-in-Err-clause-says g c =
    let p = err_from_is_err_and c.from_residual.result c.from_residual.ensures.1 in
    rw (p.1, p.2) (file_unread Tra OfTra game_of (g.H.Shelf.held c.args.shelf.now) (g.H.Shelf.steady c.args.shelf.now)
    c.args.name.now c.in-Err.end _ (sym c.in_err-fault-in-Err.ensures) c.in-Err.ensures.reads
    (λ is. c.read_tra_from.ensures.shelf.steadily (c.in-Err.is ∙ ap (λ e. Err e) is)))

pub returns-in_ok-fault-in-Err-clause-says : goal.returns-in_ok-fault-in-Err-clause-says
returns-in_ok-fault-in-Err-clause-says g c =
    file_refused Tra OfTra game_of (g.H.Shelf.held c.args.shelf.now) (g.H.Shelf.steady c.args.shelf.now) c.args.name.now
    c.in-Err.end c.in_ok-fault-in-Err.fault (sym c.in_ok-fault-in-Err.ensures) c.in-Err.ensures.reads
