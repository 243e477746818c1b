use Rattle.std.proofs.Common.{Ok, Err, refl}
use Rattle.std.proofs.lemmas.Result.{err_from_is_err_and}
use Rattle.tra_reader.specs.declared.stop.Stop.TheVariants.{Refused}
use Rattle.tra_reader.specs.inside.Ordered.{ordered_header, HoldsOrdered, text_fault}
use Rattle.tra_reader.proofs.Taking.{answer_told, right_end}
use Rattle.tra_reader.proofs.ordered.OrderedLinesLineReader.finish.Goals as goal

pub returns-in_err-finish-in-Some : goal.returns-in_err-finish-in-Some
returns-in_err-finish-in-Some c =
    let p = err_from_is_err_and c.from_residual.result c.from_residual.ensures.1 in
    let fault = c.in_err-finish-in-Some.field-0.0 in
    rw (p.1, p.2)
    (right_end ordered_header HoldsOrdered text_fault c.args.self.held c.in-Some.held (Err fault) (Err (Refused fault))
    c.in-Some.is c.in_err-finish-in-Some.ensures (λ said is. answer_told text_fault (Refused fault) fault said refl is))

pub returns-in_ok-finish-in-Some : goal.returns-in_ok-finish-in-Some
returns-in_ok-finish-in-Some c =
    let game = c.in_ok-finish-in-Some.field-0 in
    right_end ordered_header HoldsOrdered text_fault c.args.self.held c.in-Some.held (Ok game)
    (Ok game) c.in-Some.is c.in_ok-finish-in-Some.ensures (λ said is. is)
