use Rattle.std.proofs.Common.{refl}
use Rattle.std.proofs.lemmas.Result.{err_from_is_err_and}
use Rattle.tra_reader.specs.declared.stop.Stop.TheVariants.{Refused}
use Rattle.tra_reader.specs.inside.Ordered.{ordered_header, HoldsOrdered, text_fault}
use Rattle.tra_reader.proofs.Taking.{right_header, right_no_header, right_behind, right_fault}
use Rattle.tra_reader.proofs.Outcomes.{ok_further, fault_further}
use Rattle.tra_reader.proofs.ordered.OrderedLinesLineReader.take.Goals as goal

pub returns-in_err-begin-in-None-clause-fault : goal.returns-in_err-begin-in-None-clause-fault
returns-in_err-begin-in-None-clause-fault c =
    let p = err_from_is_err_and c.from_residual.result c.from_residual.ensures.1 in
    let fault = c.in_err-begin-in-None.field-0.0 in
    rw (p.1, p.2) (right_no_header ordered_header HoldsOrdered text_fault c.args.self.now.held c.args.number
    c.args.line.now (Refused fault) fault c.in-None.is refl c.in_err-begin-in-None.ensures)

pub returns-in_ok-begin-in-None-clause-ok : goal.returns-in_ok-begin-in-None-clause-ok
returns-in_ok-begin-in-None-clause-ok c = right_header ordered_header HoldsOrdered text_fault c.args.self.now.held
    c.args.number c.args.line.now c.in_ok-begin-in-None.field-0 c.in-None.is c.in_ok-begin-in-None.ensures

pub returns-in-Some-clause-fault : goal.returns-in-Some-clause-fault
returns-in-Some-clause-fault c =
    fault_further c.take.result (λ stop refuses lines. right_fault ordered_header HoldsOrdered text_fault
    c.args.self.now.held c.args.number c.in-Some.held c.args.line.now stop c.in-Some.is refuses lines)
    c.take.ensures.fault

pub returns-in-Some-clause-ok : goal.returns-in-Some-clause-ok
returns-in-Some-clause-ok c =
    ok_further c.take.result
    (λ takes lines answer right. right_behind ordered_header HoldsOrdered text_fault c.args.self.now.held c.args.number
    c.in-Some.held c.take.new.self c.args.line.now c.in-Some.is takes lines answer right) c.take.ensures.ok
