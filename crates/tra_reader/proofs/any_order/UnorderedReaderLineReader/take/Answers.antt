use Rattle.std.proofs.Common.{Some, refl}
use Rattle.std.proofs.lemmas.Result.{err_from_is_err_and}
use Rattle.transition_lines.specs.declared.fault.TraFault.{TraFault}
use Rattle.tra_reader.specs.inside.AnyOrder.{unordered_header, HoldsUnordered}
use Rattle.tra_reader.proofs.Taking.{right_header, right_no_header, right_behind, right_fault}
use Rattle.tra_reader.proofs.Outcomes.{ok_further, fault_further}
use Rattle.tra_reader.proofs.any_order.UnorderedReaderLineReader.take.Goals as goal

pub returns-in_err-begin-in-None-clause-fault : goal.returns-in_err-begin-in-None-clause-fault
returns-in_err-begin-in-None-clause-fault c =
    let p = err_from_is_err_and c.from_residual.result c.from_residual.ensures.1 in
    let fault = c.in_err-begin-in-None.field-0.0 in
    rw (p.1, p.2) (right_no_header unordered_header HoldsUnordered (λ (f : TraFault). Some f) c.args.self.now.held
    c.args.number c.args.line.now fault fault c.in-None.is refl c.in_err-begin-in-None.ensures)

pub returns-in_ok-begin-in-None-clause-ok : goal.returns-in_ok-begin-in-None-clause-ok
returns-in_ok-begin-in-None-clause-ok c =
    right_header unordered_header HoldsUnordered (λ (f : TraFault). Some f) c.args.self.now.held c.args.number
    c.args.line.now c.in_ok-begin-in-None.field-0 c.in-None.is c.in_ok-begin-in-None.ensures

pub returns-in-Some-clause-fault : goal.returns-in-Some-clause-fault
returns-in-Some-clause-fault c =
    fault_further c.take.result
    (λ fault refuses lines. right_fault unordered_header HoldsUnordered (λ (f : TraFault). Some f)
    c.args.self.now.held c.args.number c.in-Some.held c.args.line.now fault c.in-Some.is refuses lines)
    c.take.ensures.fault

pub returns-in-Some-clause-ok : goal.returns-in-Some-clause-ok
returns-in-Some-clause-ok c =
    ok_further c.take.result (λ takes lines answer right.
    right_behind unordered_header HoldsUnordered (λ (f : TraFault). Some f) c.args.self.now.held c.args.number
    c.in-Some.held c.take.new.self c.args.line.now c.in-Some.is takes lines answer right) c.take.ensures.ok
