use Rattle.std.proofs.Common.{rules, ◌≡◌, ◌∙◌, List, length, Some, sym, ap}
use Rattle.transition_lines.specs.declared.line.Transition.{Transition}
use Rattle.transition_lines.specs.declared.fault.TraFault.{TraFault}
use Rattle.transition_lines.specs.Lines.{Row}
use Rattle.tra_reader.specs.inside.AnyOrder.{unordered_header, HoldsUnordered}
use Rattle.tra_reader.proofs.Steps.{transitions_length}
use Rattle.tra_reader.proofs.Taking.{takes_row, refuses_row}
use Rattle.tra_reader.proofs.Outcomes.{ok_further, fault_further}
use Rattle.tra_reader.proofs.any_order.UnorderedRows.take.Goals as goal

pub returns-in-Ok-clause-fault : goal.returns-in-Ok-clause-fault
returns-in-Ok-clause-fault c =
    let row : Row = record { transition = c.in-Ok.transition; action = c.in-Ok.action.now } in
    let size : length c.args.self.now.transitions.items ≡ c.len.result = search rules in
    fault_further c.add.result
    (λ fault. refuses_row unordered_header HoldsUnordered
    (λ (f : TraFault). Some f) c.len.result c.args.number c.args.self.now c.args.line.now row fault
    (λ rows holds. sym (transitions_length rows) ∙ ap (λ (ts : List Transition). length ts) holds.transitions ∙ size)
    c.requires c.in-Ok.ensures.said.0 c.in-Ok.ensures.said.1)
    c.add.ensures.fault

pub returns-in-Ok-clause-ok : goal.returns-in-Ok-clause-ok
returns-in-Ok-clause-ok c =
    let row : Row = record { transition = c.in-Ok.transition; action = c.in-Ok.action.now } in
    let size : length c.args.self.now.transitions.items ≡ c.len.result = search rules in
    ok_further c.add.result
    (takes_row unordered_header HoldsUnordered c.len.result c.args.self.now c.add.new.self c.args.line.now row
    (λ rows holds. sym (transitions_length rows) ∙ ap (λ (ts : List Transition). length ts) holds.transitions ∙ size)
    c.requires c.in-Ok.ensures.said.0 c.in-Ok.ensures.said.1)
    c.add.ensures.ok
