use Rattle.transition_lines.specs.Lines.{Row}
use Rattle.tra_reader.specs.inside.Ordered.{ordered_header, HoldsOrdered, text_fault}
use Rattle.tra_reader.proofs.Taking.{takes_row, refuses_row}
use Rattle.tra_reader.proofs.Outcomes.{ok_further, fault_further}
use Rattle.tra_reader.proofs.ordered.OrderedRows.take.Goals as goal

pub returns-in-Ok-clause-fault : goal.returns-in-Ok-clause-fault
returns-in-Ok-clause-fault c =
    let row : Row = record { transition = c.in-Ok.transition; action = c.in-Ok.action.now } in
    let old = c.args.self.now in
    fault_further c.add.result
    (λ stop. refuses_row ordered_header HoldsOrdered text_fault old.read c.args.number old c.args.line.now row stop
    (λ rows holds. holds.count) c.requires c.in-Ok.ensures.said.0 c.in-Ok.ensures.said.1)
    c.add.ensures.fault

pub returns-in-Ok-clause-ok : goal.returns-in-Ok-clause-ok
returns-in-Ok-clause-ok c =
    let row : Row = record { transition = c.in-Ok.transition; action = c.in-Ok.action.now } in
    let old = c.args.self.now in
    ok_further c.add.result
    (takes_row ordered_header HoldsOrdered old.read old c.add.new.self c.args.line.now row
    (λ rows holds. holds.count) c.requires c.in-Ok.ensures.said.0 c.in-Ok.ensures.said.1)
    c.add.ensures.ok
