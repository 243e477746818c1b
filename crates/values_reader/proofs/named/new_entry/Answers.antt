use Rattle.std.proofs.Common.{◌<◌, arith, false, true}
use Rattle.values_reader.specs.Faults.{marked}
use Rattle.values_reader.specs.Lines.{state_of}
use Rattle.values_reader.proofs.States.{new_state-inside}
use Rattle.values_reader.proofs.named.new_entry.Goals as goal

pub returns-clause-entry : goal.returns-clause-entry
returns-clause-entry c =
    let below : c.in-Some.state < c.args.states = omega (arith, c.if-state-from.false, c.from.ensures) in
    new_state-inside c.args.states (marked c.args.named.now)
    (state_of c.args.line.now) c.in-Some.state false c.in-Some.ensures.state below c.ranges.states.fits
    c.if-named-state.false

pub returns-then-named-state-clause-entry : goal.returns-then-named-state-clause-entry
returns-then-named-state-clause-entry c =
    let below : c.in-Some.state < c.args.states = omega (arith, c.if-state-from.false, c.from.ensures) in
    new_state-inside c.args.states (marked c.args.named.now)
    (state_of c.args.line.now) c.in-Some.state true c.in-Some.ensures.state below c.ranges.states.fits
    c.if-named-state.true
