use Rattle.std.proofs.Common.{arith}
use Rattle.round_workers.proofs.Sweeps.{swept-twice, swept-looked}
use Rattle.round_workers.proofs.sweep.sweep.Goals as goal

pub loop-state-preserved-then-has_mark-2 : goal.loop-state-preserved-then-has_mark-2
loop-state-preserved-then-has_mark-2 g c = record {
  from = let low = c.loop-state.invariant.from in omega (arith, c.min-end.ensures);
  upto = omega (arith, c.min-end.ensures);
  swept = swept-twice g.P.Posing.posed c.args.task.now.marks.now c.args.from c.loop-state.state c.min-end.result
      c.args.pass.seat c.loop-state.pass.seat c.walk-raises.new.pass.seat c.loop-state.raises c.walk-raises.result
      c.args.task.now.table.now.posed c.loop-state.invariant.swept
      (swept-looked g.P.Posing.posed c.args.task.now.marks.now c.loop-state.state c.min-end.result
      c.loop-state.pass.seat c.look_ahead.new.pass.seat c.walk-raises.new.pass.seat c.walk-raises.result
      c.args.task.now.table.now.posed c.look_ahead.ensures c.walk-raises.ensures);
}
