use Rattle.std.proofs.Common.{◌+◌, ◌-◌, ◌/◌, ℕ, arith}
use Rattle.round_workers.proofs.Blocks.{worker_of-rises}
use Rattle.round_workers.proofs.share.first_state.Goals as goal

pub loop-low-preserved-then-worker_of-worker : goal.loop-low-preserved-then-worker_of-worker
loop-low-preserved-then-worker_of-worker c =
    let h = c.loop-low.invariant in
    let order = h.order in
    let middle : ℕ = c.loop-low.low + (c.loop-low.high - c.loop-low.low) / 2 in record {
      order = omega arith;
      within = h.within;
      before = λ s l.
          let less = worker_of-rises c.args.game.now c.args.workers s middle c.invariant.ensures (omega arith) in
          omega (arith, less);
      behind = h.behind;
    }

pub loop-low-preserved : goal.loop-low-preserved
loop-low-preserved c =
    let h = c.loop-low.invariant in
    let order = h.order in
    let within = h.within in
    let middle : ℕ = c.loop-low.low + (c.loop-low.high - c.loop-low.low) / 2 in record {
      order = omega arith;
      within = omega arith;
      before = h.before;
      behind = λ s l _.
          let more = worker_of-rises c.args.game.now c.args.workers middle s c.invariant.ensures (omega arith) in
          omega (arith, more);
    }
