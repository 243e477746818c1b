use Rattle.std.proofs.Common.{ℕ, sym, subst}
use Rattle.round_workers.specs.Share.{BeginsBlock}
use Rattle.round_workers.proofs.Parts.{first-begins, last-ends}
use Rattle.round_workers.proofs.worker_range.WorkerRange.all.Goals as goal

pub returns-clause-range : goal.returns-clause-range
returns-clause-range c = record {
  begins = first-begins c.args.game.now c.args.workers;
  ends = subst (λ (n : ℕ). BeginsBlock c.args.game.now c.args.workers c.args.workers n) (sym c.states.ensures)
      (last-ends c.args.game.now c.args.workers c.invariant.ensures c.requires.0);
}
