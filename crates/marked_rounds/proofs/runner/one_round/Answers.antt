use Rattle.std.proofs.Common.{◌≤◌, ◌∙◌, arith}
use Rattle.marked_rounds.specs.DirtySet.{read_of}
use Rattle.marked_rounds.proofs.Racing.{swept-more}
use Rattle.marked_rounds.proofs.runner.one_round.Goals as goal
use Rattle.marked_rounds.proofs.runner.one_round.Goals.{in-Some, in-None}

pub returns-clause-racing : goal.returns-clause-racing
returns-clause-racing g c r racing =
    let e = c.sweep-pass.ensures in
    let used : c.match-changed.used ≤ c.args.workers = elim c.match-changed.branch [
      | in-Some w ↦ omega (arith, w.busy_workers-used.ensures.few, w.used-is)
      | in-None w ↦ omega (arith, w.used-is)
    ] in
    record {
      whole = e.parts (omega (arith, used, racing.whole)) ∙ racing.whole;
      won = omega (arith, racing.won, e.won);
      swept = swept-more g.P.Posing.posed r (read_of c.args.runner.dirty)
          (read_of c.sweep-pass.new.dirty) c.args.runner.table.posed racing.swept e.step;
    }
