use Rattle.std.proofs.Common.{ℕ, ◌+◌, ◌-◌, ◌/◌, refl, arith}
use Rattle.round_workers.proofs.Parts.{blocks-rise}
use Rattle.round_workers.proofs.worker_range.WorkerRange.halves.Goals as goal

pub returns : goal.returns
returns c =
    let game = c.args.game.now in
    let range = c.args.self in
    let middle : ℕ = range.first + (range.last - range.first) / 2 in
    let cut = c.first_state-cut.result in
    let here = c.first_state-cut.ensures in
    let some = range.some in
    record {
      front_range = record { begins = c.requires.range.begins; ends = here };
      back_range = record { begins = here; ends = c.requires.range.ends };
      order = (
        blocks-rise game range.workers range.first middle range.low cut (omega arith) c.requires.range.begins here,
        blocks-rise game range.workers middle range.last cut range.high (omega arith) here c.requires.range.ends,
      );
      lows = (refl, refl, refl);
      firsts = (refl, refl, refl, refl);
    }
