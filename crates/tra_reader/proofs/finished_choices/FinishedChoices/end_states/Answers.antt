use Rattle.std.proofs.Common.{◌<◌, ◌≤◌, ◌+◌, arith}
use Rattle.transition_lines.specs.Order.{place_of}
use Rattle.tra_reader.proofs.Behind.{small_of}
use Rattle.tra_reader.proofs.Gaps.{none_from, none_later}
use Rattle.tra_reader.proofs.finished_choices.FinishedChoices.end_states.Goals as goal

pub loop-self-preserved : goal.loop-self-preserved
loop-self-preserved c =
    let finished = c.loop-self.self in
    let s = finished.state in
    let k = finished.choice in
    let before : s < c.args.to = c.loop-self-test.true in
    record {
      low = omega (arith, before);
      place = λ place le to. omega (arith, to, before);
      made = λ n place ts h to is.
          let at = c.loop-self.invariant.made n place ts h to is in
          let next : place_of (s + 1) 0 ≤ place = omega (arith, to, before) in
          record {
            made = c.end_state.ensures n finished.count ts (omega (arith, before, h)) at.low
                (none_from ts s k place (small_of n ts at.within) at.none next) at.within at.made;
            low = omega arith;
            none = none_later ts (place_of s k) (place_of (s + 1) 0) place (omega (arith, at.low)) at.none;
            within = at.within;
          };
    }
