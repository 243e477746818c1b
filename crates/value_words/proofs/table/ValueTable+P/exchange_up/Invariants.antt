use Rattle.std.proofs.Common.{◌≡◌, ◌-◌, slice_index}
use Rattle.step_core.specs.Word.{value_in, choice_in}
use Rattle.fixed_bellman.specs.Given.{IsGivenBy}
use Rattle.value_words.specs.Passes.{Looked, seen_by, words_seen}
use Rattle.value_words.proofs.table.ValueTable+P.exchange_up.Given as goal

abbrev pub invariant-loop-pass : goal.invariant-loop-pass
invariant-loop-pass g l = record {
  looked : Looked l.fn.pass l.pass;
  current : l.current ≡ slice_index (words_seen l.pass) l.state;
  given : IsGivenBy g.P.Posing.posed (seen_by l.pass) l.state (value_in l.to) (choice_in l.to);
}

abbrev pub decreases-loop-pass : goal.decreases-loop-pass
decreases-loop-pass g l = value_in l.to - value_in l.current
