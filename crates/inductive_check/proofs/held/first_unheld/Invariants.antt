use Rattle.std.proofs.Common.{ℕ, ◌<◌}
use Rattle.std.specs.Prelude.{slice_index}
use Rattle.inductive_check.specs.Held.{IsHeldAt}
use Rattle.inductive_check.proofs.held.first_unheld.Given as goal

abbrev pub invariant-loop-choice : goal.invariant-loop-choice
invariant-loop-choice l = (c : ℕ) → c < l.choice → IsHeldAt l.question (slice_index l.upper) l.state c
