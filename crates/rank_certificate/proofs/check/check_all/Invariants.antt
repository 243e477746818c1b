use Rattle.std.proofs.Common.{ℕ, ◌<◌}
use Rattle.std.specs.Prelude.{slice_index}
use Rattle.game_model.specs.Game.{choice_of}
use Rattle.game_model.specs.Ranks.{IsRankedChoice}
use Rattle.rank_certificate.proofs.check.check_all.Given as goal

abbrev pub invariant-loop-choice : goal.invariant-loop-choice
invariant-loop-choice l = (c : ℕ) → c < l.choice
    → IsRankedChoice (slice_index l.values) (slice_index l.ranks) l.state (choice_of l.question.game l.state c)
