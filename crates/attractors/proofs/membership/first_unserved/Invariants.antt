use Rattle.std.proofs.Common.{◌≡◌, ℕ, ◌<◌, ◌≤◌, true}
use Rattle.game_model.specs.Game.{choice_of}
use Rattle.attractors.specs.Attractor.{serves}
use Rattle.attractors.proofs.membership.first_unserved.Given as goal

abbrev pub invariant-loop-choice : goal.invariant-loop-choice
invariant-loop-choice g l = (c : ℕ) → l.from ≤ c → c < l.choice
    → serves (g.S.Excluded.excluded l.excluded l.question) l.set (choice_of l.question.game l.state c) ≡ true
