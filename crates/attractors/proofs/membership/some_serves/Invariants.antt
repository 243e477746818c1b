use Rattle.std.proofs.Common.{◌≡◌, false, take}
use Rattle.std.specs.List.{list_any}
use Rattle.game_model.specs.Game.{choices_of}
use Rattle.attractors.specs.Attractor.{serves}
use Rattle.attractors.proofs.membership.some_serves.Given as goal

abbrev pub invariant-loop-choice : goal.invariant-loop-choice
invariant-loop-choice g l = list_any (serves (g.S.Excluded.excluded l.excluded l.question) l.set)
    (take l.choice (choices_of l.question.game l.state)) ≡ false
