use Rattle.std.proofs.Common.{◌≡◌, take, map}
use Rattle.game_model.specs.Draft.{between}
use Rattle.game_model.proofs.game.Game.from_choices.Given as goal

-- the states so far are done
abbrev pub invariant-loop-state : goal.invariant-loop-state
invariant-loop-state l = l.builder ≡ between (map (λ c. c.items) (take l.state-index l.fn.choices.items))
