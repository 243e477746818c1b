use Rattle.std.proofs.Common.{◌≡◌, take}
use Rattle.game_model.proofs.builder.GameBuilder.add_state.Given as goal

-- the choices so far are under way
abbrev pub invariant-loop-choice : goal.invariant-loop-choice
invariant-loop-choice l = l.self ≡ record { done = l.fn.self.done; under_way = take l.choice-index l.choices }
