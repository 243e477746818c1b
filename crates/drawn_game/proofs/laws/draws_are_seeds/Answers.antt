use Rattle.std.proofs.Common.{arith}
use Rattle.drawn_game.specs.Drawings.{next_draw}
use Rattle.drawn_game.proofs.laws.draws_are_seeds.Goals as goal

pub returns-clause-range : goal.returns-clause-range
unfolding next_draw
returns-clause-range c = λ x some small. (omega arith, omega arith)

pub returns-clause-apart : goal.returns-clause-apart
unfolding next_draw
returns-clause-apart c = λ x y x_small y_small same. omega arith
