use Rattle.std.proofs.Common.{◌+◌, ◌*◌}
use Rattle.formula_reader.specs.Formula.{state_of}
use Rattle.formula_reader.specs.Grammar.{unary, nested}
use Rattle.formula_reader.specs.inside.Levels.{sign_of, join_of, operand_of, level_of}
use Rattle.formula_tokens.specs.Tokens.{count_of}
use Rattle.formula_tokens.specs.Cursor.{tokens_at}
use Rattle.formula_reader.proofs.Joining.{rank_of, Stands}
use Rattle.formula_reader.proofs.states.+state.Given as goal

abbrev pub decreases-level_state : goal.decreases-level_state
decreases-level_state l = 16 * l.room + (2 * rank_of l.level + 2)

abbrev pub decreases-operand_state : goal.decreases-operand_state
decreases-operand_state l = 16 * l.room + (2 * rank_of l.level + 1)

abbrev pub decreases-unary_state : goal.decreases-unary_state
decreases-unary_state l = 16 * l.room + 2

abbrev pub decreases-nested_state : goal.decreases-nested_state
decreases-nested_state l = 16 * l.room + 1

abbrev pub decreases-inner_state : goal.decreases-inner_state
decreases-inner_state l = 16 * l.room + 1

abbrev pub decreases-read_sides : goal.decreases-read_sides
decreases-read_sides l = 16 * l.room

abbrev pub decreases-read_path : goal.decreases-read_path
decreases-read_path l = 16 * l.room + 12

abbrev pub decreases-read_reached : goal.decreases-read_reached
decreases-read_reached l = 16 * l.room + 11

abbrev pub decreases-read_right : goal.decreases-read_right
decreases-read_right l = 16 * l.room + 10

abbrev pub decreases-read_state : goal.decreases-read_state
decreases-read_state l = 16 * l.room + 9

abbrev pub invariant-level_state-loop-after : goal.invariant-level_state-loop-after
invariant-level_state-loop-after l =
    Stands (sign_of l.level) (join_of l.level) (operand_of l.level (unary (nested l.room))) (state_of l.left)
    (tokens_at l.rest) (level_of l.level (unary (nested l.room)) (tokens_at l.cursor))

abbrev pub decreases-level_state-loop-after : goal.decreases-level_state-loop-after
decreases-level_state-loop-after l = count_of (tokens_at l.rest)
