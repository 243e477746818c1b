-- These are the operators on two state formulas.
use Rattle.std.specs.Prelude.{ℕ, List, codes}
use Rattle.formula_reader.specs.declared.levels.Level.{Level}
use Rattle.formula_reader.specs.declared.levels.Level.TheVariants.{Implication, Disjunction, Conjunction}
use Rattle.formula_reader.specs.Formula.{State, And, Or, Implies}
use Rattle.formula_reader.specs.Grammar.{joined, both, either}
use Rattle.formula_tokens.specs.Reading.{Reading}

-- The operator is spelt like this.
abbrev pub sign_of : Level → List ℕ
sign_of Implication = codes "=>"
sign_of Disjunction = codes "|"
sign_of Conjunction = codes "&"

-- This is the state formula that the operator makes of its two operands.
abbrev pub join_of : Level → State → State → State
join_of Implication x y = Implies x y
join_of Disjunction x y = Or x y
join_of Conjunction x y = And x y

-- This reads an operand on either side of an operator.
abbrev pub operand_of : Level → Reading State → Reading State
operand_of Implication unary = either unary
operand_of Disjunction unary = both unary
operand_of Conjunction unary = unary

-- This reads one operand or more with the operator between each two, if `unary` reads what has no operator.
abbrev pub level_of : Level → Reading State → Reading State
level_of level unary = joined (sign_of level) (join_of level) (operand_of level unary)
