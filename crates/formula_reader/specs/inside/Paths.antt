-- This definition is about what is read of a path.
use Rattle.formula_tokens.specs.declared.cursor.Cursor.{Cursor}
use Rattle.formula_reader.specs.declared.formula.StateFormula.{StateFormula}
use Rattle.formula_reader.specs.declared.formula.PathKind.{PathKind}
use Rattle.formula_tokens.specs.Cursor.{tokens_at}
use Rattle.formula_reader.specs.Formula.{Path, state_of}
use Rattle.formula_tokens.specs.Tokens.{Tokens}

-- This was read of a path: its kind and its two sides, as trees, and the tokens behind them.
abbrev pub path_at : PathKind × StateFormula × StateFormula × Cursor → Path × Tokens
path_at read = (record { kind = read.0; left = state_of read.1; right = state_of read.2 }, tokens_at read.3)
