-- Contracts see how many rows factors have, and which of the rows nothing leaves.
use Rattle.std.specs.Prelude.{ℕ, slice_index_or}
use Rattle.std.specs.Float.{◌<ᶠ◌, float_zero}
use Rattle.local_values.specs.declared.elimination.factors.Factors.{Factors}

-- Factors have one row for each node of their chain.
abbrev pub rows_of : Factors → ℕ
rows_of f = f.shape.rows

-- What leaves a row after the elimination is not above 0.
abbrev pub LeavesNothing : Factors → ℕ → Type 0
LeavesNothing f row = ¬ (float_zero <ᶠ slice_index_or f.outs.items row float_zero)
