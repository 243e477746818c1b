-- The transitions of rows.
use Rattle.std.proofs.Common.{◌≡◌, List, [], ◌∷◌, ◌++◌, length, suc, refl, ap}
use Rattle.transition_lines.specs.Lines.{Row}
use Rattle.transition_lines.specs.Text.{transitions}

pub transitions_push : (before : List Row) (row : Row)
    → transitions (before ++ row ∷ []) ≡ transitions before ++ row.transition ∷ []
transitions_push [] row = refl
transitions_push (b ∷ before) row = ap (λ ts. b.transition ∷ ts) (transitions_push before row)

pub transitions_length : (rows : List Row) → length (transitions rows) ≡ length rows
transitions_length [] = refl
transitions_length (row ∷ rows) = ap suc (transitions_length rows)
