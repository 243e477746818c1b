-- These definitions say where state formulas hold, and which labels they name.
use Rattle.std.specs.Prelude.{ℕ, Bool, true, false, not, ◌&&◌, ◌||◌, List, [], ◌∷◌, ◌++◌, Option, find}
use Rattle.label_lines.specs.Labels.{Labelling, holds_at, is_known}
use Rattle.formula_reader.specs.Formula.{State, True, False, Label, Not, And, Or, Implies, Inner}

-- The state formula holds at the state. A formula inside holds nowhere, because labels say nothing of it.
abbrev pub holds : Labelling → State → ℕ → Bool
holds l True s = true
holds l False s = false
holds l (Label name) s = holds_at l name s
holds l (Not x) s = not (holds l x s)
holds l (And x y) s = holds l x s && holds l y s
holds l (Or x y) s = holds l x s || holds l y s
holds l (Implies x y) s = not (holds l x s) || holds l y s
holds l (Inner team bound kind left right) s = false

-- These are the labels that the state formula names, in the order of the text.
abbrev pub labels_in : State → List (List ℕ)
labels_in True = []
labels_in False = []
labels_in (Label name) = name ∷ []
labels_in (Not x) = labels_in x
labels_in (And x y) = labels_in x ++ labels_in y
labels_in (Or x y) = labels_in x ++ labels_in y
labels_in (Implies x y) = labels_in x ++ labels_in y
labels_in (Inner team bound kind left right) = labels_in left ++ labels_in right

-- This is the first of these labels that is unknown.
abbrev pub unknown_label : Labelling → List (List ℕ) → Option (List ℕ)
unknown_label l names = find (λ name. not (is_known l name)) names
