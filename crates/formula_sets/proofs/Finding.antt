-- The first name that a test refuses, among names behind names.
use Rattle.std.proofs.Common.{◌≡◌, ℕ, List, ◌++◌}
use Rattle.std.specs.Prelude.{not}
use Rattle.std.specs.Option.{option_or}
use Rattle.std.proofs.lemmas.List.Folds.{find-append}
use Rattle.label_lines.specs.Labels.{Labelling, is_known}
use Rattle.label_lines.specs.Owners.{Ownership, is_player}
use Rattle.formula_sets.specs.Truth.{unknown_label}
use Rattle.formula_sets.specs.Sides.{unknown_player}

pub first_unknown_of : (l : Labelling) (names others : List (List ℕ))
    → unknown_label l (names ++ others) ≡ option_or (unknown_label l names) (unknown_label l others)
first_unknown_of l names others = find-append (λ name. not (is_known l name)) names others

pub first_stranger_of : (o : Ownership) (names others : List (List ℕ))
    → unknown_player o (names ++ others) ≡ option_or (unknown_player o names) (unknown_player o others)
first_stranger_of o names others = find-append (λ name. not (is_player o name)) names others
