use Rattle.std.proofs.lemmas.Slice.Eq.{slice_eq-Decides}
use Rattle.nested_truth.proofs.Asked.{bool-Decides}
use Rattle.nested_truth.proofs.known_sets.are_equal.Goals as goal

pub returns : goal.returns
returns c = slice_eq-Decides bool-Decides _ _ _ c.eq.ensures
