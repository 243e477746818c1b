-- Where no formula inside is undecided, what surely holds is what holds in the truth.
use Rattle.std.proofs.Common.{◌≡◌}
use Rattle.game_model.specs.Game.{IsGame}
use Rattle.formula_reader.specs.Formula.{State}
use Rattle.rpatl_syntax.specs.Spellable.{HasParts}
use Rattle.formula_sets.specs.Posing.{Model}
use Rattle.formula_truth.specs.declared.way.Way.{Way}
use Rattle.formula_truth.specs.Truth.{Valuation, IsTruth, states, holds}
use Rattle.formula_truth.specs.ThreeValued.{Bands, known, exactly, undecided_in}
use Rattle.formula_truth.specs.InnerRuns.{AreFound}
use Rattle.nested_truth.specs.Seen.{AreAlike}
use Rattle.formula_truth.proofs.Around.{around}
use Rattle.nested_truth.proofs.Exactly.{known-exactly, settled}

pub decided-truth : (m : Model) → IsGame m.game → (truth : Valuation) → IsTruth m truth → (way : Way)
    (x : State) (found : Bands x) → HasParts x → AreFound m way x found → undecided_in x found (states m) ≡ 0
    → AreAlike (states m) (known m.labels x found) (exactly (holds m.labels truth x))
decided-truth m game truth is way x found parts h none = known-exactly m (holds m.labels truth x)
    (known m.labels x found) (around m game truth is way x found parts h) (settled m x found parts none)
