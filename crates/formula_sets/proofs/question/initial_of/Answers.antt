use Rattle.std.proofs.Common.{◌<◌, ℕ, List, All, sym, subst, refl}
use Rattle.formula_sets.specs.Posing.{init}
use Rattle.formula_sets.proofs.Inside.{states_inside}
use Rattle.formula_sets.proofs.question.initial_of.Goals as goal

pub returns-clause-inside : goal.returns-clause-inside
returns-clause-inside c =
    let l = c.args.labels.now in
    let P : List ℕ → Type 0 = λ xs. All (λ s. s < l.states) xs in
    subst P (sym c.in-Ok.ensures) (states_inside l init l.states c.invariant.ensures refl)
