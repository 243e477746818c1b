use Rattle.std.proofs.Common.{◌≡◌, ◌∙◌, ◌||◌, not, arith}
use Rattle.std.proofs.lemmas.List.{take_at}
use Rattle.formula_reader.specs.Formula.{state_of}
use Rattle.formula_sets.specs.Truth.{holds}
use Rattle.formula_sets.specs.Posing.{at_states}
use Rattle.formula_sets.proofs.Marked.{changed, joined, neither}
use Rattle.formula_sets.proofs.question.deads_of.Goals as goal

pub returns : goal.returns
returns c =
    let n = c.args.states in
    let left = holds c.args.labels.now (state_of c.args.formula.now.left) in
    let right = holds c.args.labels.now (state_of c.args.formula.now.right) in
    let old : c.deref_mut.result.now ≡ at_states left n = c.deref_mut.ensures.value ∙ c.in_ok-deads.ensures in
    let united : c.deref_mut-2.result.now ≡ at_states (λ s. left s || right s) n =
    c.deref_mut-2.ensures.value
    ∙ take_at _ _ _ (omega (arith, c.unite.auto.marks, c.deref_mut.ensures.len))
    ∙ joined (λ a b. a || b) left right n _ _ _ old c.requires.goals c.unite.auto.marks c.unite.ensures in
    take_at _ _ _ (omega (arith, c.negate.auto.marks, c.deref_mut-2.ensures.len))
    ∙ changed not (λ s. left s || right s) n _ _ united c.negate.auto.marks c.negate.ensures
    ∙ neither left right n
