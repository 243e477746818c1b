use Rattle.std.proofs.Common.{◌∙◌, List, ℕ, ◌<◌, length, subst, sym}
use Rattle.std.specs.Prelude.{All}
use Rattle.formula_reader.specs.Formula.{tree_of}
use Rattle.formula_sets.specs.Posing.{init}
use Rattle.formula_sets.proofs.Asking.{initial-found}
use Rattle.formula_sets.proofs.Inside.{states_inside}
use Rattle.nested_truth.proofs.run.nested.Goals as goal

pub answer-requires-clause-initial : goal.answer-requires-clause-initial
answer-requires-clause-initial g c κs within =
    let l = c.args.labels.now in
    let begun = initial-found l c.args.owners.now
    (tree_of c.args.formula.now) c.in_ok-initial.initial.items c.in_ok-initial.ensures.said in
    subst (λ (xs : List ℕ). All (λ s. s < length c.args.game.now) xs) (sym begun.starts)
    (states_inside l init (length c.args.game.now) c.invariant.ensures c.requires.labels)

pub returns-in-Ok-clause-inside : goal.returns-in-Ok-clause-inside
returns-in-Ok-clause-inside g c =
    let l = c.args.labels.now in
    let begun = initial-found l c.args.owners.now
    (tree_of c.args.formula.now) c.in_ok-initial.initial.items c.in_ok-initial.ensures.said in
    subst (λ (xs : List ℕ). All (λ s. s < length c.args.game.now) xs) (sym (c.in-Ok.ensures.initial ∙ begun.starts))
    (states_inside l init (length c.args.game.now) c.invariant.ensures c.requires.labels)
