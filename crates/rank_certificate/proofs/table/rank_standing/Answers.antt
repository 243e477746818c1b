use Rattle.std.proofs.Common.{◌≡◌, ℕ, ◌<◌, length, Some, None, arith, ◌∙◌, List}
use Rattle.std.specs.Prelude.{slice_index, slice_index_or}
use Rattle.game_model.specs.Query.{states}
use Rattle.rank_certificate.proofs.Standing.{left-unranked, finished-plan, plan-Ranked}
use Rattle.rank_certificate.proofs.table.rank_standing.Goals as goal

pub returns-in_default-clause-found : goal.returns-in_default-clause-found
returns-in_default-clause-found c =
    let g = c.in_ok-layers.layers in
    let at : (s : ℕ) × (s < length g.ranks.items) × (slice_index_or g.ranks.items s None ≡ None) =
    rw c.deref.ensures.value at (rw c.in_default.is at c.in_ok-ranks.ensures) in
    left-unranked c.args.question.now c.args.values.now g.ranks.items g.choices.items c.invariant.ensures
    c.in_ok-layers.ensures at.0
    (omega (arith, at.1, c.in_ok-layers.ensures.layers.many)) at.2

pub returns-clause-found : goal.returns-clause-found
returns-clause-found c =
    let q = c.args.question.now in
    let g = c.in_ok-layers.layers in
    let numbers : List ℕ = c.in-Some.ranks.items in
    let many : length g.ranks.items ≡ states q = c.in_ok-layers.ensures.layers.many in
    let found : (length numbers ≡ length g.ranks.items)
    × ((s : ℕ) → s < length g.ranks.items → slice_index_or g.ranks.items s None ≡ Some (slice_index numbers s)) =
    rw c.deref.ensures.value at (rw c.in-Some.is at c.in_ok-ranks.ensures) in
    finished-plan q c.args.values.now g.ranks.items g.choices.items c.invariant.ensures c.in_ok-layers.ensures numbers
    (found.0 ∙ many) (λ s inside. found.1 s (omega (arith, inside, many)))

pub returns-clause-ranked : goal.returns-clause-ranked
returns-clause-ranked c = plan-Ranked c.args.question.now c.args.values.now _ _ c.invariant.ensures c.requires.values
    c.requires.units c.requires.stand (returns-clause-found c)
