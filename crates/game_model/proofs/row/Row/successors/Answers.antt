use Rattle.std.proofs.Common.{arith, ◌+◌, ◌-◌, ◌<◌, ◌∙◌, length}
use Rattle.std.specs.Prelude.{slice_index}
use Rattle.game_model.proofs.Span.{take-drop-span}
use Rattle.game_model.proofs.Rows.{bound-inside, targets-are}
use Rattle.game_model.proofs.row.Row.successors.Goals as goal

pub bounds-self-inside-choice : goal.bounds-self-inside-choice
bounds-self-inside-choice c = omega (arith, bound-inside _ _ _ _ _ _ c.self.view_is _ c.requires)

pub bounds-self-inside-choice-2 : goal.bounds-self-inside-choice-2
bounds-self-inside-choice-2 c = bound-inside _ _ _ _ _ _ c.self.view_is _ c.requires

pub part-requires-clause-order : goal.part-requires-clause-order
part-requires-clause-order c = c.self.invariant.ends _ (bound-inside _ _ _ _ _ _ c.self.view_is _ c.requires)

pub part-requires-clause-within : goal.part-requires-clause-within
part-requires-clause-within c = c.self.invariant.to_within _ (bound-inside _ _ _ _ _ _ c.self.view_is _ c.requires)

pub returns : goal.returns
returns c =
    let inside : c.args.choice + 1 < length c.self.inside.bounds.now =
    bound-inside _ _ _ _ _ _ c.self.view_is _ c.requires in
    c.part.ensures
    ∙ take-drop-span c.self.inside.to.now (slice_index c.self.inside.bounds.now c.args.choice)
    (slice_index c.self.inside.bounds.now (c.args.choice + 1) - slice_index c.self.inside.bounds.now c.args.choice)
    (omega (arith, c.self.invariant.ends _ inside, c.self.invariant.to_within _ inside))
    ∙ targets-are _ _ _ _ _ _ c.self.view_is _ c.requires
