use Rattle.std.proofs.Common.{◌≡◌, get_or, arith, subst}
use Rattle.std.specs.Prelude.{slice_index}
use Rattle.trap_sets.proofs.Leading.{listed-leads, leads-listed, leads-inside}
use Rattle.trap_sets.proofs.choices.stays.Goals as goal

pub bounds-of-to : goal.bounds-of-to
bounds-of-to c =
    let q = c.args.question.now in
    let leads = listed-leads q c.args.state c.args.choice c.loop-to.to-index _ _ c.successors-to-items.ensures
    c.game.ensures c.loop-to-test.true in
    omega (
      arith,
      c.requires.many,
      leads-inside q c.args.state c.args.choice _ c.invariant.ensures c.requires.state c.requires.choice leads,
    )

pub returns-then-of-to-clause-no : goal.returns-then-of-to-clause-no
returns-then-of-to-clause-no c = λ fails. (
  get_or c.successors-to-items.result.now c.loop-to.to-index 0,
  listed-leads c.args.question.now c.args.state c.args.choice c.loop-to.to-index _ _ c.successors-to-items.ensures
      c.game.ensures c.loop-to-test.true,
  c.if-of-to.true,
)

pub returns-clause-yes : goal.returns-clause-yes
returns-clause-yes c = λ holds t leads.
    let at = leads-listed c.args.question.now c.args.state c.args.choice t _ _ c.successors-to-items.ensures
    c.game.ensures leads in
    subst (λ u. slice_index c.args.of.now u ≡ slice_index c.args.of.now c.args.state) at.2
    (c.loop-to.invariant at.0 (omega (arith, at.1, c.loop-to-test.false)))
