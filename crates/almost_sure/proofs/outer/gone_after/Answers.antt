use Rattle.std.proofs.Common.{subst}
use Rattle.std.proofs.lemmas.Result.{IfOk-weaker}
use Rattle.game_model.specs.Query.{Query}
use Rattle.game_model.specs.Dual.{swapped}
use Rattle.attractors.specs.Attractor.{dead_excluded, IsAttractor}
use Rattle.almost_sure.proofs.Going.{goal-apart, IsGone-grown}
use Rattle.almost_sure.proofs.outer.gone_after.Goals as goal

pub other_side-requires-clause-apart : goal.other_side-requires-clause-apart
other_side-requires-clause-apart c =
    goal-apart c.args.question.now c.args.gone.items c.invariant.ensures c.requires.gone

pub returns-clause-gone : goal.returns-clause-gone
returns-clause-gone c = IfOk-weaker c.attractor_of.result _ _ (λ out drawn.
    let attracted : IsAttractor (swapped c.args.question.now c.args.gone.items)
    (dead_excluded (swapped c.args.question.now c.args.gone.items)) out.items =
    subst (λ (q : Query). IsAttractor q (dead_excluded q) out.items) c.in_ok-other.ensures drawn in
    (IsGone-grown c.args.question.now c.args.gone.items out.items c.invariant.ensures c.requires.gone attracted.grew).0)
    c.attractor_of.ensures

pub returns-clause-more : goal.returns-clause-more
returns-clause-more c = IfOk-weaker c.attractor_of.result _ _ (λ out drawn.
    let attracted : IsAttractor (swapped c.args.question.now c.args.gone.items)
    (dead_excluded (swapped c.args.question.now c.args.gone.items)) out.items =
    subst (λ (q : Query). IsAttractor q (dead_excluded q) out.items) c.in_ok-other.ensures drawn in
    (IsGone-grown c.args.question.now c.args.gone.items out.items c.invariant.ensures c.requires.gone attracted.grew).1)
    c.attractor_of.ensures
