use Rattle.std.proofs.Common.{◌+◌, get_or, sym, subst, arith}
use Rattle.game_model.specs.declared.game.Edge.{Edge}
use Rattle.sample_games.proofs.Drafts.{AreEdges, AreEdges-more}
use Rattle.sample_games.proofs.draft.choice.Goals as goal

pub loop-to-preserved : goal.loop-to-preserved
loop-to-preserved c =
    let pair = get_or c.args.edges.now c.loop-to.to-index (0, 0) in
    let edge : Edge = record { to = pair.0; weight = c.from.result } in
    let h = c.loop-to.invariant in
    let few = h.few in
    subst (AreEdges c.args.states (pair.0 + 1)) (sym c.in-Ok.ensures.items)
    (AreEdges-more c.args.states c.loop-to.least c.loop-to.made.items edge h
    (omega (arith, few, c.len.ensures, c.if-len-eq-MOST_EDGES.false)) c.if-to-least.false c.if-to-states.false
    (omega (arith, c.from.ensures, c.if-weight-eq0.false))
    (omega (arith, c.from.ensures, c.if-weight-gt-MOST_WEIGHT.false)))
