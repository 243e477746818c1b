use Rattle.std.proofs.Common.{◌≡◌, length, arith, ap, subst}
use Rattle.game_model.specs.Query.{states}
use Rattle.trap_sets.specs.inside.Each.{IsEach}
use Rattle.trap_sets.specs.inside.Settled.{IsKept}
use Rattle.trap_sets.proofs.Each.{IsEach-none, IsEach-push}
use Rattle.trap_sets.proofs.Ending.{AreSettled-kept}
use Rattle.trap_sets.proofs.rounds.without_exits.Goals as goal

pub loop-state-init : goal.loop-state-init
loop-state-init c = IsEach-none _ _ c.in_ok-kept.ensures.items

pub loop-state-preserved : goal.loop-state-preserved
loop-state-preserved c = IsEach-push _ _ _ c.kept_part.result c.loop-state.state c.in_ok-push.ensures.items
    c.loop-state.invariant c.kept_part.ensures

pub returns : goal.returns
returns c =
    let q = c.args.mdp.now.question.now in
    let replies = c.args.mdp.now.replies.now in
    let kept = c.loop-state.kept.items in
    let all : c.loop-state.state ≡ states q =
    omega (arith, c.loop-state-test.false, c.states-states.ensures, ap length c.game.ensures) in
    AreSettled-kept q replies c.args.part.now kept c.requires.keeps c.requires.rooted c.requires.joined
    (subst (IsEach (IsKept q replies c.args.part.now) kept) all c.loop-state.invariant)
