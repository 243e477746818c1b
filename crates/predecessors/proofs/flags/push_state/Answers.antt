use Rattle.std.proofs.Common.{◌≡◌, arith, length}
use Rattle.game_model.specs.Game.{choices_of}
use Rattle.predecessors.proofs.Flagged.{answers-push, answers-end}
use Rattle.predecessors.proofs.flags.push_state.Goals as goal

pub loop-choice-preserved : goal.loop-choice-preserved
loop-choice-preserved g c =
    answers-push c.args.game.now
    (goal.F-post g c.args.holds.now) c.loop-choice.flags.items _ c.args.state c.loop-choice.choice c.holds.result
    c.in_ok-push.ensures.items c.loop-choice.invariant c.requires.state c.holds.ensures

pub returns : goal.returns
returns g c =
    let all : c.loop-choice.choice ≡ length (choices_of c.args.game.now c.args.state) =
    omega (arith, c.choices_of-choice-end.ensures, c.loop-choice-test.false, c.loop-choice.auto.choice-end) in
    answers-end c.args.game.now (goal.F-post g c.args.holds.now) c.loop-choice.flags.items c.args.state
    c.loop-choice.choice c.requires.state all c.loop-choice.invariant
