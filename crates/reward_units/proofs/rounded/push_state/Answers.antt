use Rattle.std.proofs.Common.{◌≡◌, arith, length}
use Rattle.game_model.specs.Game.{choices_of}
use Rattle.reward_units.specs.Rounded.{exact_in, paid_units}
use Rattle.reward_units.proofs.Listed.{paid-push, paid-end}
use Rattle.reward_units.proofs.rounded.push_state.Goals as goal

pub loop-choice-preserved : goal.loop-choice-preserved
loop-choice-preserved c =
    paid-push c.args.game.now
    (paid_units c.args.rounding (exact_in c.args.game.now c.args.rewards.now) c.args.places)
    c.loop-choice.list.items _ c.args.state c.loop-choice.choice _
    c.in_ok-push.ensures.items c.loop-choice.invariant c.requires.state
    (omega (arith, c.state_units-own.ensures.value, c.choice_units-more.ensures.value))

pub returns : goal.returns
returns c =
    let all : c.loop-choice.choice ≡ length (choices_of c.args.game.now c.args.state) =
    omega (arith, c.choices_of-choice-end.ensures, c.loop-choice-test.false, c.loop-choice.auto.choice-end) in
    paid-end c.args.game.now
    (paid_units c.args.rounding (exact_in c.args.game.now c.args.rewards.now) c.args.places)
    c.loop-choice.list.items c.args.state c.loop-choice.choice c.requires.state all c.loop-choice.invariant
