use Rattle.std.proofs.Common.{◌<◌, length, ap, ◌∙◌, arith}
use Rattle.step_core.proofs.Words.{opening_words-more}
use Rattle.step_core.proofs.opening.opening_words.Goals as goal

pub loop-state-preserved : goal.loop-state-preserved
loop-state-preserved c =
    let q = c.args.question.now in
    let s = c.loop-state.state in
    let inside : s < length q.goals = omega
    (arith, c.loop-state-test.true, c.states-state-end.ensures, ap length c.game.ensures, c.invariant.ensures.goals) in
    c.in-Ok.ensures.items ∙ opening_words-more q c.loop-state.words.items s c.opening_word.result c.loop-state.invariant
    inside c.opening_word.ensures
