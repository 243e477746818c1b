use Rattle.std.proofs.Common.{sym, subst}
use Rattle.game_model.specs.Rounded.{down_steps, IsBelow}
use Rattle.step_core.specs.Word.{value_at}
use Rattle.step_core.specs.Sound.{Sees}
use Rattle.value_words.specs.Passes.{words_seen, won_by}
use Rattle.value_words.proofs.Moves.{closed-sees, closed-within}
use Rattle.value_words.proofs.table.ValueTable+P.close.Goals as goal

pub returns-clause-seen : goal.returns-clause-seen
returns-clause-seen g c =
    let q = g.P.Posing.posed in
    subst (λ words. Sees q words (words_seen c.args.pass)) (sym c.in_ok-words.ensures)
    (closed-sees q _ c.args.pass.seat.me.0 _ _ c.close_with-closed.ensures.values.2 c.args.pass.live)

pub returns-clause-within : goal.returns-clause-within
returns-clause-within g c whole =
    let q = g.P.Posing.posed in
    subst (λ words. IsBelow q (value_at words) (down_steps q (won_by c.args.pass))) (sym c.in_ok-words.ensures)
    (closed-within q _ c.args.pass.seat.me.0 _ _ c.close_with-closed.ensures.values.2 whole)
