use Rattle.std.proofs.Common.{ℕ, ◌*◌, List, le_trans}
use Rattle.game_model.specs.Query.{IsQuery, states}
use Rattle.game_model.specs.Rounded.{IsBelow}
use Rattle.step_core.specs.Word.{value_at}
use Rattle.step_core.proofs.Sights.{Sees-below}
use Rattle.value_words.specs.Passes.{won_by}
use Rattle.marked_rounds.specs.DirtySet.{read_of}
use Rattle.marked_rounds.proofs.Racing.{swept-opens, within-more, closed-settled}
use Rattle.marked_rounds.proofs.runner.close.Goals as goal

pub returns : goal.returns
returns g c r racing =
    let q = g.P.Posing.posed in
    let h : IsQuery q = c.args.runner.table.posed in
    let words : List ℕ = c.in_ok-words.words in
    let read = read_of c.args.runner.dirty in
    let seen : List ℕ = c.args.runner.pass.seat.me.0.seen in
    let closed = c.in_ok-words.ensures in
    let below : IsBelow q read (value_at words) =
    λ s inside. le_trans (c.args.runner.ready.below s inside) (Sees-below q words seen closed.seen s) in
    record {
      raced = record {
        sound = closed.words;
        within = within-more q (value_at words) (won_by c.args.runner.pass) (r * states q) h racing.won
            (closed.within racing.whole);
        swept = λ s inside. le_trans (racing.swept s inside) (below s inside);
      };
      below = below;
      settled = closed-settled q words read h closed.words below (swept-opens q read r h racing.swept);
    }
