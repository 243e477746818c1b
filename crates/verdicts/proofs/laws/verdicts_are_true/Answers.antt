use Rattle.std.proofs.Common.{ℕ, ◌<◌}
use Rattle.game_model.specs.Query.{Query, IsQuery, states}
use Rattle.game_model.specs.Limits.{unit}
use Rattle.game_model.specs.Bounds.{IsHigh, Reaches}
use Rattle.verdicts.proofs.Settled.{AreSound, yes-true, no-false}
use Rattle.verdicts.proofs.Reached.{reaches-less, exceeds-less}
use Rattle.verdicts.proofs.laws.verdicts_are_true.Goals as goal

pub returns : goal.returns
returns c =
    let sound : (q : Query) (lower : ℕ) (upper : ℕ → ℕ) (s : ℕ) → IsQuery q → Reaches q lower unit s → IsHigh q upper
    → s < states q → AreSound q lower (upper s) s =
    λ q lower upper s h reached high inside. record {
      reached = λ a b. reaches-less q lower a b s reached;
      exceeded = λ a b. exceeds-less q lower a b s h reached;
      not_exceeded = λ a b. c.high_tables_are_not_exceeded.ensures q upper a b s high inside;
      not_reached = λ a b. c.high_tables_are_not_reached.ensures q upper a b s h high inside;
    } in
    record {
      yes = λ q lower upper bound s h reached high inside.
          yes-true q bound lower (upper s) s (sound q lower upper s h reached high inside);
      no = λ q lower upper bound s h reached high inside.
          no-false q bound lower (upper s) s (sound q lower upper s h reached high inside);
    }
