-- Passes that grew twice, and steps over what was seen before.
use Rattle.std.proofs.Common.{ℕ, ◌<◌, ◌≤◌, ◌∙◌, length, le_trans, arith}
use Rattle.game_model.specs.Game.{choices_of, choice_of}
use Rattle.game_model.specs.Query.{Query, IsQuery, states}
use Rattle.game_model.specs.Rounded.{down_step, down_value}
use Rattle.game_model.proofs.Choices.{AreChoicesOf-choices_of, IsChoiceOf-choice_of}
use Rattle.game_laws.proofs.Steps.{down_step-le, down_value-le}
use Rattle.step_core.specs.Word.{value_at}
use Rattle.value_words.specs.Passes.{PassSeat, GrewSeat, LookedSeat}

pub grew-twice : (a b c : PassSeat) → GrewSeat a b → GrewSeat b c → GrewSeat a c
grew-twice a b c h k = record { table = k.table ∙ h.table; up = λ s. le_trans (h.up s) (k.up s) }

pub looked-twice : (a b c : PassSeat) → LookedSeat a b → LookedSeat b c → LookedSeat a c
looked-twice a b c h k =
    record { grew = grew-twice a b c h.grew k.grew; won = k.won ∙ h.won; parts = k.parts ∙ h.parts }

-- a step over what was seen later is no smaller than one over what was seen before
pub step-rises : (q : Query) (a b : PassSeat) (s : ℕ) → IsQuery q → GrewSeat a b
    → down_step q (value_at a.me.0.seen) s ≤ down_step q (value_at b.me.0.seen) s
step-rises q a b s h grew = down_step-le q (value_at a.me.0.seen) (value_at b.me.0.seen)
    (AreChoicesOf-choices_of q.game h.game) (λ t _. grew.up t) s

-- what no earlier choice had over what was seen later, none had over what was seen before
pub first-before : (q : Query) (a b : PassSeat) (s choice value : ℕ) → IsQuery q
    → s < states q → choice < length (choices_of q.game s) → GrewSeat a b
    → ((c : ℕ) → c < choice → down_value (value_at b.me.0.seen) (choice_of q.game s c) < value) → (c : ℕ) → c < choice
    → down_value (value_at a.me.0.seen) (choice_of q.game s c) < value
first-before q a b s choice value h inside named grew first c before =
    let of_game = IsChoiceOf-choice_of q.game s c h.game inside (omega (arith, before, named)) in
    omega (
      arith,
      first c before,
      down_value-le q.game (value_at a.me.0.seen) (value_at b.me.0.seen)
          (choice_of q.game s c) of_game (λ t _. grew.up t),
    )
