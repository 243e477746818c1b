-- Up steps: they keep the order of tables, and stay within the unit.
use Rattle.std.proofs.Common.{◌≡◌, ℕ, ◌*◌, ◌<◌, ◌≤◌, List, length, arith, subst}
use Rattle.game_model.specs.Game.{Distribution, choices_of}
use Rattle.game_model.specs.Query.{Query, IsQuery, states}
use Rattle.game_model.specs.Values.{weighted_sum}
use Rattle.game_model.specs.Limits.{unit}
use Rattle.game_model.specs.Rounded.{up_value, up_step}
use Rattle.game_model.proofs.Choices.{IsChoiceOf, AreChoicesOf, AreChoicesOf-choices_of}
use Rattle.game_model.proofs.Best.{weighted_sum-most}
use Rattle.game_model.proofs.Rises.{bellman-most}
use Rattle.inductive_check.proofs.UpSteps.{ceil-most, up_step-le}

-- tables that agree at the states have one up step
pub up_step-same : (q : Query) (v w : ℕ → ℕ) → IsQuery q → ((t : ℕ) → t < states q → v t ≡ w t) → (s : ℕ)
    → up_step q v s ≡ up_step q w s
up_step-same q v w posed same s =
    let chosen : AreChoicesOf q.game (choices_of q.game) = AreChoicesOf-choices_of q.game posed.game in
    omega (
      arith,
      up_step-le q v w chosen (λ t inside. omega (arith, same t inside)) s,
      up_step-le q w v chosen (λ t inside. omega (arith, same t inside)) s,
    )

-- over a table of units each choice has at most the unit
up_value-units : (game : List (List Distribution)) (v : ℕ → ℕ) (m : Distribution) → IsChoiceOf game m
    → ((t : ℕ) → t < length game → v t ≤ unit) → up_value v m ≤ unit
up_value-units game v m fits units =
    ceil-most (weighted_sum v m.edges) m.total unit fits.positive
    (subst (λ w. weighted_sum v m.edges ≤ w * unit) fits.sums
    (weighted_sum-most v unit m.edges (λ i d l. units _ (fits.inside i d l))))

-- and so has each state
pub up_step-units : (q : Query) (v : ℕ → ℕ) → IsQuery q → ((t : ℕ) → t < states q → v t ≤ unit) → (s : ℕ)
    → up_step q v s ≤ unit
up_step-units q v posed units s =
    let chosen : AreChoicesOf q.game (choices_of q.game) = AreChoicesOf-choices_of q.game posed.game in
    bellman-most q (choices_of q.game) unit unit (up_value v) s (omega arith)
    (λ i d l. up_value-units q.game v _ (chosen.each s i d l) units)
