-- The lower guess of a base, with its choices and ranks.
use Rattle.std.proofs.Common.{◌≡◌, ℕ, ◌<◌, ◌≤◌, Bool, List, length, sym, subst, inl, inr, arith}
use Rattle.std.specs.Prelude.{All, Option}
use Rattle.std.proofs.lemmas.List.{get_or_default}
use Rattle.game_model.specs.Query.{Query, IsQuery, states}
use Rattle.game_model.specs.Limits.{unit}
use Rattle.game_model.specs.Ranks.{Ranked}
use Rattle.rank_certificate.specs.Layers.{AreLayered}
use Rattle.lower_guess.specs.LowerGuess.{IsLowerGuess}
use Rattle.rank_certificate.proofs.Layered.{none-at-goals, none-at-deads, none-at-least, none-at-zero, plan-layered}
use Rattle.bracket_engine.specs.Choices.{AreChoices}

-- ranked values are at most the unit
pub all-units-ranked : (q : Query) (values : List ℕ) (choices : List (Option ℕ)) (ranks : List ℕ)
    → length values ≡ states q → Ranked q values choices ranks → All (λ v. v ≤ unit) values
all-units-ranked q values choices ranks many ranked = λ s d inside.
    omega (arith, get_or_default values s d 0 inside, ranked.units s (subst (λ n. s < n) many inside))

module _ (q : Query) (zero : List Bool) (base values : List ℕ) (given choices : List (Option ℕ)) (ranks : List ℕ) where
  -- a guess that is accepted has choices only where they are needed; else they are those handed in
  pub AreChoices-guessed : IsLowerGuess q zero base given values choices ranks → AreChoices q base given
      → AreChoices q values choices
  AreChoices-guessed (inl raised) are = record {
    as_many = raised.plan.as_many;
    none_at_goals = none-at-goals q values choices ranks raised.plan;
    none_at_deads = none-at-deads q values choices ranks raised.plan;
    none_at_least = none-at-least q values choices ranks raised.plan;
    none_at_zero = none-at-zero q values choices ranks raised.plan;
  }
  AreChoices-guessed (inr same) are =
      subst (λ (l : List ℕ). AreChoices q l choices) (sym same.values_are)
      (subst (λ (l : List (Option ℕ)). AreChoices q base l) (sym same.choices_are) are)

  pub AreLayered-guessed : IsQuery q → IsLowerGuess q zero base given values choices ranks
      → AreLayered q values choices ranks
  AreLayered-guessed posed (inl raised) = plan-layered q values choices ranks raised.plan posed
  AreLayered-guessed posed (inr same) =
      subst (λ (l : List ℕ). AreLayered q l choices ranks) (sym same.values_are)
      (subst (λ (l : List (Option ℕ)). AreLayered q base l ranks) (sym same.choices_are) same.ranks_are)
