-- Where value, choice and rank of a state go together.
use Rattle.std.proofs.Common.{◌≡◌, ℕ, ◌<◌, ◌≤◌, List, length, arith, subst, sym, ◌∙◌, inl, inr, Option, Some, None}
use Rattle.std.specs.Prelude.{slice_index, slice_index_or, All}
use Rattle.game_model.specs.declared.game.Side.TheVariants.{Max}
use Rattle.game_model.specs.Game.{choices_of, choice_of}
use Rattle.game_model.specs.Query.{Query, states, side_at}
use Rattle.game_model.specs.Limits.{unit}
use Rattle.game_model.specs.Ranks.{IsRankedChoice, HasRankedChoice, Ranked}
use Rattle.rank_certificate.specs.Ranking.{NeedsRank, HasChoice, IsRankedAt}
use Rattle.rank_certificate.specs.Faults.{IsMisvalued}

pub Some-one : (o : Option ℕ) (c d : ℕ) → o ≡ Some c → o ≡ Some d → c ≡ d
Some-one o c d h k = let same : Some c ≡ Some d = sym h ∙ k in cc

module _ (q : Query) (value rank : ℕ → ℕ) (choices : List (Option ℕ)) (s : ℕ) where
  -- the choice that is given to a ranked state of the maximiser is ranked
  pub ranked-given : NeedsRank q value s → side_at q s ≡ Max → IsRankedAt q value rank choices s → (c : ℕ)
      → slice_index_or choices s None ≡ Some c → IsRankedChoice value rank s (choice_of q.game s c)
  ranked-given needs max at c given =
      let has : HasRankedChoice q value rank choices s = at.greatest needs max in
      subst (λ d. IsRankedChoice value rank s (choice_of q.game s d))
      (Some-one (slice_index_or choices s None) has.choice c has.given given) has.ranked

  -- a choice that is given, in range
  pub given-choice : (c : ℕ) → slice_index_or choices s None ≡ Some c → c < length (choices_of q.game s)
      → HasChoice q choices s
  given-choice c given inside = rw given inside

  -- a state with no choice in range is not ranked
  pub no_choice-unranked : NeedsRank q value s → side_at q s ≡ Max → ¬ HasChoice q choices s
      → ¬ IsRankedAt q value rank choices s
  no_choice-unranked needs max none at =
      let has : HasRankedChoice q value rank choices s = at.greatest needs max in
      none (given-choice has.choice has.given has.inside)

  pub misvalued-unranked : IsMisvalued q value s → ¬ IsRankedAt q value rank choices s
  misvalued-unranked (inl goal) at = goal.1 (at.goal goal.0)
  misvalued-unranked (inr dead) at = dead.1 (at.dead dead.0)

-- where no value is above the unit and each state is ranked, the tables are
module _ (q : Query) (values : List ℕ) (choices : List (Option ℕ)) (ranks : List ℕ) where
  pub Ranked-each : All (λ v. v ≤ unit) values → length values ≡ states q
      → ((s : ℕ) → s < states q → IsRankedAt q (slice_index values) (slice_index ranks) choices s)
      → Ranked q values choices ranks
  Ranked-each units as_many each = record {
    units = λ s inside. units s 0 (omega (arith, inside, as_many));
    goals = λ s inside. (each s inside).goal;
    deads = λ s inside. (each s inside).dead;
    greatest = λ s inside no_goal alive some.
        (each s inside).greatest (record { free = (no_goal, alive); positive = some });
    least = λ s inside no_goal alive some. (each s inside).least (record { free = (no_goal, alive); positive = some });
  }
