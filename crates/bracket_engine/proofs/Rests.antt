-- The unit less the swapped values is an inductive table.
use Rattle.std.proofs.Common.{◌≡◌, ℕ, ◌+◌, ◌*◌, ◌<◌, ◌≤◌, Bool, true, false, List, length, arith, refl, sym, ap, ◌∙◌}
use Rattle.std.proofs.Common.{subst, inl, inr}
use Rattle.std.specs.Prelude.{slice_index, slice_index_or, Option}
use Rattle.std.specs.Bool.{if◌then◌else◌}
use Rattle.std.proofs.lemmas.Bool.{cases_lt}
use Rattle.std.proofs.lemmas.List.{get_or-map}
use Rattle.game_model.specs.declared.game.Side.{Side}
use Rattle.game_model.specs.declared.game.Side.TheVariants.{Max, Min}
use Rattle.game_model.specs.Game.{Distribution, choices_of, choice_of}
use Rattle.game_model.specs.Query.{Query, IsQuery, states, is_goal, is_dead, side_at}
use Rattle.game_model.specs.Values.{weighted_sum, optimum}
use Rattle.game_model.specs.Limits.{unit}
use Rattle.game_model.specs.Rounded.{up_value, up_step, IsInductive}
use Rattle.game_model.specs.Ranks.{Ranked, HasRankedChoice}
use Rattle.game_model.specs.Dual.{IsZeroSet, other_side, swapped}
use Rattle.game_model.proofs.Choices.{IsChoiceOf, IsChoiceOf-choice_of}
use Rattle.game_model.proofs.Best.{weighted_sum-both}
use Rattle.inductive_check.proofs.Zero.{up_step-zero}
use Rattle.inductive_check.specs.Held.{IsHeldAt}
use Rattle.inductive_check.proofs.UpSteps.{up_step-goal}
use Rattle.inductive_check.proofs.Entries.{all-held, one-held}

-- the up step of a dead state
up_step-dead : (q : Query) (table : ℕ → ℕ) (s : ℕ) → is_goal q s ≡ false → is_dead q s ≡ true → up_step q table s ≡ 0
up_step-dead q table s goal dead = ap (λ mark. if mark then unit
    else (if is_dead q s then 0 else optimum (side_at q s) (up_value table) (choices_of q.game s))) goal
    ∙ ap (λ mark. if mark then 0 else optimum (side_at q s) (up_value table) (choices_of q.game s)) dead

module _ (q : Query) (zero : List Bool) (values : List ℕ) (picks : List (Option ℕ)) (ranks : List ℕ) (table : ℕ → ℕ)
    (h : IsQuery q) (is_zero : IsZeroSet q zero) (ranked : Ranked (swapped q zero) values picks ranks)
    (whole : (s : ℕ) → s < states q → table s + slice_index values s ≡ unit) where
  -- a choice whose average of swapped values is at least the swapped value of its state is held to the rest
  held-rest : (s c : ℕ) → s < states q → c < length (choices_of q.game s)
      → slice_index values s * (choice_of q.game s c).total
      ≤ weighted_sum (slice_index values) (choice_of q.game s c).edges → IsHeldAt q table s c
  held-rest s c inside in_range enough =
      let m : Distribution = choice_of q.game s c in
      let fits : IsChoiceOf q.game m = IsChoiceOf-choice_of q.game s c h.game inside in_range in
      let both : weighted_sum table m.edges + weighted_sum (slice_index values) m.edges ≡ m.total * unit =
      subst (λ w. weighted_sum table m.edges + weighted_sum (slice_index values) m.edges ≡ w * unit) fits.sums
      (weighted_sum-both table (slice_index values) unit m.edges (λ i d l. whole _ (fits.inside i d l))) in
      let all : (table s + slice_index values s) * m.total ≡ unit * m.total = ap (λ n. n * m.total) (whole s inside) in
      omega (arith, both, all, enough)

  -- a state with a positive swapped value that is free in both questions
  positive-rest : (s : ℕ) (side : Side) → s < states q → is_goal q s ≡ false → is_dead q s ≡ false
      → slice_index_or zero s false ≡ false → 0 < slice_index values s → side_at q s ≡ side
      → up_step q table s ≤ table s
  positive-rest s Max inside goal dead lost positive is =
      let other : side_at (swapped q zero) s ≡ Min =
      get_or-map other_side q.sides s Max Max (subst (λ n. s < n) (sym h.sides) inside) ∙ ap other_side is in
      all-held q table s h inside (goal, dead)
      (λ c in_range. held-rest s c inside in_range (ranked.least s inside lost goal positive other c in_range).enough)
  positive-rest s Min inside goal dead lost positive is =
      let other : side_at (swapped q zero) s ≡ Max =
      get_or-map other_side q.sides s Max Max (subst (λ n. s < n) (sym h.sides) inside) ∙ ap other_side is in
      let one : HasRankedChoice (swapped q zero) (slice_index values) (slice_index ranks) picks s =
      ranked.greatest s inside lost goal positive other in
      one-held q table s h inside (goal, dead) is one.choice one.inside
      (held-rest s one.choice inside one.inside one.ranked.enough)

  -- each state that is free in both
  free-rest : (s : ℕ) → s < states q → is_goal q s ≡ false → is_dead q s ≡ false → slice_index_or zero s false ≡ false
      → up_step q table s ≤ table s
  free-rest s inside goal dead lost = elim (cases_lt 0 (slice_index values s)) [
    | inl positive ↦ positive-rest s (side_at q s) inside goal dead lost positive refl
    | inr none ↦ all-held q table s h inside (goal, dead) (λ c in_range.
        let no : slice_index values s ≡ 0 = omega arith in
        let nothing : slice_index values s * (choice_of q.game s c).total ≡ 0 * (choice_of q.game s c).total =
        ap (λ n. n * (choice_of q.game s c).total) no in
        held-rest s c inside in_range (omega (arith, nothing)))
  ]

  by-marks : (s : ℕ) (goal dead lost : Bool) → s < states q → is_goal q s ≡ goal → is_dead q s ≡ dead
      → slice_index_or zero s false ≡ lost → up_step q table s ≤ table s
  by-marks s true dead lost inside is_goal_ is_dead_ is_lost =
      omega (arith, up_step-goal q table s is_goal_, ranked.deads s inside is_goal_, whole s inside)
  by-marks s false true lost inside is_goal_ is_dead_ is_lost = omega (arith, up_step-dead q table s is_goal_ is_dead_)
  by-marks s false false true inside is_goal_ is_dead_ is_lost =
      omega (
        arith,
        up_step-zero q zero table h is_zero (λ t within. omega (arith, whole t within))
            (λ t within lost. omega (arith, whole t within, ranked.goals t within lost)) s inside is_lost,
      )
  by-marks s false false false inside is_goal_ is_dead_ is_lost = free-rest s inside is_goal_ is_dead_ is_lost

  pub IsInductive-rest : IsInductive q table
  IsInductive-rest s inside = by-marks s (is_goal q s) (is_dead q s) (slice_index_or zero s false) inside refl refl refl
