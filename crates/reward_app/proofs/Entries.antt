-- The entries of a certificate that a solver led to are within the limits of a text, and their bounds go together.
use Rattle.std.proofs.Common.{◌≡◌, ◌<◌, ◌≤◌, ◌+◌, ℕ, Bool, true, false, List, length, All, Option, Some, None, refl}
use Rattle.std.proofs.Common.{sym, subst, arith}
use Rattle.std.specs.Prelude.{slice_index, slice_index_or, IsSome, IsSomeAnd, if◌then◌else◌}
use Rattle.std.specs.List.{range_with_len}
use Rattle.std.proofs.lemmas.List.Elements.{All-map}
use Rattle.std.proofs.lemmas.List.FromFn.{length-range_with_len, get_or-range_with_len}
use Rattle.fractions.specs.Fraction.{Fraction}
use Rattle.game_model.specs.Game.{choices_of}
use Rattle.game_model.specs.Limits.{unit, most_choices}
use Rattle.game_model.specs.Query.{Query, IsQuery, states}
use Rattle.expected_rewards.specs.Tables.{is_finite}
use Rattle.plan_text.specs.Entries.{IsSmall, greatest_rank}
use Rattle.reward_values.specs.Values.{IsValue}
use Rattle.reward_check.specs.declared.parts.Part.TheVariants.{Upper, Lower, Infinite}
use Rattle.reward_text.specs.Entries.{RewardEntry, IsRewardEntry, AreBounds, reward_entry_at, reward_entries_of}
use Rattle.reward_verdicts.specs.Truth.{IsUpTo}
use Rattle.reward_reports.specs.Printed.{lower_of, upper_of}
use Rattle.reward_audit.specs.Audited.{audited_certificate}
use Rattle.solved_rewards.specs.declared.solved.SolvedRewards.{SolvedRewards}
use Rattle.solved_rewards.specs.Values.{NeedsChoice, NeedsReply}
use Rattle.reward_questions.specs.Solved.{IsSolvedQuestion}
use Rattle.reward_app.specs.inside.Certified.{IsAlive, as_audited}

-- 1. Choices and values.

-- a choice that is in range if there is one
small : (n : ℕ) (choice : Option ℕ) → n ≤ most_choices → (IsSome choice → IsSomeAnd choice (λ k. k < n))
    → IsSmall choice
small n None few inside = tt
small n (Some k) few inside = omega (arith, few, inside refl)

value-fits : (number : Bool) (entry : ℕ) → entry ≤ unit → IsValue (if number then Some entry else None)
value-fits true entry fits = fits
value-fits false entry fits = tt

at-most : (P : ℕ → Type 0) (xs : List ℕ) (s : ℕ) → All P xs → s < length xs → P (slice_index xs s)
at-most P xs s all inside = all s 0 inside

up-bounds : (lower upper : Option ℕ) → IsUpTo lower upper → AreBounds lower upper
up-bounds (Some lower) upper up = tt
up-bounds None None up = refl
up-bounds None (Some upper) up = absurd up

-- 2. The entry of each state.

module _ (q : Query) (table : List (Option Fraction)) (solved : SolvedRewards) (posed : IsQuery q) (alive : IsAlive q)
    (is : IsSolvedQuestion q table solved) where
  choice-small : (s : ℕ) → s < states q → IsSmall (slice_index_or solved.choices.items s None)
  choice-small s inside =
      small (length (choices_of q.game s)) (slice_index_or solved.choices.items s None) (posed.game.bounded s inside)
      (λ some. by (is_finite solved.finite.items s) refl (is.plans.choices s inside some))
    where
      by : (finite : Bool) → is_finite solved.finite.items s ≡ finite
          → NeedsChoice q solved.finite.items solved.lower.items s
          → IsSomeAnd (slice_index_or solved.choices.items s None) (λ k. k < length (choices_of q.game s))
      by true marked needs = (is.accepted.parts Lower s inside).planned
          ((inside, needs.goal, alive s inside), marked, needs.some marked) needs.own
      by false marked needs =
          (is.accepted.parts Infinite s inside).planned ((inside, needs.goal, alive s inside), marked) needs.own

  reply-small : (s : ℕ) → s < states q → IsSmall (slice_index_or solved.replies.items s None)
  reply-small s inside =
      small (length (choices_of q.game s)) (slice_index_or solved.replies.items s None) (posed.game.bounded s inside)
      (λ some. by (is.plans.replies s inside some))
    where
      by : NeedsReply q solved.bounded.items s
          → IsSomeAnd (slice_index_or solved.replies.items s None) (λ k. k < length (choices_of q.game s))
      by needs = (is.accepted.parts Upper s inside).planned
          ((inside, needs.goal, alive s inside), needs.number) needs.own

  entry-fits : All (λ r. r ≤ greatest_rank) solved.ranks.items → (s : ℕ) → s < states q
      → IsRewardEntry (reward_entry_at (as_audited solved).plan s)
  entry-fits ranks s inside = record {
    lower = value-fits (slice_index_or solved.finite.items s false) (slice_index solved.lower.items s)
        (at-most (λ v. v ≤ unit) solved.lower.items s is.lists.lower_units
        (subst (λ n. s < n) (sym is.lists.lower) inside));
    choice = choice-small s inside;
    rank = at-most (λ r. r ≤ greatest_rank) solved.ranks.items s ranks
        (subst (λ n. s < n) (sym is.lists.ranks) inside);
    upper = value-fits (slice_index_or solved.bounded.items s false) (slice_index solved.upper.items s)
        (at-most (λ v. v ≤ unit) solved.upper.items s is.lists.upper_units
        (subst (λ n. s < n) (sym is.lists.upper) inside));
    reply = reply-small s inside;
  }

  -- what holds of the entry of each state holds of each entry
  of-entries : (P : RewardEntry → Type 0)
      → ((s : ℕ) → s < states q → P (reward_entry_at (as_audited solved).plan s))
      → All P (reward_entries_of (as_audited solved).plan)
  of-entries P each =
      let n = length solved.lower.items in
      All-map P (reward_entry_at (as_audited solved).plan) (range_with_len 0 n) (λ i d there.
      let here : i < n = omega (arith, there, length-range_with_len 0 n) in
      subst (λ s. P (reward_entry_at (as_audited solved).plan s)) (sym (get_or-range_with_len 0 n i d here))
      (each (0 + i) (omega (arith, here, is.lists.lower))))

  pub entries-fit : All (λ r. r ≤ greatest_rank) solved.ranks.items
      → All IsRewardEntry (reward_entries_of (as_audited solved).plan)
  entries-fit ranks = of-entries IsRewardEntry (entry-fits ranks)

  pub entries-bounded : ((s : ℕ) → s < states q → IsUpTo (lower_of (audited_certificate q (as_audited solved)) s)
      (upper_of (audited_certificate q (as_audited solved)) s))
      → All (λ (entry : RewardEntry). AreBounds entry.lower entry.upper) (reward_entries_of (as_audited solved).plan)
  entries-bounded ordered = of-entries (λ (entry : RewardEntry). AreBounds entry.lower entry.upper)
      (λ s inside. up-bounds _ _ (ordered s inside))
