-- What is printed of a plan is within the limits of a report and of a certificate.
use Rattle.std.proofs.Common.{◌≡◌, ◌≤◌, ◌<◌, ◌+◌, ◌-◌, inl, inr, ℕ, Bool, true, false, List, length, All, arith, refl}
use Rattle.std.proofs.Common.{sym, subst}
use Rattle.std.specs.Prelude.{slice_index, slice_index_or, Option, Some, None, IsSomeAnd, if◌then◌else◌}
use Rattle.std.specs.List.{range_with_len}
use Rattle.std.proofs.lemmas.Bool.{cases_lt}
use Rattle.std.proofs.lemmas.List.Elements.{All-map, All-weaker}
use Rattle.std.proofs.lemmas.List.FromFn.{length-range_with_len, length-map-range_with_len, get_or-range_with_len}
use Rattle.game_model.specs.declared.game.Side.{Side}
use Rattle.game_model.specs.declared.game.Side.TheVariants.{Max, Min}
use Rattle.game_model.specs.Game.{choices_of}
use Rattle.game_model.specs.Query.{Query, IsQuery, states, is_goal, is_dead, side_at}
use Rattle.game_model.specs.Limits.{unit, most_choices}
use Rattle.game_model.specs.Ranks.{Ranked, HasRankedChoice}
use Rattle.inductive_check.specs.Replies.{IsFirstReply, AreFirstReplies}
use Rattle.inductive_check.specs.Held.{IsFirstHeld}
use Rattle.formula_reader.specs.Formula.{Tree}
use Rattle.plan_text.specs.declared.plan.Plan.{Plan}
use Rattle.plan_text.specs.Entries.{IsSmall, IsInRange, HasStates, greatest_choice, greatest_rank, entry_at}
use Rattle.certificate_audit.specs.Accepted.{Passes}
use Rattle.verdicts.specs.Report.{IsLine, HasCount}
use Rattle.verdicts.specs.declared.report.How.{How}
use Rattle.verdicts.specs.declared.report.ReportLine.{ReportLine}
use Rattle.bracket_engine.specs.Choices.{AreChoices}
use Rattle.output.specs.Outputs.{AreEntriesInLimits, IsInLimits}
use Rattle.output.specs.Printed.{is_mirrored, line_of, certificate_of, output_of}

-- 1. Choices.

none-small : (choice : Option ℕ) → choice ≡ None → IsSmall choice
none-small None is = tt
none-small (Some choice) is = absurd (cc)

some-small : (choice : Option ℕ) (c : ℕ) → choice ≡ Some c → c ≤ greatest_choice → IsSmall choice
some-small None c is small = tt
some-small (Some choice) c is small = let same : choice ≡ c = cc in omega (arith, same)

held-small : (q : Query) (table : ℕ → ℕ) (s : ℕ) (reply : Option ℕ) → length (choices_of q.game s) ≤ most_choices
    → IsSomeAnd reply (IsFirstHeld q table s) → IsSmall reply
held-small q table s None bounded held = tt
held-small q table s (Some choice) bounded held = omega (arith, held.inside)

module _ (q : Query) (posed : IsQuery q) (s : ℕ) (inside : s < states q) where
  bounded : length (choices_of q.game s) ≤ most_choices
  bounded = posed.game.bounded s inside

  choice-small : (lower : List ℕ) (choices : List (Option ℕ)) (ranks : List ℕ) → AreChoices q lower choices
      → Ranked q lower choices ranks → IsSmall (slice_index_or choices s None)
  choice-small lower choices ranks are ranked = by_goal (is_goal q s) (is_dead q s) (side_at q s) refl refl refl
    where
      by_value : is_goal q s ≡ false → is_dead q s ≡ false → side_at q s ≡ Max → IsSmall (slice_index_or choices s None)
      by_value goal dead max = elim (cases_lt 0 (slice_index lower s)) [
        | inl positive ↦ (let one : HasRankedChoice q (slice_index lower) (slice_index ranks) choices s =
            ranked.greatest s inside goal dead positive max in
            some-small _ one.choice one.given (omega (arith, one.inside, bounded)))
        | inr none ↦ none-small _ (are.none_at_zero s inside (omega arith))
      ]

      by_goal : (goal dead : Bool) (side : Side) → is_goal q s ≡ goal → is_dead q s ≡ dead → side_at q s ≡ side
          → IsSmall (slice_index_or choices s None)
      by_goal true dead side is_g is_d is_s = none-small _ (are.none_at_goals s inside is_g)
      by_goal false true side is_g is_d is_s = none-small _ (are.none_at_deads s inside is_d)
      by_goal false false Min is_g is_d is_s = none-small _ (are.none_at_least s inside is_s)
      by_goal false false Max is_g is_d is_s = by_value is_g is_d is_s

  reply-small : (table : ℕ → ℕ) (reply : Option ℕ) → IsFirstReply q table s reply → IsSmall reply
  reply-small table reply first = by_goal (is_goal q s) (is_dead q s) (side_at q s) refl refl refl
    where
      by_goal : (goal dead : Bool) (side : Side) → is_goal q s ≡ goal → is_dead q s ≡ dead
          → side_at q s ≡ side → IsSmall reply
      by_goal true dead side is_g is_d is_s = none-small _ (first.none_at_goals is_g)
      by_goal false true side is_g is_d is_s = none-small _ (first.none_at_deads is_d)
      by_goal false false Max is_g is_d is_s = none-small _ (first.none_at_greatest is_s)
      by_goal false false Min is_g is_d is_s =
          held-small q table s reply bounded (first.first (record { free = (is_g, is_d); least = is_s }))

-- 2. Entries and lines.

pub at-most : (P : ℕ → Type 0) (xs : List ℕ) (s : ℕ) → All P xs → s < length xs → P (slice_index xs s)
at-most P xs s all inside = all s 0 inside

-- the bounds of a plan that passes are units
pub plan-units : (q : Query) (plan : Plan) → HasStates plan (states q) → Passes q plan → (s : ℕ) → s < states q
    → (slice_index plan.lower.items s ≤ unit) × (slice_index plan.upper.items s ≤ unit)
plan-units q plan lists passes s within = (
  passes.ranked.units s within,
  at-most (λ v. v ≤ unit) plan.upper.items s passes.units (subst (λ n. s < n) (sym lists.upper) within),
)

-- printed bounds are units
pub printed-units : (mirrored : Bool) (lower upper : ℕ) → lower ≤ unit → upper ≤ unit
    → ((if mirrored then unit - upper else lower) ≤ unit) × ((if mirrored then unit - lower else upper) ≤ unit)
printed-units true lower upper low high = (omega arith, omega arith)
printed-units false lower upper low high = (low, high)

-- the line of a state, by the tables of a plan
abbrev pub plan_line : Tree → How → Plan → ℕ → ReportLine
plan_line f how plan = line_of (is_mirrored f.kind) f.bound how plan.lower.items plan.upper.items

-- a plan that can be printed: it passes, and has choices and replies only where they are needed
pub record IsPrintable (q : Query) (plan : Plan) : Type 0 where
  pub posed : IsQuery q
  pub lists : HasStates plan (states q)
  pub passes : Passes q plan
  pub choices : AreChoices q plan.lower.items plan.choices.items
  pub table : ℕ → ℕ
  pub replies : AreFirstReplies q table plan.replies.items
  pub ranks_fit : All (λ r. r ≤ greatest_rank) plan.ranks.items

module _ (q : Query) (plan : Plan) (initial : List ℕ) (how : How) (h : IsPrintable q plan) (count : HasCount how)
    (inside : All (λ s. s < states q) initial) where
  entry-in_range : (s : ℕ) → s < states q → IsInRange (entry_at plan s)
  entry-in_range s within = record {
    lower = h.passes.ranked.units s within;
    choice = choice-small q h.posed s within plan.lower.items plan.choices.items plan.ranks.items
        h.choices h.passes.ranked;
    rank = at-most (λ r. r ≤ greatest_rank) plan.ranks.items s h.ranks_fit
        (subst (λ n. s < n) (sym h.lists.ranks) within);
    upper = at-most (λ v. v ≤ unit) plan.upper.items s h.passes.units (subst (λ n. s < n) (sym h.lists.upper) within);
    reply = reply-small q h.posed s within h.table _ (h.replies.each s within);
  }

  line-in_range : (f : Tree) (s : ℕ) → s < states q → IsLine (plan_line f how plan s)
  line-in_range f s within = record {
    state = omega (arith, within, h.posed.game.few);
    count = count;
    values =
        let units = plan-units q plan h.lists h.passes s within in
        printed-units (is_mirrored f.kind) _ _ units.0 units.1;
  }

  entries-in_limits : (asked : Bool) (formula : Tree) → AreEntriesInLimits (certificate_of asked formula plan)
  entries-in_limits false formula = tt
  entries-in_limits true formula =
      let n = length plan.lower.items in (
        omega (arith, length-map-range_with_len (entry_at plan) 0 n, h.lists.lower, h.posed.game.few),
        All-map IsInRange (entry_at plan) (range_with_len 0 n) (λ i d there.
            let here : i < n = omega (arith, there, length-range_with_len 0 n) in
            subst (λ s. IsInRange (entry_at plan s)) (sym (get_or-range_with_len 0 n i d here))
            (entry-in_range (0 + i) (omega (arith, here, h.lists.lower)))),
      )

  pub printed-in_limits : (asked : Bool) (formula : Tree) → IsInLimits (output_of asked formula how initial plan)
  printed-in_limits asked formula = record {
    lines = All-map IsLine (plan_line formula how plan) initial
        (All-weaker (λ s. s < states q) (λ s. IsLine (plan_line formula how plan s))
        (line-in_range formula) initial inside);
    entries = entries-in_limits asked formula;
  }
