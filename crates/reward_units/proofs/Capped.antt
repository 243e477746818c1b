-- What is accepted over the units of a table is accepted over all units, and the other way round.
use Rattle.std.proofs.Common.{◌≡◌, ℕ, ◌+◌, ◌*◌, ◌<◌, ◌≤◌, ◌↔◌, min, length, arith, subst, sym, inl, inr}
use Rattle.std.proofs.Math.Nat.{mul-le-mul_left, le_of_mul-le-mul_right}
use Rattle.std.proofs.lemmas.Bool.{cases_lt}
use Rattle.game_model.specs.Game.{Distribution, choices_of, choice_of}
use Rattle.game_model.specs.Limits.{unit}
use Rattle.game_model.specs.Query.{IsQuery, states}
use Rattle.game_model.specs.Values.{weighted_sum}
use Rattle.game_model.proofs.Choices.{IsChoiceOf-choice_of}
use Rattle.expected_rewards.specs.Rewards.{Rewards}
use Rattle.expected_rewards.specs.Tables.{IsCovered, IsPaid}
use Rattle.reward_check.specs.declared.parts.Part.{Part}
use Rattle.reward_check.specs.declared.parts.Part.TheVariants.{Upper, Ranks, Lower, Infinite}
use Rattle.reward_check.specs.Certificates.{Certificate}
use Rattle.reward_check.specs.Parts.{IsRight, IsPassedAt, IsAccepted}
use Rattle.reward_units.specs.Units.{most_units, capped, all_below, all_above}
use Rattle.reward_units.specs.Exact.{ExactRewards, AreRounded, HaveValues, uncapped}

-- two certificates that differ in their rewards alone
module _ (c : Certificate) (low high : Rewards)
    (covers : (s k : ℕ) → s < states c.question → k < length (choices_of c.question.game s)
    → IsCovered c.upper (c.upper s) (c.high s k) (choice_of c.question.game s k)
    → IsCovered c.upper (c.upper s) (high s k) (choice_of c.question.game s k))
    (pays : (s k : ℕ) → s < states c.question → k < length (choices_of c.question.game s)
    → IsPaid c.lower (c.lower s) (c.low s k) (choice_of c.question.game s k)
    → IsPaid c.lower (c.lower s) (low s k) (choice_of c.question.game s k)) where
  passed : (part : Part) (s : ℕ) → s < states c.question → IsPassedAt part c s
      → IsPassedAt part (record c { low = low; high = high }) s
  passed Upper s inside h = record {
    planned = h.planned;
    right = λ looked k may.
        let right : IsRight Upper c s k = h.right looked k may in (right.0, covers s k inside may.0 right.1);
  }
  passed Ranks s inside h = record { planned = h.planned; right = h.right }
  passed Lower s inside h = record {
    planned = h.planned;
    right = λ looked k may. elim (h.right looked k may) [
      | inl away ↦ inl away
      | inr is ↦ inr (pays s k inside may.0 is)
    ];
  }
  passed Infinite s inside h = record { planned = h.planned; right = h.right }

  with-rewards : IsAccepted c → IsAccepted (record c { low = low; high = high })
  with-rewards h = record {
    goals = λ s inside goal. record {
      finite = (h.goals s inside goal).finite;
      lower = (h.goals s inside goal).lower;
      bounded = (h.goals s inside goal).bounded;
      upper = (h.goals s inside goal).upper;
    };
    parts = λ part s inside. passed part s inside (h.parts part s inside);
  }

-- rewards with caps are at most those without
pub capped-sum : (x y most : ℕ) → min x most + min y most ≤ x + y
capped-sum x y most = omega arith

-- they are the same if the sum is small
pub small-sum : (x y most sum : ℕ) → sum ≡ min x most + min y most → sum < most → sum ≡ x + y
small-sum x y most sum is small = omega (arith, is, small)

-- a reward that an entry covers is at most the entry
within-factors : (high entry t w most : ℕ) → 0 < t → high * t + w ≤ entry * t → entry ≤ most → high ≤ most
within-factors high entry t w most some is small =
    let at : high * t ≤ entry * t = omega (arith, is) in
    let less : high ≤ entry = le_of_mul-le-mul_right {k = t} at some in omega (arith, less, small)

-- a smaller reward is covered too
covered-less : (high more t w entry : ℕ) → high ≤ more → more * t + w ≤ entry * t → high * t + w ≤ entry * t
covered-less high more t w entry less is = omega (arith, mul-le-mul_left t less, is)

-- a greater reward pays too
paid-more : (low more t w entry : ℕ) → low ≤ more → entry * t ≤ low * t + w → entry * t ≤ more * t + w
paid-more low more t w entry less is = omega (arith, mul-le-mul_left t less, is)

-- a reward that is at least the entry pays by itself
paid-great : (low t w entry : ℕ) → entry ≤ low → entry * t ≤ low * t + w
paid-great low t w entry less = omega (arith, mul-le-mul_left t less)

-- what is covered over all units is covered over those of a table, and the other way round
covers-down : (upper : ℕ → ℕ) (x y entry high : ℕ) (m : Distribution) → high ≡ capped x + capped y
    → IsCovered upper entry (x + y) m → IsCovered upper entry high m
covers-down upper x y entry high m is h =
    covered-less high (x + y) m.total (weighted_sum upper m.edges) entry
    (omega (arith, is, capped-sum x y most_units)) h

covers-up : (upper : ℕ → ℕ) (x y entry high : ℕ) (m : Distribution) → high ≡ capped x + capped y → 0 < m.total
    → entry ≤ unit → IsCovered upper entry high m → IsCovered upper entry (x + y) m
covers-up upper x y entry high m is some few h =
    let small : high ≤ unit =
    within-factors high entry m.total (weighted_sum upper m.edges) unit some h few in
    subst (λ n. IsCovered upper entry n m) (small-sum x y most_units high is (omega (arith, small))) h

-- what is paid over the units of a table is paid over all units, and the other way round
pays-up : (lower : ℕ → ℕ) (x y entry low : ℕ) (m : Distribution) → low ≡ capped x + capped y
    → IsPaid lower entry low m → IsPaid lower entry (x + y) m
pays-up lower x y entry low m is h =
    paid-more low (x + y) m.total (weighted_sum lower m.edges) entry
    (omega (arith, is, capped-sum x y most_units)) h

pays-down : (lower : ℕ → ℕ) (x y entry low : ℕ) (m : Distribution) → low ≡ capped x + capped y → entry ≤ unit
    → IsPaid lower entry (x + y) m → IsPaid lower entry low m
pays-down lower x y entry low m is few h = elim (cases_lt low most_units) [
  | inl small ↦ subst (λ n. IsPaid lower entry n m) (sym (small-sum x y most_units low is small)) h
  | inr great ↦ paid-great low m.total (weighted_sum lower m.edges) entry (omega (arith, great, few))
]

pub accepted-uncapped : (c : Certificate) (exact : ExactRewards) (places : ℕ) → IsQuery c.question
    → AreRounded c exact places → HaveValues c → IsAccepted c ↔ IsAccepted (uncapped c exact places)
accepted-uncapped c exact places posed rounded values = (
  with-rewards c (uncapped c exact places).low (uncapped c exact places).high
      (λ s k inside within.
      covers-up c.upper (all_above (exact.of_state s) places) (all_above (exact.of_choice s k) places) (c.upper s)
      (c.high s k) (choice_of c.question.game s k) (rounded.high s k inside within)
      (IsChoiceOf-choice_of c.question.game s k posed.game inside within).positive (values.upper s inside))
      (λ s k inside within.
      pays-up c.lower (all_below (exact.of_state s) places) (all_below (exact.of_choice s k) places) (c.lower s)
      (c.low s k) (choice_of c.question.game s k) (rounded.low s k inside within)),
  with-rewards (uncapped c exact places) c.low c.high
      (λ s k inside within.
      covers-down c.upper (all_above (exact.of_state s) places) (all_above (exact.of_choice s k) places) (c.upper s)
      (c.high s k) (choice_of c.question.game s k) (rounded.high s k inside within))
      (λ s k inside within.
      pays-down c.lower (all_below (exact.of_state s) places) (all_below (exact.of_choice s k) places) (c.lower s)
      (c.low s k) (choice_of c.question.game s k) (rounded.low s k inside within) (values.lower s inside)),
)
