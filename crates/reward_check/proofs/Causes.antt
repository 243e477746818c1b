-- A certificate of rewards has one fault at most.
use Rattle.std.proofs.Common.{◌≡◌, ℕ, zero, suc, ◌<◌, ◌⊎◌, Bool, true, List, arith, refl, ap, subst, sym, ◌∙◌, inl, inr}
use Rattle.std.specs.Prelude.{slice_index_or}
use Rattle.std.proofs.lemmas.Bool.{both_ways, cases_order}
use Rattle.game_model.specs.Game.{Distribution, choice_of, no_edge}
use Rattle.game_model.specs.Query.{is_goal}
use Rattle.fixed_bellman.proofs.Firsts.{first-one}
use Rattle.expected_rewards.specs.Tables.{is_finite, StaysFinite, LeadsAway}
use Rattle.reward_check.specs.declared.check.RewardCause.{RewardCause}
use Rattle.reward_check.specs.declared.parts.Part.{Part}
use Rattle.reward_check.specs.declared.parts.Part.TheVariants.{Upper, Ranks, Lower, Infinite}
use Rattle.reward_check.specs.Certificates.{Certificate}
use Rattle.reward_check.specs.Parts.{HasZeros, IsRight, IsPassedAt}
use Rattle.reward_check.specs.Faults.{IsLackOf, IsPlanless, IsFirstWrong, IsFirstUnpassed, IsFirstGoalFault, place_of}
use Rattle.reward_check.specs.Faults.{IsPartFault, IsRewardFault}

-- a choice does not stay with the marked states and leave them
pub stays-away : (marks : List Bool) (m : Distribution) → StaysFinite marks m → ¬ LeadsAway marks m
stays-away marks m stays away =
    both_ways (is_finite marks (slice_index_or m.edges away.0 no_edge).to) away.2 (stays away.0 no_edge away.1)

-- a choice that lacks something is not right
pub lack-wrong : (part : Part) (c : Certificate) (s k : ℕ) (cause : RewardCause) → IsLackOf part c s k cause
    → ¬ IsRight part c s k
lack-wrong Upper c s k cause (inl leaves) right =
    stays-away c.bounded (choice_of c.question.game s k) right.0 leaves.1
lack-wrong Upper c s k cause (inr above) right = absurd (omega (arith, above.2, right.1))
lack-wrong Ranks c s k cause lack right = lack.1 right
lack-wrong Lower c s k cause lack (inl away) = stays-away c.finite (choice_of c.question.game s k) lack.1 away
lack-wrong Lower c s k cause lack (inr paid) = absurd (omega (arith, lack.2, paid))
lack-wrong Infinite c s k cause lack (inl sinks) = lack.1 sinks
lack-wrong Infinite c s k cause lack (inr lingers) = lack.2 lingers

-- it lacks one thing first
lack-one : (part : Part) (c : Certificate) (s k : ℕ) (cause other : RewardCause) → IsLackOf part c s k cause
    → IsLackOf part c s k other → cause ≡ other
lack-one Upper c s k cause other (inl leaves) (inl leaves') = leaves.0 ∙ sym leaves'.0
lack-one Upper c s k cause other (inl leaves) (inr above) =
    absurd (stays-away c.bounded (choice_of c.question.game s k) above.1 leaves.1)
lack-one Upper c s k cause other (inr above) (inl leaves) =
    absurd (stays-away c.bounded (choice_of c.question.game s k) above.1 leaves.1)
lack-one Upper c s k cause other (inr above) (inr above') = above.0 ∙ sym above'.0
lack-one Ranks c s k cause other lack lack' = lack.0 ∙ sym lack'.0
lack-one Lower c s k cause other lack lack' = lack.0 ∙ sym lack'.0
lack-one Infinite c s k cause other lack lack' = lack.0 ∙ sym lack'.0

-- why a part does not pass a state
abbrev IsCaused : Part → Certificate → ℕ → RewardCause → Type 0
IsCaused part c s cause = IsPlanless part c s cause ⊎ ((k : ℕ) × IsFirstWrong part c s k cause)

caused-unpassed : (part : Part) (c : Certificate) (s : ℕ) (cause : RewardCause) → IsCaused part c s cause
    → ¬ IsPassedAt part c s
caused-unpassed part c s cause (inl planless) at = planless.none (at.planned planless.looked planless.own)
caused-unpassed part c s cause (inr wrong) at =
    let first : IsFirstWrong part c s wrong.0 cause = wrong.1 in
    lack-wrong part c s wrong.0 cause first.lack (at.right first.looked wrong.0 first.taken)

wrong-one : (part : Part) (c : Certificate) (s k j : ℕ) (cause other : RewardCause) → IsFirstWrong part c s k cause
    → IsFirstWrong part c s j other → cause ≡ other
wrong-one part c s k j cause other h g = elim (cases_order k j) [
  | inl same ↦
      lack-one part c s j cause other (subst (λ i. IsLackOf part c s i cause) same h.lack) g.lack
  | inr apart ↦ elim apart [
    | inl less ↦ absurd (lack-wrong part c s k cause h.lack (g.before k less h.taken))
    | inr more ↦ absurd (lack-wrong part c s j other g.lack (h.before j more g.taken))
  ]
]

caused-one : (part : Part) (c : Certificate) (s : ℕ) (cause other : RewardCause) → IsCaused part c s cause
    → IsCaused part c s other → cause ≡ other
caused-one part c s cause other (inl h) (inl g) = h.named ∙ sym g.named
caused-one part c s cause other (inl h) (inr g) = let first = g.1 in absurd (h.none (first.planned h.own))
caused-one part c s cause other (inr h) (inl g) = let first = h.1 in absurd (g.none (first.planned g.own))
caused-one part c s cause other (inr h) (inr g) = wrong-one part c s h.0 g.0 cause other h.1 g.1

unpassed-one : (part : Part) (c : Certificate) (s t : ℕ) (cause other : RewardCause)
    → IsFirstUnpassed part c s cause → IsFirstUnpassed part c t other → (s ≡ t) × (cause ≡ other)
unpassed-one part c s t cause other h g =
    let same : s ≡ t = first-one (λ r. IsPassedAt part c r) s t (caused-unpassed part c s cause h.caused)
    (caused-unpassed part c t other g.caused) h.before g.before in (
      same,
      caused-one part c t cause other (subst (λ r. IsCaused part c r cause) same h.caused) g.caused,
    )

-- parts of one place are the same
part_at : ℕ → Part
part_at zero = Upper
part_at (suc zero) = Ranks
part_at (suc (suc zero)) = Lower
part_at (suc (suc (suc n))) = Infinite

part_at-place : (part : Part) → part_at (place_of part) ≡ part
unfolding part_at
part_at-place Upper = refl
part_at-place Ranks = refl
part_at-place Lower = refl
part_at-place Infinite = refl

place-one : (part other : Part) → place_of part ≡ place_of other → part ≡ other
place-one part other same = sym (part_at-place part) ∙ ap part_at same ∙ part_at-place other

part_fault-one : (c : Certificate) (s t : ℕ) (cause other : RewardCause) → IsPartFault c s cause
    → IsPartFault c t other → (s ≡ t) × (cause ≡ other)
part_fault-one c s t cause other h g = elim (cases_order (place_of h.part) (place_of g.part)) [
  | inl same ↦
      unpassed-one g.part c s t cause other
      (subst (λ part. IsFirstUnpassed part c s cause) (place-one h.part g.part same) h.first) g.first
  | inr apart ↦ elim apart [
    | inl less ↦
        let first = h.first in
        absurd (caused-unpassed h.part c s cause first.caused (g.before h.part less s first.inside))
    | inr more ↦
        let first = g.first in
        absurd (caused-unpassed g.part c t other first.caused (h.before g.part more t first.inside))
  ]
]

goal_fault-one : (c : Certificate) (s t : ℕ) → IsFirstGoalFault c s → IsFirstGoalFault c t → s ≡ t
goal_fault-one c s t h g = first-one (λ r. is_goal c.question r ≡ true → HasZeros c r) s t
    (λ zeros. h.none (zeros h.goal)) (λ zeros. g.none (zeros g.goal)) h.before g.before

goal-part : (c : Certificate) (s t : ℕ) (cause : RewardCause) → IsFirstGoalFault c s → ¬ IsPartFault c t cause
goal-part c s t cause h g = h.none (g.goals s h.inside h.goal)

pub reward_fault-one : (c : Certificate) (s t : ℕ) (cause other : RewardCause) → IsRewardFault c s cause
    → IsRewardFault c t other → (s ≡ t) × (cause ≡ other)
reward_fault-one c s t cause other (inl h) (inl g) = (goal_fault-one c s t h.1 g.1, h.0 ∙ sym g.0)
reward_fault-one c s t cause other (inl h) (inr g) = absurd (goal-part c s t other h.1 g)
reward_fault-one c s t cause other (inr h) (inl g) = absurd (goal-part c t s cause g.1 h)
reward_fault-one c s t cause other (inr h) (inr g) = part_fault-one c s t cause other h g
