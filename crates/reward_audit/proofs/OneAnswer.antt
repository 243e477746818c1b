-- A text has one answer for a question and its rewards.
use Rattle.std.proofs.Common.{◌≡◌, ◌∙◌, ◌<◌, ℕ, Bool, true, false, List, length, get_or, Some, None, Result}
use Rattle.std.proofs.Common.{Ok, Err, refl, ap, sym, subst, arith, inl, inr}
use Rattle.std.specs.Bool.{if◌then◌else◌}
use Rattle.std.specs.Prelude.{slice_index, slice_index_or}
use Rattle.std.proofs.lemmas.Bool.{cases_lt, both_ways}
use Rattle.std.proofs.lemmas.List.{same_lists, get_or_default, get_or_past}
use Rattle.std.proofs.lemmas.List.FromFn.{get_or-map-range_with_len}
use Rattle.game_model.specs.Query.{Query, states}
use Rattle.plan_text.specs.declared.fault.PlanFault.{PlanFault}
use Rattle.reward_check.specs.declared.check.RewardFault.{RewardFault}
use Rattle.reward_check.specs.Certificates.{Certificate}
use Rattle.reward_check.specs.Faults.{IsRewardFault}
use Rattle.reward_check.proofs.Causes.{reward_fault-one}
use Rattle.expected_rewards.specs.Tables.{is_finite}
use Rattle.reward_text.specs.declared.plan.RewardPlan.{RewardPlan}
use Rattle.reward_text.specs.Entries.{RewardEntry, RewardCertificate, HasRewardStates, reward_entry_at}
use Rattle.reward_text.specs.Entries.{certificate_of}
use Rattle.reward_text.specs.Said.{rewards_said}
use Rattle.reward_text.proofs.Plans.{length-entries_of}
use Rattle.reward_text.proofs.Certificates.{what_is_told}
use Rattle.reward_units.specs.Exact.{ExactRewards, paid_below, paid_above}
use Rattle.reward_audit.specs.declared.fault.RewardAuditFault.{RewardAuditFault}
use Rattle.reward_audit.specs.declared.fault.RewardAuditFault.TheVariants.{Text, Plan}
use Rattle.reward_audit.specs.Accepted.{IsSaid, IsCertificateOf, IsAcceptedText}
use Rattle.reward_audit.specs.Refused.{IsFaulty, IsRefused}
use Rattle.reward_audit.proofs.Alike.{AreAlike, HaveSameLists, moved_fault, accepted-no_fault}

-- 1. What a text says.

said-read : (q : Query) (text : List ℕ) (plan : RewardPlan) → IsSaid q text plan
    → rewards_said text (states q) ≡ Ok (certificate_of plan)
said-read q text plan is =
    what_is_told text (states q) (certificate_of plan) (length-entries_of plan (states q) is.lists) is.said

said-no_fault : (q : Query) (text : List ℕ) (plan : RewardPlan) (fault : PlanFault) → IsSaid q text plan
    → ¬ (rewards_said text (states q) ≡ Err fault)
said-no_fault q text plan fault is at_fault =
    let both : Ok (certificate_of plan) ≡ Err fault = sym (said-read q text plan is) ∙ at_fault in
    cc

said-one : (q : Query) (text : List ℕ) (plan other : RewardPlan) → IsSaid q text plan → IsSaid q text other
    → certificate_of plan ≡ certificate_of other
said-one q text plan other is is_other =
    let both : ◌≡◌ {A = Result RewardCertificate PlanFault} (Ok (certificate_of plan)) (Ok (certificate_of other)) =
    sym (said-read q text plan is) ∙ said-read q text other is_other in
    cc

pub entries-one : (q : Query) (exact : ExactRewards) (text : List ℕ) (plan other : RewardPlan) (c d : Certificate)
    → IsAcceptedText q exact text plan c → IsAcceptedText q exact text other d
    → certificate_of plan ≡ certificate_of other
entries-one q exact text plan other c d is is_other = said-one q text plan other is.read is_other.read

-- 2. Plans with the same entries.

-- values that are the same are numbers together, and the same numbers
same-mark : (b e : Bool) (x y : ℕ) → (if b then Some x else None) ≡ (if e then Some y else None) → b ≡ e
same-mark true true x y same = refl
same-mark false false x y same = refl
same-mark true false x y same = let apart : Some x ≡ None = same in cc
same-mark false true x y same = let apart : None ≡ Some y = same in cc

same-number : (b e : Bool) (x y : ℕ) → (if b then Some x else None) ≡ (if e then Some y else None) → b ≡ true
    → x ≡ y
same-number true true x y same is = let both : Some x ≡ Some y = same in cc
same-number true false x y same is = let apart : Some x ≡ None = same in cc
same-number false e x y same is = cc

same_column : {X : Type 0} (xs ys : List X) (d : X) (n : ℕ) → length xs ≡ n → length ys ≡ n
    → ((k : ℕ) → k < n → get_or xs k d ≡ get_or ys k d) → xs ≡ ys
same_column xs ys d n long as_long same =
    same_lists xs ys (long ∙ sym as_long)
    (λ k e inside. get_or_default xs k e d inside ∙ same k (omega (arith, inside, long))
    ∙ get_or_default ys k d e (omega (arith, inside, long, as_long)))

module _ (plan other : RewardPlan) (n : ℕ) (has : HasRewardStates plan n) (has_other : HasRewardStates other n)
    (same : certificate_of plan ≡ certificate_of other) where
  same_entries : (k : ℕ) → k < n → reward_entry_at plan k ≡ reward_entry_at other k
  same_entries k inside =
      let none : RewardEntry = reward_entry_at plan 0 in
      sym (get_or-map-range_with_len (reward_entry_at plan) 0 (length plan.lower.items) k k none
      (omega (arith, inside, has.lower)) (omega arith))
      ∙ ap (λ (c : RewardCertificate). get_or c.entries k none) same
      ∙ get_or-map-range_with_len (reward_entry_at other) 0 (length other.lower.items) k k none
      (omega (arith, inside, has_other.lower)) (omega arith)

  same_finite : plan.finite.items ≡ other.finite.items
  same_finite = same_column plan.finite.items other.finite.items false n has.finite has_other.finite
      (λ k inside. same-mark (slice_index_or plan.finite.items k false) (slice_index_or other.finite.items k false)
      (slice_index plan.lower.items k) (slice_index other.lower.items k)
      (ap (λ (e : RewardEntry). e.lower) (same_entries k inside)))

  same_bounded : plan.bounded.items ≡ other.bounded.items
  same_bounded = same_column plan.bounded.items other.bounded.items false n has.bounded has_other.bounded
      (λ k inside. same-mark (slice_index_or plan.bounded.items k false) (slice_index_or other.bounded.items k false)
      (slice_index plan.upper.items k) (slice_index other.upper.items k)
      (ap (λ (e : RewardEntry). e.upper) (same_entries k inside)))

  same_choices : plan.choices.items ≡ other.choices.items
  same_choices = same_column plan.choices.items other.choices.items None n has.choices has_other.choices
      (λ k inside. ap (λ (e : RewardEntry). e.choice) (same_entries k inside))

  same_replies : plan.replies.items ≡ other.replies.items
  same_replies = same_column plan.replies.items other.replies.items None n has.replies has_other.replies
      (λ k inside. ap (λ (e : RewardEntry). e.reply) (same_entries k inside))

  same_ranks : plan.ranks.items ≡ other.ranks.items
  same_ranks = same_column plan.ranks.items other.ranks.items 0 n has.ranks has_other.ranks
      (λ k inside. ap (λ (e : RewardEntry). e.rank) (same_entries k inside))

  same_lower : (s : ℕ) → s < n → is_finite plan.finite.items s ≡ true
      → slice_index plan.lower.items s ≡ slice_index other.lower.items s
  same_lower s inside = same-number (slice_index_or plan.finite.items s false)
      (slice_index_or other.finite.items s false) (slice_index plan.lower.items s) (slice_index other.lower.items s)
      (ap (λ (e : RewardEntry). e.lower) (same_entries s inside))

  same_upper : (s : ℕ) → s < n → is_finite plan.bounded.items s ≡ true
      → slice_index plan.upper.items s ≡ slice_index other.upper.items s
  same_upper s inside = same-number (slice_index_or plan.bounded.items s false)
      (slice_index_or other.bounded.items s false) (slice_index plan.upper.items s) (slice_index other.upper.items s)
      (ap (λ (e : RewardEntry). e.upper) (same_entries s inside))

-- what is marked is in the list
marked-inside : (marks : List Bool) (s n : ℕ) → length marks ≡ n → is_finite marks s ≡ true → s < n
marked-inside marks s n long marked = elim (cases_lt s n) [
  | inl inside ↦ inside
  | inr past ↦
      absurd (both_ways (is_finite marks s) (get_or_past marks s false (omega (arith, past, long))) marked)
]

-- 3. The certificates of two plans of one text have the same faults.

module _ (q : Query) (exact : ExactRewards) (text : List ℕ) (plan other : RewardPlan) (c d : Certificate)
    (said : IsSaid q text plan) (said_other : IsSaid q text other)
    (is : IsCertificateOf q exact plan c) (is_other : IsCertificateOf q exact other d) where
  same : certificate_of plan ≡ certificate_of other
  same = said-one q text plan other said said_other

  lists : HaveSameLists c d
  lists = record {
    question = is_other.question ∙ sym is.question;
    finite = is_other.finite ∙ sym (is.finite
        ∙ same_finite plan other (states q) said.lists said_other.lists same);
    bounded = is_other.bounded ∙ sym (is.bounded
        ∙ same_bounded plan other (states q) said.lists said_other.lists same);
    choices = is_other.choices ∙ sym (is.choices
        ∙ same_choices plan other (states q) said.lists said_other.lists same);
    replies = is_other.replies ∙ sym (is.replies
        ∙ same_replies plan other (states q) said.lists said_other.lists same);
    ranks = is_other.ranks ∙ sym (is.ranks
        ∙ same_ranks plan other (states q) said.lists said_other.lists same);
  }

  alike : AreAlike c d
  alike =
      let places : plan.places ≡ other.places = ap (λ (k : RewardCertificate). k.places) same in
      record {
        low = λ s k inside choice. is.rounded.low s k inside choice
            ∙ ap (λ p. paid_below exact p s k) places
            ∙ sym (is_other.rounded.low s k (rw lists.question inside) (rw lists.question choice));
        high = λ s k inside choice. is.rounded.high s k inside choice
            ∙ ap (λ p. paid_above exact p s k) places
            ∙ sym (is_other.rounded.high s k (rw lists.question inside) (rw lists.question choice));
        lower = λ s finite.
            let marked : is_finite plan.finite.items s ≡ true =
            subst (λ (m : List Bool). is_finite m s ≡ true) is.finite finite in
            ap (λ (f : ℕ → ℕ). f s) is.lower
            ∙ same_lower plan other (states q) said.lists said_other.lists same s
            (marked-inside plan.finite.items s (states q) said.lists.finite marked) marked
            ∙ sym (ap (λ (f : ℕ → ℕ). f s) is_other.lower);
        upper = λ s bounded.
            let marked : is_finite plan.bounded.items s ≡ true =
            subst (λ (m : List Bool). is_finite m s ≡ true) is.bounded bounded in
            ap (λ (f : ℕ → ℕ). f s) is.upper
            ∙ same_upper plan other (states q) said.lists said_other.lists same s
            (marked-inside plan.bounded.items s (states q) said.lists.bounded marked) marked
            ∙ sym (ap (λ (f : ℕ → ℕ). f s) is_other.upper);
      }

  fault-moved : (fault : RewardFault) → IsRewardFault d fault.state fault.cause
      → IsRewardFault c fault.state fault.cause
  fault-moved fault = moved_fault c d fault.state fault.cause lists alike

-- 4. One answer.

plan_fault : (fault other : RewardFault) → fault.state ≡ other.state → fault.cause ≡ other.cause
    → Plan fault ≡ Plan other
plan_fault fault other at why = ap (λ s. Plan (record { state = s; cause = fault.cause })) at
    ∙ ap (λ k. Plan (record { state = other.state; cause = k })) why

faulty-one : (q : Query) (exact : ExactRewards) (text : List ℕ) (fault other : RewardFault)
    → IsFaulty q exact text fault → IsFaulty q exact text other → Plan fault ≡ Plan other
faulty-one q exact text fault other is is_other =
    let moved = fault-moved q exact text is.plan is_other.plan is.certificate is_other.certificate is.read
    is_other.read is.of_plan is_other.of_plan other is_other.first in
    let one = reward_fault-one is.certificate fault.state other.state fault.cause other.cause is.first moved in
    plan_fault fault other one.0 one.1

text-one : (said : Result RewardCertificate PlanFault) (fault other : PlanFault) → said ≡ Err fault
    → said ≡ Err other → Text fault ≡ Text other
text-one said fault other is is_other =
    let both : ◌≡◌ {A = Result RewardCertificate PlanFault} (Err fault) (Err other) = sym is ∙ is_other in
    let same : fault ≡ other = cc in
    ap (λ f. Text f) same

pub refused-one : (q : Query) (exact : ExactRewards) (text : List ℕ) (fault other : RewardAuditFault)
    → IsRefused q exact text fault → IsRefused q exact text other → fault ≡ other
refused-one q exact text (Text fault) (Text other) is is_other =
    text-one (rewards_said text (states q)) fault other is is_other
refused-one q exact text (Text fault) (Plan other) is is_other =
    absurd (said-no_fault q text is_other.plan fault is_other.read is)
refused-one q exact text (Plan fault) (Text other) is is_other =
    absurd (said-no_fault q text is.plan other is.read is_other)
refused-one q exact text (Plan fault) (Plan other) is is_other = faulty-one q exact text fault other is is_other

pub accepted-not_refused : (q : Query) (exact : ExactRewards) (text : List ℕ) (plan : RewardPlan) (c : Certificate)
    (fault : RewardAuditFault) → IsAcceptedText q exact text plan c → ¬ IsRefused q exact text fault
accepted-not_refused q exact text plan c (Text fault) is refused = said-no_fault q text plan fault is.read refused
accepted-not_refused q exact text plan c (Plan fault) is refused =
    accepted-no_fault c fault.state fault.cause is.passes
    (fault-moved q exact text plan refused.plan c refused.certificate is.read refused.read is.of_plan refused.of_plan
    fault refused.first)
