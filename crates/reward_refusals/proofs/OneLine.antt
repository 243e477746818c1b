-- A line of a refusal says which refusal it is.
use Rattle.std.proofs.Common.{◌≡◌, ◌∙◌, ℕ, List, ◌∷◌, ◌++◌, refl, sym, ap, arith}
use Rattle.std.specs.Prelude.{codes, decimal}
use Rattle.std.proofs.lemmas.List.{append_cancel_left, append_cancel_right}
use Rattle.fractions.specs.declared.number.NumberFault.{NumberFault}
use Rattle.fractions.specs.declared.number.NumberFault.TheVariants as number
use Rattle.plan_text.specs.declared.fault.PlanCause.{PlanCause}
use Rattle.plan_text.specs.declared.fault.PlanCause.TheVariants as plan
use Rattle.plan_text.specs.declared.fault.PlanFault.{PlanFault}
use Rattle.rewards_reader.specs.declared.fault.RewardsCause.{RewardsCause}
use Rattle.rewards_reader.specs.declared.fault.RewardsCause.TheVariants as rewards
use Rattle.rewards_reader.specs.declared.fault.RewardsFault.{RewardsFault}
use Rattle.reward_check.specs.declared.check.RewardCause.{RewardCause}
use Rattle.reward_check.specs.declared.check.RewardCause.TheVariants as check
use Rattle.reward_check.specs.declared.check.RewardFault.{RewardFault}
use Rattle.verdicts.proofs.Numbers.{number-one}
use Rattle.output.specs.declared.refusal.Text.TheVariants.{Tra, Cert}
use Rattle.output.specs.declared.refusal.Refusal.{Refusal}
use Rattle.output.specs.declared.refusal.Refusal.TheVariants as shared
use Rattle.output.specs.Printable.{IsPrintable}
use Rattle.output.specs.Refusals.{number_text, plan_cause_text, refused_line, refusal_text}
use Rattle.output.proofs.Labelled.{at, numbered-one, pair-one}
use Rattle.output.proofs.CauseTextInjective.{plan_cause-one, plan_cause-not_long}
use Rattle.output.proofs.RefusalTextInjective.{refusal-one}
use Rattle.reward_refusals.specs.declared.refusal.RewardRefusal.{RewardRefusal}
use Rattle.reward_refusals.specs.declared.refusal.RewardRefusal.TheVariants.{Shared, OfRewards, RewardsTooLong}
use Rattle.reward_refusals.specs.declared.refusal.RewardRefusal.TheVariants.{OfCertificateText, OfCertificate}
use Rattle.reward_refusals.specs.Caused.{IsShared, IsRewardCaused}
use Rattle.reward_refusals.specs.Printable.{RewardsPrintable, CausePrintable, RewardRefusalPrintable}
use Rattle.reward_refusals.specs.Refusals.{rewards_text, reward_text, rewards_refused, reward_refusal_text}

-- 1. Causes.

number_fault-one : (a b : NumberFault) → number_text a ≡ number_text b → a ≡ b
number_fault-one number.NotANumber number.NotANumber e = refl
number_fault-one number.TooManyDigits number.TooManyDigits e = refl
number_fault-one number.ZeroDenominator number.ZeroDenominator e = refl
number_fault-one number.TooFine number.TooFine e = refl
number_fault-one number.TooLarge number.TooLarge e = refl
number_fault-one a b e = absurd (omega (arith, at e 3))

rewards-one : (a b : RewardsCause) → RewardsPrintable a → RewardsPrintable b → rewards_text a ≡ rewards_text b → a ≡ b
rewards-one rewards.NoHeader rewards.NoHeader ha hb e = refl
rewards-one rewards.StateCount rewards.StateCount ha hb e = refl
rewards-one rewards.OverLimit rewards.OverLimit ha hb e = refl
rewards-one (rewards.LineCount read stated) (rewards.LineCount m n) ha hb e =
    let same =
    pair-one (codes " read ") (codes "stated ") read stated m n ha hb (append_cancel_left (codes "LineCount") _ _ e) in
    cc
rewards-one rewards.FieldCount rewards.FieldCount ha hb e = refl
rewards-one rewards.BadField rewards.BadField ha hb e = refl
rewards-one rewards.StateOutOfRange rewards.StateOutOfRange ha hb e = refl
rewards-one rewards.ChoiceOutOfRange rewards.ChoiceOutOfRange ha hb e = refl
rewards-one (rewards.Number fault) (rewards.Number other) ha hb e =
    let same = number_fault-one fault other (append_cancel_left (codes "Number ") _ _ e) in
    cc
rewards-one rewards.TooLarge rewards.TooLarge ha hb e = refl
rewards-one rewards.DoubleLine rewards.DoubleLine ha hb e = refl
rewards-one a b ha hb e = absurd (omega (arith, at e 0, at e 5))

-- no cause of a file of rewards reads as that it is too long
rewards-not_long : (cause : RewardsCause) → rewards_text cause ≡ codes "TooLong" → ⊥
rewards-not_long rewards.NoHeader e = omega (arith, at e 0)
rewards-not_long cause e = omega (arith, at e 0, at e 4)

reward-one : (m n : ℕ) (a b : RewardCause) → IsPrintable m → IsPrintable n → CausePrintable a → CausePrintable b
    → reward_text m a ≡ reward_text n b → (m ≡ n) × (a ≡ b)
reward-one m n check.Goal check.Goal hm hn ha hb e = (numbered-one (codes "Goal state ") m n hm hn e, refl)
reward-one m n check.Reply check.Reply hm hn ha hb e = (numbered-one (codes "Reply state ") m n hm hn e, refl)
reward-one m n check.Choice check.Choice hm hn ha hb e = (numbered-one (codes "Choice state ") m n hm hn e, refl)
reward-one m n (check.Leaves k) (check.Leaves j) hm hn ha hb e =
    let same = pair-one (codes " state ") (codes "choice ") m k n j (hm, ha) (hn, hb)
    (append_cancel_left (codes "Leaves") _ _ e) in
    (same.0, let alike : k ≡ j = same.1 in cc (alike))
reward-one m n (check.Above k) (check.Above j) hm hn ha hb e =
    let same =
    pair-one (codes " state ") (codes "choice ") m k n j (hm, ha) (hn, hb) (append_cancel_left (codes "Above") _ _ e) in
    (same.0, let alike : k ≡ j = same.1 in cc (alike))
reward-one m n (check.NoStep k) (check.NoStep j) hm hn ha hb e =
    let same = pair-one (codes " state ") (codes "choice ") m k n j (hm, ha) (hn, hb)
    (append_cancel_left (codes "NoStep") _ _ e) in
    (same.0, let alike : k ≡ j = same.1 in cc (alike))
reward-one m n (check.Short k) (check.Short j) hm hn ha hb e =
    let same =
    pair-one (codes " state ") (codes "choice ") m k n j (hm, ha) (hn, hb) (append_cancel_left (codes "Short") _ _ e) in
    (same.0, let alike : k ≡ j = same.1 in cc (alike))
reward-one m n (check.Away k) (check.Away j) hm hn ha hb e =
    let same =
    pair-one (codes " state ") (codes "choice ") m k n j (hm, ha) (hn, hb) (append_cancel_left (codes "Away") _ _ e) in
    (same.0, let alike : k ≡ j = same.1 in cc (alike))
reward-one m n a b hm hn ha hb e = absurd (omega (arith, at e 0, at e 1))

-- no cause of what a certificate says is one of its text
reward-not_plan : (m : ℕ) (cause : RewardCause) (other : PlanCause) → reward_text m cause ≡ plan_cause_text other → ⊥
reward-not_plan m check.Goal plan.OutOfMemory e = omega (arith, at e 0, at e 1, at e 2)
reward-not_plan m check.Reply plan.OutOfMemory e = omega (arith, at e 0, at e 1, at e 2)
reward-not_plan m (check.Leaves k) plan.OutOfMemory e = omega (arith, at e 0, at e 1, at e 2)
reward-not_plan m (check.Above k) plan.OutOfMemory e = omega (arith, at e 0, at e 1, at e 2)
reward-not_plan m (check.NoStep k) plan.OutOfMemory e = omega (arith, at e 0, at e 1, at e 2)
reward-not_plan m check.Choice plan.OutOfMemory e = omega (arith, at e 0, at e 1, at e 2)
reward-not_plan m (check.Short k) plan.OutOfMemory e = omega (arith, at e 0, at e 1, at e 2)
reward-not_plan m (check.Away k) plan.OutOfMemory e = omega (arith, at e 0, at e 1, at e 2)
reward-not_plan m cause other e = omega (arith, at e 0, at e 1, at e 2)

reward-not_long : (m : ℕ) (cause : RewardCause) → reward_text m cause ≡ codes "TooLong" → ⊥
reward-not_long m check.Goal e = omega (arith, at e 0)
reward-not_long m cause e = omega (arith, at e 0)

-- 2. Lines of a kind.

-- a number, and a cause to the end of the line
numbered_cause-one : (m n : ℕ) (cause other : List ℕ) → IsPrintable m → IsPrintable n
    → decimal m ++ 32 ∷ (cause ++ codes "\n") ≡ decimal n ++ 32 ∷ (other ++ codes "\n") → (m ≡ n) × (cause ≡ other)
numbered_cause-one m n cause other hm hn e =
    let parts = number-one m n (cause ++ codes "\n") (other ++ codes "\n") hm hn e in
    (parts.0, append_cancel_right cause other (codes "\n") parts.1)

rewards_refused-one : (m n : ℕ) (cause other : List ℕ) → IsPrintable m → IsPrintable n
    → rewards_refused m cause ≡ rewards_refused n other → (m ≡ n) × (cause ≡ other)
rewards_refused-one m n cause other hm hn e =
    numbered_cause-one m n cause other hm hn (append_cancel_left (codes "refused rewards line ") _ _ e)

cert_refused-one : (m n : ℕ) (cause other : List ℕ) → IsPrintable m → IsPrintable n
    → refused_line Cert m cause ≡ refused_line Cert n other → (m ≡ n) × (cause ≡ other)
cert_refused-one m n cause other hm hn e =
    numbered_cause-one m n cause other hm hn (append_cancel_left (codes "refused cert line ") _ _ e)

-- a line of the file of rewards is none of a certificate
rewards-not_cert : (m n : ℕ) (cause other : List ℕ) → rewards_refused m cause ≡ refused_line Cert n other → ⊥
rewards-not_cert m n cause other e = omega (arith, at e 8)

-- 3. Refusals that questions of probabilities have too.

shared-not_rewards : (refusal : Refusal) (line : ℕ) (cause : List ℕ)
    → refusal_text refusal ≡ rewards_refused line cause → IsShared refusal → ⊥
shared-not_rewards (shared.OfCertificate fault) line cause e of = of
shared-not_rewards (shared.TooLong Tra) line cause e of = omega (arith, at e 8)
shared-not_rewards refusal line cause e of = omega (arith, at e 8)

-- of the certificate they say only that it is too long
shared-cert : (refusal : Refusal) (line : ℕ) (cause : List ℕ) → IsPrintable line
    → refusal_text refusal ≡ refused_line Cert line cause → IsShared refusal → codes "TooLong" ≡ cause
shared-cert (shared.OfCertificate fault) line cause h e of = absurd of
shared-cert (shared.TooLong Cert) line cause h e of =
    (cert_refused-one 0 line (codes "TooLong") cause (omega arith) h e).1
shared-cert refusal line cause h e of = absurd (omega (arith, at e 8))

-- 4. Every line.

rewards_fault : (fault other : RewardsFault) → fault.line ≡ other.line → fault.cause ≡ other.cause → fault ≡ other
rewards_fault fault other line cause =
    let made : ℕ → RewardsCause → RewardsFault = λ l c. record { line = l; cause = c } in
    ap (λ l. made l fault.cause) line ∙ ap (λ c. made other.line c) cause

reward_fault : (fault other : RewardFault) → fault.state ≡ other.state → fault.cause ≡ other.cause → fault ≡ other
reward_fault fault other state cause =
    let made : ℕ → RewardCause → RewardFault = λ s c. record { state = s; cause = c } in
    ap (λ s. made s fault.cause) state ∙ ap (λ c. made other.state c) cause

plan_fault : (fault other : PlanFault) → fault.line ≡ other.line → fault.cause ≡ other.cause → fault ≡ other
plan_fault fault other line cause =
    let made : ℕ → PlanCause → PlanFault = λ l c. record { line = l; cause = c } in
    ap (λ l. made l fault.cause) line ∙ ap (λ c. made other.line c) cause

-- two of a kind
rewards_faults-one : (a b : RewardsFault) → IsPrintable a.line × RewardsPrintable a.cause
    → IsPrintable b.line × RewardsPrintable b.cause
    → rewards_refused a.line (rewards_text a.cause) ≡ rewards_refused b.line (rewards_text b.cause) → a ≡ b
rewards_faults-one a b ha hb e =
    let parts = rewards_refused-one a.line b.line _ _ ha.0 hb.0 e in
    rewards_fault a b parts.0 (rewards-one a.cause b.cause ha.1 hb.1 parts.1)

plan_faults-one : (a b : PlanFault) → IsPrintable a.line → IsPrintable b.line
    → refused_line Cert a.line (plan_cause_text a.cause) ≡ refused_line Cert b.line (plan_cause_text b.cause) → a ≡ b
plan_faults-one a b ha hb e =
    let parts = cert_refused-one a.line b.line _ _ ha hb e in
    plan_fault a b parts.0 (plan_cause-one a.cause b.cause parts.1)

reward_faults-one : (a b : RewardFault) → IsPrintable a.state × CausePrintable a.cause
    → IsPrintable b.state × CausePrintable b.cause
    → refused_line Cert 0 (reward_text a.state a.cause) ≡ refused_line Cert 0 (reward_text b.state b.cause) → a ≡ b
reward_faults-one a b ha hb e =
    let parts = cert_refused-one 0 0 _ _ (omega arith) (omega arith) e in
    let same = reward-one a.state b.state a.cause b.cause ha.0 hb.0 ha.1 hb.1 parts.1 in
    reward_fault a b same.0 same.1

-- a refusal that questions of probabilities have too has the line of no other
shared-other : (refusal : Refusal) (other : RewardRefusal) → IsShared refusal → RewardRefusalPrintable other
    → refusal_text refusal ≡ reward_refusal_text other → (shared : Refusal) × (other ≡ Shared shared)
shared-other refusal (Shared another) of h e = (another, refl)
shared-other refusal (OfRewards fault) of h e =
    absurd (shared-not_rewards refusal fault.line (rewards_text fault.cause) e of)
shared-other refusal RewardsTooLong of h e = absurd (shared-not_rewards refusal 0 (codes "TooLong") e of)
shared-other refusal (OfCertificateText fault) of h e =
    absurd (plan_cause-not_long fault.cause
    (sym (shared-cert refusal fault.line (plan_cause_text fault.cause) h e of)))
shared-other refusal (OfCertificate fault) of h e = absurd (reward-not_long fault.state fault.cause
    (sym (shared-cert refusal 0 (reward_text fault.state fault.cause) (omega arith) e of)))

pub reward_refusal-one : (a b : RewardRefusal) → IsRewardCaused a → IsRewardCaused b → RewardRefusalPrintable a
    → RewardRefusalPrintable b → reward_refusal_text a ≡ reward_refusal_text b → a ≡ b
reward_refusal-one (Shared a) (Shared b) ca cb ha hb e = ap Shared (refusal-one a b ha hb e)
reward_refusal-one (Shared a) b ca cb ha hb e =
    let other = shared-other a b ca.0 hb e in
    absurd (cc (other.1))
reward_refusal-one a (Shared b) ca cb ha hb e =
    let other = shared-other b a cb.0 ha (sym e) in
    absurd (cc (other.1))
reward_refusal-one (OfRewards a) (OfRewards b) ca cb ha hb e = ap OfRewards (rewards_faults-one a b ha hb e)
reward_refusal-one (OfRewards a) RewardsTooLong ca cb ha hb e =
    absurd (rewards-not_long a.cause (rewards_refused-one a.line 0 (rewards_text a.cause) (codes "TooLong") ha.0
    (omega arith) e).1)
reward_refusal-one RewardsTooLong (OfRewards b) ca cb ha hb e =
    absurd (rewards-not_long b.cause (rewards_refused-one b.line 0 (rewards_text b.cause) (codes "TooLong") hb.0
    (omega arith) (sym e)).1)
reward_refusal-one RewardsTooLong RewardsTooLong ca cb ha hb e = refl
reward_refusal-one (OfRewards a) (OfCertificateText b) ca cb ha hb e =
    absurd (rewards-not_cert a.line b.line (rewards_text a.cause) (plan_cause_text b.cause) e)
reward_refusal-one (OfRewards a) (OfCertificate b) ca cb ha hb e =
    absurd (rewards-not_cert a.line 0 (rewards_text a.cause) (reward_text b.state b.cause) e)
reward_refusal-one RewardsTooLong (OfCertificateText b) ca cb ha hb e =
    absurd (rewards-not_cert 0 b.line (codes "TooLong") (plan_cause_text b.cause) e)
reward_refusal-one RewardsTooLong (OfCertificate b) ca cb ha hb e =
    absurd (rewards-not_cert 0 0 (codes "TooLong") (reward_text b.state b.cause) e)
reward_refusal-one (OfCertificateText a) (OfRewards b) ca cb ha hb e =
    absurd (rewards-not_cert b.line a.line (rewards_text b.cause) (plan_cause_text a.cause) (sym e))
reward_refusal-one (OfCertificate a) (OfRewards b) ca cb ha hb e =
    absurd (rewards-not_cert b.line 0 (rewards_text b.cause) (reward_text a.state a.cause) (sym e))
reward_refusal-one (OfCertificateText a) RewardsTooLong ca cb ha hb e =
    absurd (rewards-not_cert 0 a.line (codes "TooLong") (plan_cause_text a.cause) (sym e))
reward_refusal-one (OfCertificate a) RewardsTooLong ca cb ha hb e =
    absurd (rewards-not_cert 0 0 (codes "TooLong") (reward_text a.state a.cause) (sym e))
reward_refusal-one (OfCertificateText a) (OfCertificateText b) ca cb ha hb e =
    ap OfCertificateText (plan_faults-one a b ha hb e)
reward_refusal-one (OfCertificateText a) (OfCertificate b) ca cb ha hb e =
    absurd (reward-not_plan b.state b.cause a.cause (sym (cert_refused-one a.line 0 (plan_cause_text a.cause)
    (reward_text b.state b.cause) ha (omega arith) e).1))
reward_refusal-one (OfCertificate a) (OfCertificateText b) ca cb ha hb e =
    absurd (reward-not_plan a.state a.cause b.cause (cert_refused-one 0 b.line (reward_text a.state a.cause)
    (plan_cause_text b.cause) (omega arith) hb e).1)
reward_refusal-one (OfCertificate a) (OfCertificate b) ca cb ha hb e = ap OfCertificate (reward_faults-one a b ha hb e)
