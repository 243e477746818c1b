-- The certificate that was read.
use Rattle.std.proofs.Common.{◌≡◌, ◌∙◌, ℕ, List, Result, Ok, Err, sym, ap}
use Rattle.plan_text.specs.declared.fault.PlanFault.{PlanFault}
use Rattle.reward_text.specs.declared.plan.RewardPlan.{RewardPlan}
use Rattle.reward_text.specs.Entries.{RewardEntry, RewardCertificate, reward_entries_of, certificate_of}
use Rattle.reward_text.specs.Said.{with_places}

-- a certificate of these places
abbrev made : List RewardEntry → ℕ → RewardCertificate
made entries places = record { places = places; entries = entries }

pub answered : (places : ℕ) (plan : RewardPlan) (read : Result (List RewardEntry) PlanFault) → plan.places ≡ places
    → read ≡ Ok (reward_entries_of plan) → with_places places read ≡ Ok (certificate_of plan)
answered places plan read same said =
    ap (with_places places) said ∙ ap (λ k. Ok (made (reward_entries_of plan) k)) (sym same)

pub refused : (places : ℕ) (read : Result (List RewardEntry) PlanFault) (fault : PlanFault) → read ≡ Err fault
    → with_places places read ≡ Err fault
refused places read fault said = ap (with_places places) said
