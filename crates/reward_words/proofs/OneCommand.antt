-- Words denote one command on rewards at most.
use Rattle.std.proofs.Common.{◌≡◌, ◌∙◌, ℕ, Bool, List, codes, Option, Some, ap, sym, subst, arith}
use Rattle.clap.specs.Words.{Text}
use Rattle.command_words.specs.Words.{Asked}
use Rattle.command_words.proofs.Naming.{first_byte}
use Rattle.command_words.proofs.OneCommand.{one_asked, one_flag}
use Rattle.reward_words.proofs.Naming.{begun}
use Rattle.reward_words.specs.Words.{AuditReward, SolveReward, RewardCommand, OfAuditReward, OfSolveReward}
use Rattle.reward_words.specs.Words.{AreRewardCommand, AreRewardWordsOf, SayAuditReward, SaySolveReward, reward_name_of}

same_audit : (q q' : Asked) (r r' c c' : List ℕ) → q ≡ q' → Some r ≡ Some r' → Some c ≡ Some c'
    → ◌≡◌ {A = AuditReward} (record { asked = q; rewards = r; certificate = c })
    (record { asked = q'; rewards = r'; certificate = c' })
same_audit q q' r r' c c' a b d = cc (a, b, d)

-- values say one thing of `audit`
one_audit : (value : Text → Option Text) (a b : AuditReward) → SayAuditReward value a → SayAuditReward value b → a ≡ b
one_audit value a b x y = same_audit a.asked b.asked a.rewards b.rewards a.certificate b.certificate
    (one_asked value a.asked b.asked x.asked y.asked) (sym x.rewards.given ∙ y.rewards.given)
    (sym x.certificate.given ∙ y.certificate.given)

same_solve : (q q' : Asked) (r r' : List ℕ) (p p' : Bool) → q ≡ q' → Some r ≡ Some r' → p ≡ p'
    → ◌≡◌ {A = SolveReward} (record { asked = q; rewards = r; plan = p })
    (record { asked = q'; rewards = r'; plan = p' })
same_solve q q' r r' p p' a b c = cc (a, b, c)

-- values say one thing of `solve`
one_solve : (value : Text → Option Text) (a b : SolveReward) → SaySolveReward value a → SaySolveReward value b → a ≡ b
one_solve value a b x y = same_solve a.asked b.asked a.rewards b.rewards a.plan b.plan
    (one_asked value a.asked b.asked x.asked y.asked) (sym x.rewards.given ∙ y.rewards.given)
    (one_flag (value (codes "plan") ≡ Some (codes "true")) a.plan b.plan x.plan y.plan)

-- words behind the name of a command denote one command of that name
one_of_words : (words : List Text) (a b : RewardCommand) → reward_name_of b ≡ reward_name_of a
    → AreRewardWordsOf a words → AreRewardWordsOf b words → a ≡ b
one_of_words words (OfAuditReward a) (OfAuditReward b) same x y = ap OfAuditReward (one_audit _ a b x.said y.said)
one_of_words words (OfSolveReward a) (OfSolveReward b) same x y = ap OfSolveReward (one_solve _ a b x.said y.said)
one_of_words words (OfAuditReward a) (OfSolveReward b) same x y = absurd (omega (arith, first_byte same))
one_of_words words (OfSolveReward a) (OfAuditReward b) same x y = absurd (omega (arith, first_byte same))

pub one_reward_command : (words : List Text) (a b : RewardCommand) → AreRewardCommand words a
    → AreRewardCommand words b → a ≡ b
one_reward_command words a b of_a of_b =
    let parts =
    begun (reward_name_of a) of_a.rest b (subst (λ (ws : List Text). AreRewardCommand ws b) of_a.words_are of_b) in
    one_of_words of_a.rest a b parts.0 of_a.behind parts.1
