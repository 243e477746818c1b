-- The name of a command on rewards, and the words behind it.
use Rattle.std.proofs.Common.{◌≡◌, ◌∙◌, List, ◌∷◌, codes, Option, Some, None, MatchOption, refl, arith, subst, sym}
use Rattle.clap.specs.Words.{Text}
use Rattle.command_words.proofs.Naming.{first_byte}
use Rattle.reward_words.specs.declared.words.RewardWords.{RewardWords}
use Rattle.reward_words.specs.declared.words.RewardWords.TheVariants as variant
use Rattle.reward_words.specs.Words.{AuditReward, SolveReward, RewardCommand, OfAuditReward, OfSolveReward}
use Rattle.reward_words.specs.Words.{AreAuditRewardWords, AreSolveRewardWords, AreRewardCommand, AreNoRewardCommand}
use Rattle.reward_words.specs.Words.{AreRewardWordsOf, audit_reward_of, solve_reward_of, reward_command_of}
use Rattle.reward_words.specs.Words.{reward_name_of}

-- words that denote a command begin with its name, and the others are its words
pub begun : (name : Text) (words : List Text) (command : RewardCommand) → AreRewardCommand (name ∷ words) command
    → (reward_name_of command ≡ name) × AreRewardWordsOf command words
begun name words command are =
    let same : reward_name_of command ≡ name = cc (are.words_are) in
    let rest : are.rest ≡ words = cc (are.words_are) in
    (same, subst (λ (ws : List Text). AreRewardWordsOf command ws) rest are.behind)

-- what is answered of words
abbrev IsAnswer : List Text → Option RewardWords → Type 0
IsAnswer words read =
    MatchOption read (AreNoRewardCommand words) (λ command. AreRewardCommand words (reward_command_of command))

-- These are the words of the commands of one name, and what is read of them denotes such a command.
pub record IsKind {Seen Told : Type 0} (told : Seen → Told) (Are : List Text → Told → Type 0)
    (made : Seen → RewardWords) (name : Text) : Type 0 where
  pub begins : (words : List Text) (seen : Seen) → Are words (told seen)
      → AreRewardCommand (name ∷ words) (reward_command_of (made seen))
  pub alone : (words : List Text) (command : RewardCommand) → ((t : Told) → Are words t → ⊥)
      → reward_name_of command ≡ name → AreRewardWordsOf command words → ⊥

-- what is read of the words behind the name is the answer to all the words
pub named : {Seen Told : Type 0} {told : Seen → Told} {Are : List Text → Told → Type 0} {made : Seen → RewardWords}
    {kind : Text} (is_kind : IsKind told Are made kind) (name : Text) (words : List Text) (found : Option Seen)
    (read : Option RewardWords) → name ≡ kind → MatchOption found (read ≡ None) (λ seen. read ≡ Some (made seen))
    → MatchOption found ((t : Told) → Are words t → ⊥) (λ seen. Are words (told seen)) → IsAnswer (name ∷ words) read
named is_kind name words None read same is none =
    subst (λ (r : Option RewardWords). IsAnswer (name ∷ words) r) (sym is) (λ command are.
    let parts = begun name words command are in
    is_kind.alone words command none (parts.0 ∙ same) parts.1)
named {Seen} {Told} {told} {Are} {made} is_kind name words (Some seen) read same is are =
    subst (λ (r : Option RewardWords). IsAnswer (name ∷ words) r) (sym is)
    (subst (λ (n : Text). AreRewardCommand (n ∷ words) (reward_command_of (made seen))) (sym same)
    (is_kind.begins words seen are))

not_audit : (words : List Text) (command : RewardCommand)
    → ((audit : AuditReward) → AreAuditRewardWords words audit → ⊥) → reward_name_of command ≡ codes "audit"
    → AreRewardWordsOf command words → ⊥
not_audit words (OfAuditReward audit) none named are = none audit are
not_audit words (OfSolveReward solve) none named are = absurd (omega (arith, first_byte named))

pub audit_kind : IsKind audit_reward_of AreAuditRewardWords variant.Audit (codes "audit")
audit_kind =
    record { begins = λ words audit are. record { rest = words; words_are = refl; behind = are }; alone = not_audit }

not_solve : (words : List Text) (command : RewardCommand)
    → ((solve : SolveReward) → AreSolveRewardWords words solve → ⊥) → reward_name_of command ≡ codes "solve"
    → AreRewardWordsOf command words → ⊥
not_solve words (OfSolveReward solve) none named are = none solve are
not_solve words (OfAuditReward audit) none named are = absurd (omega (arith, first_byte named))

pub solve_kind : IsKind solve_reward_of AreSolveRewardWords variant.Solve (codes "solve")
solve_kind =
    record { begins = λ words solve are. record { rest = words; words_are = refl; behind = are }; alone = not_solve }
