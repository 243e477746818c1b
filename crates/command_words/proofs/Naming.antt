-- The name of a command, and the words behind it.
use Rattle.std.proofs.Common.{◌≡◌, ◌∙◌, List, ◌∷◌, codes, get_or, Option, Some, None, MatchOption, ap, refl}
use Rattle.std.proofs.Common.{arith, subst, sym}
use Rattle.clap.specs.Words.{Text}
use Rattle.command_words.specs.declared.words.CommandWords.{CommandWords}
use Rattle.command_words.specs.declared.words.CommandWords.TheVariants as variant
use Rattle.command_words.specs.Words.{Asked, Audit, Check, Command, Solve, OfAudit, OfCheck, OfSolve, OfSure}
use Rattle.command_words.specs.Words.{AreAuditWords, AreCheckWords, AreSolveWords, AreSureWords, AreCommand}
use Rattle.command_words.specs.Words.{AreNoCommand, AreWordsOf, asked_of_words, audit_of, check_of, command_of, name_of}
use Rattle.command_words.specs.Words.{solve_of}

-- the first byte of equal texts
pub first_byte : {s t : Text} → s ≡ t → get_or s 0 0 ≡ get_or t 0 0
first_byte e = ap (λ (t : Text). get_or t 0 0) e

-- and the second
pub second_byte : {s t : Text} → s ≡ t → get_or s 1 0 ≡ get_or t 1 0
second_byte e = ap (λ (t : Text). get_or t 1 0) e

-- words that denote a command begin with its name, and the others are its words
pub begun : (name : Text) (words : List Text) (command : Command) → AreCommand (name ∷ words) command
    → (name_of command ≡ name) × AreWordsOf command words
begun name words command are =
    let same : name_of command ≡ name = cc (are.words_are) in
    let rest : are.rest ≡ words = cc (are.words_are) in
    (same, subst (λ (ws : List Text). AreWordsOf command ws) rest are.behind)

-- what is answered of words
abbrev IsAnswer : List Text → Option CommandWords → Type 0
IsAnswer words read = MatchOption read (AreNoCommand words) (λ command. AreCommand words (command_of command))

-- These are the words of the commands of one name, and what is read of them denotes such a command.
pub record IsKind {Seen Told : Type 0} (told : Seen → Told) (Are : List Text → Told → Type 0)
    (made : Seen → CommandWords) (name : Text) : Type 0 where
  pub begins : (words : List Text) (seen : Seen) → Are words (told seen)
      → AreCommand (name ∷ words) (command_of (made seen))
  pub alone : (words : List Text) (command : Command) → ((t : Told) → Are words t → ⊥) → name_of command ≡ name
      → AreWordsOf command words → ⊥

-- what is read of the words behind the name is the answer to all the words
pub named : {Seen Told : Type 0} {told : Seen → Told} {Are : List Text → Told → Type 0} {made : Seen → CommandWords}
    {kind : Text} (is_kind : IsKind told Are made kind) (name : Text) (words : List Text) (found : Option Seen)
    (read : Option CommandWords) → name ≡ kind → MatchOption found (read ≡ None) (λ seen. read ≡ Some (made seen))
    → MatchOption found ((t : Told) → Are words t → ⊥) (λ seen. Are words (told seen)) → IsAnswer (name ∷ words) read
named is_kind name words None read same is none =
    subst (λ (r : Option CommandWords). IsAnswer (name ∷ words) r) (sym is) (λ command are.
    let parts = begun name words command are in
    is_kind.alone words command none (parts.0 ∙ same) parts.1)
named {Seen} {Told} {told} {Are} {made} is_kind name words (Some seen) read same is are =
    subst (λ (r : Option CommandWords). IsAnswer (name ∷ words) r) (sym is)
    (subst (λ (n : Text). AreCommand (n ∷ words) (command_of (made seen))) (sym same) (is_kind.begins words seen are))

not_check : (words : List Text) (command : Command) → ((check : Check) → AreCheckWords words check → ⊥)
    → name_of command ≡ codes "check" → AreWordsOf command words → ⊥
not_check words (OfCheck check) none named are = none check are
not_check words command none named are = absurd (omega (arith, first_byte named, second_byte named))

pub check_kind : IsKind check_of AreCheckWords variant.Check (codes "check")
check_kind =
    record { begins = λ words check are. record { rest = words; words_are = refl; behind = are }; alone = not_check }

not_audit : (words : List Text) (command : Command) → ((audit : Audit) → AreAuditWords words audit → ⊥)
    → name_of command ≡ codes "audit" → AreWordsOf command words → ⊥
not_audit words (OfAudit audit) none named are = none audit are
not_audit words command none named are = absurd (omega (arith, first_byte named, second_byte named))

pub audit_kind : IsKind audit_of AreAuditWords variant.Audit (codes "audit")
audit_kind =
    record { begins = λ words audit are. record { rest = words; words_are = refl; behind = are }; alone = not_audit }

not_solve : (words : List Text) (command : Command) → ((solve : Solve) → AreSolveWords words solve → ⊥)
    → name_of command ≡ codes "solve" → AreWordsOf command words → ⊥
not_solve words (OfSolve solve) none named are = none solve are
not_solve words command none named are = absurd (omega (arith, first_byte named, second_byte named))

pub solve_kind : IsKind solve_of AreSolveWords variant.Solve (codes "solve")
solve_kind =
    record { begins = λ words solve are. record { rest = words; words_are = refl; behind = are }; alone = not_solve }

not_sure : (words : List Text) (command : Command) → ((asked : Asked) → AreSureWords words asked → ⊥)
    → name_of command ≡ codes "sure" → AreWordsOf command words → ⊥
not_sure words (OfSure asked) none named are = none asked are
not_sure words command none named are = absurd (omega (arith, first_byte named, second_byte named))

pub sure_kind : IsKind asked_of_words AreSureWords variant.Sure (codes "sure")
sure_kind =
    record { begins = λ words asked are. record { rest = words; words_are = refl; behind = are }; alone = not_sure }
