-- What is read is what a certificate of rewards in the text says, and all that one says is read.
use Rattle.std.proofs.Common.{◌≡◌, ◌∙◌, ◌+◌, ℕ, List, [], ◌∷◌, ◌++◌, length, Result, Ok, Err, refl, ap, sym, subst}
use Rattle.std.proofs.Common.{arith}
use Rattle.std.specs.Prelude.{All, IfOk, codes}
use Rattle.std.proofs.lemmas.List.Elements.{All-nil, All-cons}
use Rattle.text_lines.specs.Text.{lines_of, fields_of, significant}
use Rattle.plan_text.specs.declared.fault.PlanFault.{PlanFault}
use Rattle.plan_text.specs.declared.fault.PlanCause.{PlanCause}
use Rattle.plan_text.specs.Said.{then_at, entries_from_by, certificate_from_by, IsOutOfMemory}
use Rattle.plan_text.specs.Certificate.{AreLinesBy}
use Rattle.plan_text.proofs.Beginnings.{Begins, certificate_from-one, certificate_from-told}
use Rattle.plan_text.proofs.StatesRead.{AreRead, entries_from-one, entries_from-told}
use Rattle.game_outside.specs.Answers.{AnswersOrWants}
use Rattle.reward_text.specs.declared.plan.RewardPlan.{RewardPlan}
use Rattle.reward_text.specs.Entries.{RewardEntry, RewardCertificate, IsRewardEntry, reward_entries_of, certificate_of}
use Rattle.reward_text.specs.Said.{reward_line_said, reward_header_said, with_places, rewards_behind, rewards_said}
use Rattle.reward_text.specs.Certificate.{IsRewardLine, IsRewardHeading, IsRewardCertificate}
use Rattle.reward_text.proofs.Bounds.{lines_said}
use Rattle.reward_text.proofs.Headings.{header-one, header-told}

-- the entries that were read, and their places
with_places-one : (places : ℕ) (read : Result (List RewardEntry) PlanFault) (certificate : RewardCertificate)
    → with_places places read ≡ Ok certificate
    → (read ≡ Ok certificate.entries) × (places ≡ certificate.places)
with_places-one places (Err fault) certificate said = cc
with_places-one places (Ok entries) certificate said =
    let made : RewardCertificate = record { places = places; entries = entries } in
    let is : made ≡ certificate = cc in (
      ap (λ (c : RewardCertificate). Ok c.entries) is,
      ap (λ (c : RewardCertificate). c.places) is,
    )

-- it has the lines of these places
told_of : (text : List ℕ) (states places : ℕ) (certificate : RewardCertificate)
    (has : Begins RewardCertificate (codes "rewards") (rewards_behind states) (lines_of text) certificate)
    → reward_header_said states (fields_of has.first) ≡ Ok certificate.places
    → AreRead RewardEntry (IsRewardLine certificate.places) states [] has.rest certificate.entries
    → (length certificate.entries ≡ states) × IsRewardCertificate text certificate
told_of text states places certificate has head read =
    let all : length certificate.entries ≡ states = ap (λ es. length es) read.all ∙ omega (arith, read.count) in (
      all,
      record {
        before = has.before;
        first = has.first;
        states = read.has.states;
        behind = read.has.behind;
        lines = has.whole ∙ ap (λ ls. has.before ++ has.first ∷ ls) read.has.whole;
        passed_over = has.passed_over;
        opens = subst (λ n. IsRewardHeading certificate.places n has.first) (sym all)
            (header-one states certificate.places has.first has.named head);
        tells = subst (λ es. AreLinesBy (IsRewardLine certificate.places) 0 read.has.states es) (sym read.all)
            read.has.tells;
        blank = read.has.blank;
      },
    )

begun-told : (text : List ℕ) (states : ℕ) (certificate : RewardCertificate)
    → Begins RewardCertificate (codes "rewards") (rewards_behind states) (lines_of text) certificate
    → (length certificate.entries ≡ states) × IsRewardCertificate text certificate
begun-told text states certificate has = by (reward_header_said states (fields_of has.first)) refl has.answers
  where
    by : (r : Result ℕ PlanCause) → reward_header_said states (fields_of has.first) ≡ r
        → then_at has.number r (λ places. with_places places
        (entries_from_by (reward_line_said places) states [] (has.number + 1) (significant has.rest))) ≡ Ok certificate
        → (length certificate.entries ≡ states) × IsRewardCertificate text certificate
    by (Err cause) head same = cc
    by (Ok places) head same =
        let parts = with_places-one places
        (entries_from_by (reward_line_said places) states [] (has.number + 1) (significant has.rest)) certificate
        same in
        let read = entries_from-one RewardEntry (reward_line_said places) (IsRewardLine places) (lines_said places)
        states [] (has.number + 1) has.rest certificate.entries parts.0 in
        told_of text states places certificate has (head ∙ ap (λ p. Ok p) parts.1)
        (subst (λ p. AreRead RewardEntry (IsRewardLine p) states [] has.rest certificate.entries) parts.1 read)

pub what_is_read : (text : List ℕ) (states : ℕ) (certificate : RewardCertificate)
    → rewards_said text states ≡ Ok certificate
    → (length certificate.entries ≡ states) × IsRewardCertificate text certificate
what_is_read text states certificate said = begun-told text states certificate
    (certificate_from-one RewardCertificate (codes "rewards") (rewards_behind states) 1 (lines_of text) certificate
    said)

pub what_is_told : (text : List ℕ) (states : ℕ) (certificate : RewardCertificate)
    → length certificate.entries ≡ states → IsRewardCertificate text certificate
    → rewards_said text states ≡ Ok certificate
what_is_told text states certificate all is =
    let places = certificate.places in
    let head = header-told states places is.first
    (subst (λ n. IsRewardHeading places n is.first) all is.opens) in
    ap (λ ls. certificate_from_by (codes "rewards") (rewards_behind states) 1 (significant ls)) is.lines
    ∙ certificate_from-told RewardCertificate (codes "rewards") (rewards_behind states) 1 is.before is.first
    (is.states ++ is.behind) certificate is.passed_over head.0
    (λ n. ap (λ r. then_at n r (λ p. with_places p (entries_from_by (reward_line_said p) states [] (n + 1)
    (significant (is.states ++ is.behind))))) head.1
    ∙ ap (λ r. with_places places r) (entries_from-told RewardEntry (reward_line_said places) (IsRewardLine places)
    (lines_said places) states [] (n + 1) is.states is.behind certificate.entries (omega (arith, all)) is.tells
    is.blank))

-- what is read has its limits
lines-in_range : (places s : ℕ) (lines : List (List ℕ)) (entries : List RewardEntry)
    → AreLinesBy (IsRewardLine places) s lines entries → All IsRewardEntry entries
lines-in_range places s [] [] are = All-nil IsRewardEntry
lines-in_range places s [] (entry ∷ entries) are = elim are [ ]
lines-in_range places s (line ∷ lines) [] are = elim are [ ]
lines-in_range places s (line ∷ lines) (entry ∷ entries) are =
    All-cons IsRewardEntry entry entries are.0.2 (lines-in_range places (s + 1) lines entries are.1)

pub answered_in_range : (result : Result RewardPlan PlanFault) (text : List ℕ) (states : ℕ)
    → AnswersOrWants IsOutOfMemory certificate_of result (rewards_said text states)
    → IfOk result (λ plan. All IsRewardEntry (reward_entries_of plan))
answered_in_range (Ok plan) text states said =
    let is = (what_is_read text states (certificate_of plan) said).1 in
    lines-in_range plan.places 0 is.states (reward_entries_of plan) is.tells
answered_in_range (Err fault) text states said = tt
