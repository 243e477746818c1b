-- What is read is what a certificate in the text says, and all that one says is read.
use Rattle.std.proofs.Common.{◌≡◌, ◌∙◌, ◌+◌, ℕ, List, [], ◌∷◌, ◌++◌, length, Result, Ok, Err, refl, ap, sym, subst}
use Rattle.std.proofs.Common.{arith}
use Rattle.std.specs.Prelude.{All, IfOk, codes}
use Rattle.std.proofs.lemmas.List.Elements.{All-nil, All-cons}
use Rattle.text_lines.specs.Text.{lines_of, fields_of, significant}
use Rattle.plan_text.specs.declared.plan.Plan.{Plan}
use Rattle.plan_text.specs.declared.fault.PlanFault.{PlanFault}
use Rattle.plan_text.specs.declared.fault.PlanCause.{PlanCause}
use Rattle.plan_text.specs.declared.version.Version.{Version}
use Rattle.plan_text.specs.Entries.{Entry, IsInRange, entries_of}
use Rattle.plan_text.specs.Said.{then_at, line_said, header_said, said_behind, entries_from, entries_said}
use Rattle.plan_text.specs.Said.{certificate_from, IsOutOfMemory}
use Rattle.game_outside.specs.Answers.{AnswersOrWants}
use Rattle.plan_text.specs.Certificate.{AreEntryLines, IsEntryLine, IsFirstLine, IsCertificate}
use Rattle.plan_text.proofs.Beginnings.{Begins, certificate_from-one, certificate_from-told}
use Rattle.plan_text.proofs.StatesRead.{entries_from-one, entries_from-told}
use Rattle.plan_text.proofs.LinesSaid.{said_of_version}
use Rattle.plan_text.proofs.Headings.{header_said-one, header_said-told}

begun-told : (text : List ℕ) (states : ℕ) (entries : List Entry)
    → Begins (List Entry) (codes "certificate") (said_behind states) (lines_of text) entries
    → (length entries ≡ states) × IsCertificate text entries
begun-told text states entries has = by (header_said states (fields_of has.first)) refl has.answers
  where
    by : (r : Result Version PlanCause) → header_said states (fields_of has.first) ≡ r
        → then_at has.number r (λ version. entries_from version states [] (has.number + 1) (significant has.rest))
        ≡ Ok entries → (length entries ≡ states) × IsCertificate text entries
    by (Err cause) head same = cc
    by (Ok version) head same =
        let read = entries_from-one Entry (line_said version) (IsEntryLine version) (said_of_version version) states []
        (has.number + 1) has.rest entries same in
        let all : length entries ≡ states = ap (λ es. length es) read.all ∙ omega (arith, read.count) in (
          all,
          record {
            version = version;
            told = record {
              before = has.before;
              first = has.first;
              states = read.has.states;
              behind = read.has.behind;
              lines = has.whole ∙ ap (λ ls. has.before ++ has.first ∷ ls) read.has.whole;
              passed_over = has.passed_over;
              opens = subst (λ n. IsFirstLine version n has.first) (sym all)
                  (header_said-one states has.first version has.named head);
              tells = subst (λ es. AreEntryLines version 0 read.has.states es) (sym read.all) read.has.tells;
              blank = read.has.blank;
            };
          },
        )

pub what_is_read : (text : List ℕ) (states : ℕ) (entries : List Entry) → entries_said text states ≡ Ok entries
    → (length entries ≡ states) × IsCertificate text entries
what_is_read text states entries said = begun-told text states entries
    (certificate_from-one (List Entry) (codes "certificate") (said_behind states) 1 (lines_of text) entries said)

pub what_is_told : (text : List ℕ) (states : ℕ) (entries : List Entry) → length entries ≡ states
    → IsCertificate text entries → entries_said text states ≡ Ok entries
what_is_told text states entries all is =
    let own = is.told in
    let head = header_said-told is.version states own.first
    (subst (λ n. IsFirstLine is.version n own.first) all own.opens) in
    ap (λ ls. certificate_from states 1 (significant ls)) own.lines
    ∙ certificate_from-told (List Entry) (codes "certificate") (said_behind states) 1 own.before own.first
    (own.states ++ own.behind) entries own.passed_over head.0
    (λ n. ap (λ r. then_at n r (λ version. entries_from version states [] (n + 1)
    (significant (own.states ++ own.behind)))) head.1
    ∙ entries_from-told Entry (line_said is.version) (IsEntryLine is.version) (said_of_version is.version) states []
    (n + 1) own.states own.behind entries (omega (arith, all)) own.tells own.blank)

-- what is read has its limits
AreEntryLines-in_range : (version : Version) (s : ℕ) (lines : List (List ℕ)) (entries : List Entry)
    → AreEntryLines version s lines entries → All IsInRange entries
AreEntryLines-in_range version s [] [] are = All-nil IsInRange
AreEntryLines-in_range version s [] (entry ∷ entries) are = elim are [ ]
AreEntryLines-in_range version s (line ∷ lines) [] are = elim are [ ]
AreEntryLines-in_range version s (line ∷ lines) (entry ∷ entries) are =
    All-cons IsInRange entry entries are.0.1 (AreEntryLines-in_range version (s + 1) lines entries are.1)

pub read_in_range : (text : List ℕ) (states : ℕ) (entries : List Entry) → entries_said text states ≡ Ok entries
    → All IsInRange entries
read_in_range text states entries said =
    let is = (what_is_read text states entries said).1 in
    AreEntryLines-in_range is.version 0 is.told.states entries is.told.tells

pub answered_in_range : (result : Result Plan PlanFault) (text : List ℕ) (states : ℕ)
    → AnswersOrWants IsOutOfMemory entries_of result (entries_said text states)
    → IfOk result (λ plan. All IsInRange (entries_of plan))
answered_in_range (Ok plan) text states said = read_in_range text states (entries_of plan) said
answered_in_range (Err fault) text states said = tt
