-- The lines of a certificate of any kind are read back, also behind other lines.
use Rattle.std.proofs.Common.{◌≡◌, ◌∙◌, ◌≤◌, ◌<◌, ◌+◌, ◌^◌, ℕ, List, [], ◌∷◌, ◌++◌, length, Result, Ok, true, false}
use Rattle.std.proofs.Common.{refl, ap, arith, append_assoc}
use Rattle.std.specs.Prelude.{◌==◌, All}
use Rattle.std.proofs.lemmas.Bool.Decides.{nat_tests}
use Rattle.std.proofs.lemmas.List.{append-nil, length_push}
use Rattle.std.proofs.lemmas.List.Elements.{All-tail, All-cons, All-nil}
use Rattle.game_model.specs.Limits.{most_states}
use Rattle.text_lines.specs.Text.{lines_of, fields_of, significant, keep_line, is_nil}
use Rattle.text_lines.proofs.LineLaws.{lines_of-lf}
use Rattle.plan_text.specs.declared.fault.PlanFault.{PlanFault}
use Rattle.plan_text.specs.declared.fault.PlanCause.{PlanCause}
use Rattle.plan_text.specs.Written.{entry_lines_by}
use Rattle.plan_text.specs.Said.{begins_with, entries_from_by, certificate_from_by}
use Rattle.plan_text.specs.Laws.{IsPassedOverBy, as_lines}
use Rattle.plan_text.proofs.BlankEnds.{keep_line-some}
use Rattle.plan_text.proofs.Beginnings.{IsOther, certificate_from-told}

-- 1. The lines of the states.

-- the line of an entry in range is one line, is not blank, and says the entry
pub record SayEntries (Entry : Type 0) (line line_text : ℕ → Entry → List ℕ)
    (line_said : ℕ → List ℕ → Result Entry PlanCause) (InRange : Entry → Type 0) : Type 0 where
  pub alone : (s : ℕ) (entry : Entry) (rest : List ℕ) → s < 2 ^ 64 → InRange entry
      → lines_of (line_text s entry ++ rest) ≡ line s entry ∷ lines_of rest
  pub some : (s : ℕ) (entry : Entry) → s < 2 ^ 64 → InRange entry → is_nil (fields_of (line s entry)) ≡ false
  pub says : (s : ℕ) (entry : Entry) → s < 2 ^ 64 → InRange entry → line_said s (line s entry) ≡ Ok entry

-- the first of them is that of state s
abbrev pub written_lines : {Entry : Type 0} → (ℕ → Entry → List ℕ) → ℕ → List Entry → List (List ℕ)
written_lines line s [] = []
written_lines line s (entry ∷ entries) = line s entry ∷ written_lines line (s + 1) entries

module _ (Entry : Type 0) (line line_text : ℕ → Entry → List ℕ) (line_said : ℕ → List ℕ → Result Entry PlanCause)
    (InRange : Entry → Type 0) (law : SayEntries Entry line line_text line_said InRange) where
  pub lines_of-entry_lines : (s : ℕ) (entries : List Entry) → s + length entries ≤ most_states → All InRange entries
      → lines_of (entry_lines_by line_text s entries) ≡ written_lines line s entries
  lines_of-entry_lines s [] few are = refl
  lines_of-entry_lines s (entry ∷ entries) few are =
      law.alone s entry (entry_lines_by line_text (s + 1) entries) (omega arith) (are 0 entry (omega arith))
      ∙ ap (λ ls. line s entry ∷ ls)
      (lines_of-entry_lines (s + 1) entries (omega arith) (All-tail InRange entry entries are))

  pub significant-written : (s : ℕ) (entries : List Entry) → s + length entries ≤ most_states → All InRange entries
      → significant (written_lines line s entries) ≡ written_lines line s entries
  significant-written s [] few are = refl
  significant-written s (entry ∷ entries) few are =
      ap (λ ls. keep_line (line s entry) ls)
      (significant-written (s + 1) entries (omega arith) (All-tail InRange entry entries are))
      ∙ keep_line-some (line s entry) (written_lines line (s + 1) entries)
      (law.some s entry (omega arith) (are 0 entry (omega arith)))

  pub entries_from-written : (states number : ℕ) (before entries : List Entry)
      → length before + length entries ≡ states → states ≤ most_states → All InRange entries
      → entries_from_by line_said states before number (written_lines line (length before) entries)
      ≡ Ok (before ++ entries)
  entries_from-written states number before [] all few are =
      let full : (length before == states) ≡ true = grind (arith, nat_tests) in
      rw (full, append-nil) refl
  entries_from-written states number before (entry ∷ entries) all few are =
      let more : (length before == states) ≡ false = grind (arith, nat_tests) in
      let said = law.says (length before) entry (omega arith) (are 0 entry (omega arith)) in
      let one_more = length_push before entry in
      let behind = entries_from-written states (number + 1) (before ++ entry ∷ []) entries (omega (arith, one_more)) few
      (All-tail InRange entry entries are) in
      rw (more, said, ← one_more) (behind ∙ ap (λ es. Ok es) (append_assoc before (entry ∷ []) entries))

-- 2. Lines before the certificate.

lines_of-as_lines : (word : List ℕ) (lines : List (List ℕ)) (text : List ℕ) → All (IsPassedOverBy word) lines
    → lines_of (as_lines lines ++ text) ≡ lines ++ lines_of text
lines_of-as_lines word [] text are = refl
lines_of-as_lines word (line ∷ lines) text are =
    let is = are 0 line (omega arith) in
    ap lines_of
    (append_assoc (line ++ 10 ∷ []) (as_lines lines) text ∙ append_assoc line (10 ∷ []) (as_lines lines ++ text))
    ∙ lines_of-lf line (as_lines lines ++ text) is.one is.whole
    ∙ ap (λ ls. line ∷ ls) (lines_of-as_lines word lines text (All-tail (IsPassedOverBy word) line lines are))

others : (word : List ℕ) (lines : List (List ℕ)) → All (IsPassedOverBy word) lines → All (IsOther word) lines
others word [] are = All-nil (IsOther word)
others word (line ∷ lines) are = All-cons (IsOther word) line lines (are 0 line (omega arith)).other
    (others word lines (All-tail (IsPassedOverBy word) line lines are))

pub read_behind : (Answer : Type 0) (word : List ℕ)
    (said : List ℕ → ℕ → List (List ℕ) → Result Answer PlanFault) (lines : List (List ℕ)) (text first : List ℕ)
    (written : List (List ℕ)) (answer : Answer) → All (IsPassedOverBy word) lines → lines_of text ≡ first ∷ written
    → begins_with word (fields_of first) ≡ true → significant written ≡ written
    → ((number : ℕ) → said first number written ≡ Ok answer)
    → certificate_from_by word said 1 (significant (lines_of (as_lines lines ++ text))) ≡ Ok answer
read_behind Answer word said lines text first written answer are whole named kept answers =
    ap (λ ls. certificate_from_by word said 1 (significant ls))
    (lines_of-as_lines word lines text are ∙ ap (λ ls. lines ++ ls) whole)
    ∙ certificate_from-told Answer word said 1 lines first written answer (others word lines are) named
    (λ n. ap (λ ls. said first n ls) kept ∙ answers n)
