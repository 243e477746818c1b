-- A certificate of any kind begins at the first line that begins with its word.
use Rattle.std.proofs.Common.{◌≡◌, ◌∙◌, ◌+◌, ℕ, Bool, true, false, cond, List, [], ◌∷◌, ◌++◌, Result, Ok, Err, refl}
use Rattle.std.proofs.Common.{ap, arith}
use Rattle.std.specs.Prelude.{All}
use Rattle.std.proofs.lemmas.List.Elements.{All-nil, All-cons, All-tail}
use Rattle.text_lines.specs.Text.{fields_of, significant, keep_line, is_nil}
use Rattle.plan_text.specs.declared.fault.PlanFault.{PlanFault}
use Rattle.plan_text.specs.declared.fault.PlanCause.TheVariants.{NoCertificate}
use Rattle.plan_text.specs.Said.{fault_at, begins_with, certificate_from_by}
use Rattle.plan_text.specs.Parts.{first_with}
use Rattle.plan_text.proofs.BlankEnds.{keep_line-some, kept}

-- the line does not begin with the word
abbrev pub IsOther : List ℕ → List ℕ → Type 0
IsOther word line = begins_with word (fields_of line) ≡ false

-- a line that begins with a word is not blank
pub begun-some : (word line : List ℕ) → begins_with word (fields_of line) ≡ true → is_nil (fields_of line) ≡ false
begun-some word line named = by (fields_of line) named
  where
    by : (fields : List (List ℕ)) → begins_with word fields ≡ true → is_nil fields ≡ false
    by [] none = cc
    by (field ∷ fields) some = refl

-- one of these lines is the first with the word, and it and those behind it give this answer
pub record Begins (Answer : Type 0) (word : List ℕ) (said : List ℕ → ℕ → List (List ℕ) → Result Answer PlanFault)
    (lines : List (List ℕ)) (answer : Answer) : Type 0 where
  pub before : List (List ℕ)
  pub first : List ℕ
  pub rest : List (List ℕ)
  pub number : ℕ
  pub whole : lines ≡ before ++ first ∷ rest
  pub passed_over : All (IsOther word) before
  pub named : begins_with word (fields_of first) ≡ true
  pub answers : said first number (significant rest) ≡ Ok answer

module _ (Answer : Type 0) (word : List ℕ) (said : List ℕ → ℕ → List (List ℕ) → Result Answer PlanFault) where
  -- it begins behind this line
  begins_later : (line : List ℕ) (lines : List (List ℕ)) (answer : Answer) → IsOther word line
      → Begins Answer word said lines answer → Begins Answer word said (line ∷ lines) answer
  begins_later line lines answer other has = record {
    before = line ∷ has.before;
    first = has.first;
    rest = has.rest;
    number = has.number;
    whole = ap (λ ls. line ∷ ls) has.whole;
    passed_over = All-cons (IsOther word) line has.before other has.passed_over;
    named = has.named;
    answers = has.answers;
  }

  pub certificate_from-one : (number : ℕ) (lines : List (List ℕ)) (answer : Answer)
      → certificate_from_by word said number (significant lines) ≡ Ok answer → Begins Answer word said lines answer
  certificate_from-one number [] answer found = cc
  certificate_from-one number (line ∷ lines) answer found =
      by (begins_with word (fields_of line)) refl (kept Answer (λ ls. certificate_from_by word said number ls) answer
      (fault_at 0 NoCertificate) line (significant lines) refl found)
      (certificate_from-one (number + 1) lines answer)
    where
      by : (v : Bool) → begins_with word (fields_of line) ≡ v → cond v (said line number (significant lines))
          (certificate_from_by word said (number + 1) (significant lines)) ≡ Ok answer
          → (certificate_from_by word said (number + 1) (significant lines) ≡ Ok answer
          → Begins Answer word said lines answer) → Begins Answer word said (line ∷ lines) answer
      by true named same behind = record {
        before = [];
        first = line;
        rest = lines;
        number = number;
        whole = refl;
        passed_over = All-nil (IsOther word);
        named = named;
        answers = same;
      }
      by false other same behind = begins_later line lines answer other (behind same)

  -- a line that is passed over stays where a certificate stands behind it
  passed : (number : ℕ) (line : List ℕ) (lines : List (List ℕ)) (answer : Answer) → IsOther word line
      → certificate_from_by word said (number + 1) lines ≡ Ok answer
      → certificate_from_by word said number (keep_line line lines) ≡ Ok answer
  passed number line [] answer other found = cc
  passed number line (next ∷ lines) answer other found = ap (λ v. cond v (said line number (next ∷ lines))
      (certificate_from_by word said (number + 1) (next ∷ lines))) other ∙ found

  pub certificate_from-told : (number : ℕ) (before : List (List ℕ)) (first : List ℕ) (rest : List (List ℕ))
      (answer : Answer) → All (IsOther word) before → begins_with word (fields_of first) ≡ true
      → ((n : ℕ) → said first n (significant rest) ≡ Ok answer)
      → certificate_from_by word said number (significant (before ++ first ∷ rest)) ≡ Ok answer
  certificate_from-told number [] first rest answer passed_over named found =
      ap (λ ls. certificate_from_by word said number ls)
      (keep_line-some first (significant rest) (begun-some word first named))
      ∙ ap (λ v. cond v (said first number (significant rest))
      (certificate_from_by word said (number + 1) (significant rest))) named
      ∙ found number
  certificate_from-told number (line ∷ before) first rest answer passed_over named found =
      passed number line (significant (before ++ first ∷ rest)) answer (passed_over 0 line (omega arith))
      (certificate_from-told (number + 1) before first rest answer (All-tail (IsOther word) line before passed_over)
      named found)

  -- the first line with the word, and what is said of it
  pub found-said : (number : ℕ) (lines : List (List ℕ)) (first : List ℕ) (at : ℕ) (rest : List (List ℕ))
      → first_with word number lines ≡ Ok (first, at, rest)
      → certificate_from_by word said number lines ≡ said first at rest
  found-said number [] first at rest found = cc
  found-said number (line ∷ lines) first at rest found =
      by (begins_with word (fields_of line)) found (found-said (number + 1) lines first at rest)
    where
      by : (v : Bool) → cond v (Ok (line, number, lines)) (first_with word (number + 1) lines) ≡ Ok (first, at, rest)
          → (first_with word (number + 1) lines ≡ Ok (first, at, rest)
          → certificate_from_by word said (number + 1) lines ≡ said first at rest)
          → cond v (said line number lines) (certificate_from_by word said (number + 1) lines) ≡ said first at rest
      by true same behind =
          let parts : (line, number, lines) ≡ (first, at, rest) = cc in
          ap (λ (p : List ℕ × ℕ × List (List ℕ)). said p.0 p.1 p.2) parts
      by false same behind = behind same

  pub none-said : (number : ℕ) (lines : List (List ℕ)) (fault : PlanFault) → first_with word number lines ≡ Err fault
      → certificate_from_by word said number lines ≡ Err fault
  none-said number [] fault found =
      let same : fault_at 0 NoCertificate ≡ fault = cc in
      ap (λ f. Err f) same
  none-said number (line ∷ lines) fault found =
      by (begins_with word (fields_of line)) found (none-said (number + 1) lines fault)
    where
      by : (v : Bool) → cond v (Ok (line, number, lines)) (first_with word (number + 1) lines) ≡ Err fault
          → (first_with word (number + 1) lines ≡ Err fault
          → certificate_from_by word said (number + 1) lines ≡ Err fault)
          → cond v (said line number lines) (certificate_from_by word said (number + 1) lines) ≡ Err fault
      by true same behind = cc
      by false same behind = behind same
