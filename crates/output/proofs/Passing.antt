-- The lines before a printed certificate are passed over, so it is read back.
use Rattle.std.proofs.Common.{◌≡◌, ◌∙◌, ◌<◌, ◌≤◌, ℕ, false, List, [], ◌∷◌, ◌++◌, length, Ok, refl, sym, ap, subst}
use Rattle.std.proofs.Common.{append_assoc, arith}
use Rattle.std.specs.Prelude.{All, codes, decimal, bytes_eq}
use Rattle.std.proofs.lemmas.List.{append_cancel_right, length-append}
use Rattle.std.proofs.lemmas.List.Elements.{All-nil, All-cons, All-head, All-tail}
use Rattle.game_model.specs.Limits.{most_states}
use Rattle.text_lines.specs.Text.{fields_of}
use Rattle.text_lines.specs.Laws.{HasNo, EndsInNoCr}
use Rattle.text_lines.proofs.FieldLaws.{fields_of-parted}
use Rattle.formula_reader.specs.Formula.{Tree}
use Rattle.rpatl_syntax.specs.Spelling.{state_spelling, kind_spelling, coalition_spelling, bound_spelling, spelling}
use Rattle.plan_text.specs.Entries.{Entry, IsInRange}
use Rattle.plan_text.specs.Written.{certificate_text}
use Rattle.plan_text.specs.Said.{is_heading, entries_said}
use Rattle.plan_text.specs.Laws.{IsPassedOver, as_lines}
use Rattle.verdicts.specs.declared.verdict.Verdict.{Verdict}
use Rattle.verdicts.specs.declared.verdict.Verdict.TheVariants.{Yes, No, Undecided, Bracket as Value}
use Rattle.verdicts.specs.declared.report.ReportLine.{ReportLine}
use Rattle.verdicts.specs.Report.{IsLine, line_text, verdict_text, labelled, how_text, report}
use Rattle.output.proofs.PlainParts.{HasPlainParts}
use Rattle.output.proofs.NoLineFeed.{IsEnded, line-ended, formula-ended}

-- 1. Texts that end in another byte than CR.

EndsInNoCr-behind : (front back : List ℕ) → 0 < length back → EndsInNoCr back → EndsInNoCr (front ++ back)
EndsInNoCr-behind [] back some ends = ends
EndsInNoCr-behind (b ∷ []) [] some ends = absurd (omega (arith, some))
EndsInNoCr-behind (b ∷ []) (c ∷ back) some ends = ends
EndsInNoCr-behind (b ∷ c ∷ front) back some ends = EndsInNoCr-behind (c ∷ front) back some ends

some-behind : (front back : List ℕ) → 0 < length back → 0 < length (front ++ back)
some-behind front back some = omega (arith, length-append front back)

-- 2. A line with a first word that is not `certificate`.

other_word : (word rest : List ℕ) → fields_of word ≡ word ∷ [] → bytes_eq word (codes "certificate") ≡ false
    → is_heading (fields_of (word ++ 32 ∷ rest)) ≡ false
other_word word rest alone other =
    let parted : fields_of (word ++ 32 ∷ rest) ≡ word ∷ fields_of rest =
    fields_of-parted word rest 32 refl ∙ ap (λ fs. fs ++ fields_of rest) alone in
    ap is_heading parted ∙ other

-- the line without its end
passed : (word rest text : List ℕ) → fields_of word ≡ word ∷ [] → bytes_eq word (codes "certificate") ≡ false
    → 0 < length rest → EndsInNoCr rest → text ≡ (word ++ 32 ∷ rest) ++ 10 ∷ [] → IsEnded text
    → IsPassedOver (word ++ 32 ∷ rest)
passed word rest text alone other some ends whole ended =
    let line = word ++ 32 ∷ rest in
    let same : ended.front ≡ line = append_cancel_right ended.front line (10 ∷ []) (sym ended.whole ∙ whole) in
    record {
      one = subst (λ (t : List ℕ). HasNo 10 t) same ended.none;
      whole = EndsInNoCr-behind word (32 ∷ rest) (omega arith) (EndsInNoCr-behind (32 ∷ []) rest some ends);
      other = other_word word rest alone other;
    }

-- 3. The line of a state.

verdict-ends : (verdict : Verdict) → EndsInNoCr (32 ∷ verdict_text verdict)
verdict-ends Yes = λ is. omega (arith, is)
verdict-ends No = λ is. omega (arith, is)
verdict-ends Undecided = λ is. omega (arith, is)
verdict-ends Value = λ is. omega (arith, is)

-- what stands behind the word `state`
behind_state : ReportLine → List ℕ
behind_state line = decimal line.state ++ (labelled (codes " lower ") line.lower
    ++ (labelled (codes " upper ") line.upper ++ (how_text line.how ++ (32 ∷ verdict_text line.verdict))))

-- four texts, one behind another, and an end
regrouped : (a b c d e x : List ℕ) → a ++ (b ++ (c ++ (d ++ (e ++ x)))) ≡ (a ++ (b ++ (c ++ (d ++ e)))) ++ x
regrouped a b c d e x =
    sym (append_assoc a (b ++ (c ++ (d ++ e))) x ∙ ap (λ (t : List ℕ). a ++ t) (append_assoc b (c ++ (d ++ e)) x
    ∙ ap (λ (t : List ℕ). b ++ t) (append_assoc c (d ++ e) x ∙ ap (λ (t : List ℕ). c ++ t) (append_assoc d e x))))

line-parted : (line : ReportLine) → line_text line ≡ (codes "state" ++ 32 ∷ behind_state line) ++ 10 ∷ []
unfolding behind_state
line-parted line =
    ap (λ (t : List ℕ). codes "state " ++ t) (regrouped (decimal line.state) (labelled (codes " lower ") line.lower)
    (labelled (codes " upper ") line.upper) (how_text line.how) (32 ∷ verdict_text line.verdict) (codes "\n"))

line-passed : (line : ReportLine) → IsLine line → IsPassedOver (codes "state" ++ 32 ∷ behind_state line)
unfolding behind_state
line-passed line is =
    let last = 32 ∷ verdict_text line.verdict in
    let how = how_text line.how in
    let upper = labelled (codes " upper ") line.upper in
    let lower = labelled (codes " lower ") line.lower in
    let some : 0 < length last = omega arith in
    let some_how = some-behind how last some in
    let some_upper = some-behind upper (how ++ last) some_how in
    let some_lower = some-behind lower (upper ++ (how ++ last)) some_upper in
    passed (codes "state") (behind_state line) (line_text line) refl refl
    (some-behind (decimal line.state) (lower ++ (upper ++ (how ++ last))) some_lower)
    (EndsInNoCr-behind (decimal line.state) (lower ++ (upper ++ (how ++ last))) some_lower
    (EndsInNoCr-behind lower (upper ++ (how ++ last)) some_upper
    (EndsInNoCr-behind upper (how ++ last) some_how (EndsInNoCr-behind how last some (verdict-ends line.verdict)))))
    (line-parted line) (line-ended line is)

-- 4. The line of the formula.

formula-passed : (f : Tree) → HasPlainParts f → IsPassedOver (codes "formula" ++ 32 ∷ spelling f)
formula-passed f is =
    let last : List ℕ = codes " ]" in
    let front = kind_spelling f.kind f.left (state_spelling f.left) in
    let right = state_spelling f.right in
    let path = front ++ (codes " " ++ (right ++ last)) in
    let ends : EndsInNoCr last = λ same. omega (arith, same) in
    let some : 0 < length last = omega arith in
    let some_right = some-behind right last some in
    let some_blank = some-behind (codes " ") (right ++ last) some_right in
    let some_path = some-behind front (codes " " ++ (right ++ last)) some_blank in
    let some_open = some-behind (codes " [ ") path some_path in
    let some_bound = some-behind (bound_spelling f.bound) (codes " [ " ++ path) some_open in
    let ends_path = EndsInNoCr-behind front (codes " " ++ (right ++ last)) some_blank
    (EndsInNoCr-behind (codes " ") (right ++ last) some_right (EndsInNoCr-behind right last some ends)) in
    passed (codes "formula") (spelling f) (codes "formula " ++ (spelling f ++ codes "\n")) refl refl
    (some-behind (coalition_spelling f.coalition) (bound_spelling f.bound ++ (codes " [ " ++ path)) some_bound)
    (EndsInNoCr-behind (coalition_spelling f.coalition) (bound_spelling f.bound ++ (codes " [ " ++ path)) some_bound
    (EndsInNoCr-behind (bound_spelling f.bound) (codes " [ " ++ path) some_open
    (EndsInNoCr-behind (codes " [ ") path some_path ends_path)))
    refl (formula-ended f is)

-- 5. All lines before the certificate.

fronts : List ReportLine → Tree → List (List ℕ)
fronts [] f = (codes "formula" ++ 32 ∷ spelling f) ∷ []
fronts (line ∷ lines) f = (codes "state" ++ 32 ∷ behind_state line) ∷ fronts lines f

fronts-passed : (lines : List ReportLine) (f : Tree) → All IsLine lines → HasPlainParts f
    → All IsPassedOver (fronts lines f)
unfolding fronts
fronts-passed [] f are is =
    All-cons IsPassedOver (codes "formula" ++ 32 ∷ spelling f) [] (formula-passed f is) (All-nil IsPassedOver)
fronts-passed (line ∷ lines) f are is =
    All-cons IsPassedOver (codes "state" ++ 32 ∷ behind_state line) (fronts lines f)
    (line-passed line (All-head IsLine line lines are)) (fronts-passed lines f (All-tail IsLine line lines are) is)

fronts-lines : (lines : List ReportLine) (f : Tree) (rest : List ℕ)
    → report lines ++ ((codes "formula " ++ (spelling f ++ codes "\n")) ++ rest) ≡ as_lines (fronts lines f) ++ rest
unfolding fronts
fronts-lines [] f rest = sym (append_assoc (codes "formula " ++ (spelling f ++ codes "\n")) [] rest)
fronts-lines (line ∷ lines) f rest =
    append_assoc (line_text line) (report lines) _
    ∙ ap (λ (t : List ℕ). line_text line ++ t) (fronts-lines lines f rest)
    ∙ ap (λ (t : List ℕ). t ++ (as_lines (fronts lines f) ++ rest)) (line-parted line)
    ∙ sym (append_assoc ((codes "state" ++ 32 ∷ behind_state line) ++ 10 ∷ []) (as_lines (fronts lines f)) rest)

-- 6. The certificate behind them is read back.

abbrev pub AreReadBack : Type 0
AreReadBack = (lines : List (List ℕ)) (entries : List Entry) → All IsPassedOver lines → length entries ≤ most_states
    → All IsInRange entries → entries_said (as_lines lines ++ certificate_text entries) (length entries) ≡ Ok entries

pub read-behind : AreReadBack → (lines : List ReportLine) (f : Tree) (entries : List Entry)
    → All IsLine lines → HasPlainParts f → length entries ≤ most_states → All IsInRange entries
    → entries_said (report lines ++ ((codes "formula " ++ (spelling f ++ codes "\n")) ++ certificate_text entries))
    (length entries) ≡ Ok entries
read-behind read_back lines f entries are is few in_range =
    ap (λ (t : List ℕ). entries_said t (length entries)) (fronts-lines lines f (certificate_text entries))
    ∙ read_back (fronts lines f) entries (fronts-passed lines f are is) few in_range
