-- The lines before a certificate of rewards are passed over, so it is read back.
use Rattle.std.proofs.Common.{◌≡◌, ◌∙◌, ◌<◌, ◌≤◌, ◌^◌, ◌%◌, ◌+◌, ℕ, Bool, true, false, List, [], ◌∷◌, ◌++◌, length, Ok}
use Rattle.std.proofs.Common.{Option, Some, None, refl, sym, ap, subst, append_assoc, arith}
use Rattle.std.specs.Prelude.{All, codes, decimal, bytes_eq, nat_le, nat_lt, ◌==◌, if◌then◌else◌}
use Rattle.std.specs.List.{list_all}
use Rattle.std.proofs.lemmas.Bool.{and_parts, leb-true}
use Rattle.std.proofs.lemmas.Fmt.{decimal_by_steps_wide}
use Rattle.std.proofs.lemmas.List.{append_cancel_right, length-append}
use Rattle.std.proofs.lemmas.List.Elements.{All-nil, All-cons, All-head, All-tail}
use Rattle.fractions.specs.Fraction.{Fraction}
use Rattle.formula_reader.specs.Formula.{Tree, True}
use Rattle.formula_reader.specs.declared.formula.Bound.TheVariants as plain
use Rattle.formula_reader.specs.declared.formula.PathKind.TheVariants.{Until}
use Rattle.formula_tokens.specs.TokenRules.{is_name_byte}
use Rattle.rpatl_syntax.specs.Spelling.{state_spelling, coalition_spelling, fraction_spelling, spelling}
use Rattle.text_lines.specs.Text.{fields_of}
use Rattle.text_lines.specs.Laws.{HasNo, EndsInNoCr}
use Rattle.text_lines.proofs.FieldLaws.{fields_of-parted}
use Rattle.game_model.specs.Limits.{most_states}
use Rattle.plan_text.specs.Fixed.{unit_digits}
use Rattle.plan_text.specs.Said.{begins_with}
use Rattle.plan_text.specs.Laws.{IsPassedOverBy, as_lines}
use Rattle.plan_text.proofs.WrittenFields.{AreFrom, AreFrom-append, IsField-decimal}
use Rattle.verdicts.specs.declared.verdict.Verdict.{Verdict}
use Rattle.verdicts.specs.declared.verdict.Verdict.TheVariants.{Yes, No, Undecided, Bracket}
use Rattle.verdicts.specs.declared.report.How.{How}
use Rattle.verdicts.specs.declared.report.How.TheVariants.{Rounds, Steps, Audited, Solved}
use Rattle.verdicts.specs.Report.{HasCount, how_text, verdict_text}
use Rattle.output.proofs.PlainParts.{HasPlainParts}
use Rattle.output.proofs.NoLineFeed.{formula-ended}
use Rattle.reward_values.specs.Values.{IsValue, value_text}
use Rattle.reward_verdicts.specs.declared.report.RewardLine.{RewardLine}
use Rattle.reward_verdicts.specs.Report.{IsRewardLine, labelled_value, reward_line_text, reward_report}
use Rattle.reward_formula.specs.declared.formula.RewardBound.{RewardBound}
use Rattle.reward_formula.specs.declared.formula.RewardBound.TheVariants.{AtLeast, Above, AtMost, Below, AskMax, AskMin}
use Rattle.reward_formula.specs.Formula.{RewardTree}
use Rattle.reward_formula.specs.Spelling.{name_spelling, asks_spelling, goal_spelling, reward_spelling}
use Rattle.reward_formula.specs.Spellable.{HasName, IsShortAmount, HasAmount, IsSpellableReward}
use Rattle.reward_text.specs.Entries.{RewardEntry, IsRewardEntry, AreBounds}
use Rattle.reward_text.specs.Said.{rewards_said}
use Rattle.reward_text.specs.Written.{reward_certificate_text}
use Rattle.reward_text.proofs.Values.{values}

-- 1. Texts of bytes from 32 on, and texts in which no line ends.

HasNo-append : (xs ys : List ℕ) → HasNo 10 xs → HasNo 10 ys → HasNo 10 (xs ++ ys)
HasNo-append [] ys front back = back
HasNo-append (x ∷ xs) ys front back = (front.0, HasNo-append xs ys front.1 back)

HasNo-front : (xs ys : List ℕ) → HasNo 10 (xs ++ ys) → HasNo 10 xs
HasNo-front [] ys none = tt
HasNo-front (x ∷ xs) ys none = (none.0, HasNo-front xs ys none.1)

HasNo-back : (xs ys : List ℕ) → HasNo 10 (xs ++ ys) → HasNo 10 ys
HasNo-back [] ys none = none
HasNo-back (x ∷ xs) ys none = HasNo-back xs ys none.1

passing : (test : ℕ → Bool) → test 10 ≡ false → (bytes : List ℕ) → list_all test bytes ≡ true → HasNo 10 bytes
passing test fails [] pass = tt
passing test fails (b ∷ bytes) pass =
    let parts = and_parts (test b) (list_all test bytes) pass in
    ((λ is. let same : test b ≡ test 10 = ap test is in cc (same, fails, parts.0)), passing test fails bytes parts.1)

plain-HasNo : (bytes : List ℕ) → list_all (λ b. nat_lt 10 b) bytes ≡ true → HasNo 10 bytes
plain-HasNo bytes pass = passing (λ b. nat_lt 10 b) refl bytes pass

decimal-HasNo : (n : ℕ) → n < 10 ^ 64 → HasNo 10 (decimal n)
decimal-HasNo n small = decimal_by_steps_wide (λ m digits. HasNo 10 digits) (λ m h. (omega arith, tt))
    (λ m digits h before. HasNo-append digits ((48 + m % 10) ∷ []) before (omega arith, tt)) n small

from_test : (bytes : List ℕ) → list_all (λ b. nat_le 32 b) bytes ≡ true → AreFrom 32 bytes
from_test [] pass = tt
from_test (b ∷ bytes) pass =
    let parts = and_parts (nat_le 32 b) (list_all (λ c. nat_le 32 c) bytes) pass in
    (leb-true 32 b parts.0, from_test bytes parts.1)

from-weaker : (bytes : List ℕ) → AreFrom 33 bytes → AreFrom 32 bytes
from-weaker [] from = tt
from-weaker (b ∷ bytes) from = (omega (arith, from.0), from-weaker bytes from.1)

from-HasNo : (bytes : List ℕ) → AreFrom 32 bytes → HasNo 10 bytes
from-HasNo [] from = tt
from-HasNo (b ∷ bytes) from = (omega (arith, from.0), from-HasNo bytes from.1)

from-ends : (bytes : List ℕ) → AreFrom 32 bytes → EndsInNoCr bytes
from-ends [] from = tt
from-ends (b ∷ []) from = omega (arith, from.0)
from-ends (b ∷ c ∷ bytes) from = from-ends (c ∷ bytes) from.1

EndsInNoCr-behind : (front back : List ℕ) → 0 < length back → EndsInNoCr back → EndsInNoCr (front ++ back)
EndsInNoCr-behind [] back some ends = ends
EndsInNoCr-behind (b ∷ []) [] some ends = absurd (omega (arith, some))
EndsInNoCr-behind (b ∷ []) (c ∷ back) some ends = ends
EndsInNoCr-behind (b ∷ c ∷ front) back some ends = EndsInNoCr-behind (c ∷ front) back some ends

some-behind : (front back : List ℕ) → 0 < length back → 0 < length (front ++ back)
some-behind front back some = omega (arith, length-append front back)

-- 2. A line with a first word that is not `rewards`.

passed : (word rest : List ℕ) → fields_of word ≡ word ∷ [] → bytes_eq word (codes "rewards") ≡ false
    → HasNo 10 (word ++ 32 ∷ rest) → EndsInNoCr (word ++ 32 ∷ rest)
    → IsPassedOverBy (codes "rewards") (word ++ 32 ∷ rest)
passed word rest alone other none ends =
    let parted : fields_of (word ++ 32 ∷ rest) ≡ word ∷ fields_of rest =
    fields_of-parted word rest 32 refl ∙ ap (λ fs. fs ++ fields_of rest) alone in
    record { one = none; whole = ends; other = ap (begins_with (codes "rewards")) parted ∙ other }

-- 3. The line of a state.

how-from : (how : How) → HasCount how → AreFrom 32 (how_text how)
how-from (Rounds rounds) small = AreFrom-append 32 (codes " rounds ") (decimal rounds)
    (from_test (codes " rounds ") refl) (from-weaker (decimal rounds) (IsField-decimal rounds (omega arith)).printed)
how-from (Steps steps) small = AreFrom-append 32 (codes " steps ") (decimal steps)
    (from_test (codes " steps ") refl) (from-weaker (decimal steps) (IsField-decimal steps (omega arith)).printed)
how-from Audited small = from_test (codes " audited") refl
how-from Solved small = from_test (codes " solved") refl

verdict-from : (verdict : Verdict) → AreFrom 32 (32 ∷ verdict_text verdict)
verdict-from Yes = from_test (codes " True") refl
verdict-from No = from_test (codes " False") refl
verdict-from Undecided = from_test (codes " Undecided") refl
verdict-from Bracket = from_test (codes " Bracket") refl

-- what stands behind the word `state`
behind_state : ℕ → RewardLine → List ℕ
behind_state places line = decimal line.state ++ (labelled_value places (codes " lower ") line.lower
    ++ (labelled_value places (codes " upper ") line.upper ++ (how_text line.how ++ (32 ∷ verdict_text line.verdict))))

regrouped : (a b c d e x : List ℕ) → a ++ (b ++ (c ++ (d ++ (e ++ x)))) ≡ (a ++ (b ++ (c ++ (d ++ e)))) ++ x
regrouped a b c d e x =
    sym (append_assoc a (b ++ (c ++ (d ++ e))) x ∙ ap (λ (t : List ℕ). a ++ t) (append_assoc b (c ++ (d ++ e)) x
    ∙ ap (λ (t : List ℕ). b ++ t) (append_assoc c (d ++ e) x ∙ ap (λ (t : List ℕ). c ++ t) (append_assoc d e x))))

line-parted : (places : ℕ) (line : RewardLine)
    → reward_line_text places line ≡ (codes "state" ++ 32 ∷ behind_state places line) ++ 10 ∷ []
unfolding behind_state
line-parted places line =
    ap (λ (t : List ℕ). codes "state " ++ t)
    (regrouped (decimal line.state) (labelled_value places (codes " lower ") line.lower)
    (labelled_value places (codes " upper ") line.upper) (how_text line.how) (32 ∷ verdict_text line.verdict)
    (codes "\n"))

value-from : (places : ℕ) (label : List ℕ) (value : Option ℕ) → list_all (λ b. nat_le 32 b) label ≡ true
    → IsValue value → AreFrom 32 (labelled_value places label value)
value-from places label value pass is = AreFrom-append 32 label (value_text places value) (from_test label pass)
    (from-weaker (value_text places value) ((values places).field value is).printed)

behind-from : (places : ℕ) (line : RewardLine) → IsRewardLine line → AreFrom 32 (behind_state places line)
unfolding behind_state
behind-from places line is =
    AreFrom-append 32 (decimal line.state) _
    (from-weaker (decimal line.state) (IsField-decimal line.state (omega (arith, is.state))).printed)
    (AreFrom-append 32 (labelled_value places (codes " lower ") line.lower) _
    (value-from places (codes " lower ") line.lower refl is.lower)
    (AreFrom-append 32 (labelled_value places (codes " upper ") line.upper) _
    (value-from places (codes " upper ") line.upper refl is.upper)
    (AreFrom-append 32 (how_text line.how) (32 ∷ verdict_text line.verdict) (how-from line.how is.count)
    (verdict-from line.verdict))))

line-passed : (places : ℕ) (line : RewardLine) → IsRewardLine line
    → IsPassedOverBy (codes "rewards") (codes "state" ++ 32 ∷ behind_state places line)
line-passed places line is =
    let rest = behind_state places line in
    let whole : List ℕ = codes "state" ++ 32 ∷ rest in
    let from : AreFrom 32 whole =
    AreFrom-append 32 (codes "state ") rest (from_test (codes "state ") refl) (behind-from places line is) in
    passed (codes "state") rest refl refl (from-HasNo whole from) (from-ends whole from)

-- 4. The line of the formula.

-- a formula of probabilities with the same coalition and goal
tree_with : RewardTree → Tree
tree_with f = record {
  coalition = f.coalition;
  bound = plain.AskMax;
  kind = Until;
  left = True;
  right = f.goal;
}

spelled-HasNo : (f : RewardTree) → IsSpellableReward f → HasNo 10 (spelling (tree_with f))
unfolding tree_with
spelled-HasNo f is =
    let tree = tree_with f in
    let parts : HasPlainParts tree =
    record { words = is.words; fine = tt; kind = tt; left = tt; right = is.goal.parts } in
    let ended = formula-ended tree parts in
    let same : ended.front ≡ codes "formula " ++ spelling tree =
    append_cancel_right ended.front (codes "formula " ++ spelling tree) (10 ∷ []) (sym ended.whole) in
    HasNo-back (codes "formula ") (spelling tree) (subst (λ (t : List ℕ). HasNo 10 t) same ended.none)

fraction-HasNo : (p : Fraction) → IsShortAmount p → HasNo 10 (fraction_spelling p)
fraction-HasNo p short = by (p.den == 1)
  where
    of_num : HasNo 10 (decimal p.num)
    of_num = decimal-HasNo p.num (omega (arith, short.few))

    of_den : HasNo 10 (decimal p.den)
    of_den = decimal-HasNo p.den (omega (arith, short.amount.fine))

    by : (b : Bool) → HasNo 10 (if b then decimal p.num else decimal p.num ++ (codes "/" ++ decimal p.den))
    by true = of_num
    by false = HasNo-append (decimal p.num) (codes "/" ++ decimal p.den) of_num
        (HasNo-append (codes "/") (decimal p.den) (plain-HasNo (codes "/") refl) of_den)

asks-HasNo : (bound : RewardBound) → HasAmount bound → HasNo 10 (asks_spelling bound)
asks-HasNo (AtLeast p) short =
    HasNo-append (codes ">=") (fraction_spelling p) (plain-HasNo (codes ">=") refl) (fraction-HasNo p short)
asks-HasNo (Above p) short =
    HasNo-append (codes ">") (fraction_spelling p) (plain-HasNo (codes ">") refl) (fraction-HasNo p short)
asks-HasNo (AtMost p) short =
    HasNo-append (codes "<=") (fraction_spelling p) (plain-HasNo (codes "<=") refl) (fraction-HasNo p short)
asks-HasNo (Below p) short =
    HasNo-append (codes "<") (fraction_spelling p) (plain-HasNo (codes "<") refl) (fraction-HasNo p short)
asks-HasNo AskMax short = plain-HasNo (codes "max=?") refl
asks-HasNo AskMin short = plain-HasNo (codes "min=?") refl

name-HasNo : (name : Option (List ℕ)) → HasName name → HasNo 10 (name_spelling name)
name-HasNo None is = tt
name-HasNo (Some name) is =
    let bare : HasNo 10 (name ++ codes "\"") =
    HasNo-append name (codes "\"") (passing is_name_byte refl name is.bytes) (plain-HasNo (codes "\"") refl) in
    let quoted : List ℕ = codes "\"" ++ (name ++ codes "\"") in
    HasNo-append (codes "{") (quoted ++ codes "}") (plain-HasNo (codes "{") refl)
    (HasNo-append quoted (codes "}")
    (HasNo-append (codes "\"") (name ++ codes "\"") (plain-HasNo (codes "\"") refl) bare)
    (plain-HasNo (codes "}") refl))

reward-HasNo : (f : RewardTree) → IsSpellableReward f → HasNo 10 (reward_spelling f)
unfolding tree_with
reward-HasNo f is =
    let goal = state_spelling f.goal in
    let team = coalition_spelling f.coalition in
    let path : List ℕ = codes " [ " ++ (codes "F" ++ (codes " " ++ (goal ++ codes " ]"))) in
    let whole : HasNo 10 (team ++ (codes "Pmax=?" ++ path)) = spelled-HasNo f is in
    let asked : List ℕ = asks_spelling f.bound ++ goal_spelling goal in
    let named : List ℕ = name_spelling f.name ++ asked in
    HasNo-append team (codes "R" ++ named) (HasNo-front team (codes "Pmax=?" ++ path) whole)
    (HasNo-append (codes "R") named (plain-HasNo (codes "R") refl)
    (HasNo-append (name_spelling f.name) asked (name-HasNo f.name is.name)
    (HasNo-append (asks_spelling f.bound) (goal_spelling goal) (asks-HasNo f.bound is.amount)
    (HasNo-back (codes "Pmax=?") path (HasNo-back team (codes "Pmax=?" ++ path) whole)))))

reward-ends : (f : RewardTree) → EndsInNoCr (reward_spelling f)
reward-ends f =
    let goal = state_spelling f.goal in
    let last : List ℕ = codes " ]" in
    let some : 0 < length last = omega arith in
    let ends : EndsInNoCr last = λ same. omega (arith, same) in
    let some_goal = some-behind goal last some in
    let some_path = some-behind (codes " [ F ") (goal ++ last) some_goal in
    let ends_path : EndsInNoCr (goal_spelling goal) =
    EndsInNoCr-behind (codes " [ F ") (goal ++ last) some_goal (EndsInNoCr-behind goal last some ends) in
    let some_asks = some-behind (asks_spelling f.bound) (goal_spelling goal) some_path in
    let some_name = some-behind (name_spelling f.name) (asks_spelling f.bound ++ goal_spelling goal) some_asks in
    let named = name_spelling f.name ++ (asks_spelling f.bound ++ goal_spelling goal) in
    EndsInNoCr-behind (coalition_spelling f.coalition) (codes "R" ++ named) (some-behind (codes "R") named some_name)
    (EndsInNoCr-behind (codes "R") named some_name
    (EndsInNoCr-behind (name_spelling f.name) (asks_spelling f.bound ++ goal_spelling goal) some_asks
    (EndsInNoCr-behind (asks_spelling f.bound) (goal_spelling goal) some_path ends_path)))

some-spelled : (f : RewardTree) → 0 < length (reward_spelling f)
some-spelled f =
    some-behind (coalition_spelling f.coalition) _ (omega arith)

formula-passed : (f : RewardTree) → IsSpellableReward f
    → IsPassedOverBy (codes "rewards") (codes "formula" ++ 32 ∷ reward_spelling f)
formula-passed f is =
    passed (codes "formula") (reward_spelling f) refl refl
    (HasNo-append (codes "formula ") (reward_spelling f) (plain-HasNo (codes "formula ") refl) (reward-HasNo f is))
    (EndsInNoCr-behind (codes "formula ") (reward_spelling f) (some-spelled f) (reward-ends f))

-- 5. All lines before the certificate.

fronts : ℕ → List RewardLine → RewardTree → List (List ℕ)
fronts places [] f = (codes "formula" ++ 32 ∷ reward_spelling f) ∷ []
fronts places (line ∷ lines) f = (codes "state" ++ 32 ∷ behind_state places line) ∷ fronts places lines f

fronts-passed : (places : ℕ) (lines : List RewardLine) (f : RewardTree) → All IsRewardLine lines → IsSpellableReward f
    → All (IsPassedOverBy (codes "rewards")) (fronts places lines f)
unfolding fronts
fronts-passed places [] f are is =
    All-cons (IsPassedOverBy (codes "rewards")) (codes "formula" ++ 32 ∷ reward_spelling f) [] (formula-passed f is)
    (All-nil (IsPassedOverBy (codes "rewards")))
fronts-passed places (line ∷ lines) f are is =
    All-cons (IsPassedOverBy (codes "rewards")) (codes "state" ++ 32 ∷ behind_state places line)
    (fronts places lines f) (line-passed places line (All-head IsRewardLine line lines are))
    (fronts-passed places lines f (All-tail IsRewardLine line lines are) is)

fronts-lines : (places : ℕ) (lines : List RewardLine) (f : RewardTree) (rest : List ℕ)
    → reward_report places lines ++ ((codes "formula " ++ (reward_spelling f ++ codes "\n")) ++ rest)
    ≡ as_lines (fronts places lines f) ++ rest
unfolding fronts
fronts-lines places [] f rest =
    sym (append_assoc (codes "formula " ++ (reward_spelling f ++ codes "\n")) [] rest)
fronts-lines places (line ∷ lines) f rest =
    append_assoc (reward_line_text places line) (reward_report places lines) _
    ∙ ap (λ (t : List ℕ). reward_line_text places line ++ t) (fronts-lines places lines f rest)
    ∙ ap (λ (t : List ℕ). t ++ (as_lines (fronts places lines f) ++ rest)) (line-parted places line)
    ∙ sym (append_assoc ((codes "state" ++ 32 ∷ behind_state places line) ++ 10 ∷ [])
    (as_lines (fronts places lines f)) rest)

-- 6. The certificate behind them is read back.

abbrev pub AreRewardsReadBack : Type 0
AreRewardsReadBack = (lines : List (List ℕ)) (places : ℕ) (entries : List RewardEntry)
    → All (IsPassedOverBy (codes "rewards")) lines → places ≤ unit_digits → length entries ≤ most_states
    → All IsRewardEntry entries → All (λ (entry : RewardEntry). AreBounds entry.lower entry.upper) entries
    → rewards_said (as_lines lines ++ reward_certificate_text places entries) (length entries)
    ≡ Ok (record { places = places; entries = entries })

pub read-behind : AreRewardsReadBack → (places : ℕ) (lines : List RewardLine) (f : RewardTree)
    (entries : List RewardEntry) → All IsRewardLine lines → IsSpellableReward f → places ≤ unit_digits
    → length entries ≤ most_states → All IsRewardEntry entries
    → All (λ (entry : RewardEntry). AreBounds entry.lower entry.upper) entries
    → rewards_said (reward_report places lines ++ ((codes "formula " ++ (reward_spelling f ++ codes "\n"))
    ++ reward_certificate_text places entries)) (length entries)
    ≡ Ok (record { places = places; entries = entries })
read-behind read_back places lines f entries are is few small in_range ordered =
    ap (λ (t : List ℕ). rewards_said t (length entries))
    (fronts-lines places lines f (reward_certificate_text places entries))
    ∙ read_back (fronts places lines f) places entries (fronts-passed places lines f are is) few small in_range ordered
