-- Texts in which no line ends, and lines that end with them.
use Rattle.std.proofs.Common.{◌≡◌, ◌∙◌, ◌<◌, ◌^◌, ◌+◌, ◌%◌, ℕ, Bool, true, false, List, [], ◌∷◌, ◌++◌, Option, Some}
use Rattle.std.proofs.Common.{None, refl, sym, ap, append_assoc, arith}
use Rattle.std.proofs.lemmas.Bool.{and_parts}
use Rattle.std.specs.Prelude.{◌==◌, nat_lt, codes, decimal, if◌then◌else◌}
use Rattle.std.specs.List.{list_all, All}
use Rattle.std.proofs.lemmas.Fmt.{decimal_by_steps_wide}
use Rattle.std.proofs.lemmas.List.Elements.{All-head, All-tail}
use Rattle.text_lines.specs.Laws.{HasNo}
use Rattle.text_lines.specs.Parts.{split_first}
use Rattle.label_lines.proofs.Splits.{split_first-again}
use Rattle.fractions.specs.Fraction.{Fraction}
use Rattle.formula_reader.specs.declared.formula.Bound.{Bound}
use Rattle.formula_reader.specs.declared.formula.Bound.TheVariants.{AtLeast, Above, AtMost, Below, AskMax, AskMin}
use Rattle.formula_reader.specs.Formula.{State, True, False, Label, Not, And, Or, Implies, Inner, Tree}
use Rattle.formula_tokens.specs.TokenRules.{is_name_byte}
use Rattle.formula_tokens.specs.Tokens.{in_word}
use Rattle.formula_reader.specs.declared.formula.PathKind.{PathKind}
use Rattle.formula_reader.specs.declared.formula.PathKind.TheVariants.{Until, Within, Next, Always}
use Rattle.rpatl_syntax.specs.Spelling.{strength_of, in_place, state_spelling, until_spelling, kind_spelling}
use Rattle.rpatl_syntax.specs.Spelling.{spelling_with, names_spelling, coalition_spelling, fraction_spelling}
use Rattle.rpatl_syntax.specs.Spelling.{bound_spelling, spelling}
use Rattle.rpatl_syntax.specs.Spellable.{IsWholeWord, HasWords, HasKind, HasParts}
use Rattle.plan_text.specs.Fixed.{fixed}
use Rattle.plan_text.proofs.WrittenFields.{AreFrom, IsField-fixed}
use Rattle.verdicts.specs.declared.verdict.Verdict.{Verdict}
use Rattle.verdicts.specs.declared.verdict.Verdict.TheVariants.{Yes, No, Undecided, Bracket}
use Rattle.verdicts.specs.declared.report.How.{How}
use Rattle.verdicts.specs.declared.report.How.TheVariants.{Rounds, Steps, Audited, Solved}
use Rattle.verdicts.specs.declared.report.ReportLine.{ReportLine}
use Rattle.output.proofs.PlainParts.{IsFine, HasFine, HasPlainParts, threshold-fine}
use Rattle.verdicts.specs.Report.{HasCount, IsLine, how_text, ending, line_text}

-- 1. Texts without a line feed.

HasNo-append : (xs ys : List ℕ) → HasNo 10 xs → HasNo 10 ys → HasNo 10 (xs ++ ys)
HasNo-append [] ys front back = back
HasNo-append (x ∷ xs) ys front back = (front.0, HasNo-append xs ys front.1 back)

-- bytes that pass a test that the line feed does not
passing : (test : ℕ → Bool) → test 10 ≡ false → (bytes : List ℕ) → list_all test bytes ≡ true → HasNo 10 bytes
passing test fails [] pass = tt
passing test fails (b ∷ bytes) pass =
    let parts = and_parts (test b) (list_all test bytes) pass in
    ((λ is. let same : test b ≡ test 10 = ap test is in cc (same, fails, parts.0)), passing test fails bytes parts.1)

plain : (bytes : List ℕ) → list_all (λ b. nat_lt 10 b) bytes ≡ true → HasNo 10 bytes
plain bytes pass = passing (λ b. nat_lt 10 b) refl bytes pass

decimal-HasNo : (n : ℕ) → n < 10 ^ 64 → HasNo 10 (decimal n)
decimal-HasNo n small = decimal_by_steps_wide (λ m digits. HasNo 10 digits) (λ m h. (omega arith, tt))
    (λ m digits h before. HasNo-append digits ((48 + m % 10) ∷ []) before (omega arith, tt)) n small

printed : (bytes : List ℕ) → AreFrom 33 bytes → HasNo 10 bytes
printed [] from = tt
printed (b ∷ bytes) from = (omega (arith, from.0), printed bytes from.1)

fixed-HasNo : (units : ℕ) → HasNo 10 (fixed units)
fixed-HasNo units = printed (fixed units) (IsField-fixed units).printed

-- 2. A line: such a text, and a line feed.

pub record IsEnded (text : List ℕ) : Type 0 where
  pub front : List ℕ
  pub none : HasNo 10 front
  pub whole : text ≡ front ++ 10 ∷ []

behind : (front text : List ℕ) → HasNo 10 front → IsEnded text → IsEnded (front ++ text)
behind front text none ended = record {
  front = front ++ ended.front;
  none = HasNo-append front ended.front none ended.none;
  whole = ap (λ (t : List ℕ). front ++ t) ended.whole ∙ sym (append_assoc front ended.front (10 ∷ []));
}

-- a line is told from what stands behind it
pub ended-one : (text other r s : List ℕ) → IsEnded text → IsEnded other → text ++ r ≡ other ++ s
    → (text ≡ other) × (r ≡ s)
ended-one text other r s a b e =
    let in_order : a.front ++ 10 ∷ r ≡ b.front ++ 10 ∷ s = sym (onto text r a) ∙ e ∙ onto other s b in
    let split : Some (a.front, r) ≡ Some (b.front, s) = sym (split_first-again 10 a.front r a.none)
    ∙ ap (split_first 10) in_order ∙ split_first-again 10 b.front s b.none in
    let pair : ◌≡◌ {A = List ℕ × List ℕ} (a.front, r) (b.front, s) = cc (split) in
    let fronts : a.front ≡ b.front = ap (λ (p : List ℕ × List ℕ). p.0) pair in
    (a.whole ∙ ap (λ (f : List ℕ). f ++ 10 ∷ []) fronts ∙ sym b.whole, ap (λ (p : List ℕ × List ℕ). p.1) pair)
  where
    onto : (t rest : List ℕ) → (ended : IsEnded t) → t ++ rest ≡ ended.front ++ 10 ∷ rest
    onto t rest ended = ap (λ (u : List ℕ). u ++ rest) ended.whole ∙ append_assoc ended.front (10 ∷ []) rest

-- 3. The line of a state.

how-HasNo : (how : How) → HasCount how → HasNo 10 (how_text how)
how-HasNo (Rounds rounds) small = HasNo-append (codes " rounds ") (decimal rounds) (plain (codes " rounds ") refl)
    (decimal-HasNo rounds (omega arith))
how-HasNo (Steps steps) small =
    HasNo-append (codes " steps ") (decimal steps) (plain (codes " steps ") refl) (decimal-HasNo steps (omega arith))
how-HasNo Audited small = plain (codes " audited") refl
how-HasNo Solved small = plain (codes " solved") refl

ending-ended : (verdict : Verdict) → IsEnded (ending verdict)
ending-ended Yes = record { front = codes " True"; none = plain (codes " True") refl; whole = refl }
ending-ended No = record { front = codes " False"; none = plain (codes " False") refl; whole = refl }
ending-ended Undecided = record { front = codes " Undecided"; none = plain (codes " Undecided") refl; whole = refl }
ending-ended Bracket = record { front = codes " Bracket"; none = plain (codes " Bracket") refl; whole = refl }

labelled-HasNo : (label : List ℕ) (units : ℕ) → list_all (λ b. nat_lt 10 b) label ≡ true
    → HasNo 10 (label ++ fixed units)
labelled-HasNo label units pass = HasNo-append label (fixed units) (plain label pass) (fixed-HasNo units)

pub line-ended : (line : ReportLine) → IsLine line → IsEnded (line_text line)
line-ended line is =
    behind (codes "state " ++ decimal line.state) _ (HasNo-append (codes "state ") (decimal line.state)
    (plain (codes "state ") refl) (decimal-HasNo line.state (omega (arith, is.state))))
    (behind (codes " lower " ++ fixed line.lower) _ (labelled-HasNo (codes " lower ") line.lower refl)
    (behind (codes " upper " ++ fixed line.upper) _ (labelled-HasNo (codes " upper ") line.upper refl)
    (behind (how_text line.how) _ (how-HasNo line.how is.count) (ending-ended line.verdict))))

-- 4. The line of a formula.

word-HasNo : (name : List ℕ) → IsWholeWord name → HasNo 10 name
word-HasNo name is = passing in_word refl name is.bytes

names-HasNo : (names : List (List ℕ)) → All IsWholeWord names → HasNo 10 (names_spelling names)
names-HasNo [] words = tt
names-HasNo (name ∷ []) words = word-HasNo name (All-head IsWholeWord name [] words)
names-HasNo (name ∷ other ∷ names) words =
    HasNo-append name (codes "," ++ names_spelling (other ∷ names))
    (word-HasNo name (All-head IsWholeWord name (other ∷ names) words))
    (HasNo-append (codes ",") (names_spelling (other ∷ names)) (plain (codes ",") refl)
    (names-HasNo (other ∷ names) (All-tail IsWholeWord name (other ∷ names) words)))

coalition-HasNo : (coalition : Option (List (List ℕ))) → HasWords coalition → HasNo 10 (coalition_spelling coalition)
coalition-HasNo None words = tt
coalition-HasNo (Some names) words =
    HasNo-append (codes "<<") (names_spelling names ++ codes ">> ") (plain (codes "<<") refl)
    (HasNo-append (names_spelling names) (codes ">> ") (names-HasNo names words) (plain (codes ">> ") refl))

fraction-HasNo : (p : Fraction) → IsFine p → HasNo 10 (fraction_spelling p)
fraction-HasNo p fine = by (p.den == 1)
  where
    of_num : HasNo 10 (decimal p.num)
    of_num = decimal-HasNo p.num (omega (arith, fine.0, fine.1))

    of_den : HasNo 10 (decimal p.den)
    of_den = decimal-HasNo p.den (omega (arith, fine.1))

    by : (b : Bool) → HasNo 10 (if b then decimal p.num else decimal p.num ++ (codes "/" ++ decimal p.den))
    by true = of_num
    by false = HasNo-append (decimal p.num) (codes "/" ++ decimal p.den) of_num
        (HasNo-append (codes "/") (decimal p.den) (plain (codes "/") refl) of_den)

bound-HasNo : (bound : Bound) → HasFine bound → HasNo 10 (bound_spelling bound)
bound-HasNo (AtLeast p) share =
    HasNo-append (codes "P>=") (fraction_spelling p) (plain (codes "P>=") refl) (fraction-HasNo p share)
bound-HasNo (Above p) share =
    HasNo-append (codes "P>") (fraction_spelling p) (plain (codes "P>") refl) (fraction-HasNo p share)
bound-HasNo (AtMost p) share =
    HasNo-append (codes "P<=") (fraction_spelling p) (plain (codes "P<=") refl) (fraction-HasNo p share)
bound-HasNo (Below p) share =
    HasNo-append (codes "P<") (fraction_spelling p) (plain (codes "P<") refl) (fraction-HasNo p share)
bound-HasNo AskMax share = plain (codes "Pmax=?") refl
bound-HasNo AskMin share = plain (codes "Pmin=?") refl

in_place-HasNo : (least : ℕ) (x : State) (text : List ℕ) → HasNo 10 text → HasNo 10 (in_place least x text)
in_place-HasNo least x text none = by (nat_lt (strength_of x) least)
  where
    by : (b : Bool) → HasNo 10 (if b then codes "(" ++ (text ++ codes ")") else text)
    by true = HasNo-append (codes "(") (text ++ codes ")") (plain (codes "(") refl)
        (HasNo-append text (codes ")") none (plain (codes ")") refl))
    by false = none

joined-HasNo : (left sign right : List ℕ) → HasNo 10 left → list_all (λ b. nat_lt 10 b) sign ≡ true → HasNo 10 right
    → HasNo 10 (left ++ (sign ++ right))
joined-HasNo left sign right a pass b =
    HasNo-append left (sign ++ right) a (HasNo-append sign right (plain sign pass) b)

until-HasNo : (left : State) (x : List ℕ) → HasNo 10 x → HasNo 10 (until_spelling left x)
until-HasNo True x none = plain (codes "F") refl
until-HasNo left x none = HasNo-append x (codes " U") none (plain (codes " U") refl)

kind-HasNo : (kind : PathKind) (left : State) (x : List ℕ) → HasKind kind left → HasNo 10 x
    → HasNo 10 (kind_spelling kind left x)
kind-HasNo Until left x few none = until-HasNo left x none
kind-HasNo (Within steps) left x few none =
    HasNo-append (until_spelling left x) (codes "<=" ++ decimal steps) (until-HasNo left x none)
    (HasNo-append (codes "<=") (decimal steps) (plain (codes "<=") refl) (decimal-HasNo steps (omega (arith, few))))
kind-HasNo Next left x few none = plain (codes "X") refl
kind-HasNo Always left x few none = plain (codes "G") refl

-- a coalition, a bound and a path
with-HasNo : (team : Option (List (List ℕ))) (bound : Bound) (kind : PathKind) (left : State) (x y : List ℕ)
    → HasWords team → HasFine bound → HasKind kind left → HasNo 10 x → HasNo 10 y
    → HasNo 10 (spelling_with team bound kind left x y)
with-HasNo team bound kind left x y words fine few of_left of_right =
    HasNo-append (coalition_spelling team) _ (coalition-HasNo team words)
    (HasNo-append (bound_spelling bound) _ (bound-HasNo bound fine)
    (HasNo-append (codes " [ ") _ (plain (codes " [ ") refl)
    (joined-HasNo (kind_spelling kind left x) (codes " ") (y ++ codes " ]") (kind-HasNo kind left x few of_left) refl
    (HasNo-append y (codes " ]") of_right (plain (codes " ]") refl)))))

state-HasNo : (x : State) → HasParts x → HasNo 10 (state_spelling x)
state-HasNo True parts = plain (codes "true") refl
state-HasNo False parts = plain (codes "false") refl
state-HasNo (Label name) parts = HasNo-append (codes "\"") (name ++ codes "\"") (plain (codes "\"") refl)
    (HasNo-append name (codes "\"") (passing is_name_byte refl name parts.bytes) (plain (codes "\"") refl))
state-HasNo (Not x) parts = HasNo-append (codes "!") (in_place 3 x (state_spelling x)) (plain (codes "!") refl)
    (in_place-HasNo 3 x (state_spelling x) (state-HasNo x parts))
state-HasNo (And x y) parts = joined-HasNo _ (codes " & ") _ (in_place-HasNo 2 x _ (state-HasNo x parts.0)) refl
    (in_place-HasNo 3 y _ (state-HasNo y parts.1))
state-HasNo (Or x y) parts = joined-HasNo _ (codes " | ") _ (in_place-HasNo 1 x _ (state-HasNo x parts.0)) refl
    (in_place-HasNo 2 y _ (state-HasNo y parts.1))
state-HasNo (Implies x y) parts = joined-HasNo _ (codes " => ") _ (in_place-HasNo 0 x _ (state-HasNo x parts.0)) refl
    (in_place-HasNo 1 y _ (state-HasNo y parts.1))
state-HasNo (Inner team bound kind left right) parts =
    let head = parts.0 in
    with-HasNo team bound kind left (state_spelling left) (state_spelling right) head.words
    (threshold-fine bound head.threshold) head.kind_is (state-HasNo left parts.1) (state-HasNo right parts.2)

spelling-HasNo : (f : Tree) → HasPlainParts f → HasNo 10 (spelling f)
spelling-HasNo f is = with-HasNo f.coalition f.bound f.kind f.left (state_spelling f.left)
    (state_spelling f.right) is.words is.fine is.kind (state-HasNo f.left is.left) (state-HasNo f.right is.right)

-- the line `formula F`
pub formula-ended : (f : Tree) → HasPlainParts f → IsEnded (codes "formula " ++ (spelling f ++ codes "\n"))
formula-ended f is =
    behind (codes "formula ") (spelling f ++ codes "\n") (plain (codes "formula ") refl)
    (record { front = spelling f; none = spelling-HasNo f is; whole = refl })
