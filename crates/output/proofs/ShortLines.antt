-- How long the lines of a report and of a certificate are at most.
use Rattle.std.proofs.Common.{◌≡◌, ◌<◌, ◌≤◌, ◌+◌, ◌*◌, ◌^◌, ◌/◌, ◌%◌, ℕ, zero, suc, List, [], ◌∷◌, ◌++◌, length, All}
use Rattle.std.proofs.Common.{Option, Some, None, refl, arith}
use Rattle.std.specs.Prelude.{codes, decimal}
use Rattle.std.proofs.lemmas.List.{length-append}
use Rattle.std.proofs.lemmas.List.Elements.{All-head, All-tail}
use Rattle.std.proofs.lemmas.Fmt.{length-decimal-le_wide}
use Rattle.game_model.specs.Limits.{unit, most_states}
use Rattle.plan_text.specs.Fixed.{fixed, last_digits, unit_digits}
use Rattle.plan_text.specs.Entries.{Entry, IsSmall, IsInRange}
use Rattle.plan_text.specs.Written.{choice_text, behind_space, entry_text, entry_lines, certificate_text}
use Rattle.verdicts.specs.declared.verdict.Verdict.{Verdict}
use Rattle.verdicts.specs.declared.verdict.Verdict.TheVariants.{Yes, No, Undecided, Bracket}
use Rattle.verdicts.specs.declared.report.How.{How}
use Rattle.verdicts.specs.declared.report.How.TheVariants.{Rounds, Steps, Audited, Solved}
use Rattle.verdicts.specs.declared.report.ReportLine.{ReportLine}
use Rattle.verdicts.specs.Report.{HasCount, IsLine, labelled, how_text, ending, line_text, report}

-- 1. Parts of lines.

-- two texts, one behind another
pub joined-short : (m n : ℕ) (front back : List ℕ) → length front ≤ m → length back ≤ n → length (front ++ back) ≤ m + n
joined-short m n front back a b = omega (arith, length-append front back, a, b)

-- a number of at most ten digits
pub decimal-short : (n : ℕ) → n < 10 ^ 10 → length (decimal n) ≤ 10
decimal-short n small = length-decimal-le_wide 10 n (omega arith) small (omega (arith, small))

length-last_digits : (k n : ℕ) → length (last_digits k n) ≡ k
unfolding last_digits
length-last_digits zero n = refl
length-last_digits (suc k) n =
    omega (arith, length-append (last_digits k (n / 10)) ((48 + n % 10) ∷ []), length-last_digits k (n / 10))

-- a value: one digit, a point and the digits of a unit
abbrev value_bytes : ℕ
value_bytes = 2 + unit_digits

fixed-short : (units : ℕ) → length (fixed units) ≤ value_bytes
fixed-short units = omega (arith, length-last_digits unit_digits (units % unit))

-- 2. The line of a state in a report.

how-short : (how : How) → HasCount how → length (how_text how) ≤ 18
how-short (Rounds rounds) small =
    joined-short 8 10 (codes " rounds ") (decimal rounds) (omega arith) (decimal-short rounds (omega arith))
how-short (Steps steps) small =
    joined-short 8 10 (codes " steps ") (decimal steps) (omega arith) (decimal-short steps (omega arith))
how-short Audited small = omega arith
how-short Solved small = omega arith

ending-short : (verdict : Verdict) → length (ending verdict) ≤ 11
ending-short Yes = omega arith
ending-short No = omega arith
ending-short Undecided = omega arith
ending-short Bracket = omega arith

abbrev pub line_bytes : ℕ
line_bytes = 16 + ((7 + value_bytes) + ((7 + value_bytes) + 29))

line-short : (line : ReportLine) → IsLine line → length (line_text line) ≤ line_bytes
line-short line is =
    joined-short 16 ((7 + value_bytes) + ((7 + value_bytes) + 29)) (codes "state " ++ decimal line.state) _
    (joined-short 6 10 (codes "state ") (decimal line.state) (omega arith)
    (decimal-short line.state (omega (arith, is.state))))
    (joined-short (7 + value_bytes) ((7 + value_bytes) + 29) (labelled (codes " lower ") line.lower) _
    (joined-short 7 value_bytes (codes " lower ") (fixed line.lower) (omega arith) (fixed-short line.lower))
    (joined-short (7 + value_bytes) 29 (labelled (codes " upper ") line.upper) _
    (joined-short 7 value_bytes (codes " upper ") (fixed line.upper) (omega arith) (fixed-short line.upper))
    (joined-short 18 11 (how_text line.how) (ending line.verdict) (how-short line.how is.count)
    (ending-short line.verdict))))

-- a report has at most so many bytes for each line
pub report-short : (lines : List ReportLine) → All IsLine lines → length (report lines) ≤ line_bytes * length lines
report-short [] are = omega arith
report-short (line ∷ lines) are =
    omega (
      arith,
      joined-short line_bytes (line_bytes * length lines) (line_text line) (report lines)
          (line-short line (All-head IsLine line lines are)) (report-short lines (All-tail IsLine line lines are)),
    )

-- 3. The line of a state in a certificate.

choice-short : (choice : Option ℕ) → IsSmall choice → length (choice_text choice) ≤ 10
choice-short None small = omega arith
choice-short (Some choice) small = decimal-short choice (omega (arith, small))

-- a field behind a space, and more behind it
spaced : (m n : ℕ) (field more : List ℕ) → length field ≤ m → length more ≤ n
    → length (behind_space field ++ more) ≤ 1 + m + n
spaced m n field more a b = joined-short (1 + m) n (behind_space field) more (omega (arith, a)) b

abbrev pub entry_bytes : ℕ
entry_bytes = 10 + (1 + value_bytes + (1 + 10 + (1 + 10 + (1 + value_bytes + (1 + 10 + 1)))))

entry-short : (s : ℕ) (entry : Entry) → s < 10 ^ 10 → IsInRange entry → length (entry_text s entry) ≤ entry_bytes
entry-short s entry small is =
    joined-short 10 (1 + value_bytes + (1 + 10 + (1 + 10 + (1 + value_bytes + (1 + 10 + 1))))) (decimal s) _
    (decimal-short s small)
    (spaced value_bytes (1 + 10 + (1 + 10 + (1 + value_bytes + (1 + 10 + 1)))) (fixed entry.lower) _
    (fixed-short entry.lower)
    (spaced 10 (1 + 10 + (1 + value_bytes + (1 + 10 + 1))) (choice_text entry.choice) _
    (choice-short entry.choice is.choice)
    (spaced 10 (1 + value_bytes + (1 + 10 + 1)) (decimal entry.rank) _
    (decimal-short entry.rank (omega (arith, is.rank)))
    (spaced value_bytes (1 + 10 + 1) (fixed entry.upper) _ (fixed-short entry.upper)
    (spaced 10 1 (choice_text entry.reply) (codes "\n") (choice-short entry.reply is.reply) (omega arith))))))

-- the lines of so many states, of which the first is s
lines-short : (s : ℕ) (entries : List Entry) → s + length entries ≤ 10 ^ 10 → All IsInRange entries
    → length (entry_lines s entries) ≤ entry_bytes * length entries
lines-short s [] few are = omega arith
lines-short s (entry ∷ entries) few are =
    omega (
      arith,
      joined-short entry_bytes (entry_bytes * length entries) (entry_text s entry) (entry_lines (s + 1) entries)
          (entry-short s entry (omega (arith, few)) (All-head IsInRange entry entries are))
          (lines-short (s + 1) entries (omega (arith, few)) (All-tail IsInRange entry entries are)),
    )

-- a certificate has at most so many bytes for each state of a game, and a first line
pub certificate-short : (entries : List Entry) → length entries ≤ most_states → All IsInRange entries
    → length (certificate_text entries) ≤ 25 + entry_bytes * most_states
certificate-short entries few are =
    joined-short 25 (entry_bytes * most_states) (codes "certificate 2 " ++ (decimal (length entries) ++ codes "\n"))
    (entry_lines 0 entries)
    (joined-short 14 11 (codes "certificate 2 ") (decimal (length entries) ++ codes "\n") (omega arith) (joined-short 10
    1 (decimal (length entries)) (codes "\n") (decimal-short (length entries) (omega (arith, few))) (omega arith)))
    (omega (arith, few, lines-short 0 entries (omega (arith, few)) are))
