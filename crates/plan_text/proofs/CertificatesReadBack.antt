-- A certificate that was written is read back, also behind other lines.
use Rattle.std.proofs.Common.{◌≡◌, ◌∙◌, ◌≤◌, ◌<◌, ◌+◌, ◌^◌, ℕ, List, [], ◌∷◌, ◌++◌, length, Ok, true, refl, ap, sym}
use Rattle.std.proofs.Common.{arith, append_assoc}
use Rattle.std.specs.Prelude.{◌==◌, All, codes, decimal}
use Rattle.std.proofs.lemmas.Bool.Decides.{nat_tests}
use Rattle.std.proofs.lemmas.List.{append_cancel_left}
use Rattle.std.proofs.lemmas.List.Elements.{All-nil}
use Rattle.std.proofs.lemmas.Fmt.{decimal_injective}
use Rattle.game_model.specs.Limits.{unit, most_states}
use Rattle.text_lines.specs.Text.{lines_of, fields_of}
use Rattle.text_lines.proofs.NumberLaws.{number_of-decimal}
use Rattle.plan_text.specs.declared.version.Version.TheVariants.{Two}
use Rattle.plan_text.specs.Fixed.{fixed}
use Rattle.plan_text.specs.Entries.{Entry, IsInRange}
use Rattle.plan_text.specs.Written.{entry_text, entry_lines, certificate_text}
use Rattle.plan_text.specs.Said.{units_of, judged, line_said, header_said, said_behind, entries_said}
use Rattle.plan_text.specs.Laws.{IsPassedOver, as_lines}
use Rattle.plan_text.proofs.WrittenFields.{spaced, fields_of-spaced, lines_of-spaced, IsField, IsField-decimal}
use Rattle.plan_text.proofs.WrittenFields.{IsField-fixed}
use Rattle.plan_text.proofs.FieldsReadBack.{units_of-fixed}
use Rattle.plan_text.proofs.EntriesReadBack.{AreReadBack, entry_line, entry_in-written, not_blank-entry_line}
use Rattle.plan_text.proofs.EntriesReadBack.{lines_of-entry_text}
use Rattle.plan_text.proofs.LinesReadBack.{SayEntries, written_lines, lines_of-entry_lines, significant-written}
use Rattle.plan_text.proofs.LinesReadBack.{entries_from-written, read_behind}
use Rattle.plan_text.proofs.LinesSaid.{judged-in_range}

-- 1. The line of a state.

values : AreReadBack ℕ fixed (units_of Two) (λ value. value ≤ unit)
values = record { field = λ value within. IsField-fixed value; back = units_of-fixed }

line_said-written : (s : ℕ) (entry : Entry) → s < 2 ^ 64 → IsInRange entry
    → line_said Two s (entry_line fixed s entry) ≡ Ok entry
line_said-written s entry small is =
    ap (λ e. judged e) (entry_in-written ℕ fixed (units_of Two) (λ value. value ≤ unit) values s entry small is)
    ∙ judged-in_range entry is

lines : SayEntries Entry (entry_line fixed) entry_text (line_said Two) IsInRange
lines = record {
  alone = lines_of-entry_text ℕ fixed (units_of Two) (λ value. value ≤ unit) values;
  some = not_blank-entry_line ℕ fixed (units_of Two) (λ value. value ≤ unit) values;
  says = line_said-written;
}

-- 2. The first line of a certificate.

heading : ℕ → List ℕ
heading n = spaced (codes "certificate") (codes "2" ∷ decimal n ∷ [])

IsField-certificate : IsField (codes "certificate")
IsField-certificate = record { printed = search arith; some = omega arith }

IsField-version : IsField (codes "2")
IsField-version = record { printed = search arith; some = omega arith }

fields_of-heading : (n : ℕ) → n ≤ most_states → fields_of (heading n) ≡ codes "certificate" ∷ codes "2" ∷ decimal n ∷ []
unfolding heading
fields_of-heading n few = fields_of-spaced (codes "certificate") (codes "2" ∷ decimal n ∷ []) IsField-certificate
    (IsField-version, (IsField-decimal n (omega arith), tt))

header_said-heading : (n : ℕ) → n ≤ most_states → header_said n (fields_of (heading n)) ≡ Ok Two
header_said-heading n few =
    let same : (n == n) ≡ true = grind (arith, nat_tests) in
    rw (fields_of-heading n few, number_of-decimal n (omega arith), same) refl

lines_of-certificate_text : (entries : List Entry) → length entries ≤ most_states → All IsInRange entries
    → lines_of (certificate_text entries) ≡ heading (length entries) ∷ written_lines (entry_line fixed) 0 entries
unfolding heading spaced
lines_of-certificate_text entries few are =
    let n = length entries in
    ap (λ t. lines_of (codes "certificate 2 " ++ t)) (append_assoc (decimal n) (codes "\n") (entry_lines 0 entries))
    ∙ lines_of-spaced (codes "certificate") (codes "2" ∷ decimal n ∷ []) (entry_lines 0 entries) IsField-certificate
    (IsField-version, (IsField-decimal n (omega arith), tt))
    ∙ ap (λ ls. heading n ∷ ls)
    (lines_of-entry_lines Entry (entry_line fixed) entry_text (line_said Two) IsInRange lines 0 entries (omega arith)
    are)

pub read_back : (passed : List (List ℕ)) (entries : List Entry) → All IsPassedOver passed
    → length entries ≤ most_states → All IsInRange entries
    → entries_said (as_lines passed ++ certificate_text entries) (length entries) ≡ Ok entries
read_back passed entries are few in_range =
    let n = length entries in
    let own = written_lines (entry_line fixed) 0 entries in
    read_behind (List Entry) (codes "certificate") (said_behind n) passed (certificate_text entries) (heading n) own
    entries are (lines_of-certificate_text entries few in_range) (rw (fields_of-heading n few) refl)
    (significant-written Entry (entry_line fixed) entry_text (line_said Two) IsInRange lines 0 entries (omega arith)
    in_range)
    (λ number. rw (header_said-heading n few)
    (entries_from-written Entry (entry_line fixed) entry_text (line_said Two) IsInRange lines n (number + 1) [] entries
    (omega arith) few in_range))

-- 3. The first line tells how many states there are.

heading-one : (m n : ℕ) → m ≤ most_states → n ≤ most_states → heading m ≡ heading n → m ≡ n
unfolding heading spaced
heading-one m n few few_n same = decimal_injective m n (omega arith) (omega arith)
    (append_cancel_left (codes "certificate 2 ") (decimal m) (decimal n) same)

pub one_reading : (entries others : List Entry) → length entries ≤ most_states
    → length others ≤ most_states → All IsInRange entries → All IsInRange others
    → certificate_text entries ≡ certificate_text others → entries ≡ others
one_reading entries others few few_others in_range others_in_range same =
    let told = sym (lines_of-certificate_text entries few in_range) ∙ ap lines_of same
    ∙ lines_of-certificate_text others few_others others_in_range in
    let many : length entries ≡ length others = heading-one (length entries) (length others) few few_others (cc) in
    let read : Ok entries ≡ Ok others =
    sym (read_back [] entries (All-nil IsPassedOver) few in_range)
    ∙ ap (λ t. entries_said t (length entries)) same
    ∙ ap (λ n. entries_said (certificate_text others) n) many
    ∙ read_back [] others (All-nil IsPassedOver) few_others others_in_range in
    cc
