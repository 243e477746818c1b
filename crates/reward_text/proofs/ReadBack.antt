-- A certificate of rewards that was written is read back, also behind other lines.
use Rattle.std.proofs.Common.{◌≡◌, ◌∙◌, ◌≤◌, ◌<◌, ◌+◌, ◌^◌, ℕ, List, [], ◌∷◌, ◌++◌, length, Option, Result, Some, Ok}
use Rattle.std.proofs.Common.{ap}
use Rattle.std.proofs.Common.{sym, arith, append_assoc}
use Rattle.std.specs.Prelude.{All, codes, decimal}
use Rattle.std.proofs.lemmas.List.Elements.{All-nil, All-cons, All-tail}
use Rattle.game_model.specs.Limits.{most_states}
use Rattle.text_lines.specs.Text.{lines_of, fields_of, number_of}
use Rattle.text_lines.proofs.NumberLaws.{number_of-decimal}
use Rattle.plan_text.specs.declared.fault.PlanFault.{PlanFault}
use Rattle.plan_text.specs.Fixed.{unit_digits}
use Rattle.plan_text.specs.Written.{entry_lines_by}
use Rattle.plan_text.specs.Said.{begins_with, is_in_range_by, judged_by}
use Rattle.plan_text.specs.Laws.{IsPassedOverBy, as_lines}
use Rattle.plan_text.proofs.WrittenFields.{spaced, fields_of-spaced, lines_of-spaced, IsField, IsField-decimal}
use Rattle.plan_text.proofs.EntriesReadBack.{entry_line, entry_in-written, not_blank-entry_line, lines_of-entry_text}
use Rattle.plan_text.proofs.LinesReadBack.{SayEntries, written_lines, lines_of-entry_lines, significant-written}
use Rattle.plan_text.proofs.LinesReadBack.{entries_from-written, read_behind}
use Rattle.reward_values.specs.Values.{IsValue, value_text}
use Rattle.reward_text.specs.Values.{value_in, is_value}
use Rattle.reward_text.specs.Entries.{RewardEntry, RewardCertificate, IsRewardEntry, AreBounds}
use Rattle.reward_text.specs.Written.{reward_entry_text, reward_certificate_text}
use Rattle.reward_text.specs.Said.{with_bounds, reward_line_said, reward_header_said, numbers_said, with_places}
use Rattle.reward_text.specs.Said.{rewards_behind, rewards_said}
use Rattle.reward_text.proofs.Bounds.{with_bounds-told, in_range-said}
use Rattle.reward_text.proofs.Headings.{numbers-told}
use Rattle.reward_text.proofs.Values.{values}

-- 1. The line of a state.

-- an entry that can be written and read back
abbrev IsWhole : RewardEntry → Type 0
IsWhole entry = IsRewardEntry entry × AreBounds entry.lower entry.upper

abbrev Bounded : RewardEntry → Type 0
Bounded entry = AreBounds entry.lower entry.upper

whole : (entries : List RewardEntry) → All IsRewardEntry entries → All Bounded entries → All IsWhole entries
whole [] are bounded = All-nil IsWhole
whole (entry ∷ entries) are bounded = All-cons IsWhole entry entries
    (are 0 entry (omega arith), bounded 0 entry (omega arith))
    (whole entries (All-tail IsRewardEntry entry entries are) (All-tail Bounded entry entries bounded))

line_said-written : (places s : ℕ) (entry : RewardEntry) → s < 2 ^ 64 → IsWhole entry
    → reward_line_said places s (entry_line (value_text places) s entry) ≡ Ok entry
line_said-written places s entry small is =
    ap (λ e. judged_by (is_in_range_by is_value) (with_bounds e))
    (entry_in-written (Option ℕ) (value_text places) (value_in places) IsValue (values places) s entry small is.0)
    ∙ ap (λ e. judged_by (is_in_range_by is_value) e) (with_bounds-told entry is.1)
    ∙ in_range-said entry is.0

lines : (places : ℕ) → SayEntries RewardEntry (entry_line (value_text places)) (reward_entry_text places)
    (reward_line_said places) IsWhole
lines places = record {
  alone = λ s entry rest small is. lines_of-entry_text (Option ℕ) (value_text places) (value_in places) IsValue
      (values places) s entry rest small is.0;
  some = λ s entry small is. not_blank-entry_line (Option ℕ) (value_text places) (value_in places) IsValue
      (values places) s entry small is.0;
  says = line_said-written places;
}

-- 2. The first line.

heading : ℕ → ℕ → List ℕ
heading places n = spaced (codes "rewards") (codes "1" ∷ decimal places ∷ decimal n ∷ [])

IsField-rewards : IsField (codes "rewards")
IsField-rewards = record { printed = search arith; some = omega arith }

IsField-version : IsField (codes "1")
IsField-version = record { printed = search arith; some = omega arith }

fields_of-heading : (places n : ℕ) → places ≤ unit_digits → n ≤ most_states
    → fields_of (heading places n) ≡ codes "rewards" ∷ codes "1" ∷ decimal places ∷ decimal n ∷ []
unfolding heading
fields_of-heading places n few small =
    fields_of-spaced (codes "rewards") (codes "1" ∷ decimal places ∷ decimal n ∷ []) IsField-rewards
    (IsField-version, (IsField-decimal places (omega (arith, few)), (IsField-decimal n (omega (arith, small)), tt)))

header_said-heading : (places n : ℕ) → places ≤ unit_digits → n ≤ most_states
    → reward_header_said n (fields_of (heading places n)) ≡ Ok places
header_said-heading places n few small =
    ap (λ fields. reward_header_said n fields) (fields_of-heading places n few small)
    ∙ ap (λ p. numbers_said n (codes "1") p (number_of (decimal n))) (number_of-decimal places (omega (arith, few)))
    ∙ ap (λ m. numbers_said n (codes "1") (Some places) m) (number_of-decimal n (omega (arith, small)))
    ∙ numbers-told n places few

-- the numbers of the first line, with its ending behind them
in_order : (a b rest : List ℕ) → (a ++ (32 ∷ (b ++ 10 ∷ []))) ++ rest ≡ (a ++ 32 ∷ b) ++ 10 ∷ rest
in_order a b rest = simp append_assoc

lines_of-text : (places : ℕ) (entries : List RewardEntry) → places ≤ unit_digits → length entries ≤ most_states
    → All IsWhole entries → lines_of (reward_certificate_text places entries)
    ≡ heading places (length entries) ∷ written_lines (entry_line (value_text places)) 0 entries
unfolding heading spaced
lines_of-text places entries few small are =
    let n = length entries in
    let rest = entry_lines_by (reward_entry_text places) 0 entries in
    ap (λ t. lines_of (codes "rewards 1 " ++ t)) (in_order (decimal places) (decimal n) rest)
    ∙ lines_of-spaced (codes "rewards") (codes "1" ∷ decimal places ∷ decimal n ∷ []) rest IsField-rewards
    (IsField-version, (IsField-decimal places (omega (arith, few)), (IsField-decimal n (omega (arith, small)), tt)))
    ∙ ap (λ ls. heading places n ∷ ls)
    (lines_of-entry_lines RewardEntry (entry_line (value_text places)) (reward_entry_text places)
    (reward_line_said places) IsWhole (lines places) 0 entries (omega (arith, small)) are)

abbrev made : ℕ → List RewardEntry → RewardCertificate
made places entries = record { places = places; entries = entries }

read_whole : (passed : List (List ℕ)) (places : ℕ) (entries : List RewardEntry)
    → All (IsPassedOverBy (codes "rewards")) passed → places ≤ unit_digits → length entries ≤ most_states
    → All IsWhole entries
    → rewards_said (as_lines passed ++ reward_certificate_text places entries) (length entries)
    ≡ Ok (made places entries)
read_whole passed places entries are few small in_range =
    let n = length entries in
    let own = written_lines (entry_line (value_text places)) 0 entries in
    read_behind RewardCertificate (codes "rewards") (rewards_behind n) passed (reward_certificate_text places entries)
    (heading places n) own (made places entries) are (lines_of-text places entries few small in_range)
    (ap (λ fields. begins_with (codes "rewards") fields) (fields_of-heading places n few small))
    (significant-written RewardEntry (entry_line (value_text places)) (reward_entry_text places)
    (reward_line_said places) IsWhole (lines places) 0 entries (omega (arith, small)) in_range)
    (λ number. rw (header_said-heading places n few small) (ap (λ r. with_places places r)
    (entries_from-written RewardEntry (entry_line (value_text places)) (reward_entry_text places)
    (reward_line_said places) IsWhole (lines places) n (number + 1) [] entries (omega arith) small in_range)))

pub read_back : (passed : List (List ℕ)) (places : ℕ) (entries : List RewardEntry)
    → All (IsPassedOverBy (codes "rewards")) passed → places ≤ unit_digits → length entries ≤ most_states
    → All IsRewardEntry entries → All Bounded entries
    → rewards_said (as_lines passed ++ reward_certificate_text places entries) (length entries)
    ≡ Ok (record { places = places; entries = entries })
read_back passed places entries are few small in_range bounded =
    read_whole passed places entries are few small (whole entries in_range bounded)

-- 3. The first line tells how many places and states there are.

same_heading : (m places d n : ℕ) → places ≤ unit_digits → d ≤ unit_digits → m ≤ most_states → n ≤ most_states
    → heading places m ≡ heading d n → m ≡ n
same_heading m places d n few few_d small small_n same =
    let fields = sym (fields_of-heading places m few small) ∙ ap fields_of same
    ∙ fields_of-heading d n few_d small_n in
    let written : decimal m ≡ decimal n = cc in
    let read : Some m ≡ Some n = sym (number_of-decimal m (omega (arith, small))) ∙ ap number_of written
    ∙ number_of-decimal n (omega (arith, small_n)) in
    cc

pub one_reading : (places d : ℕ) (entries others : List RewardEntry) → places ≤ unit_digits → d ≤ unit_digits
    → length entries ≤ most_states → length others ≤ most_states
    → All IsRewardEntry entries → All Bounded entries → All IsRewardEntry others → All Bounded others
    → reward_certificate_text places entries ≡ reward_certificate_text d others
    → (places ≡ d) × (entries ≡ others)
one_reading places d entries others few few_d small small_others in_range bounded others_in_range others_bounded same =
    let told = sym (lines_of-text places entries few small (whole entries in_range bounded)) ∙ ap lines_of same
    ∙ lines_of-text d others few_d small_others (whole others others_in_range others_bounded) in
    let first : heading places (length entries) ≡ heading d (length others) = cc in
    let many : length entries ≡ length others =
    same_heading (length entries) places d (length others) few few_d small small_others first in
    parts (sym (read_whole [] places entries (All-nil (IsPassedOverBy (codes "rewards"))) few small
    (whole entries in_range bounded))
    ∙ ap (λ t. rewards_said t (length entries)) same
    ∙ ap (λ n. rewards_said (reward_certificate_text d others) n) many
    ∙ read_whole [] d others (All-nil (IsPassedOverBy (codes "rewards"))) few_d small_others
    (whole others others_in_range others_bounded))
  where
    ok-one : (a b : RewardCertificate) → ◌≡◌ {A = Result RewardCertificate PlanFault} (Ok a) (Ok b) → a ≡ b
    ok-one a b e = cc

    parts : ◌≡◌ {A = Result RewardCertificate PlanFault} (Ok (made places entries)) (Ok (made d others))
        → (places ≡ d) × (entries ≡ others)
    parts e =
        let is = ok-one (made places entries) (made d others) e in
        (ap (λ (c : RewardCertificate). c.places) is, ap (λ (c : RewardCertificate). c.entries) is)
