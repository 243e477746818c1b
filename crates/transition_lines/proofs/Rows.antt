-- Rows behind one another.
use Rattle.std.proofs.Common.{◌≡◌, ◌∙◌, ◌<◌, ℕ, suc, zero, ◌+◌, ◌*◌, ◌==◌, ◌&&◌, Bool, false, not, cond, List, [], ◌∷◌}
use Rattle.std.proofs.Common.{length, Option, option_map, slice_get, Ok, Err, refl, ap, ap₂, arith, nat_lt}
use Rattle.std.proofs.lemmas.Bool.Decides.{nat_tests}
use Rattle.std.specs.List.{filter, All}
use Rattle.std.specs.Option.{option_map_or}
use Rattle.std.specs.Str.{bytes_eq}
use Rattle.std.proofs.lemmas.Bool.{lt-ltb}
use Rattle.text_lines.specs.Text.{is_nil}
use Rattle.transition_lines.specs.Limits.{most_stated_choices}
use Rattle.transition_lines.specs.declared.header.Header.{Header}
use Rattle.transition_lines.specs.declared.fault.TraCause.TheVariants.{FieldCount, LineCount, ActionClash}
use Rattle.transition_lines.specs.Lines.{Row, is_of, first_action, clashes, row_said, action_checked, line_said}
use Rattle.transition_lines.specs.Order.{IsWithin, has, place_of}
use Rattle.transition_lines.specs.Answers.{row_place, action_at, clashes_at}

pub same_place : (s c i k : ℕ) → c < 4000000 → k < 4000000
    → ((s == i) && (c == k)) ≡ ((4000000 * s + c) == (4000000 * i + k))
same_place s c i k h g = grind (arith, nat_tests)

-- the rows of a choice are those at its place
filter_rows : (n : ℕ) (rows : List Row) (i k : ℕ)
    → All (λ (row : Row). IsWithin n row.transition) rows → k < most_stated_choices
    → filter (λ (row : Row). is_of i k row.transition) rows ≡ filter (has row_place (place_of i k)) rows
filter_rows n [] i k all h = refl
filter_rows n (row ∷ rows) i k all h = ap₂ (λ b rs. cond b (row ∷ rs) rs)
    (same_place row.transition.source row.transition.choice i k ((all zero row (omega arith)).choice_in) h)
    (filter_rows n rows i k (λ j d g. all (suc j) d (omega arith)) h)

pub first_at : (n : ℕ) (rows : List Row) (i k : ℕ) → All (λ (row : Row). IsWithin n row.transition) rows
    → k < most_stated_choices → first_action rows i k ≡ action_at rows (place_of i k)
first_at n rows i k all h =
    ap (λ rs. option_map (λ (row : Row). row.action) (slice_get rs 0)) (filter_rows n rows i k all h)

-- a row clashes with the first of its choice exactly where it clashes with the first at its place
pub clashes_is : (n : ℕ) (rows : List Row) (row : Row) → All (λ (r : Row). IsWithin n r.transition) rows
    → row.transition.choice < most_stated_choices → clashes rows row ≡ clashes_at rows row
clashes_is n rows row all h =
    ap (λ (o : Option (List ℕ)). option_map_or (λ action. not (bytes_eq action row.action)) o false)
    (first_at n rows row.transition.source row.transition.choice all h)

-- what a line says where its fields say a row
pub said_with : (header : Header) (before : List Row) (fields : List (List ℕ)) (row : Row) (b : Bool)
    → is_nil fields ≡ false → length before < header.lines → row_said header fields ≡ Ok row → clashes before row ≡ b
    → line_said header before fields ≡ cond b (Err (ActionClash row.transition.source row.transition.choice)) (Ok row)
said_with header before fields row b some room is e =
    ap (λ t. cond t (Err FieldCount) (cond (nat_lt (length before) header.lines)
    (action_checked before (row_said header fields)) (Err (LineCount (header.lines + 1) header.lines)))) some
    ∙ ap (λ t. cond t (action_checked before (row_said header fields))
    (Err (LineCount (header.lines + 1) header.lines))) (lt-ltb (length before) header.lines room)
    ∙ ap (λ r. action_checked before r) is
    ∙ ap (λ t. cond t (Err (ActionClash row.transition.source row.transition.choice)) (Ok row)) e
