-- A blank line is no state and numbers.
use Rattle.std.proofs.Common.{◌≡◌, ℕ, suc, Bool, true, false, cond, List, [], ◌∷◌, length, Some, None, Err, ap, ◌∙◌}
use Rattle.std.proofs.Common.{refl, arith, eqb, ltb}
use Rattle.std.specs.Option.{option_map}
use Rattle.std.specs.List.{position_or_len}
use Rattle.std.proofs.lemmas.Bool.Decides.{nat_tests}
use Rattle.text_lines.specs.Text.{fields_of, is_blank, ends_field, prepend}
use Rattle.label_lines.specs.declared.kind.FileKind.{FileKind}
use Rattle.label_lines.specs.declared.faults.LabCause.TheVariants.{BadField}
use Rattle.label_lines.specs.Header.{Item}
use Rattle.text_lines.specs.Parts.{split_first, parted_at}
use Rattle.label_lines.specs.Lines.{StateLine, line_parts, known_line, add_line}
use Rattle.label_lines.proofs.Splits.{place_behind}
use Rattle.label_reader.proofs.Bodies.{add_line-unknown}

-- each byte of a line with no field is a blank
blank_first : (b : ℕ) (bytes : List ℕ) → fields_of (b ∷ bytes) ≡ [] → (is_blank b ≡ true) × (fields_of bytes ≡ [])
blank_first b bytes h = by (is_blank b) (ends_field bytes) (fields_of bytes) h
  where
    by : (v e : Bool) (fields : List (List ℕ))
        → cond v fields (cond e ((b ∷ []) ∷ fields) (prepend (b ∷ []) fields)) ≡ [] → (v ≡ true) × (fields ≡ [])
    by true e fields g = (refl, g)
    by false true fields g = cc
    by false false [] g = cc
    by false false (field ∷ fields) g = cc

no_colon : (b : ℕ) → is_blank b ≡ true → eqb b 58 ≡ false
no_colon b h = grind (arith, nat_tests, h)

-- a line with no field has no colon
place_of_colon : (line : List ℕ) → fields_of line ≡ [] → position_or_len (λ b. eqb b 58) line ≡ length line
place_of_colon [] h = refl
place_of_colon (b ∷ bytes) h =
    let first = blank_first b bytes h in
    place_behind 58 b bytes (no_colon b first.0) ∙ ap (λ k. suc k) (place_of_colon bytes first.1)

not_below : (n : ℕ) → ltb n n ≡ false
not_below n = grind (arith, nat_tests)

split_first-blank : (line : List ℕ) → fields_of line ≡ [] → split_first 58 line ≡ None
split_first-blank line h =
    ap (λ k. option_map (parted_at line) (cond (ltb k (length line)) (Some k) None)) (place_of_colon line h)
    ∙ ap (λ v. option_map (parted_at line) (cond v (Some (length line)) None)) (not_below (length line))

-- a blank line is refused
pub add_line-blank : (kind : FileKind) (n : ℕ) (items : List Item) (read : List StateLine) (line : List ℕ)
    → fields_of line ≡ [] → add_line kind n items read line ≡ Err BadField
add_line-blank kind n items read line h = add_line-unknown kind n items read line BadField
    (ap (λ p. known_line n items (line_parts p)) (split_first-blank line h))
