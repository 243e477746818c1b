-- The laws of fields: a blank parts a line, and what has none is one field.
use Rattle.std.proofs.Common.{◌≡◌, ◌<◌, ℕ, List, [], ◌∷◌, ◌++◌, length, ap, ◌∙◌, sym, refl, true, false, cond, arith}
use Rattle.std.proofs.Common.{inl, inr}
use Rattle.std.proofs.lemmas.Bool.{cases_Bool}
use Rattle.text_lines.specs.Text.{fields_of, prepend, ends_field, is_blank, is_nil}
use Rattle.text_lines.specs.Laws.{HasNoBlank}
use Rattle.text_lines.proofs.Texts.{begins, field_split, BeginsField}

at_blank : (b : ℕ) (bytes : List ℕ) → is_blank b ≡ true → fields_of (b ∷ bytes) ≡ fields_of bytes
at_blank b bytes h = ap (λ v. cond v (fields_of bytes)
    (cond (ends_field bytes) ((b ∷ []) ∷ fields_of bytes) (prepend (b ∷ []) (fields_of bytes)))) h

ends_at_blank : (front back : List ℕ) (b : ℕ) → is_blank b ≡ true → ends_field (front ++ b ∷ back) ≡ ends_field front
ends_at_blank [] back b h = h
ends_at_blank (c ∷ front) back b h = refl

field_there : (line : List ℕ) → ends_field line ≡ false → is_nil (fields_of line) ≡ false
field_there line h = ap (λ fs. is_nil fs) (field_split line (begin line h))
  where
    begin : (line : List ℕ) → ends_field line ≡ false → BeginsField line
    begin [] h = cc
    begin (b ∷ bytes) h = h

prepend-append : (bytes : List ℕ) (fields more : List (List ℕ)) → is_nil fields ≡ false
    → prepend bytes (fields ++ more) ≡ prepend bytes fields ++ more
prepend-append bytes [] more h = cc
prepend-append bytes (field ∷ fields) more h = refl

-- the same byte in front of both sides
begun : (c : ℕ) (front : List ℕ) (more : List (List ℕ)) → is_blank c ≡ false
    → cond (ends_field front) ((c ∷ []) ∷ (fields_of front ++ more)) (prepend (c ∷ []) (fields_of front ++ more))
    ≡ fields_of (c ∷ front) ++ more
begun c front more h = elim (cases_Bool (ends_field front)) [
  | inl e ↦
      ap (λ v. cond v ((c ∷ []) ∷ (fields_of front ++ more)) (prepend (c ∷ []) (fields_of front ++ more))) e
      ∙ sym (ap (λ fs. fs ++ more)
      (begins c front h ∙ ap (λ v. cond v ((c ∷ []) ∷ fields_of front) (prepend (c ∷ []) (fields_of front))) e))
  | inr e ↦
      ap (λ v. cond v ((c ∷ []) ∷ (fields_of front ++ more)) (prepend (c ∷ []) (fields_of front ++ more))) e
      ∙ prepend-append (c ∷ []) (fields_of front) more (field_there front e)
      ∙ sym (ap (λ fs. fs ++ more)
      (begins c front h ∙ ap (λ v. cond v ((c ∷ []) ∷ fields_of front) (prepend (c ∷ []) (fields_of front))) e))
]

pub fields_of-parted : (front back : List ℕ) (b : ℕ) → is_blank b ≡ true
    → fields_of (front ++ b ∷ back) ≡ fields_of front ++ fields_of back
fields_of-parted [] back b h = at_blank b back h
fields_of-parted (c ∷ front) back b h = elim (cases_Bool (is_blank c)) [
  | inl e ↦ at_blank c (front ++ b ∷ back) e ∙ fields_of-parted front back b h
      ∙ sym (ap (λ fs. fs ++ fields_of back) (at_blank c front e))
  | inr e ↦
      begins c (front ++ b ∷ back) e
      ∙ ap (λ v. cond v ((c ∷ []) ∷ fields_of (front ++ b ∷ back)) (prepend (c ∷ []) (fields_of (front ++ b ∷ back))))
      (ends_at_blank front back b h)
      ∙ ap (λ fs. cond (ends_field front) ((c ∷ []) ∷ fs) (prepend (c ∷ []) fs)) (fields_of-parted front back b h)
      ∙ begun c front (fields_of back) e
]

pub fields_of-field : (field : List ℕ) → HasNoBlank field → 0 < length field → fields_of field ≡ field ∷ []
fields_of-field [] h some = absurd (omega arith)
fields_of-field (b ∷ []) h some = begins b [] h.0
fields_of-field (b ∷ c ∷ field) h some =
    begins b (c ∷ field) h.0
    ∙ ap (λ v. cond v ((b ∷ []) ∷ fields_of (c ∷ field)) (prepend (b ∷ []) (fields_of (c ∷ field)))) h.1.0
    ∙ ap (λ fs. prepend (b ∷ []) fs) (fields_of-field (c ∷ field) h.1 (omega arith))
