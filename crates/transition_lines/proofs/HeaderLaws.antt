-- A header that is read is one that its line spells, and the other way round.
use Rattle.std.proofs.Common.{◌≡◌, ◌∙◌, ◌<◌, ◌≤◌, inl, inr, ℕ, ◌==◌, ◌||◌, false, cond, List, [], ◌∷◌, map, Option}
use Rattle.std.proofs.Common.{Some, None, Ok, Err, refl, sym, ap, ap₂, subst, arith, nat_lt}
use Rattle.std.proofs.lemmas.Bool.{or_parts, ne_eqb, le-ltb, ltb-false}
use Rattle.std.proofs.lemmas.Bool.Decides.{nat_tests}
use Rattle.std.specs.Option.{option_map_or, ForSome}
use Rattle.text_lines.specs.Text.{fields_of, number_of}
use Rattle.game_model.specs.Limits.{most_states}
use Rattle.transition_lines.specs.declared.header.Header.{Header}
use Rattle.transition_lines.specs.declared.fault.TraCause.TheVariants.{OverLimit, NoStates}
use Rattle.transition_lines.specs.Limits.{most_stated_choices, most_lines}
use Rattle.transition_lines.specs.Lines.{IsHeader, header_numbers, header_checked, mdp_header, dtmc_header, header_said}
use Rattle.numerals.proofs.Grammar.{chosen}

-- numbers that a header accepts
record Accepts (n : ℕ) (c : Option ℕ) (m : ℕ) (header : Header) : Type 0 where
  is : header ≡ record { states = n; choices = c; lines = m }
  some : 0 < n
  few : n ≤ most_states
  bounded : ForSome c (λ k. k ≤ most_stated_choices)
  short : m ≤ most_lines

bounded_from : (c : Option ℕ) → option_map_or (nat_lt most_stated_choices) c false ≡ false
    → ForSome c (λ k. k ≤ most_stated_choices)
bounded_from None e k is = cc
bounded_from (Some d) e k is = let same : d ≡ k = cc in omega (arith, same, ltb-false most_stated_choices d e)

bounded_test : (c : Option ℕ) → ForSome c (λ k. k ≤ most_stated_choices)
    → option_map_or (nat_lt most_stated_choices) c false ≡ false
bounded_test None h = refl
bounded_test (Some d) h = le-ltb most_stated_choices d (h d refl)

not_nought : (n : ℕ) → (n == 0) ≡ false → 0 < n
not_nought n e = grind (arith, nat_tests)

checked_found : (n : ℕ) (c : Option ℕ) (m : ℕ) (header : Header) → header_checked n c m ≡ Ok header
    → Accepts n c m header
checked_found n c m header e =
    elim (chosen (nat_lt most_states n || (option_map_or (nat_lt most_stated_choices) c false || nat_lt most_lines m))
    (Err OverLimit) (cond (n == 0) (Err NoStates) (Ok (record { states = n; choices = c; lines = m }))) (Ok header) e) [
      | inl over ↦ cc over.1
      | inr within ↦
          elim (chosen (n == 0) (Err NoStates) (Ok (record { states = n; choices = c; lines = m }))
          (Ok header) within.1) [
            | inl none ↦ cc none.1
            | inr some ↦
                let first = or_parts (nat_lt most_states n)
                (option_map_or (nat_lt most_stated_choices) c false || nat_lt most_lines m) within.0 in
                let second =
                or_parts (option_map_or (nat_lt most_stated_choices) c false) (nat_lt most_lines m) first.1 in
                record {
                  is = cc some.1;
                  some = not_nought n some.0;
                  few = ltb-false most_states n first.0;
                  bounded = bounded_from c second.0;
                  short = ltb-false most_lines m second.1;
                }
          ]
    ]

checked_again : (n : ℕ) (c : Option ℕ) (m : ℕ) → 0 < n → n ≤ most_states → ForSome c (λ k. k ≤ most_stated_choices)
    → m ≤ most_lines → header_checked n c m ≡ Ok (record { states = n; choices = c; lines = m })
checked_again n c m some few bounded short =
    ap (λ b. cond (b || (option_map_or (nat_lt most_stated_choices) c false || nat_lt most_lines m)) (Err OverLimit)
    (cond (n == 0) (Err NoStates) (Ok (record { states = n; choices = c; lines = m })))) (le-ltb most_states n few)
    ∙ ap (λ b. cond (b || nat_lt most_lines m) (Err OverLimit)
    (cond (n == 0) (Err NoStates) (Ok (record { states = n; choices = c; lines = m })))) (bounded_test c bounded)
    ∙ ap (λ b. cond b (Err OverLimit)
    (cond (n == 0) (Err NoStates) (Ok (record { states = n; choices = c; lines = m })))) (le-ltb most_lines m short)
    ∙ ap (λ b. cond b (Err NoStates) (Ok (record { states = n; choices = c; lines = m })))
    (ne_eqb n 0 (λ e. omega (arith, e, some)))

header_is : (line : List ℕ) (n : ℕ) (c : Option ℕ) (m : ℕ) (header : Header)
    → map number_of (fields_of line) ≡ map Some (header_numbers n c m) → Accepts n c m header → IsHeader line header
header_is line n c m header numbers is =
    let P : Header → Type 0 = λ h. IsHeader line h in
    subst P (sym is.is)
    (record { numbers = numbers; some = is.some; few = is.few; bounded = is.bounded; short = is.short })

dtmc_found : (line a b : List ℕ) (header : Header) (x y : Option ℕ) → fields_of line ≡ a ∷ b ∷ [] → number_of a ≡ x
    → number_of b ≡ y → dtmc_header x y ≡ Ok header → IsHeader line header
dtmc_found line a b header None y f p q e = cc
dtmc_found line a b header (Some n) None f p q e = cc
dtmc_found line a b header (Some n) (Some m) f p q e =
    header_is line n None m header (ap (λ fs. map number_of fs) f ∙ ap₂ (λ x y. x ∷ y ∷ []) p q)
    (checked_found n None m header e)

mdp_found : (line a b d : List ℕ) (header : Header) (x y z : Option ℕ) → fields_of line ≡ a ∷ b ∷ d ∷ []
    → number_of a ≡ x → number_of b ≡ y → number_of d ≡ z → mdp_header x y z ≡ Ok header → IsHeader line header
mdp_found line a b d header None y z f p q r e = cc
mdp_found line a b d header (Some n) None z f p q r e = cc
mdp_found line a b d header (Some n) (Some c) None f p q r e = cc
mdp_found line a b d header (Some n) (Some c) (Some m) f p q r e =
    header_is line n (Some c) m header
    (ap (λ fs. map number_of fs) f ∙ ap₂ (λ x y. x ∷ y ∷ number_of d ∷ []) p q ∙ ap (λ z. Some n ∷ Some c ∷ z ∷ []) r)
    (checked_found n (Some c) m header e)

pub header_found : (line : List ℕ) (fields : List (List ℕ)) (header : Header) → fields_of line ≡ fields
    → header_said fields ≡ Ok header → IsHeader line header
header_found line [] header f e = cc
header_found line (a ∷ []) header f e = cc
header_found line (a ∷ b ∷ []) header f e = dtmc_found line a b header (number_of a) (number_of b) f refl refl e
header_found line (a ∷ b ∷ d ∷ []) header f e =
    mdp_found line a b d header (number_of a) (number_of b) (number_of d) f refl refl refl e
header_found line (a ∷ b ∷ d ∷ g ∷ fields) header f e = cc

fields_again : (fields : List (List ℕ)) (n : ℕ) (c : Option ℕ) (m : ℕ)
    → map number_of fields ≡ map Some (header_numbers n c m) → header_said fields ≡ header_checked n c m
fields_again [] n None m e = cc
fields_again [] n (Some c) m e = cc
fields_again (a ∷ []) n None m e = cc
fields_again (a ∷ []) n (Some c) m e = cc
fields_again (a ∷ b ∷ []) n (Some c) m e = cc
fields_again (a ∷ b ∷ []) n None m e =
    let p : number_of a ≡ Some n = cc in
    let q : number_of b ≡ Some m = cc in
    ap₂ (λ x y. dtmc_header x y) p q
fields_again (a ∷ b ∷ d ∷ []) n None m e = cc
fields_again (a ∷ b ∷ d ∷ []) n (Some c) m e =
    let p : number_of a ≡ Some n = cc in
    let q : number_of b ≡ Some c = cc in
    let r : number_of d ≡ Some m = cc in
    ap₂ (λ x y. mdp_header x y (number_of d)) p q ∙ ap (λ z. mdp_header (Some n) (Some c) z) r
fields_again (a ∷ b ∷ d ∷ g ∷ fields) n None m e = cc
fields_again (a ∷ b ∷ d ∷ g ∷ fields) n (Some c) m e = cc

pub header_again : (line : List ℕ) (header : Header) → IsHeader line header → header_said (fields_of line) ≡ Ok header
header_again line header is = fields_again (fields_of line) header.states header.choices header.lines is.numbers
    ∙ checked_again header.states header.choices header.lines is.some is.few is.bounded is.short
