-- A bound that is read is derived by the rules.
use Rattle.std.proofs.Common.{◌≡◌, ◌∙◌, inl, inr, ℕ, List, [], ◌∷◌, true, cond, Result, Ok, Err, refl, ap, sym, subst}
use Rattle.std.proofs.Common.{nat_lt}
use Rattle.std.specs.Prelude.{codes, bytes_eq, ◌||◌}
use Rattle.fractions.specs.Fraction.{Fraction}
use Rattle.fractions.specs.Number.{number_said}
use Rattle.fractions.specs.declared.number.NumberFault.{NumberFault}
use Rattle.fractions.specs.declared.number.NumberFault.TheVariants.{NotANumber, TooManyDigits, ZeroDenominator}
use Rattle.fractions.specs.declared.number.NumberFault.TheVariants.{TooFine, TooLarge}
use Rattle.fractions.proofs.Said.{number-found}
use Rattle.formula_tokens.specs.declared.fault.FormulaCause.TheVariants.{Unexpected, ThresholdOutOfRange, AskInside}
use Rattle.formula_reader.specs.declared.formula.Bound.{Bound}
use Rattle.formula_reader.specs.declared.formula.Bound.TheVariants.{AtLeast, Above, AtMost, Below, AskMax, AskMin}
use Rattle.formula_tokens.specs.Fault.{◌>>=◌}
use Rattle.formula_tokens.specs.Tokens.{Tokens, Then, Token}
use Rattle.formula_reader.specs.Grammar.{threshold_of, threshold, compared}
use Rattle.formula_tokens.specs.Reading.{next, behind, is, is_number, fails}
use Rattle.formula_reader.specs.Grammar.{comparison, asked, bound, inner_bound}
use Rattle.formula_reader.specs.Rules.{IsThreshold, IsComparison, IsBound, Compares}
use Rattle.formula_tokens.proofs.Spans.{Found, same_read, chosen, bind_ok, next_ok, behind_ok, same_bytes}
use Rattle.formula_reader.proofs.Orders.{le_from}

threshold_found : (token : Token) (p : Fraction) → threshold token ≡ Ok p → IsThreshold token.spelling p
threshold_found token p e =
    elim (chosen (is_number token.spelling) (threshold_of token (number_said token.spelling))
    (fails token Unexpected) (Ok p) e) [
      | inr f ↦ cc f.1
      | inl t ↦ by_number (number_said token.spelling) refl t.0 t.1
    ]
  where
    by_number : (said : Result Fraction NumberFault) → number_said token.spelling ≡ said
        → is_number token.spelling ≡ true → threshold_of token said ≡ Ok p → IsThreshold token.spelling p
    by_number (Err NotANumber) is n e = cc e
    by_number (Err TooManyDigits) is n e = cc e
    by_number (Err ZeroDenominator) is n e = cc e
    by_number (Err TooFine) is n e = cc e
    by_number (Err TooLarge) is n e = cc e
    by_number (Ok value) is n e =
        elim (chosen (nat_lt value.den value.num) (fails token ThresholdOutOfRange) (Ok value) (Ok p) e) [
          | inl t ↦ cc t.1
          | inr t ↦
              let same : value ≡ p = cc t.1 in
              let P : Fraction → Type 0 = λ q. IsThreshold token.spelling q in
              subst P same (record {
                number = n;
                value = number-found token.spelling value is;
                small = le_from value.num value.den t.0;
              })
        ]

-- a comparison with a threshold
abbrev pub IsInnerBound : List (List ℕ) → Bound → Type 0
IsInnerBound us b = IsBound us b × Compares b

-- a comparison with the sign, behind `P`
compared_found : (bound : Fraction → Bound) (sign : List ℕ)
    → ((us : List (List ℕ)) (p : Fraction) → IsComparison sign us p → IsInnerBound us (bound p))
    → (first : Token) (ts : Tokens) (second : Token) (b : Bound) (rest : Tokens)
    → bytes_eq first.spelling (codes "P") ≡ true → ts ≡ first.after → next ts ≡ Ok second
    → bytes_eq second.spelling sign ≡ true → compared bound second.after ≡ Ok (b, rest)
    → Found IsInnerBound (Then first.place first.spelling first.after) b rest
compared_found bound sign spells first ts second b rest f at n s e =
    let c =
    bind_ok (next second.after) (λ token. threshold token >>= λ value. Ok (bound value, token.after)) (b, rest) e in
    let d = bind_ok (threshold c.value) (λ value. Ok (bound value, c.value.after)) (b, rest) c.then_ in
    let here : first.after ≡ Then second.place sign second.after =
    sym at ∙ next_ok ts second n ∙ ap (λ t. Then second.place t second.after) (same_bytes _ _ s) in
    same_read IsInnerBound (Then first.place first.spelling first.after) (bound d.value) b c.value.after rest
    (record {
      tokens = codes "P" ∷ sign ∷ c.value.spelling ∷ [];
      spans = (
        first.place,
        first.after,
        ap (λ t. Then first.place t first.after) (same_bytes _ _ f),
        (second.place, second.after, here, (c.value.place, c.value.after, next_ok second.after c.value c.first, refl)),
      );
      spells = spells _ d.value (c.value.spelling, refl, threshold_found c.value d.value d.first);
    })
    d.then_

asked_found : (bound : Bound) (word : List ℕ) → IsBound (word ∷ codes "=?" ∷ []) bound
    → (first : Token) (b : Bound) (rest : Tokens) → bytes_eq first.spelling word ≡ true
    → asked bound first.after ≡ Ok (b, rest) → Found IsBound (Then first.place first.spelling first.after) b rest
asked_found bound word spells first b rest w e =
    let c = bind_ok (behind (codes "=?") first.after) (λ after. Ok (bound, after)) (b, rest) e in
    let at = behind_ok (codes "=?") first.after c.value c.first in
    same_read IsBound (Then first.place first.spelling first.after) bound b c.value rest
    (record {
      tokens = word ∷ codes "=?" ∷ [];
      spans = (
        first.place,
        first.after,
        ap (λ t. Then first.place t first.after) (same_bytes _ _ w),
        (at.0, c.value, at.1, refl),
      );
      spells = spells;
    })
    c.then_

comparison_found : (first : Token) (b : Bound) (rest : Tokens) → bytes_eq first.spelling (codes "P") ≡ true
    → comparison first.after ≡ Ok (b, rest) → Found IsInnerBound (Then first.place first.spelling first.after) b rest
comparison_found first b rest f e =
    let c = bind_ok (next first.after)
    (λ sign. cond (is sign (codes ">=")) (compared (λ p. AtLeast p) sign.after) (cond (is sign (codes ">"))
    (compared (λ p. Above p) sign.after) (cond (is sign (codes "<=")) (compared (λ p. AtMost p) sign.after)
    (cond (is sign (codes "<")) (compared (λ p. Below p) sign.after) (fails sign Unexpected))))) (b, rest) e in
    elim (chosen (is c.value (codes ">=")) (compared (λ p. AtLeast p) c.value.after) _ (Ok (b, rest)) c.then_) [
      | inl t ↦ compared_found (λ p. AtLeast p) (codes ">=")
          (λ us p h. (h, tt)) first first.after c.value b rest f refl c.first t.0 t.1
      | inr t ↦ elim (chosen (is c.value (codes ">")) (compared (λ p. Above p) c.value.after) _ (Ok (b, rest)) t.1) [
        | inl t ↦ compared_found (λ p. Above p) (codes ">")
            (λ us p h. (h, tt)) first first.after c.value b rest f refl c.first t.0 t.1
        | inr t ↦
            elim (chosen (is c.value (codes "<=")) (compared (λ p. AtMost p) c.value.after) _ (Ok (b, rest)) t.1) [
              | inl t ↦ compared_found (λ p. AtMost p) (codes "<=")
                  (λ us p h. (h, tt)) first first.after c.value b rest f refl c.first t.0 t.1
              | inr t ↦ elim (chosen (is c.value (codes "<")) (compared (λ p. Below p) c.value.after)
                  (fails c.value Unexpected) (Ok (b, rest)) t.1) [
                    | inl t ↦ compared_found (λ p. Below p) (codes "<")
                        (λ us p h. (h, tt)) first first.after c.value b rest f refl c.first t.0 t.1
                    | inr t ↦ cc t.1
                  ]
            ]
      ]
    ]

pub bound_found : (ts : Tokens) (b : Bound) (rest : Tokens) → bound ts ≡ Ok (b, rest) → Found IsBound ts b rest
bound_found ts b rest e =
    let c = bind_ok (next ts) (λ token.
    cond (is token (codes "P")) (comparison token.after) (cond (is token (codes "Pmax")) (asked AskMax token.after)
    (cond (is token (codes "Pmin")) (asked AskMin token.after) (fails token Unexpected)))) (b, rest) e in
    let P : Tokens → Type 0 = λ t. Found IsBound t b rest in
    subst P (sym (next_ok ts c.value c.first))
    (elim (chosen (is c.value (codes "P")) (comparison c.value.after) _ (Ok (b, rest)) c.then_) [
      | inl t ↦
          let found = comparison_found c.value b rest t.0 t.1 in
          record { tokens = found.tokens; spans = found.spans; spells = found.spells.0 }
      | inr t ↦ elim (chosen (is c.value (codes "Pmax")) (asked AskMax c.value.after) _ (Ok (b, rest)) t.1) [
        | inl t ↦ asked_found AskMax (codes "Pmax") refl c.value b rest t.0 t.1
        | inr t ↦ elim (chosen (is c.value (codes "Pmin")) (asked AskMin c.value.after) (fails c.value Unexpected)
            (Ok (b, rest)) t.1) [
              | inl t ↦ asked_found AskMin (codes "Pmin") refl c.value b rest t.0 t.1
              | inr t ↦ cc t.1
            ]
      ]
    ])

pub inner_bound_found : (ts : Tokens) (b : Bound) (rest : Tokens) → inner_bound ts ≡ Ok (b, rest)
    → Found IsInnerBound ts b rest
inner_bound_found ts b rest e =
    let c = bind_ok (next ts) (λ token. cond (is token (codes "P")) (comparison token.after)
    (cond (is token (codes "Pmax") || is token (codes "Pmin")) (fails token AskInside) (fails token Unexpected)))
    (b, rest) e in
    let P : Tokens → Type 0 = λ t. Found IsInnerBound t b rest in
    subst P (sym (next_ok ts c.value c.first))
    (elim (chosen (is c.value (codes "P")) (comparison c.value.after) _ (Ok (b, rest)) c.then_) [
      | inl t ↦ comparison_found c.value b rest t.0 t.1
      | inr t ↦ elim (chosen (is c.value (codes "Pmax") || is c.value (codes "Pmin")) (fails c.value AskInside)
          (fails c.value Unexpected) (Ok (b, rest)) t.1) [
            | inl t ↦ cc t.1
            | inr t ↦ cc t.1
          ]
    ])
