-- A bound on a reward that is read is derived by the rules.
use Rattle.std.proofs.Common.{◌≡◌, ◌∙◌, inl, inr, ℕ, List, [], ◌∷◌, Bool, true, false, cond, Result, Ok, Err, refl, ap}
use Rattle.std.proofs.Common.{sym, subst}
use Rattle.std.specs.Prelude.{codes, bytes_eq, ◌||◌}
use Rattle.fractions.specs.Fraction.{Fraction}
use Rattle.rewards_reader.specs.declared.fault.RewardsCause.{RewardsCause}
use Rattle.rewards_reader.specs.Amounts.{amount_said}
use Rattle.rewards_reader.proofs.AmountLaws.{amount-found}
use Rattle.formula_tokens.specs.declared.fault.FormulaCause.TheVariants.{Unexpected}
use Rattle.formula_tokens.specs.declared.fault.FormulaFault.{FormulaFault}
use Rattle.formula_tokens.specs.Fault.{◌>>=◌}
use Rattle.formula_tokens.specs.Tokens.{Tokens, Then, Token}
use Rattle.formula_tokens.specs.Reading.{next, behind, is, is_number, fails}
use Rattle.formula_tokens.proofs.Spans.{Spans, Found, same_read, chosen, bind_ok, next_ok, behind_ok, same_bytes}
use Rattle.formula_reader.specs.declared.formula.Comparison.{Comparison}
use Rattle.formula_reader.specs.declared.formula.Comparison.TheVariants.{AtLeast as at_least, Above as above}
use Rattle.formula_reader.specs.declared.formula.Comparison.TheVariants.{AtMost as at_most, Below as below}
use Rattle.reward_formula.specs.declared.formula.RewardBound.{RewardBound}
use Rattle.reward_formula.specs.declared.formula.RewardBound.TheVariants.{AskMax, AskMin}
use Rattle.reward_formula.specs.Grammar.{comparison, threshold_of, threshold, bound_with, compared, asked, bare_bound}
use Rattle.reward_formula.specs.Grammar.{named_bound, begins_reward}
use Rattle.reward_formula.specs.Rules.{IsThreshold, IsCompared, IsNamedBound, IsBareBound}

threshold_found : (token : Token) (x : Fraction) → threshold token ≡ Ok x → IsThreshold token.spelling x
threshold_found token x e =
    elim (chosen (is_number token.spelling) (threshold_of token (amount_said token.spelling))
    (fails token Unexpected) (Ok x) e) [
      | inr f ↦ cc f.1
      | inl t ↦ by_number (amount_said token.spelling) refl t.0 t.1
    ]
  where
    by_number : (said : Result Fraction RewardsCause) → amount_said token.spelling ≡ said
        → is_number token.spelling ≡ true → threshold_of token said ≡ Ok x → IsThreshold token.spelling x
    by_number (Ok value) is n e =
        let same : value ≡ x = cc e in
        let P : Fraction → Type 0 = λ y. IsThreshold token.spelling y in
        subst P same (record { number = n; value = amount-found token.spelling value is })
    by_number (Err cause) is n e = cc e

-- the comparison is spelled like this
abbrev pub sign_of : Comparison → List ℕ
sign_of at_least = codes ">="
sign_of above = codes ">"
sign_of at_most = codes "<="
sign_of below = codes "<"

comparison_found : (sign : Token) (c : Comparison) → comparison sign ≡ Ok c → sign.spelling ≡ sign_of c
comparison_found sign c e =
    elim (chosen (is sign (codes ">=")) (Ok at_least) _ (Ok c) e) [
      | inl t ↦ spelled at_least t.0 t.1
      | inr t ↦ elim (chosen (is sign (codes ">")) (Ok above) _ (Ok c) t.1) [
        | inl t ↦ spelled above t.0 t.1
        | inr t ↦ elim (chosen (is sign (codes "<=")) (Ok at_most) _ (Ok c) t.1) [
          | inl t ↦ spelled at_most t.0 t.1
          | inr t ↦ elim (chosen (is sign (codes "<")) (Ok below) (fails sign Unexpected) (Ok c) t.1) [
            | inl t ↦ spelled below t.0 t.1
            | inr t ↦ cc t.1
          ]
        ]
      ]
    ]
  where
    spelled : (d : Comparison) → is sign (sign_of d) ≡ true → ◌≡◌ {A = Result Comparison FormulaFault} (Ok d) (Ok c)
        → sign.spelling ≡ sign_of c
    spelled d s e =
        let same : d ≡ c = cc e in
        same_bytes sign.spelling (sign_of d) s ∙ ap sign_of same

-- a comparison with a threshold
pub record IsComparison (us : List (List ℕ)) (b : RewardBound) : Type 0 where
  pub kind : Comparison
  pub number : Fraction
  pub same : bound_with kind number ≡ b
  pub signed : IsCompared (sign_of kind) us number

named_by : (c : Comparison) (us : List (List ℕ)) (x : Fraction) → IsCompared (sign_of c) us x
    → IsNamedBound us (bound_with c x)
named_by at_least us x d = d
named_by above us x d = d
named_by at_most us x d = d
named_by below us x d = d

named_from : (us : List (List ℕ)) (b : RewardBound) → IsComparison us b → IsNamedBound us b
named_from us b d =
    let P : RewardBound → Type 0 = λ a. IsNamedBound us a in
    subst P d.same (named_by d.kind us d.number d.signed)

bare_by : (c : Comparison) (us : List (List ℕ)) (x : Fraction) → IsCompared (sign_of c) us x
    → IsBareBound (codes "R" ∷ us) (bound_with c x)
bare_by at_least us x d = (us, refl, d)
bare_by above us x d = (us, refl, d)
bare_by at_most us x d = (us, refl, d)
bare_by below us x d = (us, refl, d)

bare_from : (us : List (List ℕ)) (b : RewardBound) → IsComparison us b → IsBareBound (codes "R" ∷ us) b
bare_from us b d =
    let P : RewardBound → Type 0 = λ a. IsBareBound (codes "R" ∷ us) a in
    subst P d.same (bare_by d.kind us d.number d.signed)

-- a sign, and a threshold behind it
compared_found : (sign : Token) (b : RewardBound) (rest : Tokens) → compared sign ≡ Ok (b, rest)
    → Found IsComparison (Then sign.place sign.spelling sign.after) b rest
compared_found sign b rest e =
    let k = bind_ok (comparison sign)
    (λ kind. next sign.after >>= λ token. threshold token >>= λ x. Ok (bound_with kind x, token.after)) (b, rest) e in
    let n = bind_ok (next sign.after)
    (λ token. threshold token >>= λ x. Ok (bound_with k.value x, token.after)) (b, rest) k.then_ in
    let t = bind_ok (threshold n.value) (λ x. Ok (bound_with k.value x, n.value.after)) (b, rest) n.then_ in
    same_read IsComparison (Then sign.place sign.spelling sign.after) (bound_with k.value t.value) b n.value.after rest
    (record {
      tokens = sign_of k.value ∷ n.value.spelling ∷ [];
      spans = (
        sign.place,
        sign.after,
        ap (λ s. Then sign.place s sign.after) (comparison_found sign k.value k.first),
        (n.value.place, n.value.after, next_ok sign.after n.value n.first, refl),
      );
      spells = record {
        kind = k.value;
        number = t.value;
        same = refl;
        signed = (n.value.spelling, refl, threshold_found n.value t.value t.first);
      };
    })
    t.then_

-- a word and `=?`
asked_found : (Spells : List (List ℕ) → RewardBound → Type 0) (bound : RewardBound) (word : List ℕ)
    → Spells (word ∷ codes "=?" ∷ []) bound
    → (first : Token) (b : RewardBound) (rest : Tokens) → bytes_eq first.spelling word ≡ true
    → asked bound first.after ≡ Ok (b, rest) → Found Spells (Then first.place first.spelling first.after) b rest
asked_found Spells bound word spells first b rest w e =
    let c = bind_ok (behind (codes "=?") first.after) (λ after. Ok (bound, after)) (b, rest) e in
    let at = behind_ok (codes "=?") first.after c.value c.first in
    same_read Spells (Then first.place first.spelling first.after) bound b c.value rest
    (record {
      tokens = word ∷ codes "=?" ∷ [];
      spans = (
        first.place,
        first.after,
        ap (λ t. Then first.place t first.after) (same_bytes first.spelling word w),
        (at.0, c.value, at.1, refl),
      );
      spells = spells;
    })
    c.then_

-- what is neither `Rmax` nor `Rmin` is `R`
first_word : (a b c : Bool) → (a || b || c) ≡ true → b ≡ false → c ≡ false → a ≡ true
first_word true b c e f g = refl
first_word false true c e f g = cc f
first_word false false c e f g = cc (e, g)

behind_word : (word : Token) (b : RewardBound) (rest : Tokens) → is word (codes "R") ≡ true
    → (next word.after >>= compared) ≡ Ok (b, rest)
    → Found IsBareBound (Then word.place word.spelling word.after) b rest
behind_word word b rest w e =
    let n = bind_ok (next word.after) compared (b, rest) e in
    let found = compared_found n.value b rest n.then_ in
    let P : Tokens → Type 0 = λ t. Spans t found.tokens rest in
    record {
      tokens = codes "R" ∷ found.tokens;
      spans = (
        word.place,
        word.after,
        ap (λ s. Then word.place s word.after) (same_bytes word.spelling (codes "R") w),
        subst P (sym (next_ok word.after n.value n.first)) found.spans,
      );
      spells = bare_from found.tokens b found.spells;
    }

pub bare_found : (word : Token) (b : RewardBound) (rest : Tokens) → begins_reward word ≡ true
    → bare_bound word ≡ Ok (b, rest) → Found IsBareBound (Then word.place word.spelling word.after) b rest
bare_found word b rest begins e =
    elim (chosen (is word (codes "Rmax")) (asked AskMax word.after) _ (Ok (b, rest)) e) [
      | inl t ↦ asked_found IsBareBound AskMax (codes "Rmax") refl word b rest t.0 t.1
      | inr f ↦ elim (chosen (is word (codes "Rmin")) (asked AskMin word.after) (next word.after >>= compared)
          (Ok (b, rest)) f.1) [
            | inl t ↦ asked_found IsBareBound AskMin (codes "Rmin") refl word b rest t.0 t.1
            | inr g ↦ behind_word word b rest (first_word (is word (codes "R")) (is word (codes "Rmax"))
                (is word (codes "Rmin")) begins f.0 g.0) g.1
          ]
    ]

pub named_found : (ts : Tokens) (b : RewardBound) (rest : Tokens) → named_bound ts ≡ Ok (b, rest)
    → Found IsNamedBound ts b rest
named_found ts b rest e =
    let c = bind_ok (next ts) (λ token. cond (is token (codes "max")) (asked AskMax token.after)
    (cond (is token (codes "min")) (asked AskMin token.after) (compared token))) (b, rest) e in
    let P : Tokens → Type 0 = λ t. Found IsNamedBound t b rest in
    subst P (sym (next_ok ts c.value c.first))
    (elim (chosen (is c.value (codes "max")) (asked AskMax c.value.after) _ (Ok (b, rest)) c.then_) [
      | inl t ↦ asked_found IsNamedBound AskMax (codes "max") refl c.value b rest t.0 t.1
      | inr t ↦ elim (chosen (is c.value (codes "min")) (asked AskMin c.value.after) (compared c.value)
          (Ok (b, rest)) t.1) [
            | inl t ↦ asked_found IsNamedBound AskMin (codes "min") refl c.value b rest t.0 t.1
            | inr t ↦
                let found = compared_found c.value b rest t.1 in
                record {
                  tokens = found.tokens;
                  spans = found.spans;
                  spells = named_from found.tokens b found.spells;
                }
          ]
    ])
