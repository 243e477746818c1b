-- The states whose value is 0 are a zero set.
use Rattle.std.proofs.Common.{◌≡◌, ◌≢◌, ◌∙◌, ℕ, ◌*◌, ◌^◌, ◌<◌, ◌≤◌, Bool, true, false, List, get_or, arith, sym, ap}
use Rattle.std.proofs.Common.{inl, inr}
use Rattle.std.specs.Prelude.{◌==◌, map}
use Rattle.std.specs.List.{range_with_len}
use Rattle.std.proofs.lemmas.Bool.{cases_Bool, cases_lt, eqb-true, eq-eqb}
use Rattle.std.proofs.Math.Nat.{mul-pos}
use Rattle.std.proofs.lemmas.List.FromFn.{get_or-map-range_with_len, length-map-range_with_len}
use Rattle.game_model.specs.Query.{Query, IsQuery, states}
use Rattle.game_model.specs.Values.{denominator, numerator}
use Rattle.game_model.specs.Dual.{IsZeroSet}
use Rattle.determinacy.specs.Exact.{HasValues}
use Rattle.determinacy.proofs.Holding.{questions-have_values}
use Rattle.determinacy.proofs.Bracketing.{values-high, exceeded-from}

none-of : (top n v d : ℕ) → 0 < top → top * n ≤ v * d → v ≡ 0 → n ≡ 0
none-of top n v d some high is = elim (cases_lt 0 n) [
  | inl more ↦ absurd (omega (arith, high, ap (λ x. x * d) is, mul-pos some more))
  | inr none ↦ omega (arith, none)
]

positive : (n : ℕ) → n ≢ 0 → 0 < n
positive n some = omega (arith, some)

module _ (q : Query) (posed : IsQuery q) (v : HasValues q) where
  -- a state of value 0 has no k-step value above 0, and each other one has
  none-reached : (s : ℕ) → s < states q → v.value s ≡ 0 → (k : ℕ) → numerator q k s ≡ 0
  none-reached s inside is k = none-of v.top (numerator q k s) (v.value s) (denominator q.game ^ k) v.positive
      (values-high q posed v k s inside) is

  some-reached : (s : ℕ) → s < states q → 0 < v.value s → (k : ℕ) × (1 ≤ numerator q k s)
  some-reached s inside some =
      let at = exceeded-from q posed v 0 1 s inside (omega (arith, some)) in
      (at.0, omega (arith, at.1))

  abbrev zeros : List Bool
  zeros = map (λ s. v.value s == 0) (range_with_len 0 (states q))

  zeros-at : (s : ℕ) → s < states q → get_or zeros s false ≡ (v.value s == 0)
  zeros-at s inside = get_or-map-range_with_len (λ t. v.value t == 0) 0 (states q) s s false inside (omega arith)

  pub zeros-are : IsZeroSet q zeros
  zeros-are = record {
    as_many = length-map-range_with_len (λ t. v.value t == 0) 0 (states q);
    marked = λ s inside marked. none-reached s inside (eqb-true (v.value s) 0 (sym (zeros-at s inside) ∙ marked));
    unmarked = λ s inside unmarked. some-reached s inside (positive (v.value s) (λ is.
        let no : true ≡ false = sym (eq-eqb (v.value s) 0 is) ∙ sym (zeros-at s inside) ∙ unmarked in absurd (cc)));
  }

  -- its states are those of value 0
  pub zero-marked : (zero : List Bool) → IsZeroSet q zero → (s : ℕ) → s < states q → v.value s ≡ 0
      → get_or zero s false ≡ true
  zero-marked zero is s inside none = elim (cases_Bool (get_or zero s false)) [
    | inl marked ↦ marked
    | inr unmarked ↦
        let at = is.unmarked s inside unmarked in
        absurd (omega (arith, at.1, none-reached s inside none at.0))
  ]

  pub marked-zero : (zero : List Bool) → IsZeroSet q zero → (s : ℕ) → s < states q
      → get_or zero s false ≡ true → v.value s ≡ 0
  marked-zero zero is s inside marked = elim (cases_lt 0 (v.value s)) [
    | inl some ↦
        let at = some-reached s inside some in
        absurd (omega (arith, at.1, is.marked s inside marked at.0))
    | inr none ↦ omega (arith, none)
  ]

pub questions-have_zero_sets : (q : Query) → IsQuery q → (zero : List Bool) × IsZeroSet q zero
questions-have_zero_sets q posed =
    let v : HasValues q = questions-have_values q posed in
    (zeros q posed v, zeros-are q posed v)
