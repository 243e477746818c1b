-- The plans of exact values serve almost-sure states and all others.
use Rattle.std.proofs.Common.{◌≡◌, ℕ, ◌+◌, ◌-◌, ◌*◌, ◌^◌, ◌<◌, ◌≤◌, Bool, List, [], arith, subst, inl, inr}
use Rattle.std.proofs.lemmas.Bool.{cases_lt}
use Rattle.std.proofs.Math.Nat.{mul-le-mul_right, le_of_mul-le-mul_left, one-le-pow}
use Rattle.std.proofs.lemmas.Nat.{pow-add}
use Rattle.game_model.specs.Query.{Query, IsQuery, states}
use Rattle.game_model.specs.Values.{denominator, numerator}
use Rattle.game_model.specs.Bounds.{Exceeds}
use Rattle.game_model.proofs.Choices.{denominator-pos}
use Rattle.strategies.specs.Strategies.{reach, by_plan}
use Rattle.determinacy.specs.Exact.{HasValues}
use Rattle.determinacy.proofs.Holding.{questions-have_values}
use Rattle.determinacy.proofs.Bracketing.{reached-to, exceeded-from}
use Rattle.almost_sure.specs.Values.{IsAlmostSure, IsAway, AreAlmostSure}
use Rattle.almost_sure.specs.Strategies.{HaveStrategies}

reached-factors : (top v m p r : ℕ) → 0 < top → top ≤ v → m * v * p ≤ top * (m * r + p) → m * p ≤ m * r + p
reached-factors top v m p r positive most reached =
    let whole : top * (m * p) ≤ top * (m * r + p) = omega (arith, mul-le-mul_right (m * p) most, reached) in
    le_of_mul-le-mul_left whole positive

held-factors : (top v e p r : ℕ) → 0 < top → v * e + top ≤ e * top → top * r ≤ v * p → r * e + p ≤ e * p
held-factors top v e p r positive most held =
    let whole : top * (r * e + p) ≤ top * (e * p) = omega (arith, mul-le-mul_right e held, mul-le-mul_right p most) in
    le_of_mul-le-mul_left whole positive

parted : (e d : ℕ) → 1 ≤ e → e * d ≡ (e - 1) * d + d
parted e d some =
    let same : e - 1 + 1 ≡ e = omega (arith, some) in
    let whole : (e - 1 + 1) * d ≡ (e - 1) * d + d = omega arith in
    rw (same) at whole

away-factors : (e d n : ℕ) → 1 ≤ e → n * e + d ≤ e * d → (e - 1) * d < e * n → ⊥
away-factors e d n some away more = omega (arith, away, more, parted e d some)

rest-factors : (d top value : ℕ) → 1 ≤ d → d * value ≤ (d - 1) * top → value * d + top ≤ d * top
rest-factors d top value some most = omega (arith, most, parted d top some)

module _ (q : Query) (posed : IsQuery q) (v : HasValues q) where
  -- an almost-sure state has the value 1
  sure-most : (s : ℕ) → s < states q → IsAlmostSure q s → v.top ≤ v.value s
  sure-most s inside sure =
      let most : 1 * v.top ≤ 1 * v.value s =
      reached-to q posed v 1 1 s inside (λ m some. ((sure m some).0, omega (arith, (sure m some).1))) in
      omega (arith, most)

  -- the value of a state whose values stay away from 1 does so
  away-most : (e s : ℕ) → s < states q → IsAway q e s
      → v.value s * denominator q.game ^ e + v.top ≤ denominator q.game ^ e * v.top
  away-most e s inside away =
      elim (cases_lt ((denominator q.game ^ e - 1) * v.top) (denominator q.game ^ e * v.value s)) [
        | inl more ↦
            let exceeds : Exceeds q (denominator q.game ^ e - 1) (denominator q.game ^ e) s =
            exceeded-from q posed v (denominator q.game ^ e - 1) (denominator q.game ^ e) s inside more in
            absurd (away-factors (denominator q.game ^ e) (denominator q.game ^ exceeds.0) (numerator q exceeds.0 s)
            (one-le-pow e (denominator q.game) (denominator-pos q.game posed.game))
            (subst (λ x. numerator q exceeds.0 s * denominator q.game ^ e + denominator q.game ^ exceeds.0 ≤ x)
            (pow-add (denominator q.game) e exceeds.0) (away exceeds.0)) exceeds.1)
        | inr most ↦ rest-factors (denominator q.game ^ e) v.top (v.value s)
            (one-le-pow e (denominator q.game) (denominator-pos q.game posed.game)) most
      ]

pub have-strategies : (q : Query) (marks : List Bool) → IsQuery q → AreAlmostSure q marks → HaveStrategies q marks
have-strategies q marks posed are =
    let v : HasValues q = questions-have_values q posed in
    record {
      plan = v.plan;
      reached = λ m some.
          let at = v.reached m some in (
            at.0,
            λ faces s opponent down inside marked.
                reached-factors v.top (v.value s) m ((faces * denominator q.game) ^ at.0)
                (reach q faces (by_plan q v.plan) opponent at.0 [] s) v.positive
                (sure-most q posed v s inside ((are.exact s inside).0 marked)) (at.1 faces s opponent down inside),
          );
      replies = v.replies;
      held = λ faces k s opponent up inside out.
          held-factors v.top (v.value s) (denominator q.game ^ states q) ((faces * denominator q.game) ^ k)
          (reach q faces opponent (by_plan q v.replies) k [] s) v.positive
          (away-most q posed v (states q) s inside (are.unmarked s inside out)) (v.held faces k s opponent up inside);
    }
