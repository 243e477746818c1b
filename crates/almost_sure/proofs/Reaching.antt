-- Where the outer set is the inner one, its states reach a goal almost surely, and those that stay away do not.
use Rattle.std.proofs.Common.{◌≡◌, ℕ, zero, suc, ◌+◌, ◌-◌, ◌*◌, ◌^◌, ◌<◌, ◌≤◌, Bool, true, false, List, map}
use Rattle.std.proofs.Common.{arith, sym, ap, ◌∙◌, subst, inl, inr, not}
use Rattle.std.proofs.lemmas.Bool.{cases_Bool, not_from_true, not_from_false, not-false}
use Rattle.std.specs.Prelude.{slice_index_or}
use Rattle.std.proofs.lemmas.Nat.{pow-add}
use Rattle.std.proofs.lemmas.List.{get_or-map}
use Rattle.std.proofs.Math.Nat.{mul-le-mul_left, pow-suc, pow-zero, one-le-pow}
use Rattle.game_model.specs.Query.{Query, IsQuery, states}
use Rattle.game_model.specs.Values.{denominator, numerator}
use Rattle.game_model.proofs.Choices.{denominator-pos}
use Rattle.almost_sure.specs.Values.{IsAlmostSure, IsAway, AreAlmostSure}
use Rattle.attractors.specs.Attractor.{IsAttractor}
use Rattle.almost_sure.specs.ExcludedSets.{gone_excluded}
use Rattle.almost_sure.specs.inside.Going.{how_many, IsGone}
use Rattle.almost_sure.proofs.Away.{IsAway-more}
use Rattle.almost_sure.proofs.Going.{IsGone-few}
use Rattle.almost_sure.proofs.Nearer.{ComesNearer, ComesNearer-grown}
use Rattle.game_laws.proofs.Powers.{horizon_of, pow-horizon_of, pow-far}

first-round : (d a n : ℕ) → d ^ 0 ≤ n + a ^ 0
first-round d a n = rw (pow-zero d, pow-zero a) (omega arith)

next-round : (p x n a b : ℕ) → a + 1 ≡ b → p + x ≤ n + x * b → p ≤ n + x * a
next-round p x n a b base h =
    let at : p + x ≤ n + x * (a + 1) = subst (λ y. p + x ≤ n + x * y) (sym base) h in
    omega (arith, at)

-- after j stretches the goals are missed with at most the j-th power of one less than the stretch's
rounds : (q : Query) (gone set : List Bool) (near : ComesNearer q gone set) (a : ℕ)
    → a + 1 ≡ denominator q.game ^ near.horizon
    → ((s : ℕ) → s < states q → slice_index_or gone s false ≡ false → slice_index_or set s false ≡ true)
    → (j s : ℕ) → s < states q → slice_index_or gone s false ≡ false
    → denominator q.game ^ horizon_of near.horizon j ≤ numerator q (horizon_of near.horizon j) s + a ^ j
unfolding horizon_of
rounds q gone set near a base all zero s inside within = first-round (denominator q.game) a (numerator q 0 s)
rounds q gone set near a base all (suc j) s inside within =
    let D : ℕ = denominator q.game in
    let n : ℕ = near.horizon in
    let h : ℕ = horizon_of n j in
    let step : D ^ (h + n) + a ^ j ≤ numerator q (h + n) s + a ^ j * D ^ n =
    near.nearer h (a ^ j) (λ t lt out. rounds q gone set near a base all j t lt out) s inside (all s inside within) in
    rw (pow-suc a j) (next-round (D ^ (h + n)) (a ^ j) (numerator q (h + n) s) a (D ^ n) base step)

last-round : (m p n x : ℕ) → p ≤ n + x → m * x ≤ p → m * p ≤ m * n + p
last-round m p n x near far = omega (arith, mul-le-mul_left m near, far)

-- a state of the outer set
pub IsAlmostSure-within : (q : Query) (gone set : List Bool) → IsQuery q → ComesNearer q gone set
    → ((s : ℕ) → s < states q → slice_index_or gone s false ≡ false → slice_index_or set s false ≡ true) → (s : ℕ)
    → s < states q → slice_index_or gone s false ≡ false → IsAlmostSure q s
IsAlmostSure-within q gone set posed near all s inside within = λ m some.
    let D : ℕ = denominator q.game in
    let n : ℕ = near.horizon in
    let a : ℕ = D ^ n - 1 in
    let base : a + 1 ≡ D ^ n = omega (arith, one-le-pow n D (denominator-pos q.game posed.game)) in
    let j : ℕ = m * (a + 1) in
    let k : ℕ = horizon_of n j in
    let far : m * a ^ j ≤ D ^ k =
    subst (λ x. m * a ^ j ≤ x) (ap (λ b. b ^ j) base ∙ sym (pow-horizon_of D n j)) (pow-far a m) in
    (k, last-round m (D ^ k) (numerator q k s) (a ^ j) (rounds q gone set near a base all j s inside within) far)

both-ways : (E n p : ℕ) → 1 ≤ p → n * E + p ≤ E * p → (E + 1) * p ≤ (E + 1) * n + p → ⊥
both-ways E n p some away near =
    let whole : p ≤ n = omega (arith, away, near) in
    omega (arith, some, away, mul-le-mul_left E whole)

-- no state that stays away
pub IsAway-not_sure : (q : Query) (e s : ℕ) → IsQuery q → IsAway q e s → IsAlmostSure q s → ⊥
IsAway-not_sure q e s posed away sure =
    let D : ℕ = denominator q.game in
    let positive : 0 < D = denominator-pos q.game posed.game in
    let at = sure (D ^ e + 1) (omega arith) in
    both-ways (D ^ e) (numerator q at.0 s) (D ^ at.0) (one-le-pow at.0 D positive)
    (subst (λ x. numerator q at.0 s * D ^ e + D ^ at.0 ≤ x) (pow-add D e at.0) (away at.0)) at.1

-- where the inner set leaves no other state, it is the answer
pub AreAlmostSure-inner : (q : Query) (inner : List Bool) → IsQuery q → IsGone q (map not inner)
    → IsAttractor q (gone_excluded (map not inner)) inner → AreAlmostSure q inner
AreAlmostSure-inner q inner posed gone drawn =
    let at : (s : ℕ) → s < states q → slice_index_or (map not inner) s false ≡ not (slice_index_or inner s false) =
    λ s inside. get_or-map not inner s false false (omega (arith, inside, drawn.many)) in
    let near : ComesNearer q (map not inner) inner =
    ComesNearer-grown q (map not inner) inner posed gone.deads drawn.grew in
    let away : (s : ℕ) → s < states q → slice_index_or inner s false ≡ false → IsAway q (states q) s =
    λ s inside out. IsAway-more q (how_many (map not inner)) (states q) s posed (IsGone-few q (map not inner) gone)
    (gone.away s inside (at s inside ∙ not_from_false (slice_index_or inner s false) out)) in
    record {
      as_many = drawn.many;
      exact = λ s inside. (
        λ marked. IsAlmostSure-within q (map not inner) inner posed near (λ t l within.
            not-false (slice_index_or inner t false) (sym (at t l) ∙ within)) s inside
            (at s inside ∙ not_from_true (slice_index_or inner s false) marked),
        λ sure. elim (cases_Bool (slice_index_or inner s false)) [
          | inl marked ↦ marked
          | inr other ↦ absurd (IsAway-not_sure q (states q) s posed (away s inside other) sure)
        ],
      );
      unmarked = away;
    }
