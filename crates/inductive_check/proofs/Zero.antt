-- A table that is 0 on the zero set has an up step that is 0 there.
use Rattle.std.proofs.Common.{◌≡◌, ℕ, zero, suc, ◌+◌, ◌-◌, ◌*◌, ◌/◌, ◌^◌, ◌<◌, ◌≤◌, Bool, true, false, List}
use Rattle.std.proofs.Common.{arith, refl, sym, subst, inl, inr, ◌∙◌}
use Rattle.std.specs.Prelude.{slice_index_or}
use Rattle.std.proofs.lemmas.Bool.{cases_eq}
use Rattle.std.proofs.Math.Nat.{one-le-pow, one-le-mul, mul-le-mul_left, mul-le-mul_right}
use Rattle.game_model.specs.Game.{Distribution, choices_of}
use Rattle.game_model.specs.Query.{Query, IsQuery, states}
use Rattle.game_model.specs.Values.{weighted_sum, denominator, numerator, numerator_of}
use Rattle.game_model.specs.Limits.{unit}
use Rattle.game_model.specs.Rounded.{up_value, up_step}
use Rattle.game_model.specs.Dual.{IsZeroSet}
use Rattle.game_model.proofs.Choices.{IsChoiceOf, AreChoicesOf, AreChoicesOf-choices_of, denominator-pos}
use Rattle.game_model.proofs.Best.{weighted_sum-le}
use Rattle.game_model.proofs.Rises.{bellman-le, numerator_of-rises}
use Rattle.game_laws.proofs.Positive.{quotient-pos}
use Rattle.inductive_check.proofs.UpSteps.{ceil-most}

-- a positive value stays positive
still-positive : (q : Query) (d k s : ℕ) → IsQuery q → 1 ≤ numerator q k s → 1 ≤ numerator q (d + k) s
still-positive q zero k s posed h = subst (λ n. 1 ≤ numerator q n s) (let same : k ≡ 0 + k = omega arith in same) h
still-positive q (suc d) k s posed h =
    let product : 1 ≤ denominator q.game * numerator q (d + k) s =
    one-le-mul (denominator-pos q.game posed.game) (still-positive q d k s posed h) in
    subst (λ n. 1 ≤ numerator q n s) (let same : suc (d + k) ≡ suc d + k = omega arith in same)
    (omega (arith, product, numerator_of-rises q (choices_of q.game) (d + k) s))

-- the unmarked ones of the first n states are positive at this horizon
abbrev ArePositive : Query → List Bool → ℕ → ℕ → Type 0
ArePositive q marks n k = (s : ℕ) → s < n → slice_index_or marks s false ≡ false → 1 ≤ numerator q k s

-- one horizon serves all
horizon : (q : Query) (marks : List Bool) → IsQuery q → IsZeroSet q marks → (n : ℕ) → n ≤ states q
    → (k : ℕ) × ArePositive q marks n k
horizon q marks posed h zero inside = (zero, λ s below. absurd (omega arith))
horizon q marks posed h (suc n) inside =
    let rest : (k : ℕ) × ArePositive q marks n k = horizon q marks posed h n (omega arith) in
    elim (slice_index_or marks n false)
    as (λ mark. slice_index_or marks n false ≡ mark → (k : ℕ) × ArePositive q marks (suc n) k) [
      | true ↦ λ marked. (
        rest.0,
        λ s below unmarked. elim (cases_eq s n) [
          | inl same ↦
              let no : true ≡ false = sym marked ∙ (subst (λ t. slice_index_or marks t false ≡ false) same unmarked) in
              absurd (cc)
          | inr other ↦ rest.1 s (omega (arith, below, other)) unmarked
        ],
      )
      | false ↦ λ left.
          let here : (k : ℕ) × (1 ≤ numerator q k n) = h.unmarked n (omega arith) left in (
            here.0 + rest.0,
            λ s below unmarked. elim (cases_eq s n) [
              | inl same ↦ subst (λ t. 1 ≤ numerator q (here.0 + rest.0) t) (sym same)
                  (subst (λ k. 1 ≤ numerator q k n) (let swap : rest.0 + here.0 ≡ here.0 + rest.0 = omega arith in swap)
                  (still-positive q rest.0 here.0 n posed here.1))
              | inr other ↦ still-positive q here.0 rest.0 s posed (rest.1 s (omega (arith, below, other)) unmarked)
            ],
          )
    ] refl

-- a quotient that is rounded up is at most what is divided
ceil-self : (x w : ℕ) → 0 < w → (x + (w - 1)) / w ≤ x
ceil-self x w positive = let one : 1 ≤ w = positive in ceil-most x w x positive (omega (arith, mul-le-mul_right x one))

-- an up value is within a multiple of the next numerator
up_value-scaled : (q : Query) (table : ℕ → ℕ) (k : ℕ) (m : Distribution) → 0 < denominator q.game
    → IsChoiceOf q.game m → ((t : ℕ) → t < states q → table t ≤ unit * numerator q k t)
    → 1 * up_value table m ≤ unit * (denominator q.game / m.total * weighted_sum (numerator q k) m.edges)
up_value-scaled q table k m positive fits below =
    let sums : 1 * weighted_sum table m.edges ≤ unit * weighted_sum (numerator q k) m.edges =
    weighted_sum-le table (numerator q k) 1 unit m.edges (λ i d l. omega (arith, below _ (fits.inside i d l))) in
    let cofactor : 1 ≤ denominator q.game / m.total = quotient-pos (denominator q.game) m.total fits.divides positive in
    omega (
      arith,
      ceil-self (weighted_sum table m.edges) m.total fits.positive,
      sums,
      mul-le-mul_right (weighted_sum (numerator q k) m.edges) cofactor,
    )

-- and so is the up step
up_step-scaled : (q : Query) (table : ℕ → ℕ) (k s : ℕ) → IsQuery q
    → ((t : ℕ) → t < states q → table t ≤ unit * numerator q k t) → up_step q table s ≤ unit * numerator q (suc k) s
unfolding numerator_of
up_step-scaled q table k s posed below =
    let D : ℕ = denominator q.game in
    let chosen : AreChoicesOf q.game (choices_of q.game) = AreChoicesOf-choices_of q.game posed.game in
    let positive : 0 < D = denominator-pos q.game posed.game in
    let one : 1 ≤ D ^ suc k = one-le-pow (suc k) D positive in
    let step : 1 * up_step q table s ≤ unit * numerator q (suc k) s =
    bellman-le q (choices_of q.game) 1 unit unit (D ^ suc k) (up_value table) _ s
    (omega (arith, mul-le-mul_left unit one))
    (λ i d l. up_value-scaled q table k _ positive (chosen.each s i d l) below) in
    omega (arith, step)

pub up_step-zero : (q : Query) (marks : List Bool) (table : ℕ → ℕ) → IsQuery q
    → IsZeroSet q marks → ((t : ℕ) → t < states q → table t ≤ unit)
    → ((t : ℕ) → t < states q → slice_index_or marks t false ≡ true → table t ≡ 0) → (s : ℕ) → s < states q
    → slice_index_or marks s false ≡ true → up_step q table s ≡ 0
up_step-zero q marks table posed h units none s inside marked =
    let all : (k : ℕ) × ArePositive q marks (states q) k = horizon q marks posed h (states q) (omega arith) in
    let each : (t : ℕ) → t < states q → table t ≤ unit * numerator q all.0 t =
    λ t within. elim (slice_index_or marks t false)
    as (λ mark. slice_index_or marks t false ≡ mark → table t ≤ unit * numerator q all.0 t) [
      | true ↦ λ is. omega (arith, none t within is)
      | false ↦ λ is. omega (arith, units t within, mul-le-mul_left unit (all.1 t within is))
    ] refl in
    omega (arith, up_step-scaled q table all.0 s posed each, h.marked s inside marked (suc all.0))
