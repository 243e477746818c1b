-- Exact rewards have a common denominator: the product of all of theirs.
use Rattle.std.proofs.Common.{◌≡◌, ℕ, zero, suc, ◌+◌, ◌*◌, ◌/◌, ◌<◌, ◌≤◌, length, arith, ap, subst, inl, inr}
use Prim.Native.Nat.{◌∣◌}
use Rattle.std.proofs.Math.Nat.{dvd-mul_left, dvd-mul_right, dvd-mul_left_of_dvd, dvd-mul_right_of_dvd, div-mul_cancel}
use Rattle.std.proofs.Math.Nat.{mul-le-mul_left}
use Rattle.std.proofs.lemmas.Bool.{cases_lt}
use Rattle.std.proofs.lemmas.Nat.Gcd.{dvd_trans}
use Rattle.game_model.specs.Game.{choices_of}
use Rattle.game_model.specs.Query.{Query, states}
use Rattle.expected_rewards.specs.Rewards.{Rewards}
use Rattle.reward_units.specs.Exact.{ExactRewards, HaveDenominators, ArePaid}

-- the product of the first n numbers
product : (ℕ → ℕ) → ℕ → ℕ
product f zero = 1
product f (suc n) = product f n * f n

product-divided : (f : ℕ → ℕ) (n k : ℕ) → k < n → f k ∣ product f n
unfolding product
product-divided f zero k within = absurd (omega (arith, within))
product-divided f (suc n) k within = elim (cases_lt k n) [
  | inl below ↦ dvd-mul_right_of_dvd (f k) (product-divided f n k below) (f n)
  | inr last ↦
      let same : n ≡ k = omega (arith, within, last) in
      subst (λ m. f m ∣ product f n * f n) same (dvd-mul_left (f n) (product f n))
]

product-some : (f : ℕ → ℕ) (n : ℕ) → ((k : ℕ) → k < n → 1 ≤ f k) → 1 ≤ product f n
unfolding product
product-some f zero each = omega arith
product-some f (suc n) each =
    let front : 1 ≤ product f n = product-some f n (λ k within. each k (omega (arith, within))) in
    let last : 1 ≤ f n = each n (omega arith) in
    omega (arith, mul-le-mul_left (product f n) last, front)

sum-factors : (a b c d e x y : ℕ) → x * b ≡ e → y * d ≡ e → (a * x + c * y) * (b * d) ≡ (a * d + c * b) * e
sum-factors a b c d e x y one two = omega (arith, ap (λ n. (a * d) * n) one, ap (λ n. (c * b) * n) two)

module _ (q : Query) (exact : ExactRewards) (have : HaveDenominators q exact) where
  of_choices : ℕ → ℕ
  of_choices s = product (λ c. (exact.of_choice s c).den) (length (choices_of q.game s))

  of_turns : ℕ → ℕ
  of_turns s = (exact.of_state s).den * of_choices s

  common : ℕ
  common = product of_turns (states q)

  choices-some : (s : ℕ) → s < states q → 1 ≤ of_choices s
  unfolding of_choices
  choices-some s inside = product-some (λ c. (exact.of_choice s c).den) (length (choices_of q.game s))
      (λ c within. have.of_choice s c inside within)

  turns-some : (s : ℕ) → s < states q → 1 ≤ of_turns s
  unfolding of_turns
  turns-some s inside =
      omega (arith, mul-le-mul_left (exact.of_state s).den (choices-some s inside), have.of_state s inside)

  common-some : 1 ≤ common
  unfolding common
  common-some = product-some of_turns (states q) turns-some

  turn-divides : (s : ℕ) → s < states q → of_turns s ∣ common
  unfolding common
  turn-divides s inside = product-divided of_turns (states q) s inside

  state-divides : (s : ℕ) → s < states q → (exact.of_state s).den ∣ common
  unfolding of_turns
  state-divides s inside =
      dvd_trans (exact.of_state s).den (dvd-mul_right (exact.of_state s).den (of_choices s)) (turn-divides s inside)

  choice-divides : (s c : ℕ) → s < states q → c < length (choices_of q.game s) → (exact.of_choice s c).den ∣ common
  unfolding of_turns of_choices
  choice-divides s c inside within =
      dvd_trans (exact.of_choice s c).den
      (dvd-mul_left_of_dvd (exact.of_choice s c).den
      (product-divided (λ d. (exact.of_choice s d).den) (length (choices_of q.game s)) c within)
      (exact.of_state s).den)
      (turn-divides s inside)

  wholly : Rewards
  wholly = λ s c. (exact.of_state s).num * (common / (exact.of_state s).den)
      + (exact.of_choice s c).num * (common / (exact.of_choice s c).den)

  pub common-denominator : (den : ℕ) × (whole : Rewards) × ArePaid q exact den whole
  unfolding wholly
  common-denominator = (
    common,
    wholly,
    record {
      denominators = have;
      positive = common-some;
      total = λ s c inside within.
          sum-factors (exact.of_state s).num (exact.of_state s).den (exact.of_choice s c).num
          (exact.of_choice s c).den common (common / (exact.of_state s).den) (common / (exact.of_choice s c).den)
          (div-mul_cancel (exact.of_state s).den (state-divides s inside))
          (div-mul_cancel (exact.of_choice s c).den (choice-divides s c inside within));
    },
  )
