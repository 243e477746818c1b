-- Digits, and the numbers that they spell.
use Rattle.std.proofs.Common.{◌≡◌, ◌∙◌, ℕ, suc, true, List, [], ◌∷◌, ◌++◌, length, get_or, drop, ◌+◌, ◌-◌, ◌*◌, ◌^◌}
use Rattle.std.proofs.Common.{◌<◌, ◌≤◌, inl, inr, refl, ◌&&◌, sym, ap, subst, arith}
use Rattle.std.specs.Prelude.{◌==◌}
use Rattle.std.proofs.Common.{add-one}
use Rattle.std.proofs.Math.Dec.{eqb-suc-suc, eqb-zero-suc}
use Rattle.std.proofs.lemmas.Bool.{cases_Bool, and_parts}
use Rattle.std.proofs.lemmas.Bool.Decides.{nat_tests}
use Rattle.std.proofs.lemmas.List.{at_drop_more}
use Rattle.std.proofs.lemmas.Nat.{pow-add}
use Rattle.std.proofs.Math.Nat.{mul-le-mul_left, mul-le-mul_right, one-le-pow, pow-le-pow_right, pow-suc}
use Rattle.text_lines.specs.Text.{is_digit, all_digits, value_onto}
use Rattle.numerals.specs.Limits.{most_digits}
use Rattle.numerals.specs.Spelling.{digits_len}

-- all are digits where the first digits are all
pub digits_whole : (text : List ℕ) → (digits_len text == length text) ≡ all_digits text
digits_whole [] = refl
digits_whole (b ∷ bytes) =
    elim (cases_Bool (is_digit b)) [
      | inl e ↦ rw e (ap (λ n. n == suc (length bytes)) (add-one (digits_len bytes))
          ∙ eqb-suc-suc (digits_len bytes) (length bytes) ∙ digits_whole bytes)
      | inr e ↦ rw e (eqb-zero-suc (length bytes))
    ]

pub digit-most : (b : ℕ) → is_digit b ≡ true → b - 48 ≤ 9
digit-most b e = grind (arith, nat_tests)

-- a step over a digit: the value stays within what the digits leave room for
pub record DigitStep (bytes : List ℕ) (i v bound : ℕ) : Type 0 where
  pub value : value_onto (10 * v + (get_or bytes i 0 - 48)) (drop (i + 1) bytes) ≡ value_onto v (drop i bytes)
  pub digit : get_or bytes i 0 - 48 ≤ 9
  pub small : (10 * v + (get_or bytes i 0 - 48) + 1) * 10 ^ (length bytes - (i + 1)) ≤ bound
  pub room : (v + 1) * 10 ≤ bound

pub digit_step : (bytes : List ℕ) (i v bound : ℕ) → i < length bytes → is_digit (get_or bytes i 0) ≡ true
    → (v + 1) * 10 ^ (length bytes - i) ≤ bound → DigitStep bytes i v bound
digit_step bytes i v bound h is small =
    let most = digit-most (get_or bytes i 0) is in
    let left : length bytes - i ≡ suc (length bytes - (i + 1)) = omega arith in
    let power : 10 ^ (length bytes - i) ≡ 10 ^ (length bytes - (i + 1)) * 10 =
    ap (λ n. 10 ^ n) left ∙ pow-suc 10 (length bytes - (i + 1)) in
    let whole : (v + 1) * (10 ^ (length bytes - (i + 1)) * 10) ≤ bound =
    let P : ℕ → Type 0 = λ n. (v + 1) * n ≤ bound in subst P power small in
    let bigger : (10 * v + (get_or bytes i 0 - 48) + 1) * 10 ^ (length bytes - (i + 1))
    ≤ (10 * (v + 1)) * 10 ^ (length bytes - (i + 1)) =
    mul-le-mul_right (10 ^ (length bytes - (i + 1))) (omega arith) in
    let some : ((v + 1) * 10) * 1 ≤ ((v + 1) * 10) * 10 ^ (length bytes - (i + 1)) =
    mul-le-mul_left ((v + 1) * 10) (one-le-pow (length bytes - (i + 1)) 10 (omega arith)) in
    record {
      value = sym (at_drop_more (λ (t : List ℕ). value_onto v t) bytes i 0 h);
      digit = most;
      small = omega (arith, whole, bigger);
      room = omega (arith, whole, some);
    }

-- the first of digits, and those behind it
pub digits_next : (bytes : List ℕ) (i : ℕ) → i < length bytes → all_digits (drop i bytes) ≡ true
    → (is_digit (get_or bytes i 0) ≡ true) × (all_digits (drop (i + 1) bytes) ≡ true)
digits_next bytes i h all = and_parts (is_digit (get_or bytes i 0)) (all_digits (drop (i + 1) bytes))
    (sym (at_drop_more all_digits bytes i 0 h) ∙ all)

-- behind a digit the digits are what they were
pub digits_behind : (bytes : List ℕ) (i : ℕ) → i < length bytes → is_digit (get_or bytes i 0) ≡ true
    → all_digits (drop i bytes) ≡ all_digits (drop (i + 1) bytes)
digits_behind bytes i h is = at_drop_more all_digits bytes i 0 h ∙ ap (λ b. b && all_digits (drop (i + 1) bytes)) is

pub digits_room : (n : ℕ) → n ≤ most_digits → 1 * 10 ^ n ≤ 10 ^ most_digits
digits_room n h = omega (arith, pow-le-pow_right {n = 10} (omega arith) h)

pub digits_room_behind : (v n m : ℕ) → v + 1 ≤ 1 * 10 ^ n → n + m ≤ most_digits → (v + 1) * 10 ^ m ≤ 10 ^ most_digits
digits_room_behind v n m small h =
    omega (arith, mul-le-mul_right (10 ^ m) small, pow-add 10 n m, pow-le-pow_right {n = 10} (omega arith) h)

pub power_room : (n : ℕ) → n ≤ 3 → 1 * 10 ^ n ≤ 1000
power_room n h = omega (arith, pow-le-pow_right {n = 10} (omega arith) h)

-- digits behind digits
pub value_append : (v : ℕ) (front back : List ℕ) → value_onto v (front ++ back) ≡ value_onto (value_onto v front) back
value_append v [] back = refl
value_append v (b ∷ front) back = value_append (10 * v + (b - 48)) front back

-- digits have room where they are few
pub ruleset rooms = (digits_room, digits_room_behind, power_room, value_append)
