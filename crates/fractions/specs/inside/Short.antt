-- This module defines what a short decimal is as it is written.
use Rattle.std.specs.Prelude.{◌≡◌, ◌≤◌, ℕ, ◌-◌, ◌^◌, true, List, length}
use Rattle.text_lines.specs.Text.{is_digit, all_digits, value_onto}
use Rattle.fractions.specs.declared.tens.Tens.{Tens}

-- This fraction over a power of ten is written as a digit, a point and these digits, which are few enough for 64 bits.
pub record AreDecimal (front : ℕ) (back : List ℕ) (tens : Tens) : Type 0 where
  pub front_digit : is_digit front ≡ true
  pub back_digits : all_digits back ≡ true
  pub few : length back ≤ 18
  pub num : tens.num ≡ value_onto (front - 48) back
  pub den : tens.den ≡ 10 ^ length back
