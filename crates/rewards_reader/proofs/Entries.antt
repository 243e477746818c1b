-- The entries that a reader keeps are amounts.
use Rattle.std.proofs.Common.{◌≡◌, ℕ, List, Option, Some, None, set, sym, subst, arith}
use Rattle.std.specs.Prelude.{replicate, unwrap_or}
use Rattle.std.proofs.lemmas.List.Elements.{All-set, All-replicate}
use Rattle.fractions.specs.Fraction.{Fraction}
use Rattle.fractions.proofs.Euclid.{coprime-one}
use Rattle.rewards_reader.specs.Amounts.{IsAmount, AreAmounts, no_reward}

zero-amount : IsAmount no_reward
zero-amount = record { lowest = coprime-one 0; positive = omega arith; fine = omega arith; small = omega arith }

abbrev HasAmount : Option Fraction → Type 0
HasAmount entry = IsAmount (unwrap_or entry no_reward)

-- no entry has an amount yet
pub AreAmounts-none : (table : List (Option Fraction)) (n : ℕ) → table ≡ replicate n None → AreAmounts table
AreAmounts-none table n is =
    subst AreAmounts (sym is) (record { each = All-replicate HasAmount n None zero-amount })

-- one entry gets an amount
pub AreAmounts-set : (table : List (Option Fraction)) (place : ℕ) (reward : Fraction) → IsAmount reward
    → AreAmounts table → AreAmounts (set table place (Some reward))
AreAmounts-set table place reward amount are =
    record { each = All-set HasAmount table place (Some reward) amount are.each }
