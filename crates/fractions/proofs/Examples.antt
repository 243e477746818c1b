-- Spellings and what is said of them.
use Rattle.std.proofs.Common.{◌≡◌, refl, Ok, Err, codes, ◌^◌}
use Rattle.fractions.specs.declared.number.NumberFault.TheVariants.{NotANumber, TooManyDigits, ZeroDenominator}
use Rattle.fractions.specs.declared.number.NumberFault.TheVariants.{TooFine, TooLarge}
use Rattle.fractions.specs.Divisors.{gcd, gcd_within}
use Rattle.fractions.specs.Number.{number_said}

quarter : number_said (codes "0.25") ≡ Ok (record { num = 1; den = 4 })
unfolding gcd gcd_within
quarter = refl

open_point : number_said (codes "1.") ≡ Ok (record { num = 1; den = 1 })
unfolding gcd gcd_within
open_point = refl

upper_exponent : number_said (codes "1E-5") ≡ Ok (record { num = 1; den = 100000 })
unfolding gcd gcd_within
upper_exponent = refl

padded_exponent : number_said (codes "1e-005") ≡ Ok (record { num = 1; den = 100000 })
unfolding gcd gcd_within
padded_exponent = refl

zero_of_many_places : number_said (codes "0e-50") ≡ Ok (record { num = 0; den = 1 })
unfolding gcd gcd_within
zero_of_many_places = refl

sixths : number_said (codes "2/6") ≡ Ok (record { num = 1; den = 3 })
unfolding gcd gcd_within
sixths = refl

two : number_said (codes "2") ≡ Ok (record { num = 2; den = 1 })
unfolding gcd gcd_within
two = refl

finest_spelled : number_said (codes "1e-23") ≡ Ok (record { num = 1; den = 10 ^ 23 })
unfolding gcd gcd_within
finest_spelled = refl

too_fine : number_said (codes "1e-24") ≡ Err TooFine
unfolding gcd gcd_within
too_fine = refl

too_large : number_said (codes "2.1") ≡ Err TooLarge
unfolding gcd gcd_within
too_large = refl

far_exponent : number_said (codes "1e100") ≡ Err TooManyDigits
unfolding gcd gcd_within
far_exponent = refl

over_zero : number_said (codes "1/0") ≡ Err ZeroDenominator
unfolding gcd gcd_within
over_zero = refl

no_front : number_said (codes ".5") ≡ Err NotANumber
no_front = refl

plus : number_said (codes "+1") ≡ Err NotANumber
plus = refl

minus : number_said (codes "-0.5") ≡ Err NotANumber
minus = refl

comma : number_said (codes "0,5") ≡ Err NotANumber
comma = refl

empty : number_said (codes "") ≡ Err NotANumber
empty = refl
