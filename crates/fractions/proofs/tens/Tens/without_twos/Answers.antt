use Rattle.std.proofs.Common.{◌^◌, refl, arith}
use Prim.Native.Nat.{◌∣◌}
use Rattle.std.proofs.lemmas.Nat.Gcd.{dvd_trans}
use Rattle.fractions.proofs.Powers.{two_some}
use Rattle.fractions.proofs.Factors.{pow_divides, over_divides, value_over}
use Rattle.fractions.proofs.tens.Tens.without_twos.Goals as goal

pub invariant_of-result : goal.invariant_of-result
invariant_of-result c =
    let den : 2 ^ c.min-twos.result ∣ c.args.self.den = dvd_trans (2 ^ c.min-twos.result)
    (pow_divides 2 c.min-twos.result c.twos_in-2.result (omega arith)) c.twos_in-2.ensures.whole in
    record { tens = over_divides (2 ^ c.min-twos.result) c.args.self.den (10 ^ 19) den c.args.self.tens }

pub returns-clause-value : goal.returns-clause-value
returns-clause-value c =
    let num : 2 ^ c.min-twos.result ∣ c.args.self.num = dvd_trans (2 ^ c.min-twos.result)
    (pow_divides 2 c.min-twos.result c.twos_in.result (omega arith)) c.twos_in.ensures.whole in
    let den : 2 ^ c.min-twos.result ∣ c.args.self.den = dvd_trans (2 ^ c.min-twos.result)
    (pow_divides 2 c.min-twos.result c.twos_in-2.result (omega arith)) c.twos_in-2.ensures.whole in
    value_over (2 ^ c.min-twos.result) c.args.self.num c.args.self.den c.args.self.num c.args.self.den
    (two_some c.min-twos.result) num den refl
