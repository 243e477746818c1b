use Rattle.std.proofs.Common.{refl, arith}
use Prim.Native.Nat.{◌∣◌}
use Rattle.std.proofs.lemmas.Nat.Gcd.{dvd_refl, dvd_trans, dvd_of_mod-eq-zero}
use Rattle.fractions.proofs.Factors.{over_divides, value_over, tens_some}
use Rattle.fractions.proofs.tens.Tens.without_fives.Goals as goal

pub loop-num-init : goal.loop-num-init
loop-num-init c = record { value = refl; num = dvd_refl c.args.self.num; den = dvd_refl c.args.self.den }

pub loop-num-preserved : goal.loop-num-preserved
loop-num-preserved c =
    let num : 5 ∣ c.loop-num.num = dvd_of_mod-eq-zero 5 c.loop-num-test.true in
    let den : 5 ∣ c.loop-num.den = dvd_of_mod-eq-zero 5 c.if-den-eq0.true in
    record {
      value = value_over 5 c.args.self.num c.args.self.den c.loop-num.num c.loop-num.den
          (omega arith) num den c.loop-num.invariant.value;
      num = over_divides 5 c.loop-num.num c.args.self.num num c.loop-num.invariant.num;
      den = over_divides 5 c.loop-num.den c.args.self.den den c.loop-num.invariant.den;
    }

pub loop-num-smaller : goal.loop-num-smaller
loop-num-smaller c =
    omega (arith, tens_some c.loop-num.den (dvd_trans c.loop-num.den c.loop-num.invariant.den c.args.self.tens))

pub invariant_of-result : goal.invariant_of-result
invariant_of-result c = record { tens = dvd_trans c.loop-num.den c.loop-num.invariant.den c.args.self.tens }
