use Rattle.std.proofs.Common.{◌≡◌, ◌*◌}
use Prim.Native.Nat.{◌∣◌}
use Rattle.fractions.proofs.tens.Tens.without_fives.Given as goal

abbrev pub invariant-loop-num : goal.invariant-loop-num
invariant-loop-num l = record {
  value : l.num * l.fn.self.den ≡ l.fn.self.num * l.den;
  num : l.num ∣ l.fn.self.num;
  den : l.den ∣ l.fn.self.den;
}

abbrev pub decreases-loop-num : goal.decreases-loop-num
decreases-loop-num l = l.den
