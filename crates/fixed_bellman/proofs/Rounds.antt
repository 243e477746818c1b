-- What rounding keeps and loses.
use Rattle.std.proofs.Common.{◌≡◌, ℕ, ◌+◌, ◌-◌, ◌*◌, ◌/◌, ◌<◌, ◌≤◌, arith}
use Rattle.std.proofs.Math.Nat.{le-div_iff_mul-le, div-lt_iff_lt-mul}

pub down-below : (sum total value : ℕ) → 0 < total → value ≡ sum / total → value * total ≤ sum
down-below sum total value positive is = (le-div_iff_mul-le positive).0 (omega (arith, is))

pub down-greatest : (sum total value : ℕ) → 0 < total → value ≡ sum / total → sum < (value + 1) * total
down-greatest sum total value positive is = (div-lt_iff_lt-mul positive).0 (omega (arith, is))

pub up-above : (sum total value : ℕ) → 0 < total → value ≡ (sum + (total - 1)) / total → sum ≤ value * total
up-above sum total value positive is =
    let next : sum + (total - 1) < (value + 1) * total = (div-lt_iff_lt-mul positive).0 (omega (arith, is)) in
    omega (arith, next)

pub up-least : (sum total value : ℕ) → 0 < total → value ≡ (sum + (total - 1)) / total → value * total < sum + total
up-least sum total value positive is =
    let below : value * total ≤ sum + (total - 1) = (le-div_iff_mul-le positive).0 (omega (arith, is)) in
    omega (arith, below)
