-- A division in units takes the whole part by itself.
use Rattle.std.proofs.Common.{◌≡◌, ℕ, ◌+◌, ◌*◌, ◌/◌, ◌%◌, ◌^◌, ◌<◌, ◌≤◌, arith, ap}
use Rattle.std.specs.Int.{div_ceil}
use Rattle.std.proofs.Math.Nat.{pow-le-pow_right, one-le-pow, mul-le-mul_left}
use Rattle.std.proofs.lemmas.Nat.{div-add-mod', div_below, le-div, mul-le}
use Rattle.game_model.specs.Limits.{unit}
use Rattle.fractions.specs.Limits.{finest}
use Rattle.reward_units.specs.Units.{most_places, most_units, capped}

-- a unit has at most fifteen places
pub power-most : (places : ℕ) → places ≤ most_places → 10 ^ places ≤ 10 ^ 15
power-most places few = pow-le-pow_right {n = 10} (omega arith) {i = places} {j = 15} few

-- the whole part in units
pub whole-most : (num den power : ℕ) → num < (unit + 1) * den → power ≤ 10 ^ 15 → num / den * power ≤ unit * 10 ^ 15
whole-most num den power small few =
    let below : num / den < unit + 1 = div_below num den (unit + 1) (omega (arith, small)) small in
    mul-le (num / den) power unit (10 ^ 15) (omega (arith, below)) few

-- the rest in units, over the denominator
pub part-most : (num den power : ℕ) → 1 ≤ den → den ≤ finest → power ≤ 10 ^ 15 → num % den * power ≤ finest * 10 ^ 15
part-most num den power some fine few =
    mul-le (num % den) power finest (10 ^ 15) (omega (arith, some, fine)) few

-- the rest gives less than one whole part
part-below : (num den power : ℕ) → 1 ≤ den → 1 ≤ power → num % den * power / den < power
part-below num den power some more =
    let rest : num % den + 1 ≤ den = omega (arith, some) in
    div_below (num % den * power) den power some
    (omega (arith, mul-le-mul_left power rest, more))

-- the whole part is below one more than a value, and so are both parts together
pub units-fit : (num den power : ℕ) → num < (unit + 1) * den → 1 ≤ power
    → num / den * power + num % den * power / den < (unit + 1) * power
units-fit num den power small more =
    let below : num / den < unit + 1 = div_below num den (unit + 1) (omega (arith, small)) small in
    let whole : power * (num / den) ≤ power * unit = mul-le-mul_left power (omega (arith, below)) in
    omega (arith, whole, part-below num den power (omega (arith, small)) more)

-- both parts together are the fraction in units
pub parts-whole : (num den power : ℕ)
    → (num / den * power + num % den * power / den) * den + num % den * power % den ≡ num * power
parts-whole num den power =
    let power-of : power * (num / den * den + num % den) ≡ power * num = ap (λ n. power * n) (div-add-mod' num den) in
    omega (arith, div-add-mod' (num % den * power) den, power-of)

-- a whole part that is too great for a value stays so with more places
still-more : (num den places : ℕ) → 1 ≤ den → unit < num / den → unit < num * 10 ^ places / den
still-more num den places some more =
    let power : 1 ≤ 10 ^ places = one-le-pow places 10 (omega arith) in
    let less : num / den * den ≤ num * 10 ^ places =
    omega (arith, div-add-mod' num den, mul-le-mul_left num power) in
    let whole : num / den ≤ num * 10 ^ places / den = le-div (num / den) (num * 10 ^ places) den some less in
    omega (arith, whole, more)

-- as many units as that, or more
capped-more : (n m : ℕ) → unit < n → n ≤ m → most_units ≡ capped m
capped-more n m more less = omega (arith, more, less)

-- such a reward has the most units
pub too-many-below : (num den places : ℕ) → 1 ≤ den → unit < num / den
    → most_units ≡ capped (num * 10 ^ places / den)
too-many-below num den places some more =
    capped-more (num * 10 ^ places / den) (num * 10 ^ places / den) (still-more num den places some more) (omega arith)

pub too-many-above : (num den places : ℕ) → 1 ≤ den → unit < num / den
    → most_units ≡ capped (div_ceil (num * 10 ^ places) den)
too-many-above num den places some more =
    capped-more (num * 10 ^ places / den) (div_ceil (num * 10 ^ places) den) (still-more num den places some more)
    (omega arith)
