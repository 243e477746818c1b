-- Products in two words, and their order.
use Rattle.std.proofs.Common.{◌≡◌, ◌∙◌, ℕ, ◌+◌, ◌*◌, ◌/◌, ◌%◌, ◌<◌, ap, arith}

-- a product from those of the words
pub product_parts : (w a b : ℕ) → 0 < w →
    ((a / w) * (b / w) * w + ((a / w) * (b % w) + (a % w) * (b / w) + ((a % w) * (b % w)) / w)) * w
    + ((a % w) * (b % w)) % w ≡ a * b
product_parts w a b h =
    let first : a ≡ (a / w) * w + a % w = omega arith in
    let second : b ≡ (b / w) * w + b % w = omega arith in
    let low : (a % w) * (b % w) ≡ (((a % w) * (b % w)) / w) * w + ((a % w) * (b % w)) % w = omega arith in
    let whole : a * b ≡ ((a / w) * w + a % w) * ((b / w) * w + b % w) =
    ap (λ n. n * b) first ∙ ap (λ n. ((a / w) * w + a % w) * n) second in
    omega (arith, whole, low)
