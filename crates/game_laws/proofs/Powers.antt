-- Powers of a number and of one less, and horizons of several stretches.
use Rattle.std.proofs.Common.{◌≡◌, ℕ, zero, suc, ◌+◌, ◌*◌, ◌^◌, ◌≤◌, arith, sym, ap, ◌∙◌, subst}
use Rattle.std.proofs.lemmas.Nat.{pow-add}
use Rattle.std.proofs.Math.Nat.{mul-le-mul_right, pow-suc, pow-zero, pow-succ', le_of_mul-le-mul_left}

-- where the base is c + 1: the powers of c fall behind
pow-behind : (c j : ℕ) → c ^ j * (c + 1 + j) ≤ (c + 1) ^ suc j
pow-behind c zero = rw (pow-zero c, pow-suc (c + 1) zero, pow-zero (c + 1)) (omega arith)
pow-behind c (suc j) =
    rw (pow-suc c j, pow-suc (c + 1) (suc j))
    (omega (arith, mul-le-mul_right (c + 1) (pow-behind c j)))

-- so m times such a power is within
pub pow-far : (c m : ℕ) → m * c ^ (m * (c + 1)) ≤ (c + 1) ^ (m * (c + 1))
pow-far c m =
    let b : ℕ = c + 1 in
    let behind : c ^ (m * b) * (b + m * b) ≤ b ^ suc (m * b) = pow-behind c (m * b) in
    let whole : b * ((1 + m) * c ^ (m * b)) ≤ b * b ^ (m * b) =
    subst (λ x. b * ((1 + m) * c ^ (m * b)) ≤ x) (pow-succ' b (m * b)) (omega (arith, behind)) in
    let cut : (1 + m) * c ^ (m * b) ≤ b ^ (m * b) = le_of_mul-le-mul_left whole (omega arith) in
    omega (arith, cut)

-- j stretches of so many steps
unfoldable pub horizon_of : ℕ → ℕ → ℕ
horizon_of stretch zero = 0
horizon_of stretch (suc j) = horizon_of stretch j + stretch

pub pow-horizon_of : (d stretch j : ℕ) → d ^ horizon_of stretch j ≡ (d ^ stretch) ^ j
unfolding horizon_of
pow-horizon_of d stretch zero = pow-zero d ∙ sym (pow-zero (d ^ stretch))
pow-horizon_of d stretch (suc j) = pow-add d (horizon_of stretch j) stretch
    ∙ ap (λ n. n * d ^ stretch) (pow-horizon_of d stretch j) ∙ sym (pow-suc (d ^ stretch) j)
