-- Powers with greater exponents.
use Rattle.std.proofs.Common.{◌≡◌, ℕ, suc, ◌+◌, ◌*◌, ◌^◌, ◌≤◌, ◌<◌, arith, sym, ap, ◌∙◌, subst}
use Rattle.std.proofs.lemmas.Nat.{pow-add}
use Rattle.std.proofs.Math.Nat.{mul-le-mul_right, pow-suc, one-le-pow}

-- one more on the left
pub pow-suc_left : (d e k : ℕ) → d ^ (suc e + k) ≡ d ^ (e + k) * d
pow-suc_left d e k = let at : suc e + k ≡ suc (e + k) = omega arith in ap (λ n. d ^ n) at ∙ pow-suc d (e + k)

-- one more on either side
pub pow-suc_both : (d e k : ℕ) → d ^ (suc e + suc k) ≡ d ^ (e + k) * d * d
pow-suc_both d e k =
    let at : suc e + suc k ≡ suc (suc (e + k)) = omega arith in
    ap (λ n. d ^ n) at ∙ pow-suc d (suc (e + k)) ∙ ap (λ n. n * d) (pow-suc d (e + k))

-- a greater power
pub pow-more : (d e k : ℕ) → 0 < d → d ^ k ≤ d ^ (e + k)
pow-more d e k positive =
    subst (λ x. d ^ k ≤ x) (sym (pow-add d e k)) (omega (arith, mul-le-mul_right (d ^ k) (one-le-pow e d positive)))
