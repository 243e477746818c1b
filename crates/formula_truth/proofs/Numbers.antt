-- The numbers below a number.
use Rattle.std.proofs.Common.{◌≡◌, ◌∙◌, ◌+◌, ◌++◌, ◌∷◌, [], ℕ, zero, suc, arith, ap, add-one}
use Rattle.std.specs.List.{range_with_len}

next-number : (a n j : ℕ) → a + n ≡ j → range_with_len a (suc n) ≡ range_with_len a n ++ j ∷ []
next-number a zero j is = ap (λ x. x ∷ []) (let same : a ≡ j = omega arith in same)
next-number a (suc n) j is = ap (λ xs. a ∷ xs) (next-number (a + 1) n j (omega arith))

-- one number more
pub range_with_len-more : (n : ℕ) → range_with_len 0 (n + 1) ≡ range_with_len 0 n ++ n ∷ []
range_with_len-more n = ap (range_with_len 0) (add-one n) ∙ next-number 0 n n (omega arith)
