-- A number in a line ends at the space behind it. `decimal` writes a number of at most 64 digits in full.
use Rattle.std.proofs.Common.{◌≡◌, ◌≢◌, ◌∙◌, ◌<◌, ◌+◌, ◌%◌, ◌^◌, ℕ, List, [], ◌∷◌, ◌++◌, refl, sym, ap, arith}
use Rattle.std.specs.Prelude.{decimal}
use Rattle.std.specs.Str.Parse.{digits_value}
use Rattle.std.proofs.lemmas.Fmt.{decimal_by_steps_wide, decimal_is_IsNumeral_wide}

abbrev NoSpace : List ℕ → Type 0
NoSpace [] = Unit {0}
NoSpace (b ∷ bytes) = (b ≢ 32) × NoSpace bytes

NoSpace-snoc : (bytes : List ℕ) (b : ℕ) → NoSpace bytes → b ≢ 32 → NoSpace (bytes ++ b ∷ [])
NoSpace-snoc [] b h other = (other, tt)
NoSpace-snoc (c ∷ bytes) b h other = (h.0, NoSpace-snoc bytes b h.1 other)

decimal-NoSpace : (n : ℕ) → n < 10 ^ 64 → NoSpace (decimal n)
decimal-NoSpace n small = decimal_by_steps_wide (λ m digits. NoSpace digits) (λ m h. (omega arith, tt))
    (λ m digits h before. NoSpace-snoc digits (48 + m % 10) before (omega arith)) n small

up_to_space : (xs ys r s : List ℕ) → NoSpace xs → NoSpace ys → xs ++ 32 ∷ r ≡ ys ++ 32 ∷ s → (xs ≡ ys) × (r ≡ s)
up_to_space [] [] r s hx hy e = (refl, cc)
up_to_space [] (y ∷ ys) r s hx hy e = let is : y ≡ 32 = cc in absurd (hy.0 is)
up_to_space (x ∷ xs) [] r s hx hy e = let is : x ≡ 32 = cc in absurd (hx.0 is)
up_to_space (x ∷ xs) (y ∷ ys) r s hx hy e =
    let first : x ≡ y = cc in
    let behind : xs ++ 32 ∷ r ≡ ys ++ 32 ∷ s = cc in
    let parts = up_to_space xs ys r s hx.1 hy.1 behind in
    let others : xs ≡ ys = parts.0 in
    (cc, parts.1)

-- no two numbers have the same text
pub decimal-one : (m n : ℕ) → m < 10 ^ 64 → n < 10 ^ 64 → decimal m ≡ decimal n → m ≡ n
decimal-one m n hm hn e =
    sym (decimal_is_IsNumeral_wide m hm).1 ∙ ap (digits_value 10) e ∙ (decimal_is_IsNumeral_wide n hn).1

-- nor with a space and more behind them
pub number-one : (m n : ℕ) (r s : List ℕ) → m < 10 ^ 64 → n < 10 ^ 64
    → decimal m ++ 32 ∷ r ≡ decimal n ++ 32 ∷ s → (m ≡ n) × (r ≡ s)
number-one m n r s hm hn e =
    let parts = up_to_space (decimal m) (decimal n) r s (decimal-NoSpace m hm) (decimal-NoSpace n hn) e in
    (decimal-one m n hm hn parts.0, parts.1)
