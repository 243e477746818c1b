-- The entries of bounds, by their marks.
use Rattle.std.proofs.Common.{◌≡◌, ℕ, ◌-◌, ◌<◌, ◌≤◌, Bool, true, false, arith, refl, min, max}
use Rattle.std.specs.Prelude.{if◌then◌else◌}
use Rattle.game_model.specs.Limits.{unit}

pub lower-sure : (sure zero : Bool) (x : ℕ) → sure ≡ true
    → (if sure then unit else (if zero then 0 else min x (unit - 1))) ≡ unit
lower-sure true zero x h = refl
lower-sure false zero x h = absurd (cc)

pub lower-unsure : (sure zero : Bool) (x : ℕ) → sure ≡ false
    → (if sure then unit else (if zero then 0 else min x (unit - 1))) < unit
lower-unsure true zero x h = absurd (cc)
lower-unsure false true x h = let at : 0 < unit = omega arith in at
lower-unsure false false x h = let at : min x (unit - 1) < unit = omega arith in at

pub lower-zero : (sure zero : Bool) (x : ℕ) → sure ≡ false → zero ≡ true
    → ◌≡◌ {A = ℕ} (if sure then unit else (if zero then 0 else min x (unit - 1))) 0
lower-zero true zero x h k = absurd (cc)
lower-zero false true x h k = refl
lower-zero false false x h k = absurd (cc)

-- where there is no candidate
pub lower-none : (sure zero : Bool)
    → ◌≡◌ {A = ℕ} (if sure then unit else (if zero then 0 else min 0 (unit - 1))) (if sure then unit else 0)
lower-none true zero = refl
lower-none false true = refl
lower-none false false = let at : min 0 (unit - 1) ≡ 0 = omega arith in at

pub upper-zero : (zero sure : Bool) (x : ℕ) → zero ≡ true
    → ◌≡◌ {A = ℕ} (if zero then 0 else (if sure then unit else max 1 (min x unit))) 0
upper-zero true sure x h = refl
upper-zero false sure x h = absurd (cc)

pub upper-sure : (zero sure : Bool) (x : ℕ) → zero ≡ false → sure ≡ true
    → (if zero then 0 else (if sure then unit else max 1 (min x unit))) ≡ unit
upper-sure true sure x h k = absurd (cc)
upper-sure false true x h k = refl
upper-sure false false x h k = absurd (cc)

pub upper-some : (zero sure : Bool) (x : ℕ) → zero ≡ false
    → 1 ≤ (if zero then 0 else (if sure then unit else max 1 (min x unit)))
upper-some true sure x h = absurd (cc)
upper-some false true x h = let at : 1 ≤ unit = omega arith in at
upper-some false false x h = let at : 1 ≤ max 1 (min x unit) = omega arith in at

-- where there is no candidate
pub upper-none : (zero sure : Bool) → zero ≡ false
    → (if zero then 0 else (if sure then unit else max 1 (min unit unit))) ≡ unit
upper-none true sure h = absurd (cc)
upper-none false true h = refl
upper-none false false h = let at : max 1 (min unit unit) ≡ unit = omega arith in at
