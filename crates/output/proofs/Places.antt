-- The bytes of equal texts.
use Rattle.std.proofs.Common.{◌≡◌, ℕ, List, get_or, ap}

-- at a place
pub at : {xs ys : List ℕ} → xs ≡ ys → (i : ℕ) → get_or xs i 0 ≡ get_or ys i 0
at e i = ap (λ (t : List ℕ). get_or t i 0) e
