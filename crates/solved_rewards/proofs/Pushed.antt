-- What holds of each entry stays true when one more is pushed.
use Rattle.std.proofs.Common.{◌≡◌, ℕ, ◌+◌, ◌<◌, List, [], ◌∷◌, ◌++◌, length, arith, sym, ap, ◌∙◌, subst, below_more}
use Rattle.std.proofs.Common.{Option, None, get_or}
use Rattle.std.proofs.lemmas.List.{get_or_append_left, get_or_push}

pub each-pushed : (P : ℕ → Option ℕ → Type 0) (list more : List (Option ℕ)) (n : ℕ) (x : Option ℕ) → length list ≡ n
    → more ≡ list ++ x ∷ [] → ((s : ℕ) → s < n → P s (get_or list s None)) → P n x
    → (s : ℕ) → s < n + 1 → P s (get_or more s None)
each-pushed P list more n x many is before here =
    below_more (λ (s : ℕ). P s (get_or more s None)) n
    (λ s h.
    let inside : s < length list = omega (arith, many, h) in
    let same : get_or more s None ≡ get_or list s None =
    ap (λ (l : List (Option ℕ)). get_or l s None) is ∙ rw get_or_append_left in
    subst (P s) (sym same) (before s h))
    (let last : get_or more n None ≡ x =
    ap (λ (l : List (Option ℕ)). get_or l n None) is ∙ get_or_push list x None n many in
    subst (P n) (sym last) here)
