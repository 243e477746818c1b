-- A fact that holds for each entry.
use Rattle.std.proofs.Common.{◌≡◌, ℕ, ◌+◌, ◌<◌, List, [], ◌∷◌, ◌++◌, length, arith, sym, ap, subst, inl, inr}
use Rattle.std.specs.Prelude.{slice_index}
use Rattle.std.proofs.lemmas.Bool.{cases_eq}
use Rattle.std.proofs.lemmas.List.{length_push, get_or_push, get_or_append_left}
use Rattle.trap_sets.specs.inside.Each.{IsEach}

-- no entry yet
pub IsEach-none : (P : ℕ → ℕ → Type 0) (list : List ℕ) → list ≡ [] → IsEach P list 0
IsEach-none P list none = record { many = ap length none; each = λ s l. absurd (omega (arith, l)) }

-- one more entry
pub IsEach-push : (P : ℕ → ℕ → Type 0) (list more : List ℕ) (v n : ℕ) → more ≡ list ++ v ∷ [] → IsEach P list n
    → P n v → IsEach P more (n + 1)
IsEach-push P list more v n pushed h here = record {
  many = omega (arith, ap length pushed, length_push list v, h.many);
  each = λ s l. subst (λ (xs : List ℕ). P s (slice_index xs s)) (sym pushed) (elim (cases_eq s n) [
    | inl same ↦ subst (λ u. P u (slice_index (list ++ v ∷ []) u)) (sym same)
        (subst (P n) (sym (get_or_push list v 0 n h.many)) here)
    | inr other ↦
        let below : s < n = omega (arith, l, other) in
        subst (P s) (sym (get_or_append_left list (v ∷ []) 0 s (omega (arith, below, h.many)))) (h.each s below)
  ]);
}
