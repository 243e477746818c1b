-- Predecessors are marked, one after another.
use Rattle.std.proofs.Common.{◌≡◌, ◌≢◌, ℕ, ◌+◌, ◌<◌, ◌≤◌, Bool, true, false, List, arith, refl, sym, ◌∙◌, subst, inl}
use Rattle.std.proofs.Common.{inr, slice_index_or, get_or-set_other}
use Rattle.std.specs.Prelude.{slice_set}
use Rattle.std.proofs.lemmas.Bool.{cases_eq, cases_lt}
use Rattle.std.specs.List.{AllWithin}
use Rattle.game_model.specs.Game.{Distribution}
use Rattle.predecessors.specs.Moves.{LeadsTo}
use Rattle.predecessors.specs.Marks.{IsMarked}

-- the states below i that changed have their predecessors marked
pub record AreMarkedBelow (game : List (List Distribution)) (i : ℕ) (changed now marks : List Bool) : Type 0 where
  pub rest : (t : ℕ) → i ≤ t → slice_index_or now t false ≡ slice_index_or changed t false
  pub marked : (s c t : ℕ) → t < i → IsMarked changed t → LeadsTo game s c t → IsMarked marks s

-- one more, which changed
pub marked-more : (game : List (List Distribution)) (i : ℕ) (changed now marks new : List Bool)
    → AreMarkedBelow game i changed now marks → ((s : ℕ) → IsMarked marks s → IsMarked new s)
    → ((s c : ℕ) → LeadsTo game s c i → IsMarked new s)
    → AreMarkedBelow game (i + 1) changed (slice_set now i false) new
marked-more game i changed now marks new h kept here = record {
  rest = λ t past. off-other now i t (λ same. omega arith) ∙ h.rest t (omega arith);
  marked = λ s c t below on leads. elim (cases_eq t i) [
    | inl same ↦ here s c (subst (λ (u : ℕ). LeadsTo game s c u) same leads)
    | inr other ↦ kept s (h.marked s c t (omega arith) on leads)
  ];
}
  where
    off-other : (now : List Bool) (i t : ℕ) → t ≢ i
        → slice_index_or (slice_set now i false) t false ≡ slice_index_or now t false
    off-other now i t other = rw get_or-set_other refl

-- those up to the next mark did not change
pub marked-over : (game : List (List Distribution)) (i j : ℕ) (changed now marks : List Bool)
    → AreMarkedBelow game i changed now marks → AllWithin (λ m. m ≡ false) now i j → i ≤ j
    → AreMarkedBelow game j changed now marks
marked-over game i j changed now marks h off order = record {
  rest = λ t past. h.rest t (omega arith);
  marked = λ s c t below on leads. elim (cases_lt t i) [
    | inl less ↦ h.marked s c t less on leads
    | inr past ↦ absurd (let clash : true ≡ false = sym on ∙ sym (h.rest t past) ∙ off t false past below in cc)
  ];
}
