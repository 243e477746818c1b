-- The first action at each place, one row further.
use Rattle.std.proofs.Common.{◌≡◌, ◌∙◌, inl, inr, ℕ, ◌==◌, Bool, true, false, cond, List, [], ◌∷◌, ◌++◌, Option, Some}
use Rattle.std.proofs.Common.{None, option_map, slice_get, refl, sym, ap}
use Rattle.std.proofs.lemmas.Bool.{cases_Bool, eqb-true}
use Rattle.std.specs.List.{filter}
use Rattle.transition_lines.specs.Lines.{Row}
use Rattle.transition_lines.specs.Order.{has}
use Rattle.transition_lines.specs.Answers.{row_place, action_at}

abbrev or_one : Option (List ℕ) → Option (List ℕ) → Option (List ℕ)
or_one None other = other
or_one (Some a) other = Some a

abbrev first_of : List Row → Option (List ℕ)
first_of rows = option_map (λ (row : Row). row.action) (slice_get rows 0)

one_row : (b : Bool) (row : Row) → first_of (cond b (row ∷ []) []) ≡ cond b (Some row.action) None
one_row true row = refl
one_row false row = refl

push_action : (before : List Row) (row : Row) (q : ℕ)
    → action_at (before ++ row ∷ []) q ≡ or_one (action_at before q) (cond (row_place row == q) (Some row.action) None)
push_action [] row q = one_row (row_place row == q) row
push_action (b ∷ before) row q = elim (cases_Bool (row_place b == q)) [
  | inl e ↦ ap (λ v. first_of
      (cond v (b ∷ filter (has row_place q) (before ++ row ∷ [])) (filter (has row_place q) (before ++ row ∷ [])))) e
      ∙ sym (ap (λ v. or_one (first_of (cond v (b ∷ filter (has row_place q) before) (filter (has row_place q) before)))
      (cond (row_place row == q) (Some row.action) None)) e)
  | inr e ↦ ap (λ v. first_of
      (cond v (b ∷ filter (has row_place q) (before ++ row ∷ [])) (filter (has row_place q) (before ++ row ∷ [])))) e
      ∙ push_action before row q
      ∙ sym (ap (λ v. or_one (first_of (cond v (b ∷ filter (has row_place q) before) (filter (has row_place q) before)))
      (cond (row_place row == q) (Some row.action) None)) e)
]

or_none : (o : Option (List ℕ)) → or_one o None ≡ o
or_none None = refl
or_none (Some x) = refl

-- a choice that is noted keeps its action
pub noted_stays : (before : List Row) (row : Row) (a : List ℕ) (q : ℕ) → action_at before (row_place row) ≡ Some a
    → action_at (before ++ row ∷ []) q ≡ action_at before q
noted_stays before row a q noted = push_action before row q ∙ kept (row_place row == q) refl
  where
    kept : (b : Bool) → (row_place row == q) ≡ b
        → or_one (action_at before q) (cond b (Some row.action) None) ≡ action_at before q
    kept false e = or_none (action_at before q)
    kept true e = ap (λ o. or_one o (Some row.action)) has_a ∙ sym has_a
      where
        has_a : action_at before q ≡ Some a
        has_a = ap (λ p. action_at before p) (sym (eqb-true (row_place row) q e)) ∙ noted

-- a choice that is new has this action
pub newly_noted : (before : List Row) (row : Row) (q : ℕ) → action_at before (row_place row) ≡ None
    → action_at (before ++ row ∷ []) q ≡ cond (row_place row == q) (Some row.action) (action_at before q)
newly_noted before row q none = push_action before row q ∙ kept (row_place row == q) refl
  where
    kept : (b : Bool) → (row_place row == q) ≡ b
        → or_one (action_at before q) (cond b (Some row.action) None) ≡ cond b (Some row.action) (action_at before q)
    kept false e = or_none (action_at before q)
    kept true e = ap (λ o. or_one o (Some row.action))
        (ap (λ p. action_at before p) (sym (eqb-true (row_place row) q e)) ∙ none)
