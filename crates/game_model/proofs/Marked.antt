-- What the marks of a zero set say of any state.
use Rattle.std.proofs.Common.{◌≡◌, ℕ, zero, Bool, true, false, List, length, arith, refl, sym, ◌∙◌, inl, inr}
use Rattle.std.specs.Prelude.{slice_index_or}
use Rattle.std.specs.Bool.{if◌then◌else◌}
use Rattle.std.proofs.lemmas.Bool.{cases_lt}
use Rattle.std.proofs.lemmas.List.{get_or_past}
use Rattle.game_model.specs.Query.{Query, is_goal}
use Rattle.game_model.specs.Values.{numerator, numerator_of}
use Rattle.game_model.specs.Dual.{IsZeroSet}

-- a marked state has only values 0
pub marked-none : (q : Query) (marks : List Bool) → IsZeroSet q marks → (s : ℕ) → slice_index_or marks s false ≡ true
    → (k : ℕ) → numerator q k s ≡ 0
marked-none q marks h s marked k = elim (cases_lt s (length marks)) [
  | inl inside ↦ h.marked s (omega (arith, h.as_many)) marked k
  | inr past ↦ let no : false ≡ true = sym (get_or_past marks s false past) ∙ marked in absurd (cc)
]

opening-goal : (goal : Bool) → ◌≡◌ {A = ℕ} (if goal then 1 else 0) 0 → goal ≡ false
opening-goal true h = absurd (let one : ℕ = 1 in let at : one ≡ 0 = h in omega arith)
opening-goal false h = refl

-- a marked state is no goal
pub marked-goal : (q : Query) (marks : List Bool) → IsZeroSet q marks → (s : ℕ) → slice_index_or marks s false ≡ true
    → is_goal q s ≡ false
unfolding numerator_of
marked-goal q marks h s marked = opening-goal (is_goal q s) (marked-none q marks h s marked zero)
