-- The question that marks of the sides pose.
use Rattle.std.proofs.Common.{◌≡◌, ◌≢◌, ◌∙◌, ℕ, Bool, true, false, List, length, get_or, sym, ap, refl}
use mathlib.Core.Bool.{beq}
use Rattle.std.specs.Bool.{Decides}
use Rattle.std.proofs.lemmas.List.FromFn.{fill_by_all}
use Rattle.game_model.specs.Query.{Query}
use Rattle.formula_reader.specs.Formula.{Tree}
use Rattle.formula_sets.specs.Posing.{Model, at_states, question_with}
use Rattle.formula_truth.specs.Truth.{states, question_by}
use Rattle.formula_truth.proofs.Posed.{goals-apart, lost_by}

-- what marks say of a state
abbrev pub marked : List Bool → ℕ → Bool
marked marks s = get_or marks s false

module _ (left right read_left read_right deads : List Bool) (n : ℕ) (lefts : read_left ≡ left)
    (rights : read_right ≡ right) (many : length right ≡ n)
    (is : deads ≡ at_states (lost_by (marked read_left) (marked read_right)) (length read_right)) where
  pub lost-are : deads ≡ at_states (lost_by (marked left) (marked right)) n
  lost-are =
      is
      ∙ ap (λ r. at_states (lost_by (marked read_left) (marked r)) (length r)) rights
      ∙ ap (λ l. at_states (lost_by (marked l) (marked right)) (length right)) lefts
      ∙ ap (at_states (lost_by (marked left) (marked right))) many

  goals-are : right ≡ at_states (marked right) n
  goals-are = fill_by_all (marked right) right n false many (λ k h. refl)

  pub lost-apart : (goals : List Bool) → goals ≡ right → (s : ℕ) → get_or goals s false ≡ true
      → get_or deads s false ≡ false
  lost-apart goals same s goal =
      ap (λ xs. get_or xs s false) lost-are
      ∙ goals-apart (marked left) (marked right) n s (sym (ap (λ xs. get_or xs s false) (same ∙ goals-are)) ∙ goal)

  pub posed-so : (m : Model) (f : Tree) (goals : List Bool) (q : Query) → states m ≡ n → goals ≡ right
      → q ≡ question_with m.game m.owners f goals deads → q ≡ question_by m f (marked left) (marked right)
  posed-so m f goals q sized same posed =
      posed
      ∙ ap (λ g. question_with m.game m.owners f g deads) (same ∙ goals-are)
      ∙ ap (question_with m.game m.owners f (at_states (marked right) n)) lost-are
      ∙ ap (λ k. question_with m.game m.owners f (at_states (marked right) k)
      (at_states (lost_by (marked left) (marked right)) k)) (sym sized)

-- questions with other marks are others
pub posed-apart : (m : Model) (f : Tree) (goals others deads other_deads : List Bool) (low high : Query)
    → low ≡ question_with m.game m.owners f goals deads → high ≡ question_with m.game m.owners f others other_deads
    → (goals ≡ others → deads ≡ other_deads → ⊥) → low ≢ high
posed-apart m f goals others deads other_deads low high low_is high_is apart same =
    let whole = sym low_is ∙ same ∙ high_is in
    apart (ap (λ (q : Query). q.goals) whole) (ap (λ (q : Query). q.deads) whole)

-- `==` of truth values
pub bool-Decides : (a b : Bool) → Decides (beq a b) (a ≡ b)
bool-Decides true true = (λ h. refl, λ h. refl)
bool-Decides true false = (λ h. let wrong : false ≡ true = h in absurd (cc), λ h. absurd (cc))
bool-Decides false true = (λ h. let wrong : false ≡ true = h in absurd (cc), λ h. absurd (cc))
bool-Decides false false = (λ h. refl, λ h. refl)
