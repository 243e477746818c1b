-- The questions of sides: what they keep, and which of them have more goals.
use Rattle.std.proofs.Common.{◌≡◌, ◌∙◌, ◌<◌, ◌≤◌, inl, inr, ℕ, Bool, true, false, not, ◌&&◌, List, get_or, arith, sym}
use Rattle.std.proofs.Common.{ap, refl}
use Rattle.std.proofs.Math.ListN.{get_or-eq_default}
use Rattle.std.proofs.lemmas.Bool.{cases_lt}
use Rattle.std.proofs.lemmas.List.FromFn.{fill_by_all}
use Rattle.game_model.specs.declared.game.Side.{Side}
use Rattle.game_model.specs.Game.{IsGame}
use Rattle.game_model.specs.Query.{Query, IsQuery}
use Rattle.game_model.specs.Values.{numerator}
use Rattle.game_model.specs.Bounds.{IsNear, IsHigh}
use Rattle.game_model.proofs.Choices.{AreChoicesOf-choices_of}
use Rattle.formula_reader.specs.Formula.{Tree}
use Rattle.formula_sets.specs.Posing.{Model, at_states, next_question_of}
use Rattle.formula_sets.specs.Sides.{side_of}
use Rattle.formula_sets.proofs.Asking.{at_states-at, length-at_states}
use Rattle.formula_sets.proofs.AskingNext.{never_marked}
use Rattle.formula_truth.specs.Truth.{states, question_by}
use Rattle.formula_truth.proofs.Ordered.{numerator-wider, IsNear-wider, IsHigh-narrower}

-- 1. What they keep.

abbrev pub lost_by : (ℕ → Bool) → (ℕ → Bool) → ℕ → Bool
lost_by left right s = not (right s) && not (left s)

pub goals-apart : (left right : ℕ → Bool) (n s : ℕ) → get_or (at_states right n) s false ≡ true
    → get_or (at_states (lost_by left right) n) s false ≡ false
goals-apart left right n s goal = elim (cases_lt s n) [
  | inl h ↦
      let holding : right s ≡ true = sym (at_states-at right n s false h) ∙ goal in
      at_states-at (lost_by left right) n s false h ∙ ap (λ v. not v && not (left s)) holding
  | inr h ↦ get_or-eq_default (at_states (lost_by left right) n) false
      (omega (arith, length-at_states (lost_by left right) n))
]

pub is_query : (m : Model) (f : Tree) (left right : ℕ → Bool) → IsGame m.game → IsQuery (question_by m f left right)
is_query m f left right game = record {
  game = game;
  sides = length-at_states (side_of f.coalition f.bound m.owners) (states m);
  goals = length-at_states right (states m);
  deads = length-at_states (lost_by left right) (states m);
  apart = goals-apart left right (states m);
}

pub is_next_query : (m : Model) (f : Tree) → IsGame m.game → IsQuery (next_question_of m.game m.owners f)
is_next_query m f game = record {
  game = game;
  sides = length-at_states (side_of f.coalition f.bound m.owners) (states m);
  goals = length-at_states (λ s. false) (states m);
  deads = length-at_states (λ s. false) (states m);
  apart = λ s goal. never_marked (states m) s;
}

-- 2. Sides that hold at more states.

abbrev pub IsWithin : ℕ → (ℕ → Bool) → (ℕ → Bool) → Type 0
IsWithin n here there = (s : ℕ) → s < n → here s ≡ true → there s ≡ true

pub marks-within : (n : ℕ) (here there : ℕ → Bool) → IsWithin n here there → (s : ℕ)
    → get_or (at_states here n) s false ≡ true → get_or (at_states there n) s false ≡ true
marks-within n here there more s marked = elim (cases_lt s n) [
  | inl h ↦ at_states-at there n s false h ∙ more s h (sym (at_states-at here n s false h) ∙ marked)
  | inr h ↦
      let no : false ≡ true =
      sym (get_or-eq_default (at_states here n) false (omega (arith, length-at_states here n))) ∙ marked in
      absurd (cc)
]

lost-back : (left right left' right' : Bool) → (left ≡ true → left' ≡ true) → (right ≡ true → right' ≡ true)
    → (not right' && not left') ≡ true → (not right && not left) ≡ true
lost-back left true left' true l r lost = let no : false ≡ true = lost in absurd (cc)
lost-back left true left' false l r lost = let no : false ≡ true = r refl in absurd (cc)
lost-back true false true true l r lost = let no : false ≡ true = lost in absurd (cc)
lost-back true false true false l r lost = let no : false ≡ true = lost in absurd (cc)
lost-back true false false right' l r lost = let no : false ≡ true = l refl in absurd (cc)
lost-back false false left' right' l r lost = refl

module _ (m : Model) (f : Tree) (left right left' right' : ℕ → Bool) (game : IsGame m.game)
    (more_left : IsWithin (states m) left left') (more_right : IsWithin (states m) right right') where
  abbrev sides : List Side
  sides = at_states (side_of f.coalition f.bound m.owners) (states m)

  abbrev pub lost : List Bool
  lost = at_states (lost_by left right) (states m)

  abbrev pub lost' : List Bool
  lost' = at_states (lost_by left' right') (states m)

  pub falls : (s : ℕ) → get_or lost' s false ≡ true → get_or lost s false ≡ true
  falls = marks-within (states m) (lost_by left' right') (lost_by left right)
      (λ s h. lost-back (left s) (right s) (left' s) (right' s) (more_left s h) (more_right s h))

  pub numerator-rises : (k s : ℕ)
      → numerator (question_by m f left right) k s ≤ numerator (question_by m f left' right') k s
  numerator-rises k s =
      numerator-wider m.game sides (at_states right (states m)) lost (at_states right' (states m)) lost'
      (marks-within (states m) right right' more_right) falls (AreChoicesOf-choices_of m.game game) k s

  pub IsNear-rises : (table : ℕ → ℕ) → IsNear (question_by m f left right) table
      → IsNear (question_by m f left' right') table
  IsNear-rises table near =
      IsNear-wider m.game sides (at_states right (states m)) lost (at_states right' (states m)) lost'
      (marks-within (states m) right right' more_right) falls (AreChoicesOf-choices_of m.game game) table near

  pub IsHigh-falls : (table : ℕ → ℕ) → IsHigh (question_by m f left' right') table
      → IsHigh (question_by m f left right) table
  IsHigh-falls table high =
      IsHigh-narrower m.game sides (at_states right (states m)) lost (at_states right' (states m)) lost'
      (marks-within (states m) right right' more_right) falls (AreChoicesOf-choices_of m.game game) table high

-- 3. Sides that hold at the same states.

abbrev pub AreEqual : ℕ → (ℕ → Bool) → (ℕ → Bool) → Type 0
AreEqual n here there = (s : ℕ) → s < n → here s ≡ there s

pub at_states-equal : (n : ℕ) (here there : ℕ → Bool) → AreEqual n here there → at_states here n ≡ at_states there n
at_states-equal n here there same = fill_by_all there (at_states here n) n false (length-at_states here n)
    (λ s h. at_states-at here n s false h ∙ same s h)

pub question-equal : (m : Model) (f : Tree) (left right left' right' : ℕ → Bool) → AreEqual (states m) left left'
    → AreEqual (states m) right right' → question_by m f left right ≡ question_by m f left' right'
question-equal m f left right left' right' lefts rights =
    let n = states m in
    let query : List Bool → List Bool → Query = λ goals deads. record {
      game = m.game;
      sides = at_states (side_of f.coalition f.bound m.owners) n;
      goals = goals;
      deads = deads;
    } in
    ap (λ goals. query goals (at_states (lost_by left right) n)) (at_states-equal n right right' rights)
    ∙ ap (query (at_states right' n)) (at_states-equal n (lost_by left right) (lost_by left' right')
    (λ s h. ap (λ v. not v && not (left s)) (rights s h) ∙ ap (λ v. not (right' s) && not v) (lefts s h)))
