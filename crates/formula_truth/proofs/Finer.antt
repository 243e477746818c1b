-- The questions of sides that hold at more states: their rounded steps are no lesser,
-- and those of the swapped questions no greater.
use Rattle.std.proofs.Common.{◌≡◌, ◌∙◌, ◌<◌, ◌≤◌, ◌/◌, inl, inr, ℕ, Bool, true, false, List, get_or, arith, sym}
use Rattle.std.proofs.lemmas.Bool.{cases_Bool, cases_lt}
use Rattle.std.proofs.lemmas.List.{get_or_past, length-map}
use Rattle.game_model.specs.Game.{IsGame, choices_of}
use Rattle.game_model.specs.Query.{Query, IsQuery}
use Rattle.game_model.specs.Rounded.{down_steps, opening}
use Rattle.game_model.specs.Dual.{IsZeroSet, swapped, other_side}
use Rattle.game_model.proofs.Choices.{AreChoicesOf, AreChoicesOf-choices_of}
use Rattle.game_model.proofs.Marked.{marked-goal}
use Rattle.formula_reader.specs.Formula.{Tree}
use Rattle.formula_sets.specs.Posing.{Model, at_states}
use Rattle.bounded_rounds.specs.Steps.{steps_from, down_from}
use Rattle.bounded_rounds.proofs.Stepping.{step_of}
use Rattle.bounded_rounds.proofs.Opening.{down_from-opening}
use Rattle.formula_truth.specs.Truth.{states, question_by}
use Rattle.formula_truth.proofs.Posed.{IsWithin, marks-within, falls, lost, lost', is_query, numerator-rises}
use Rattle.formula_truth.proofs.Stepped.{IsRounding, IsUnder, down-rounding, steps-rise, openings-rise, opening-units}

-- the swapped question is one
pub is_swapped : (q : Query) (zero : List Bool) → IsQuery q → IsZeroSet q zero → IsQuery (swapped q zero)
is_swapped q zero posed is = record {
  game = posed.game;
  sides = length-map q.sides other_side ∙ posed.sides;
  goals = is.as_many;
  deads = posed.goals;
  apart = λ s marked. marked-goal q zero is s marked;
}

down-of : (low high low' high' : ℕ) → low ≡ low' → high ≡ high' → low ≤ high → low' ≤ high'
down-of low high low' high' e e' h = omega arith

module _ (m : Model) (f : Tree) (left right left' right' : ℕ → Bool) (game : IsGame m.game)
    (more_left : IsWithin (states m) left left') (more_right : IsWithin (states m) right right') where
  abbrev pub few : Query
  few = question_by m f left right

  abbrev pub many : Query
  many = question_by m f left' right'

  chosen : AreChoicesOf m.game (choices_of m.game)
  chosen = AreChoicesOf-choices_of m.game game

  more-goals : (s : ℕ) → get_or (at_states right (states m)) s false ≡ true
      → get_or (at_states right' (states m)) s false ≡ true
  more-goals = marks-within (states m) right right' more_right

  less-dead : (s : ℕ) → get_or (lost' m f left right left' right' game more_left more_right) s false ≡ true
      → get_or (lost m f left right left' right' game more_left more_right) s false ≡ true
  less-dead = falls m f left right left' right' game more_left more_right

  -- 1. Rounded steps.

  pub stepped-by : (round : ℕ → ℕ → ℕ) → IsRounding round → (k : ℕ) → IsUnder (states m)
      (steps_from (step_of round few) (opening few) k) (steps_from (step_of round many) (opening many) k)
  stepped-by round is k =
      steps-rise m.game few.sides few.goals few.deads many.goals many.deads more-goals less-dead chosen round is
      (opening few) (opening many) (opening-units few)
      (openings-rise m.game few.sides few.goals few.deads many.goals many.deads more-goals less-dead chosen) k

  pub down-by : (r s : ℕ) → s < states m → down_steps few r s ≤ down_steps many r s
  down-by r s inside =
      down-of (down_from few (opening few) r s) (down_from many (opening many) r s) (down_steps few r s)
      (down_steps many r s)
      (down_from-opening few (is_query m f left right game) r s)
      (down_from-opening many (is_query m f left' right' game) r s)
      (stepped-by (λ x w. x / w) down-rounding r s inside)

  -- 2. Zero sets, and the swapped questions.

  module _ (zero zero' : List Bool) (is : IsZeroSet few zero) (is' : IsZeroSet many zero') where
    none-more : (s : ℕ) → s < states m → get_or zero' s false ≡ true → get_or zero s false ≡ false → ⊥
    none-more s inside marked unmarked =
        let some = is.unmarked s inside unmarked in
        absurd (omega (
          arith,
          some.1,
          numerator-rises m f left right left' right' game more_left more_right some.0 s,
          is'.marked s inside marked some.0,
        ))

    zero-within : (s : ℕ) → get_or zero' s false ≡ true → get_or zero s false ≡ true
    zero-within s marked = elim (cases_lt s (states m)) [
      | inl inside ↦ elim (cases_Bool (get_or zero s false)) [
        | inl is_marked ↦ is_marked
        | inr is_not ↦ absurd (none-more s inside marked is_not)
      ]
      | inr past ↦
          let no : false ≡ true = sym (get_or_past zero' s false (omega (arith, past, is'.as_many))) ∙ marked in
          absurd (cc)
    ]

    pub swapped_down-by : (r s : ℕ) → s < states m
        → down_steps (swapped many zero') r s ≤ down_steps (swapped few zero) r s
    swapped_down-by r s inside =
        let low : Query = swapped many zero' in
        let high : Query = swapped few zero in
        down-of (down_from low (opening low) r s) (down_from high (opening high) r s) (down_steps low r s)
        (down_steps high r s)
        (down_from-opening low (is_swapped many zero' (is_query m f left' right' game) is') r s)
        (down_from-opening high (is_swapped few zero (is_query m f left right game) is) r s)
        (steps-rise m.game low.sides low.goals low.deads high.goals high.deads zero-within more-goals chosen
        (λ x w. x / w) down-rounding (opening low) (opening high) (opening-units low)
        (openings-rise m.game low.sides low.goals low.deads high.goals high.deads zero-within more-goals chosen) r
        s inside)
