-- The question with `X` that is said to be posed is the one that is posed.
use Rattle.std.proofs.Common.{◌≡◌, ◌∙◌, ◌≤◌, ℕ, true, false, cond, inl, inr, List, length, get_or, refl, sym, ap, subst}
use Rattle.std.proofs.Common.{arith, Result, Ok}
use Rattle.std.specs.Prelude.{All, slice_index_or}
use Rattle.std.proofs.Math.ListN.{get_or-eq_default}
use Rattle.std.proofs.lemmas.Bool.{cases_lt}
use Rattle.std.proofs.lemmas.List.FromFn.{fill_by_all}
use Rattle.game_model.specs.Game.{Distribution}
use Rattle.game_model.specs.Limits.{unit}
use Rattle.game_model.specs.Query.{Query}
use Rattle.label_lines.specs.Labels.{Labelling}
use Rattle.label_lines.specs.Owners.{Ownership}
use Rattle.formula_reader.specs.Formula.{Tree, IsFlat}
use Rattle.formula_sets.specs.declared.fault.PoseFault.{PoseFault}
use Rattle.formula_sets.specs.Truth.{holds}
use Rattle.formula_sets.specs.Posing.{NextPosing, PosesNext, at_states, opening_at, unmarked, next_question_of}
use Rattle.formula_sets.specs.Posing.{initial_said, made_of, pose_next_said}
use Rattle.formula_sets.proofs.Asking.{at_states-at, length-at_states, made-found, initial-again, set_up}
use Rattle.formula_sets.proofs.Asking.{question-same}

pub never_marked : (n s : ℕ) → slice_index_or (unmarked n) s false ≡ false
never_marked n s = elim (cases_lt s n) [
  | inl h ↦ at_states-at (λ s. false) n s false h
  | inr h ↦ get_or-eq_default (unmarked n) false (omega (arith, length-at_states (λ s. false) n))
]

-- the opening is at most the unit
opening-unit : (l : Labelling) (f : Tree) (s : ℕ) → opening_at l f s ≤ unit
opening-unit l f s = elim (holds l f.right s) as (λ b. cond b unit 0 ≤ unit) [
  | true ↦ omega arith
  | false ↦ omega arith
]

-- the opening is a table of the question
pub opening-table : (l : Labelling) (f : Tree) (n : ℕ) (opening : List ℕ) → opening ≡ at_states (opening_at l f) n
    → (length opening ≡ n) × All (λ v. v ≤ unit) opening
opening-table l f n opening is =
    let many : length opening ≡ n = ap (λ (xs : List ℕ). length xs) is ∙ length-at_states (opening_at l f) n in
    let Q : ℕ → ℕ → List ℕ → Type 0 = λ k d xs. get_or xs k d ≤ unit in
    let P : ℕ → Type 0 = λ v. v ≤ unit in (
      many,
      λ k d short. subst (Q k d) (sym is)
          (subst P (sym (at_states-at (opening_at l f) n k d (omega (arith, many, short)))) (opening-unit l f k)),
    )

module _ (game : List (List Distribution)) (l : Labelling) (o : Ownership) (f : Tree) where
  posing : List ℕ → NextPosing
  posing initial = record {
    question = next_question_of game o f;
    opening = at_states (opening_at l f) (length game);
    initial = initial;
  }

  pub pose_next-found : (p : NextPosing) → IsFlat f → pose_next_said game l o f ≡ Ok p → PosesNext game l o f p
  unfolding posing
  pose_next-found p flat is =
      let n = length game in
      let made = made-found l o f posing (initial_said l o f) p refl is in
      let P : NextPosing → Type 0 = λ x. PosesNext game l o f x in
      subst P made.1 (record {
        flat = flat;
        set_up = set_up game l o f (unmarked n) (unmarked n) made.0 (length-at_states (λ s. false) n)
            (length-at_states (λ s. false) n) made.2;
        goals = λ s h. at_states-at (λ s. false) n s false h;
        deads = λ s h. at_states-at (λ s. false) n s false h;
        opening_count = length-at_states (opening_at l f) n;
        opening = λ s h. at_states-at (opening_at l f) n s 0 h;
      })

  pub pose_next-again : (p : NextPosing) → PosesNext game l o f p → pose_next_said game l o f ≡ Ok p
  unfolding posing
  pose_next-again p h =
      let n = length game in
      let goals = fill_by_all (λ s. false) p.question.goals n false h.set_up.goal_count h.goals in
      let deads = fill_by_all (λ s. false) p.question.deads n false h.set_up.dead_count h.deads in
      let opening = fill_by_all (opening_at l f) p.opening n 0 h.opening_count h.opening in
      let same = question-same game l o f p.question p.initial (unmarked n) (unmarked n) h.set_up goals deads in
      let whole : Query → List ℕ → Result NextPosing PoseFault =
      λ q table. Ok (record { question = q; opening = table; initial = p.initial }) in
      ap (made_of posing) (initial-again l o f p.initial h.set_up.begins)
      ∙ ap (λ q. whole q (at_states (opening_at l f) n)) same
      ∙ ap (whole p.question) (sym opening)
