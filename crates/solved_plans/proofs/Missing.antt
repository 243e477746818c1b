-- States that a layer does not attract miss the goals for one more step.
use Rattle.std.proofs.Common.{◌≡◌, ℕ, suc, ◌+◌, ◌*◌, ◌^◌, ◌<◌, ◌≤◌, Bool, true, false, List, length, get_or, arith, sym}
use Rattle.std.proofs.Common.{ap, ◌∙◌, inl, inr}
use Rattle.std.specs.Prelude.{slice_index_or}
use Rattle.std.specs.List.{list_any}
use Rattle.std.proofs.lemmas.Bool.{cases_Bool}
use Rattle.std.proofs.Math.Nat.{mul-le-mul_left}
use Rattle.game_model.specs.declared.game.Edge.{Edge}
use Rattle.game_model.specs.Game.{Distribution, no_distribution, choices_of, choice_of}
use Rattle.game_model.specs.Query.{Query, IsQuery, states}
use Rattle.game_model.specs.Values.{denominator, numerator}
use Rattle.game_model.proofs.Choices.{IsChoiceOf, IsChoiceOf-choice_of}
use Rattle.attractors.specs.Attractor.{serves, attracts, is_attracted}
use Rattle.attractors.proofs.Tests.{any-none, all-place}
use Rattle.attractors.proofs.Serving.{serves-not}
use Rattle.almost_sure.specs.Values.{IsAway}
use Rattle.almost_sure.specs.ExcludedSets.{gone_excluded}
use Rattle.almost_sure.proofs.Away.{IsFar, SideIsFar, IsAway-more, far-by-one, far-by-all}

-- the value after k steps is at most 1, less one over the e-th power of the denominator
abbrev pub IsAwayFor : Query → ℕ → ℕ → ℕ → Type 0
IsAwayFor q e k s = numerator q k s * denominator q.game ^ e + denominator q.game ^ k ≤ denominator q.game ^ (e + k)

-- a value is not both away from 1 and near to it
pub both-ways : (E n p : ℕ) → 1 ≤ p → n * E + p ≤ E * p → (E + 1) * p ≤ (E + 1) * n + p → ⊥
both-ways E n p some away near =
    let whole : p ≤ n = omega (arith, away, near) in
    omega (arith, some, away, mul-le-mul_left E whole)

module _ (q : Query) (gone set : List Bool) (e k : ℕ) (posed : IsQuery q)
    (away : (t : ℕ) → t < states q → slice_index_or gone t false ≡ true → IsAway q e t)
    (left : (t : ℕ) → t < states q → slice_index_or set t false ≡ false → slice_index_or gone t false ≡ false
    → IsAwayFor q (suc e) k t) where
  -- a state that is gone, or not of the set
  away-there : (t : ℕ) → t < states q → slice_index_or set t false ≡ false → IsAwayFor q (suc e) k t
  away-there t inside unmet = elim (cases_Bool (slice_index_or gone t false)) [
    | inl out ↦ IsAway-more q e (suc e) t posed (omega arith) (away t inside out) k
    | inr within ↦ left t inside unmet within
  ]

  -- a choice that leads to a gone state, or to none of the set
  choice-left : (m : Distribution) → IsChoiceOf q.game m → serves (gone_excluded gone) set m ≡ false → IsFar q e k m
  choice-left m fits fails = elim (serves-not (gone_excluded gone) set m fails) [
    | inl leads ↦ far-by-one q gone e k m posed fits away leads
    | inr unmet ↦
        far-by-all q e k m fits (λ i d l.
        away-there (get_or m.edges i d).to (fits.inside i d l)
        (any-none (λ (d : Edge). slice_index_or set d.to false) m.edges unmet i d l))
  ]

  any-fails : (choices : List Distribution) (c : ℕ) → c < length choices
      → list_any (serves (gone_excluded gone) set) choices ≡ false
      → serves (gone_excluded gone) set (get_or choices c no_distribution) ≡ false
  any-fails choices c l fails = any-none (serves (gone_excluded gone) set) choices fails c no_distribution l

  -- so a state that the set does not attract is kept away by its choices
  pub side-left : (s : ℕ) → s < states q → is_attracted q (gone_excluded gone) set s ≡ false → SideIsFar q e k s
  side-left s inside fails = record {
    greatest = λ is_side c l. choice-left (choice_of q.game s c) (IsChoiceOf-choice_of q.game s c posed.game inside l)
        (any-fails (choices_of q.game s) c l
        (sym (ap (λ side. attracts side (gone_excluded gone) set (choices_of q.game s)) is_side) ∙ fails));
    least = λ is_side.
        let one : (c : ℕ) × (c < length (choices_of q.game s))
        × (serves (gone_excluded gone) set (choice_of q.game s c) ≡ false) =
        all-place (serves (gone_excluded gone) set) (choices_of q.game s) no_distribution
        (sym (ap (λ side. attracts side (gone_excluded gone) set (choices_of q.game s)) is_side) ∙ fails) in (
          one.0,
          one.1,
          choice-left (choice_of q.game s one.0) (IsChoiceOf-choice_of q.game s one.0 posed.game inside one.1) one.2,
        );
  }
