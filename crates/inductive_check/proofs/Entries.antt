-- The up step of a state that is neither goal nor dead, against its entry.
use Rattle.std.proofs.Common.{◌≡◌, ℕ, ◌+◌, ◌<◌, ◌≤◌, length, arith, subst, sym, inl, inr}
use Rattle.std.proofs.lemmas.Bool.{cases_lt}
use Rattle.std.proofs.lemmas.List.Elements.{All-from_get_or}
use Rattle.game_model.specs.declared.game.Side.TheVariants.{Max, Min}
use Rattle.game_model.specs.Game.{Distribution, no_distribution, choices_of, choice_of}
use Rattle.game_model.specs.Query.{Query, IsQuery, states, side_at}
use Rattle.game_model.specs.Values.{optimum}
use Rattle.game_model.specs.Rounded.{up_value, up_step}
use Rattle.game_model.proofs.Best.{optimum-most, optimum-each, optimum-below}
use Rattle.fixed_bellman.specs.Given.{IsFree}
use Rattle.fixed_bellman.proofs.Tables.{choice_fits, optimum-least}
use Rattle.inductive_check.specs.Held.{IsHeldAt, AllHeld, NoneHeld}
use Rattle.inductive_check.proofs.UpSteps.{up_value-held, held-up_value, up_step-free}

module _ (q : Query) (table : ℕ → ℕ) (s : ℕ) (h : IsQuery q) (inside : s < states q) where
  -- a choice that is held, and one that is not
  pub held-most : (c : ℕ) → c < length (choices_of q.game s) → IsHeldAt q table s c
      → up_value table (choice_of q.game s c) ≤ table s
  held-most c in_range held =
      up_value-held table (table s) (choice_of q.game s c) (choice_fits q s c h inside in_range).positive held

  pub most-held : (c : ℕ) → c < length (choices_of q.game s) → up_value table (choice_of q.game s c) ≤ table s
      → IsHeldAt q table s c
  most-held c in_range most =
      held-up_value table (table s) (choice_of q.game s c) (choice_fits q s c h inside in_range).positive most

  unheld-above : (c : ℕ) → c < length (choices_of q.game s) → ¬ IsHeldAt q table s c
      → table s + 1 ≤ up_value table (choice_of q.game s c)
  unheld-above c in_range unheld = elim (cases_lt (table s) (up_value table (choice_of q.game s c))) [
    | inl above ↦ omega (arith, above)
    | inr most ↦ absurd (unheld (most-held c in_range most))
  ]

  -- the up step of a state whose every choice is held
  pub all-held : IsFree q s → AllHeld q table s → up_step q table s ≤ table s
  all-held free all =
      let P : Distribution → Type 0 = λ m. up_value table m ≤ table s in
      subst (λ n. n ≤ table s) (sym (up_step-free q table s free))
      (optimum-most (side_at q s) (up_value table) (table s) (choices_of q.game s)
      (All-from_get_or P (choices_of q.game s) no_distribution (λ c in_range. held-most c in_range (all c in_range))))

  -- where none is held
  pub none-held : IsFree q s → NoneHeld q table s → table s < up_step q table s
  none-held free none =
      let P : Distribution → Type 0 = λ m. table s + 1 ≤ up_value table m in
      let least : table s + 1 ≤ optimum (side_at q s) (up_value table) (choices_of q.game s) =
      optimum-least (side_at q s) (up_value table) (table s + 1) (choices_of q.game s) (h.game.chosen s inside)
      (All-from_get_or P (choices_of q.game s) no_distribution
      (λ c in_range. unheld-above c in_range (none c in_range))) in
      subst (λ n. table s < n) (sym (up_step-free q table s free)) (omega (arith, least))

  -- where one choice of the maximiser is not held
  pub one-unheld : IsFree q s → side_at q s ≡ Max → (c : ℕ) → c < length (choices_of q.game s) → ¬ IsHeldAt q table s c
      → table s < up_step q table s
  one-unheld free greatest c in_range unheld =
      let above : table s < optimum Max (up_value table) (choices_of q.game s) =
      omega (
        arith,
        unheld-above c in_range unheld,
        optimum-each (up_value table) (choices_of q.game s) c no_distribution in_range,
      ) in
      subst (λ n. table s < n) (sym (up_step-free q table s free))
      (subst (λ side. table s < optimum side (up_value table) (choices_of q.game s)) (sym greatest) above)

  -- where one choice of the minimiser is held
  pub one-held : IsFree q s → side_at q s ≡ Min → (c : ℕ) → c < length (choices_of q.game s) → IsHeldAt q table s c
      → up_step q table s ≤ table s
  one-held free least c in_range held =
      let most : optimum Min (up_value table) (choices_of q.game s) ≤ table s =
      omega (
        arith,
        held-most c in_range held,
        optimum-below (up_value table) (choices_of q.game s) c no_distribution in_range,
      ) in
      subst (λ n. n ≤ table s) (sym (up_step-free q table s free))
      (subst (λ side. optimum side (up_value table) (choices_of q.game s) ≤ table s) (sym least) most)
