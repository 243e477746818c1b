-- Steps whose quotients are rounded in one way, over tables that agree at every state.
use Rattle.std.proofs.Common.{◌≡◌, ℕ, zero, suc, ◌+◌, ◌-◌, ◌*◌, ◌<◌, ◌≤◌, List, get_or, arith, ap, sym, subst, ◌∙◌}
use Rattle.std.proofs.Common.{add-one, add-zero, add-suc}
use Rattle.std.specs.List.{All}
use Rattle.game_model.specs.Game.{Distribution, choices_of}
use Rattle.game_model.specs.Query.{Query, IsQuery, states}
use Rattle.game_model.specs.Values.{weighted_sum, bellman}
use Rattle.game_model.specs.Limits.{unit}
use Rattle.game_model.proofs.Choices.{IsChoiceOf, AreChoicesOf, AreChoicesOf-choices_of}
use Rattle.game_model.proofs.Best.{weighted_sum-le}
use Rattle.game_model.proofs.Rises.{bellman-le}
use Rattle.bounded_rounds.specs.Steps.{steps_from}

-- the step where the quotients are rounded like this
abbrev pub step_of : (ℕ → ℕ → ℕ) → Query → (ℕ → ℕ) → ℕ → ℕ
step_of round q table s =
    bellman q (choices_of q.game) unit (λ choice. round (weighted_sum table choice.edges) choice.total) s

-- the same at every state
abbrev pub Agree : Query → (ℕ → ℕ) → (ℕ → ℕ) → Type 0
Agree q v w = (s : ℕ) → s < states q → v s ≡ w s

weighted_sum-most : (q : Query) (v w : ℕ → ℕ) (m : Distribution) → IsChoiceOf q.game m → Agree q v w
    → 1 * weighted_sum v m.edges ≤ 1 * weighted_sum w m.edges
weighted_sum-most q v w m fits same =
    weighted_sum-le v w 1 1 m.edges
    (λ i d l. omega (arith, same (get_or m.edges i d).to (fits.inside i d l)))

-- a sum over the same values
pub weighted_sum-same : (q : Query) (v w : ℕ → ℕ) (m : Distribution) → IsChoiceOf q.game m → Agree q v w
    → weighted_sum v m.edges ≡ weighted_sum w m.edges
weighted_sum-same q v w m fits same =
    omega (arith, weighted_sum-most q v w m fits same, weighted_sum-most q w v m fits (λ s inside. sym (same s inside)))

bellman-most : (q : Query) (choices : ℕ → List Distribution) (top : ℕ) (f g : Distribution → ℕ) (s : ℕ)
    → All (λ m. f m ≡ g m) (choices s) → 1 * bellman q choices top f s ≤ 1 * bellman q choices top g s
bellman-most q choices top f g s each = bellman-le q choices 1 1 top top f g s (omega arith)
    (λ i d l. omega (arith, each i d l))

-- one step from the same values
pub bellman-same : (q : Query) (choices : ℕ → List Distribution) (top : ℕ) (f g : Distribution → ℕ) (s : ℕ)
    → All (λ m. f m ≡ g m) (choices s) → bellman q choices top f s ≡ bellman q choices top g s
bellman-same q choices top f g s each =
    omega (
      arith,
      bellman-most q choices top f g s each,
      bellman-most q choices top g f s (λ i d l. sym (each i d l)),
    )

module _ (round : ℕ → ℕ → ℕ) (q : Query) (posed : IsQuery q) where
  pub step_of-same : (v w : ℕ → ℕ) → Agree q v w → (s : ℕ) → step_of round q v s ≡ step_of round q w s
  step_of-same v w same s =
      let chosen : AreChoicesOf q.game (choices_of q.game) = AreChoicesOf-choices_of q.game posed.game in
      bellman-same q (choices_of q.game) unit _ _ s
      (λ i d l.
      let m : Distribution = get_or (choices_of q.game s) i d in
      ap (λ x. round x m.total) (weighted_sum-same q v w m (chosen.each s i d l) same))

  -- one step more
  pub steps_from-next : (opening table next : ℕ → ℕ) (k : ℕ) → Agree q table (steps_from (step_of round q) opening k)
      → Agree q next (step_of round q table) → Agree q next (steps_from (step_of round q) opening (k + 1))
  unfolding steps_from
  steps_from-next opening table next k same step s inside =
      rw (add-one k) (step s inside ∙ step_of-same table (steps_from (step_of round q) opening k) same s)

  rests : (opening table : ℕ → ℕ) (k j : ℕ) → Agree q table (steps_from (step_of round q) opening k)
      → Agree q table (step_of round q table) → Agree q table (steps_from (step_of round q) opening (k + j))
  unfolding steps_from
  rests opening table k zero same rest s inside = rw (add-zero k) (same s inside)
  rests opening table k (suc j) same rest s inside =
      rw (add-suc k j) (rest s inside
      ∙ step_of-same table (steps_from (step_of round q) opening (k + j)) (rests opening table k j same rest) s)

  -- a table that is its own step is so after every number of steps
  pub steps_from-rests : (opening table : ℕ → ℕ) (k n : ℕ) → k ≤ n
      → Agree q table (steps_from (step_of round q) opening k) → Agree q table (step_of round q table)
      → Agree q table (steps_from (step_of round q) opening n)
  steps_from-rests opening table k n order same rest =
      subst (λ (m : ℕ). Agree q table (steps_from (step_of round q) opening m))
      (let all : k + (n - k) ≡ n = omega arith in all) (rests opening table k (n - k) same rest)

  -- from the same values on
  pub steps_from-same : (v w : ℕ → ℕ) → Agree q v w → (k : ℕ)
      → Agree q (steps_from (step_of round q) v k) (steps_from (step_of round q) w k)
  unfolding steps_from
  steps_from-same v w same zero s inside = same s inside
  steps_from-same v w same (suc k) s inside =
      step_of-same (steps_from (step_of round q) v k) (steps_from (step_of round q) w k) (steps_from-same v w same k) s
