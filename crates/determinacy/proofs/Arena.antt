-- Tables that solve the equations of a question where each state has these choices, their ranks, and traps.
use Rattle.std.proofs.Common.{◌≡◌, ℕ, suc, ◌<◌, ◌≤◌, false, true, List, [], ◌∷◌, length, get_or, arith}
use Rattle.std.proofs.Common.{refl, inl, inr, ◌⊎◌}
use Rattle.std.specs.List.{All}
use Rattle.std.proofs.lemmas.Bool.{cases_eq}
use Rattle.std.proofs.lemmas.List.Elements.{All-nil, All-cons, All-head, All-tail}
use Rattle.game_model.specs.declared.game.Side.{Side}
use Rattle.game_model.specs.declared.game.Side.TheVariants.{Max, Min}
use Rattle.game_model.specs.Game.{Distribution}
use Rattle.game_model.specs.Query.{Query, states, is_goal, is_dead, side_at}
use Rattle.determinacy.proofs.Descent.{Fits, Held, Enough, Onward}

-- one of the elements
abbrev pub Some : {X : Type 0} → (X → Type 0) → List X → Type 0
Some P [] = ⊥
Some P (x ∷ xs) = P x ⊎ Some P xs

pub Some-weaker : {X : Type 0} (P Q : X → Type 0) → ((x : X) → P x → Q x) → (xs : List X) → Some P xs → Some Q xs
Some-weaker P Q h [] s = absurd s
Some-weaker P Q h (x ∷ xs) (inl here) = inl (h x here)
Some-weaker P Q h (x ∷ xs) (inr later) = inr (Some-weaker P Q h xs later)

-- by its place
pub Some-place : {X : Type 0} (P : X → Type 0) (xs : List X) (d : X) → Some P xs
    → (i : ℕ) × ((i < length xs) × P (get_or xs i d))
Some-place P [] d h = absurd h
Some-place P (x ∷ xs) d (inl here) = (0, (omega arith, here))
Some-place P (x ∷ xs) d (inr later) =
    let rest = Some-place P xs d later in
    (suc rest.0, (omega (arith, rest.1.0), rest.1.1))

-- one that has a fact that all have
pub Some-both : {X : Type 0} (P Q R : X → Type 0) → ((x : X) → P x → Q x → R x) → (xs : List X) → All P xs
    → Some Q xs → Some R xs
Some-both P Q R h [] all s = absurd s
Some-both P Q R h (x ∷ xs) all (inl here) = inl (h x (All-head P x xs all) here)
Some-both P Q R h (x ∷ xs) all (inr later) = inr (Some-both P Q R h xs (All-tail P x xs all) later)

pub All-single : {X : Type 0} (P : X → Type 0) (x : X) → P x → All P (x ∷ [])
All-single P x h = All-cons P x [] h (All-nil P)

abbrev pub Free : Query → ℕ → Type 0
Free q s = (is_goal q s ≡ false) × (is_dead q s ≡ false)

-- the equation of a state
abbrev pub SolvedAt : Side → (ℕ → ℕ) → ℕ → List Distribution → Type 0
SolvedAt Max v s ms = All (Held v s) ms × Some (Enough v s) ms
SolvedAt Min v s ms = All (Enough v s) ms × Some (Held v s) ms

abbrev pub FitAll : Query → (ℕ → List Distribution) → Type 0
FitAll q choices = (s : ℕ) → s < states q → All (Fits (states q)) (choices s)

-- a table over t that solves them
pub record Solves (q : Query) (choices : ℕ → List Distribution) (t : ℕ) (v : ℕ → ℕ) : Type 0 where
  pub positive : 0 < t
  pub most : (s : ℕ) → s < states q → v s ≤ t
  pub goals : (s : ℕ) → s < states q → is_goal q s ≡ true → v s ≡ t
  pub deads : (s : ℕ) → s < states q → is_goal q s ≡ false → is_dead q s ≡ true → v s ≡ 0
  pub solved : (s : ℕ) → s < states q → Free q s → SolvedAt (side_at q s) v s (choices s)

-- a state that needs a rank
pub record Needs (q : Query) (v : ℕ → ℕ) (s : ℕ) : Type 0 where
  pub inside : s < states q
  pub free : Free q s
  pub some : 0 < v s

abbrev pub RankedAt : Side → (ℕ → ℕ) → (ℕ → ℕ) → ℕ → List Distribution → Type 0
RankedAt Max v rank s ms = Some (λ m. Enough v s m × Onward v rank s m) ms
RankedAt Min v rank s ms = All (Onward v rank s) ms

abbrev pub Ranks : Query → (ℕ → List Distribution) → (ℕ → ℕ) → (ℕ → ℕ) → Type 0
Ranks q choices v rank = (s : ℕ) → Needs q v s → RankedAt (side_at q s) v rank s (choices s)

pub record Exact (q : Query) (choices : ℕ → List Distribution) : Type 0 where
  pub top : ℕ
  pub value : ℕ → ℕ
  pub rank : ℕ → ℕ
  pub solves : Solves q choices top value
  pub ranks : Ranks q choices value rank

-- all successors are in the set, and have one value
abbrev pub Stays : (ℕ → Type 0) → (ℕ → ℕ) → ℕ → Distribution → Type 0
Stays X v s m = All (λ e. X e.to × (v e.to ≡ v s)) m.edges

-- the maximiser leaves it by no choice that is enough, and the minimiser has one that stays
abbrev pub CaughtAt : Side → (ℕ → Type 0) → (ℕ → ℕ) → ℕ → List Distribution → Type 0
CaughtAt Max X v s ms = All (λ m. Enough v s m → Stays X v s m) ms
CaughtAt Min X v s ms = Some (Stays X v s) ms

pub record Trap (q : Query) (choices : ℕ → List Distribution) (v : ℕ → ℕ) (X : ℕ → Type 0) : Type 0 where
  pub needs : (s : ℕ) → X s → Needs q v s
  pub caught : (s : ℕ) → X s → CaughtAt (side_at q s) X v s (choices s)

-- what a function is with another value at one number
pub with_at : {X : Type 0} → (ℕ → X) → ℕ → X → ℕ → X
with_at c j x s = elim (cases_eq s j) [ inl _ ↦ x | inr _ ↦ c s ]

pub at-here : {X : Type 0} (c : ℕ → X) (j : ℕ) (x : X) (s : ℕ) → s ≡ j → with_at c j x s ≡ x
unfolding with_at
at-here c j x s same = elim (cases_eq s j) as (λ e. elim e [ inl _ ↦ x | inr _ ↦ c s ] ≡ x) [
  | inl _ ↦ refl
  | inr other ↦ absurd (other same)
]

pub at-off : {X : Type 0} (c : ℕ → X) (j : ℕ) (x : X) (s : ℕ) → (s ≡ j → ⊥) → with_at c j x s ≡ c s
unfolding with_at
at-off c j x s other = elim (cases_eq s j) as (λ e. elim e [ inl _ ↦ x | inr _ ↦ c s ] ≡ c s) [
  | inl same ↦ absurd (other same)
  | inr _ ↦ refl
]
