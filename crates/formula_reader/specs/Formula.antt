-- Formulas are plain trees here, without their places in memory.
use Rattle.std.specs.Prelude.{◌≡◌, ◌&&◌, ◌+◌, ℕ, suc, Bool, true, false, List, Option, option_map}
use Rattle.formula_reader.specs.declared.formula.StateFormula.{StateFormula}
use Rattle.formula_reader.specs.declared.formula.StateFormula.TheVariants.{True as True', False as False'}
use Rattle.formula_reader.specs.declared.formula.StateFormula.TheVariants.{Label as Label', Not', And', Or', Implies'}
use Rattle.formula_reader.specs.declared.formula.StateFormula.TheVariants.{Inner'}
use Rattle.formula_reader.specs.declared.formula.Bound.{Bound}
use Rattle.formula_reader.specs.declared.formula.Names.{Names}
use Rattle.formula_reader.specs.declared.formula.PathKind.{PathKind}
use Rattle.formula_reader.specs.declared.formula.Formula.{Formula}

-- A state formula has one of these forms. The last is a formula inside, by its parts.
pub data State : Type 0 where
  True : State
  False : State
  Label : (name : List ℕ) → State
  Not : (x : State) → State
  And : (x y : State) → State
  Or : (x y : State) → State
  Implies : (x y : State) → State
  Inner : (team : Option (List (List ℕ))) → (bound : Bound) → (kind : PathKind) → (left right : State) → State

-- A path has a kind, which says what is asked of it, and two sides.
pub record Path : Type 0 where
  pub kind : PathKind
  pub left : State
  pub right : State

-- A formula has a bound on the probability of the paths of a kind, as `left U right`, and a coalition of players if one
-- is named.
pub record Tree : Type 0 where
  pub coalition : Option (List (List ℕ))
  pub bound : Bound
  pub kind : PathKind
  pub left : State
  pub right : State

-- These are names in memory, each as its bytes.
abbrev pub names_of : Names → List (List ℕ)
names_of names = names.list.items

-- This is the tree of a state formula in memory. `p` and `q` are the places of its boxes.
abbrev pub state_of : StateFormula → State
state_of True' = True
state_of False' = False
state_of (Label' name) = Label name
state_of (Not' p x) = Not (state_of x)
state_of (And' p x q y) = And (state_of x) (state_of y)
state_of (Or' p x q y) = Or (state_of x) (state_of y)
state_of (Implies' p x q y) = Implies (state_of x) (state_of y)
state_of (Inner' p team bound kind left right) =
    Inner (option_map names_of team) bound kind (state_of left) (state_of right)

-- This is the tree of a formula in memory.
abbrev pub tree_of : Formula → Tree
tree_of f = record {
  coalition = option_map names_of f.coalition;
  bound = f.bound;
  kind = f.kind;
  left = state_of f.left;
  right = state_of f.right;
}

-- This is the formula as a formula inside a state formula.
abbrev pub inner_of : Tree → State
inner_of f = Inner f.coalition f.bound f.kind f.left f.right

-- No formula is inside the state formula.
abbrev pub is_flat : State → Bool
is_flat True = true
is_flat False = true
is_flat (Label name) = true
is_flat (Not x) = is_flat x
is_flat (And x y) = is_flat x && is_flat y
is_flat (Or x y) = is_flat x && is_flat y
is_flat (Implies x y) = is_flat x && is_flat y
is_flat (Inner team bound kind left right) = false

-- No formula is inside the sides of the formula.
abbrev pub IsFlat : Tree → Type 0
IsFlat f = (is_flat f.left && is_flat f.right) ≡ true

-- This is the number of formulas inside the state formula, at any depth.
abbrev pub formulas_in : State → ℕ
formulas_in True = 0
formulas_in False = 0
formulas_in (Label name) = 0
formulas_in (Not x) = formulas_in x
formulas_in (And x y) = formulas_in x + formulas_in y
formulas_in (Or x y) = formulas_in x + formulas_in y
formulas_in (Implies x y) = formulas_in x + formulas_in y
formulas_in (Inner team bound kind left right) = suc (formulas_in left + formulas_in right)

-- This is the number of formulas inside the two sides of a formula, at any depth.
abbrev pub formulas_inside : Tree → ℕ
formulas_inside f = formulas_in f.left + formulas_in f.right
