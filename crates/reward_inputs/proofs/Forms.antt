-- Formulas that texts spell have their form.
use Rattle.std.proofs.Common.{◌≡◌, ℕ, List, true, refl, ap}
use Rattle.formula_reader.specs.declared.formula.PathKind.{PathKind}
use Rattle.formula_reader.specs.declared.formula.PathKind.TheVariants.{Until, Within, Next, Always}
use Rattle.formula_reader.specs.Formula.{State, True, False, Label, Not, And, Or, Implies, Inner}
use Rattle.rpatl_syntax.specs.Spellable.{HasKind}
use Rattle.reward_formula.specs.Formula.{AnyTree, OfProbability, OfReward}
use Rattle.reward_formula.specs.Rules.{Denotes}
use Rattle.reward_formula.specs.Spellable.{IsAnySpellable}
use Rattle.reward_formula.proofs.Kept.{any_spellable}
use Rattle.reward_inputs.specs.Forms.{is_true, has_left, has_form}

kind_left : (kind : PathKind) (left : State) → HasKind kind left → has_left kind left ≡ true
kind_left Until left is = refl
kind_left (Within steps) left is = refl
kind_left Next left is = refl
kind_left Always left is = ap is_true is

spellable_form : (tree : AnyTree) → IsAnySpellable tree → has_form tree ≡ true
spellable_form (OfProbability f) is = kind_left f.kind f.left is.kind
spellable_form (OfReward f) is = is.flat

pub denoted_form : (text : List ℕ) (tree : AnyTree) → Denotes text tree → has_form tree ≡ true
denoted_form text tree denotes = spellable_form tree (any_spellable text tree denotes)

-- only `true` passes the test
pub is_true-found : (x : State) → is_true x ≡ true → x ≡ True
is_true-found True is = refl
is_true-found False is = cc (is)
is_true-found (Label name) is = cc (is)
is_true-found (Not x) is = cc (is)
is_true-found (And x y) is = cc (is)
is_true-found (Or x y) is = cc (is)
is_true-found (Implies x y) is = cc (is)
is_true-found (Inner team bound kind left right) is = cc (is)
