-- What is printed is read again, and nothing else is read.
use Rattle.std.proofs.Common.{◌≡◌, ◌≤◌, ℕ, List, length, Result, Ok, Err, Vec, Global, sym, subst}
use Rattle.std.specs.Prelude.{IfOk}
use Rattle.game_outside.specs.declared.OutOfMemory.{OutOfMemory}
use Rattle.formula_tokens.specs.Limits.{longest}
use Rattle.formula_tokens.proofs.Cutting.{tokens_cut}
use Rattle.rpatl_syntax.proofs.Reread.{spelling_denotes}
use Rattle.reward_formula.specs.Formula.{RewardTree, AnyTree, OfProbability, OfReward}
use Rattle.reward_formula.specs.Grammar.{any_said}
use Rattle.reward_formula.specs.Rules.{DenotesReward, Denotes}
use Rattle.reward_formula.specs.Spellable.{IsSpellableReward, IsAnySpellable}
use Rattle.reward_formula.specs.Spelling.{reward_spelling, any_spelling}
use Rattle.reward_formula.proofs.Again.{any_again}
use Rattle.reward_formula.proofs.Laid.{tokens_spelled}
use Rattle.reward_formula.proofs.Printed.{formula_tokens, formula_derived}

reward_denotes : (f : RewardTree) → IsSpellableReward f → length (reward_spelling f) ≤ longest
    → DenotesReward (reward_spelling f) f
reward_denotes f is short = record {
  short = short;
  tokens = formula_tokens f;
  cut = tokens_cut (reward_spelling f) (formula_tokens f) (tokens_spelled f is);
  formula = formula_derived f is;
}

any_denotes : (tree : AnyTree) → IsAnySpellable tree → length (any_spelling tree) ≤ longest
    → Denotes (any_spelling tree) tree
any_denotes (OfProbability f) is short = spelling_denotes f is short
any_denotes (OfReward f) is short = reward_denotes f is short

read_again : (tree : AnyTree) → IsAnySpellable tree → length (any_spelling tree) ≤ longest
    → any_said (any_spelling tree) ≡ Ok tree
read_again tree is short = any_again (any_spelling tree) tree (any_denotes tree is short)

pub printed_again : (r : Result (Vec ℕ Global) OutOfMemory) (tree : AnyTree)
    → IfOk r (λ (text : Vec ℕ Global). text.items ≡ any_spelling tree)
    → IfOk r (λ (text : Vec ℕ Global). IsAnySpellable tree → length text.items ≤ longest
    → any_said text.items ≡ Ok tree)
printed_again (Ok text) tree e = λ is short.
    let P : List ℕ → Type 0 = λ t. length t ≤ longest → any_said t ≡ Ok tree in
    subst P (sym e) (read_again tree is) short
printed_again (Err fault) tree e = tt
