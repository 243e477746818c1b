-- The spelling of a formula that the grammar can spell denotes that formula, and nothing else is read.
use Rattle.std.proofs.Common.{◌≡◌, ◌∙◌, ◌+◌, ◌≤◌, ℕ, List, [], ◌∷◌, ◌++◌, length, Result, Ok, Err, Vec, Global, refl}
use Rattle.std.proofs.Common.{ap, sym, subst}
use Rattle.std.specs.Prelude.{codes, IfOk}
use Rattle.game_outside.specs.declared.OutOfMemory.{OutOfMemory}
use Rattle.std.specs.List.{All}
use Rattle.std.proofs.lemmas.List.Elements.{All-tail}
use Rattle.std.proofs.lemmas.List.{append-nil}
use Rattle.formula_reader.specs.Formula.{Tree}
use Rattle.formula_reader.specs.Grammar.{formula, formula_said}
use Rattle.formula_tokens.specs.Laws.{AreTokens}
use Rattle.formula_tokens.specs.TokenRules.{IsSpelling}
use Rattle.formula_reader.specs.Limits.{most_nested}
use Rattle.formula_tokens.specs.Limits.{longest}
use Rattle.formula_reader.specs.Rules.{IsFormula, DenotesFormula}
use Rattle.rpatl_syntax.specs.Spellable.{IsSpellable}
use Rattle.rpatl_syntax.specs.Spelling.{state_spelling, spelling}
use Rattle.formula_tokens.specs.Tokens.{tokens_of}
use Rattle.formula_reader.proofs.Denoted.{ends_with}
use Rattle.formula_reader.proofs.Again.{formula_again, formula_said_again}
use Rattle.formula_tokens.proofs.Cutting.{tokens_cut, cut_spelled}
use Rattle.rpatl_syntax.proofs.Kept.{all_left, all_right, coalition_kept, bound_kept}
use Rattle.rpatl_syntax.proofs.Needs.{side, path_suits}
use Rattle.rpatl_syntax.proofs.Laying.{Lays}
use Rattle.rpatl_syntax.proofs.StatesLaid.{lays_with, lays_state}
use Rattle.rpatl_syntax.proofs.Printing.{printed_state}
use Rattle.rpatl_syntax.proofs.PrintedParts.{team_derived, bound_derived, path_derived}
use Rattle.rpatl_syntax.proofs.PrintedTokens.{team_tokens, bound_tokens, kind_tokens, state_tokens, formula_tokens}

-- 1. What is read can be spelled.

pub spellable : (text : List ℕ) (f : Tree) → DenotesFormula text f → IsSpellable f
spellable text f d =
    let g = d.formula in
    let back = codes "[" ∷ (g.sides ++ codes "]" ∷ []) in
    let all : All IsSpelling (g.team ++ (g.asks ++ back)) =
    subst (All IsSpelling) g.whole (cut_spelled text d.tokens d.cut) in
    let behind_team = all_right g.team (g.asks ++ back) all in
    let behind_bound =
    All-tail IsSpelling (codes "[") (g.sides ++ codes "]" ∷ []) (all_right g.asks back behind_team) in
    let sides =
    path_suits most_nested g.sides f.kind f.left f.right g.path (all_left g.sides (codes "]" ∷ []) behind_bound) in
    record {
      words = coalition_kept g.team f.coalition g.coalition (all_left g.team (g.asks ++ back) all);
      share = bound_kept g.asks f.bound g.bound;
      kind = sides.kind_is;
      left = side f.left sides.left;
      right = side f.right sides.right;
    }

-- 2. The tokens of its spelling.

lays_formula : (f : Tree) → IsSpellable f → Lays (spelling f) (formula_tokens f) []
lays_formula f is =
    lays_with f.coalition f.bound f.kind f.left (state_spelling f.left) (state_spelling f.right) (state_tokens f.left)
    (state_tokens f.right) [] is.words is.share is.kind
    (lays_state f.left is.left.parts) (lays_state f.right is.right.parts)

tokens_spelled : (f : Tree) → IsSpellable f → AreTokens (tokens_of (spelling f)) (formula_tokens f)
tokens_spelled f is =
    let P : List ℕ → Type 0 = λ text. AreTokens (tokens_of text) (formula_tokens f) in
    subst P (append-nil (spelling f))
    (ends_with (formula_tokens f) (tokens_of (spelling f ++ [])) (0 + length (spelling f)) (lays_formula f is 0))

-- 3. Those tokens are derived.

tokens_derived : (f : Tree) → IsSpellable f → IsFormula (formula_tokens f) f
tokens_derived f is = record {
  team = team_tokens f.coalition;
  asks = bound_tokens f.bound;
  sides = kind_tokens f.kind f.left (state_tokens f.left) ++ state_tokens f.right;
  whole = refl;
  coalition = team_derived f.coalition is.words;
  bound = bound_derived f.bound is.share;
  path = path_derived most_nested f.kind f.left f.right (state_tokens f.left)
      (state_tokens f.right) is.kind (printed_state most_nested f.left is.left.parts is.left.nests)
      (printed_state most_nested f.right is.right.parts is.right.nests);
}

-- 4. What is read from a spelling.

pub spelling_denotes : (f : Tree) → IsSpellable f → length (spelling f) ≤ longest → DenotesFormula (spelling f) f
spelling_denotes f is short = record {
  short = short;
  tokens = formula_tokens f;
  cut = tokens_cut (spelling f) (formula_tokens f) (tokens_spelled f is);
  formula = tokens_derived f is;
}

-- no two formulas have the same spelling, of whatever length
pub spelling_one : (f g : Tree) → IsSpellable f → IsSpellable g → spelling f ≡ spelling g → f ≡ g
spelling_one f g of_f of_g e =
    let said : Ok f ≡ Ok g =
    sym (formula_again (formula_tokens f) f (tokens_derived f of_f) (tokens_of (spelling f)) (tokens_spelled f of_f))
    ∙ ap (λ text. formula (tokens_of text)) e
    ∙ formula_again (formula_tokens g) g (tokens_derived g of_g) (tokens_of (spelling g)) (tokens_spelled g of_g) in
    cc (said)

-- A formula that can be spelled is read from its spelling again, unless that is too long.
read_again : (f : Tree) → IsSpellable f → length (spelling f) ≤ longest → formula_said (spelling f) ≡ Ok f
read_again f is short = formula_said_again (spelling f) f (spelling_denotes f is short)

pub printed_again : (r : Result (Vec ℕ Global) OutOfMemory) (f : Tree)
    → IfOk r (λ (text : Vec ℕ Global). text.items ≡ spelling f)
    → IfOk r (λ (text : Vec ℕ Global). IsSpellable f → length text.items ≤ longest → formula_said text.items ≡ Ok f)
printed_again (Ok text) f e = λ is short.
    let P : List ℕ → Type 0 = λ t. length t ≤ longest → formula_said t ≡ Ok f in
    subst P (sym e) (read_again f is) short
printed_again (Err fault) f e = tt
