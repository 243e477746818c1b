-- What the rules derive is read.
use Rattle.std.proofs.Common.{◌≡◌, ◌∙◌, ℕ, List, [], ◌∷◌, ◌++◌, length, cond, Ok, Err, refl, ap, subst}
use Rattle.std.specs.Prelude.{codes}
use Rattle.formula_tokens.specs.declared.fault.FormulaCause.TheVariants.{TooLong}
use Rattle.formula_tokens.specs.Fault.{fault_at, ◌>>=◌}
use Rattle.formula_reader.specs.Formula.{Tree}
use Rattle.formula_reader.specs.Limits.{most_nested}
use Rattle.formula_tokens.specs.Limits.{longest}
use Rattle.formula_tokens.specs.Tokens.{Tokens, Finish, Broken, Then, tokens_of}
use Rattle.formula_reader.specs.Grammar.{bound, finished, tree_with, behind_bound, formula, formula_said}
use Rattle.formula_reader.specs.Rules.{formula_of, IsFormula, DenotesFormula}
use Rattle.formula_tokens.specs.Laws.{AreTokens}
use Rattle.formula_tokens.proofs.Spans.{Spans, spans_split}
use Rattle.formula_reader.proofs.Orders.{not_above}
use Rattle.formula_reader.proofs.HeadsAgain.{coalition_again, bound_again, no_coalition}
use Rattle.formula_reader.proofs.StatesAgain.{sides_again}
use Rattle.formula_tokens.proofs.Cutting.{cut_read}

pub spans_all : (us : List (List ℕ)) (ts : Tokens) → AreTokens ts us → (place : ℕ) × Spans ts us (Finish place)
spans_all [] (Finish place) a = (place, refl)
spans_all (u ∷ us) (Finish place) a = absurd a
spans_all us (Broken fault) a = absurd a
spans_all [] (Then place spelling rest) a = absurd a
spans_all (u ∷ us) (Then place spelling rest) a =
    let more = spans_all us rest a.1 in
    (more.0, (place, rest, ap (λ s. Then place s rest) a.0, more.1))

pub formula_again : (us : List (List ℕ)) (f : Tree) → IsFormula us f → (ts : Tokens)
    → AreTokens ts us → formula ts ≡ Ok f
formula_again us f d ts a =
    let all = spans_all us ts a in
    let P : List (List ℕ) → Type 0 = λ vs. Spans ts vs (Finish all.0) in
    let s : Spans ts (formula_of d.team d.asks d.sides) (Finish all.0) = subst P d.whole all.1 in
    let back = codes "[" ∷ (d.sides ++ codes "]" ∷ []) in
    let team = spans_split d.team (d.asks ++ back) ts (Finish all.0) s in
    let asks = spans_split d.asks back team.0 (Finish all.0) team.2 in
    ap (λ r. r >>= λ team. bound team.1 >>= λ asks. behind_bound team.0 asks.0 asks.1) (coalition_again d.team
    f.coalition d.coalition ts team.0 team.1 (no_coalition d.asks back f.bound d.bound team.0 (Finish all.0) team.2))
    ∙ ap (λ r. r >>= λ asks. behind_bound f.coalition asks.0 asks.1)
    (bound_again d.asks f.bound d.bound team.0 asks.0 asks.1)
    ∙ ap (λ r. r >>= λ p. finished (tree_with f.coalition f.bound p.0) p.1)
    (sides_again most_nested d.sides f.kind f.left f.right d.path asks.0 (Finish all.0) asks.2)

-- What is denoted is said.
pub formula_said_again : (text : List ℕ) (f : Tree) → DenotesFormula text f → formula_said text ≡ Ok f
unfolding formula_said
formula_said_again text f d =
    ap (λ b. cond b (Err (fault_at longest TooLong)) (formula (tokens_of text)))
    (not_above (length text) longest d.short)
    ∙ formula_again d.tokens f d.formula (tokens_of text) (cut_read text d.tokens d.cut 0)
