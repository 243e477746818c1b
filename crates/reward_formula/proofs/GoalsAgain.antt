-- The tokens of a goal that the rules derive are read.
use Rattle.std.proofs.Common.{◌≡◌, ◌∙◌, ℕ, List, [], ◌∷◌, ◌++◌, true, cond, Some, None, Ok, refl, ap, sym, subst}
use Rattle.std.specs.Prelude.{codes}
use Rattle.formula_tokens.specs.Fault.{◌>>=◌}
use Rattle.formula_tokens.specs.Tokens.{Tokens, Finish}
use Rattle.formula_tokens.specs.Reading.{behind}
use Rattle.formula_tokens.proofs.Spans.{Spans, spans_split}
use Rattle.formula_reader.specs.Formula.{State, is_flat}
use Rattle.formula_reader.specs.Grammar.{unary, nested, implied, finished}
use Rattle.formula_reader.specs.Limits.{most_nested}
use Rattle.formula_reader.specs.Rules.{IsState}
use Rattle.formula_reader.proofs.PathsAgain.{Closes}
use Rattle.formula_reader.proofs.StatesAgain.{state_again}
use Rattle.reward_formula.specs.Grammar.{any_goal, inner_place, up_to, goal}
use Rattle.reward_formula.proofs.Flat.{NoneBegins, none_append, state_none}

any_goal_again : (us : List (List ℕ)) (x : State) → IsState most_nested us x → (ts : Tokens) (end : ℕ)
    → Spans ts (codes "[" ∷ codes "F" ∷ (us ++ codes "]" ∷ [])) (Finish end) → any_goal ts ≡ Ok x
any_goal_again us x d ts end s =
    let reached = s.3 in
    let cut = spans_split us (codes "]" ∷ []) reached.1 (Finish end) reached.3 in
    let close = cut.2 in
    let closes : Closes cut.0 =
    subst (λ (t : Tokens). Closes t) (sym close.2) (record { and = refl; or = refl; implies = refl }) in
    ap any_goal s.2
    ∙ ap (λ t. behind (codes "F") t >>= λ r. implied (unary (nested most_nested)) r
    >>= λ y. behind (codes "]") y.1 >>= λ closed. finished y.0 closed) reached.2
    ∙ ap (λ r. r >>= λ y. behind (codes "]") y.1 >>= λ closed. finished y.0 closed)
    (state_again most_nested us x d reached.1 cut.0 cut.1 closes)
    ∙ ap (λ t. behind (codes "]") t >>= λ closed. finished x closed) close.2
    ∙ ap (λ t. finished x t) close.3

none_next : (us : List (List ℕ)) (ts : Tokens) (end : ℕ) → Spans ts us (Finish end) → NoneBegins us
    → inner_place ts ≡ None
none_next [] ts end s n = ap inner_place s
none_next (u ∷ us) ts end s n =
    ap inner_place s.2 ∙ ap (λ b. cond b (Some s.0) (inner_place s.1)) n.0 ∙ none_next us s.1 end s.3 n.1

pub goal_again : (us : List (List ℕ)) (x : State) → IsState most_nested us x → is_flat x ≡ true → (ts : Tokens)
    (end : ℕ) → Spans ts (codes "[" ∷ codes "F" ∷ (us ++ codes "]" ∷ [])) (Finish end) → goal ts ≡ Ok x
goal_again us x d flat ts end s =
    let whole = codes "[" ∷ codes "F" ∷ (us ++ codes "]" ∷ []) in
    let none : NoneBegins whole =
    (refl, (refl, none_append us (codes "]" ∷ []) (state_none most_nested us x d flat) (refl, tt))) in
    ap (λ o. up_to o (any_goal ts)) (none_next whole ts end s none) ∙ any_goal_again us x d ts end s
