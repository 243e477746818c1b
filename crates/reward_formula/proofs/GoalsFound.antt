-- A goal that is read is derived by the rules, and no formula is inside it.
use Rattle.std.proofs.Common.{◌≡◌, ◌∙◌, inl, inr, ℕ, List, [], ◌∷◌, ◌++◌, true, Option, Some, None, Result}
use Rattle.std.proofs.Common.{Ok, Err, refl, ap, sym, subst}
use Rattle.std.specs.Prelude.{codes}
use Rattle.formula_tokens.specs.declared.fault.FormulaFault.{FormulaFault}
use Rattle.formula_tokens.specs.Fault.{◌>>=◌}
use Rattle.formula_tokens.specs.Tokens.{Tokens, Finish, Then}
use Rattle.formula_tokens.specs.Reading.{behind}
use Rattle.formula_tokens.proofs.Spans.{Spans, spans_append, chosen, bind_ok, behind_ok}
use Rattle.formula_reader.specs.Formula.{State, is_flat}
use Rattle.formula_reader.specs.Grammar.{unary, nested, implied, finished}
use Rattle.formula_reader.specs.Limits.{most_nested}
use Rattle.formula_reader.specs.Rules.{IsState}
use Rattle.formula_reader.proofs.Denoted.{finished_ok}
use Rattle.formula_reader.proofs.Derived.{state_found}
use Rattle.reward_formula.specs.Grammar.{any_goal, inner_place, up_to, goal}
use Rattle.reward_formula.proofs.Flat.{begins, NoneBegins, none_left, state_flat}

-- the tokens of a goal up to the end of the text
pub record GoalRead (ts : Tokens) (x : State) : Type 0 where
  pub goal : List (List ℕ)
  pub end : ℕ
  pub spans : Spans ts (codes "[" ∷ codes "F" ∷ (goal ++ codes "]" ∷ [])) (Finish end)
  pub state : IsState most_nested goal x

any_goal_found : (ts : Tokens) (x : State) → any_goal ts ≡ Ok x → GoalRead ts x
any_goal_found ts x e =
    let state = implied (unary (nested most_nested)) in
    let a = bind_ok (behind (codes "[") ts) (λ opened. behind (codes "F") opened >>= λ reached. state reached
    >>= λ y. behind (codes "]") y.1 >>= λ closed. finished y.0 closed) x e in
    let b = bind_ok (behind (codes "F") a.value) (λ reached. state reached
    >>= λ y. behind (codes "]") y.1 >>= λ closed. finished y.0 closed) x a.then_ in
    let c = bind_ok (state b.value) (λ y. behind (codes "]") y.1 >>= λ closed. finished y.0 closed) x b.then_ in
    let d = bind_ok (behind (codes "]") c.value.1) (λ closed. finished c.value.0 closed) x c.then_ in
    let opened = behind_ok (codes "[") ts a.value a.first in
    let reached = behind_ok (codes "F") a.value b.value b.first in
    let found = state_found most_nested b.value c.value.0 c.value.1 c.first in
    let closed = behind_ok (codes "]") c.value.1 d.value d.first in
    let end = finished_ok c.value.0 x d.value d.then_ in
    let close : Spans c.value.1 (codes "]" ∷ []) (Finish end.0) = (closed.0, d.value, closed.1, end.1) in
    let P : State → Type 0 = λ y. IsState most_nested found.tokens y in
    record {
      goal = found.tokens;
      end = end.0;
      spans = (
        opened.0,
        a.value,
        opened.1,
        (
          reached.0,
          b.value,
          reached.1,
          spans_append found.tokens (codes "]" ∷ []) b.value c.value.1 (Finish end.0) found.spans close,
        ),
      );
      state = subst P end.2 found.spells;
    }

-- no token up to the end begins a formula inside
none_spanned : (us : List (List ℕ)) (ts rest : Tokens) → Spans ts us rest → inner_place ts ≡ None → NoneBegins us
none_spanned [] ts rest s e = tt
none_spanned (u ∷ us) ts rest s e =
    let whole : inner_place (Then s.0 u s.1) ≡ None = ap inner_place (sym s.2) ∙ e in
    elim (chosen (begins u) (Some s.0) (inner_place s.1) None whole) [
      | inl t ↦ cc t.1
      | inr t ↦ (t.0, none_spanned us s.1 rest s.3 t.1)
    ]

goal_read : (ts : Tokens) (x : State) → goal ts ≡ Ok x → (inner_place ts ≡ None) × (any_goal ts ≡ Ok x)
goal_read ts x e = by_place (inner_place ts) (any_goal ts) refl refl e
  where
    by_place : (o : Option ℕ) (r : Result State FormulaFault) → inner_place ts ≡ o → any_goal ts ≡ r
        → up_to o r ≡ Ok x → (inner_place ts ≡ None) × (any_goal ts ≡ Ok x)
    by_place None r none read e = (none, read ∙ e)
    by_place (Some place) (Ok y) some read e = cc e
    by_place (Some place) (Err fault) some read e = cc e

-- a goal in which no formula is inside
pub record IsGoal (ts : Tokens) (x : State) : Type 0 where
  pub read : GoalRead ts x
  pub flat : is_flat x ≡ true

pub goal_found : (ts : Tokens) (x : State) → goal ts ≡ Ok x → IsGoal ts x
goal_found ts x e =
    let both = goal_read ts x e in
    let read = any_goal_found ts x both.1 in
    let none = none_spanned (codes "[" ∷ codes "F" ∷ (read.goal ++ codes "]" ∷ [])) ts (Finish read.end) read.spans
    both.0 in
    let behind_signs = none.1 in
    record {
      read = read;
      flat = state_flat most_nested read.goal x read.state (none_left read.goal (codes "]" ∷ []) behind_signs.1);
    }
