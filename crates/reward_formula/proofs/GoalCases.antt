-- What is read of a goal, by its first token that begins a formula inside.
use Rattle.std.proofs.Common.{◌≡◌, ◌∙◌, ◌⊎◌, ◌<◌, ◌+◌, inl, inr, ℕ, Bool, true, false, cond, Option, Some, None, Result}
use Rattle.std.proofs.Common.{Ok, Err, refl, ap, sym, subst, arith, nat_lt}
use Rattle.std.proofs.lemmas.Bool.{cases_Bool}
use Rattle.std.proofs.lemmas.Bool.Decides.{nat_tests}
use Rattle.game_outside.specs.Answers.{AnswersOrWants}
use Rattle.formula_tokens.specs.declared.fault.FormulaFault.{FormulaFault}
use Rattle.formula_tokens.specs.declared.fault.FormulaCause.TheVariants.{Unexpected}
use Rattle.formula_tokens.specs.Fault.{fault_at, IsOutOfMemory}
use Rattle.formula_tokens.specs.Tokens.{Tokens, Finish, Broken, Then, Token, count_of}
use Rattle.formula_reader.specs.declared.formula.StateFormula.{StateFormula}
use Rattle.formula_reader.specs.Formula.{State, state_of}
use Rattle.formula_reader.specs.Grammar.{begins_formula}
use Rattle.reward_formula.specs.Grammar.{any_goal, inner_place, first_fault, up_to, goal}

-- 1. The place.

pub inner_here : (ts : Tokens) (token : Token) → ts ≡ Then token.place token.spelling token.after
    → begins_formula token ≡ true → inner_place ts ≡ Some token.place
inner_here ts token at begins =
    ap inner_place at ∙ ap (λ b. cond b (Some token.place) (inner_place token.after)) begins

pub inner_next : (ts : Tokens) (token : Token) → ts ≡ Then token.place token.spelling token.after
    → begins_formula token ≡ false → inner_place ts ≡ inner_place token.after
inner_next ts token at other =
    ap inner_place at ∙ ap (λ b. cond b (Some token.place) (inner_place token.after)) other

pub inner_finish : (ts : Tokens) (place : ℕ) → ts ≡ Finish place → inner_place ts ≡ None
inner_finish ts place at = ap inner_place at

pub inner_broken : (ts : Tokens) (fault : FormulaFault) → ts ≡ Broken fault → inner_place ts ≡ None
inner_broken ts fault at = ap inner_place at

-- the next token leaves fewer
pub fewer : (ts : Tokens) (token : Token) → ts ≡ Then token.place token.spelling token.after
    → count_of token.after < count_of ts
fewer ts token at = let e : count_of ts ≡ count_of token.after + 1 = ap count_of at in omega (arith, e)

-- what a search for the place passes over
pub ruleset places = (inner_here, inner_next, inner_finish, inner_broken, fewer)

-- 2. The goal.

pub goal_flat : (ts : Tokens) (r : Result StateFormula FormulaFault) → inner_place ts ≡ None
    → AnswersOrWants IsOutOfMemory state_of r (any_goal ts) → AnswersOrWants IsOutOfMemory state_of r (goal ts)
goal_flat ts r none a =
    let P : Option ℕ → Type 0 = λ o. AnswersOrWants IsOutOfMemory state_of r (up_to o (any_goal ts)) in
    subst P (sym none) a

pub goal_inside : (ts : Tokens) (place : ℕ) (x : State) → inner_place ts ≡ Some place → any_goal ts ≡ Ok x
    → goal ts ≡ Err (fault_at place Unexpected)
goal_inside ts place x some read = ap (λ o. up_to o (any_goal ts)) some ∙ ap (up_to (Some place)) read

-- at the first byte nothing comes before
first_at_start : (place : ℕ) (r : Result State FormulaFault) → nat_lt 0 place ≡ false
    → up_to (Some place) r ≡ Err (fault_at place Unexpected)
first_at_start place (Ok x) e = refl
first_at_start place (Err fault) e =
    let f : nat_lt fault.place place ≡ false = grind (arith, nat_tests) in
    ap (λ b. Err (cond b fault (fault_at place Unexpected))) f

memory_first : (ts : Tokens) (place : ℕ) (fault : FormulaFault) → inner_place ts ≡ Some place → IsOutOfMemory fault
    → IsOutOfMemory (first_fault fault place) ⊎ (goal ts ≡ Err (first_fault fault place))
memory_first ts place fault some memory =
    let here : nat_lt fault.place place ≡ nat_lt 0 place = ap (λ (f : FormulaFault). nat_lt f.place place) memory in
    let first : Bool → FormulaFault = λ b. cond b fault (fault_at place Unexpected) in
    elim (cases_Bool (nat_lt 0 place)) [
      | inl t ↦ inl (ap first (here ∙ t) ∙ memory)
      | inr f ↦ inr (ap (λ o. up_to o (any_goal ts)) some ∙ first_at_start place (any_goal ts) f
          ∙ ap (λ b. Err (first b)) (sym (here ∙ f)))
    ]

pub goal_broken : (ts : Tokens) (place : ℕ) (fault : FormulaFault) → inner_place ts ≡ Some place
    → IsOutOfMemory fault ⊎ (any_goal ts ≡ Err fault)
    → IsOutOfMemory (first_fault fault place) ⊎ (goal ts ≡ Err (first_fault fault place))
goal_broken ts place fault some read =
    elim read [
      | inl memory ↦ memory_first ts place fault some memory
      | inr is ↦ inr (ap (λ o. up_to o (any_goal ts)) some ∙ ap (up_to (Some place)) is)
    ]

-- what is read where there is such a token, and where there is none
pub ruleset goals = (goal_flat, goal_inside, goal_broken)
