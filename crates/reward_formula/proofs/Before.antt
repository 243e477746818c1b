-- A text in which no reward begins is read as a formula of probability.
use Rattle.std.proofs.Common.{◌≡◌, ◌∙◌, inl, inr, ℕ, List, length, true, false, cond, Option, Result, Ok, Err, refl}
use Rattle.std.proofs.Common.{ap, sym, nat_lt}
use Rattle.std.specs.Prelude.{codes}
use Rattle.std.proofs.lemmas.Bool.{cases_Bool}
use Rattle.formula_tokens.specs.declared.fault.FormulaFault.{FormulaFault}
use Rattle.formula_tokens.specs.declared.fault.FormulaCause.TheVariants.{TooLong, Unexpected}
use Rattle.formula_tokens.specs.Fault.{fault_at, ◌>>=◌}
use Rattle.formula_tokens.specs.Limits.{longest}
use Rattle.formula_tokens.specs.Reading.{next, is, fails}
use Rattle.formula_tokens.specs.Tokens.{Tokens, Token, tokens_of}
use Rattle.formula_reader.specs.Formula.{Tree}
use Rattle.formula_reader.specs.declared.formula.Bound.{Bound}
use Rattle.formula_reader.specs.declared.formula.Bound.TheVariants.{AskMax, AskMin}
use Rattle.formula_reader.specs.Grammar.{coalition, comparison, asked, bound, behind_bound, formula, formula_said}
use Rattle.reward_formula.specs.Grammar.{formula_from, begins_reward, of_reward, of_probability, any_formula, any_said}
use Rattle.reward_formula.specs.Grammar.{is_of_reward, is_reward_next}

-- a bound, from its first token on
abbrev pub bound_from : Token → Result (Bound × Tokens) FormulaFault
bound_from token =
    cond (is token (codes "P")) (comparison token.after) (cond (is token (codes "Pmax")) (asked AskMax token.after)
    (cond (is token (codes "Pmin")) (asked AskMin token.after) (fails token Unexpected)))

-- what is read behind a coalition
any_behind : (team : Option (List (List ℕ))) (second : Tokens) (said : Result Tree FormulaFault)
    → said ≡ (bound second >>= λ asks. behind_bound team asks.0 asks.1) → is_reward_next (next second) ≡ false
    → (next second >>= λ token. cond (begins_reward token) (of_reward (formula_from team token)) (of_probability said))
    ≡ of_probability said
any_behind team second said is other = by_token (next second) refl other
  where
    by_token : (r : Result Token FormulaFault) → next second ≡ r → is_reward_next r ≡ false
        → (r >>= λ token. cond (begins_reward token) (of_reward (formula_from team token)) (of_probability said))
        ≡ of_probability said
    by_token (Ok token) e other =
        ap (λ b. cond b (of_reward (formula_from team token)) (of_probability said)) other
    by_token (Err fault) e other =
        let same : bound second ≡ Err fault = ap (λ r. r >>= bound_from) e in
        sym (ap of_probability (is ∙ ap (λ r. r >>= λ asks. behind_bound team asks.0 asks.1) same))

-- what is read of the tokens
any_tokens : (ts : Tokens) (said : Result Tree FormulaFault) → said ≡ formula ts → is_of_reward ts ≡ false
    → (coalition ts >>= λ team. next team.1 >>= λ token.
    cond (begins_reward token) (of_reward (formula_from team.0 token)) (of_probability said)) ≡ of_probability said
any_tokens ts said is other = by_team (coalition ts) refl other
  where
    by_team : (r : Result (Option (List (List ℕ)) × Tokens) FormulaFault) → coalition ts ≡ r
        → is_reward_next (r >>= λ team. next team.1) ≡ false → (r >>= λ team. next team.1 >>= λ token.
        cond (begins_reward token) (of_reward (formula_from team.0 token)) (of_probability said))
        ≡ of_probability said
    by_team (Ok team) e other =
        any_behind team.0 team.1 said
        (is ∙ ap (λ r. r >>= λ t. bound t.1 >>= λ asks. behind_bound t.0 asks.0 asks.1) e) other
    by_team (Err fault) e other =
        sym (ap of_probability (is ∙ ap (λ r. r >>= λ t. bound t.1 >>= λ asks. behind_bound t.0 asks.0 asks.1) e))

-- the two readings of a text, as long as it may be or longer
pub said_tokens : (text : List ℕ) → nat_lt longest (length text) ≡ false → formula_said text ≡ formula (tokens_of text)
unfolding formula_said
said_tokens text short = ap (λ b. cond b (Err (fault_at longest TooLong)) (formula (tokens_of text))) short

said_long : (text : List ℕ) → nat_lt longest (length text) ≡ true → formula_said text ≡ Err (fault_at longest TooLong)
unfolding formula_said
said_long text long = ap (λ b. cond b (Err (fault_at longest TooLong)) (formula (tokens_of text))) long

pub others_before : (text : List ℕ) → is_of_reward (tokens_of text) ≡ false
    → any_said text ≡ of_probability (formula_said text)
unfolding any_said
others_before text other =
    elim (cases_Bool (nat_lt longest (length text))) [
      | inl t ↦ ap (λ b. cond b (Err (fault_at longest TooLong)) (any_formula text (tokens_of text))) t
          ∙ sym (ap of_probability (said_long text t))
      | inr f ↦ ap (λ b. cond b (Err (fault_at longest TooLong)) (any_formula text (tokens_of text))) f
          ∙ any_tokens (tokens_of text) (formula_said text) (said_tokens text f) other
    ]
