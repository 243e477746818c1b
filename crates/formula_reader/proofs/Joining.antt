-- Operands with a sign between them, as far as they are read.
use Rattle.std.proofs.Common.{◌≡◌, ◌∙◌, ◌+◌, ◌-◌, ◌<◌, ◌≤◌, ℕ, zero, suc, List, Bool, true, false, cond, Some, None}
use Rattle.std.proofs.Common.{Result, Ok, Err, refl, ap, sym, arith}
use Rattle.std.specs.Prelude.{bytes_eq}
use Rattle.formula_tokens.specs.declared.fault.FormulaFault.{FormulaFault}
use Rattle.formula_reader.specs.declared.levels.Level.{Level}
use Rattle.formula_reader.specs.declared.levels.Level.TheVariants.{Implication, Disjunction, Conjunction}
use Rattle.formula_tokens.specs.declared.fault.FormulaCause.TheVariants.{TooDeep}
use Rattle.formula_tokens.specs.Fault.{fault_at, ◌>>=◌}
use Rattle.formula_reader.specs.Formula.{State}
use Rattle.formula_tokens.specs.Tokens.{Tokens, Finish, Broken, Then, Token, count_of}
use Rattle.formula_reader.specs.Grammar.{further, joined, implied, unary, nested, inside_of}
use Rattle.formula_tokens.specs.Reading.{Reading, follows, where_next}
use Rattle.formula_reader.specs.Grammar.{bracketed}

-- how many calls of the parser may be open below a level
abbrev pub rank_of : Level → ℕ
rank_of Implication = 3
rank_of Disjunction = 2
rank_of Conjunction = 1

-- further operands behind left give this
pub record Stands (sign : List ℕ) (join : State → State → State) (operand : Reading State) (left : State) (ts : Tokens)
    (said : Result (State × Tokens) FormulaFault) : Type 0 where
  pub most : ℕ
  pub enough : count_of ts ≤ most
  pub is : further sign join operand most left ts ≡ said

pub one_less : (sign : List ℕ) (ts after : Tokens) → follows sign ts ≡ Some after → count_of ts ≡ count_of after + 1
one_less sign (Finish place) after e = cc
one_less sign (Broken fault) after e = cc
one_less sign (Then place spelling rest) after e = same (bytes_eq spelling sign) e
  where
    same : (b : Bool) → cond b (Some rest) None ≡ Some after → count_of rest + 1 ≡ count_of after + 1
    same true e = let r : rest ≡ after = cc in ap (λ t. count_of t + 1) r
    same false e = cc

pub begun : (sign : List ℕ) (join : State → State → State) (operand : Reading State) (left : State) (ts rest : Tokens)
    → operand ts ≡ Ok (left, rest) → Stands sign join operand left rest (joined sign join operand ts)
begun sign join operand left ts rest e = record {
  most = count_of rest;
  enough = omega arith;
  is = sym (ap (λ r. r >>= λ x. further sign join operand (count_of x.1) x.0 x.1) e);
}

-- one operand more
pub went_on : (sign : List ℕ) (join : State → State → State) (operand : Reading State) (left right : State)
    (ts after rest : Tokens) (said : Result (State × Tokens) FormulaFault) → Stands sign join operand left ts said
    → follows sign ts ≡ Some after → operand after ≡ Ok (right, rest) → count_of rest ≤ count_of after
    → Stands sign join operand (join left right) rest said
went_on sign join operand left right ts after rest said at e r less = by_most at.most at.enough at.is
  where
    by_most : (most : ℕ) → count_of ts ≤ most → further sign join operand most left ts ≡ said
        → Stands sign join operand (join left right) rest said
    by_most zero enough is = absurd (omega (arith, enough, one_less sign ts after e))
    by_most (suc most) enough is = record {
      most = most;
      enough = omega (arith, enough, one_less sign ts after e, less);
      is = sym (ap (λ o.
          where_next o (Ok (left, ts)) (λ a. operand a >>= λ x. further sign join operand most (join left x.0) x.1)) e
          ∙ ap (λ o. o >>= λ x. further sign join operand most (join left x.0) x.1) r) ∙ is;
    }

-- an operand that can't be read
pub broke_off : (sign : List ℕ) (join : State → State → State) (operand : Reading State) (left : State)
    (ts after : Tokens) (fault : FormulaFault) (said : Result (State × Tokens) FormulaFault)
    → Stands sign join operand left ts said → follows sign ts ≡ Some after
    → operand after ≡ Err fault → said ≡ Err fault
broke_off sign join operand left ts after fault said at e r = by_most at.most at.enough at.is
  where
    by_most : (most : ℕ) → count_of ts ≤ most → further sign join operand most left ts ≡ said → said ≡ Err fault
    by_most zero enough is = absurd (omega (arith, enough, one_less sign ts after e))
    by_most (suc most) enough is = sym is ∙ ap
        (λ o. where_next o (Ok (left, ts)) (λ a. operand a >>= λ x. further sign join operand most (join left x.0) x.1))
        e ∙ ap (λ o. o >>= λ x. further sign join operand most (join left x.0) x.1) r

-- no operand more
pub ended : (sign : List ℕ) (join : State → State → State) (operand : Reading State) (left : State) (ts : Tokens)
    (said : Result (State × Tokens) FormulaFault) → Stands sign join operand left ts said → follows sign ts ≡ None
    → said ≡ Ok (left, ts)
ended sign join operand left ts said at e = by_most at.most at.is
  where
    by_most : (most : ℕ) → further sign join operand most left ts ≡ said → said ≡ Ok (left, ts)
    by_most zero is = sym is
    by_most (suc most) is = sym is ∙ ap (λ o.
        where_next o (Ok (left, ts)) (λ a. operand a >>= λ x. further sign join operand most (join left x.0) x.1)) e

-- what a step over operands makes of what was read
pub ruleset operands = (begun, went_on, broke_off, ended)

-- where there is room
pub nested_within : (room : ℕ) (token : Token) → 0 < room
    → (nested room).state token ≡ inside_of (nested (room - 1)) token
unfolding nested
nested_within zero token h = absurd (omega (arith, h))
nested_within (suc room) token h =
    let e : suc room - 1 ≡ room = omega arith in
    ap (λ n. inside_of (nested n) token) (sym e)

pub path_within : (room : ℕ) (token : Token) → 0 < room
    → (nested room).path token ≡ bracketed (implied (unary (nested (room - 1)))) token
unfolding nested
path_within zero token h = absurd (omega (arith, h))
path_within (suc room) token h =
    let e : suc room - 1 ≡ room = omega arith in
    ap (λ n. bracketed (implied (unary (nested n))) token) (sym e)

-- where there is none
pub nested_without : (room : ℕ) (token : Token) → room ≡ 0
    → (nested room).state token ≡ Err (fault_at token.place TooDeep)
unfolding nested
nested_without zero token h = refl
nested_without (suc room) token h = absurd (omega (arith, h))

pub path_without : (room : ℕ) (token : Token) → room ≡ 0 → (nested room).path token ≡ Err (fault_at token.place TooDeep)
unfolding nested
path_without zero token h = refl
path_without (suc room) token h = absurd (omega (arith, h))
