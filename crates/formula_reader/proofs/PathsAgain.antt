-- A path is read where its state formulas are read.
use Rattle.std.proofs.Common.{◌≡◌, ◌∙◌, ℕ, List, ◌∷◌, cond, None, Result, Ok, ap, refl, subst, sym}
use Rattle.std.specs.Prelude.{codes, bytes_eq}
use Rattle.text_lines.specs.Text.{number_of}
use Rattle.formula_tokens.specs.declared.fault.FormulaFault.{FormulaFault}
use Rattle.formula_tokens.specs.declared.fault.FormulaCause.TheVariants.{BadSteps, Unexpected}
use Rattle.formula_reader.specs.declared.formula.PathKind.{PathKind}
use Rattle.formula_reader.specs.declared.formula.PathKind.TheVariants.{Until, Within, Next, Always}
use Rattle.formula_tokens.specs.Fault.{◌>>=◌}
use Rattle.formula_reader.specs.Formula.{State, True, Path}
use Rattle.formula_reader.specs.Limits.{most_steps}
use Rattle.formula_tokens.specs.Tokens.{Tokens, Then, Token}
use Rattle.formula_reader.specs.Grammar.{steps_of, steps, within}
use Rattle.formula_tokens.specs.Reading.{Reading, next, behind, is, fails, follows, where_next}
use Rattle.formula_reader.specs.Grammar.{right_side, reached, path}
use Rattle.formula_reader.specs.Rules.{between, IsSteps}
use Rattle.formula_tokens.proofs.Spans.{Spans, spans_split, no_sign}
use Rattle.formula_reader.proofs.Beginning.{Begins}
use Rattle.formula_reader.proofs.Orders.{not_above}
use Rattle.formula_reader.proofs.Steps.{steps_number}

abbrev pub path_of : PathKind → State → State → Path
path_of kind x y = record { kind = kind; left = x; right = y }

-- 1. Deadlines.

steps_again : (place : ℕ) (spelling : List ℕ) (after : Tokens) (k : ℕ) → IsSteps spelling k
    → steps (record { place = place; spelling = spelling; after = after }) ≡ Ok k
steps_again place spelling after k d =
    let token : Token = record { place = place; spelling = spelling; after = after } in
    ap (λ b. cond b (steps_of token (number_of spelling)) (fails token Unexpected)) (steps_number spelling k d.value)
    ∙ ap (steps_of token) d.value
    ∙ ap (λ b. cond b (fails token BadSteps) (Ok k)) (not_above k most_steps d.small)

within_again : (token : List ℕ) (k : ℕ) → IsSteps token k → (ts after : Tokens) (place : ℕ)
    → ts ≡ Then place token after → within ts ≡ Ok (Within k, after)
within_again token k d ts after place e =
    ap within e ∙ ap (λ r. r >>= λ n. Ok (Within n, after)) (steps_again place token after k d)

-- 2. The right side.

-- no operator stands next
pub record Closes (rest : Tokens) : Type 0 where
  pub and : follows (codes "&") rest ≡ None
  pub or : follows (codes "|") rest ≡ None
  pub implies : follows (codes "=>") rest ≡ None

-- behind these tokens a state formula is read
abbrev pub Reads : Reading State → List (List ℕ) → State → Type 0
Reads state us x = (ts rest : Tokens) → Spans ts us rest → Closes rest → state ts ≡ Ok (x, rest)

pub right_again : (state : Reading State) (kind : PathKind) (x : State) (us : List (List ℕ)) (y : State)
    → Reads state us y → (ts rest : Tokens) → Spans ts us rest → Closes rest
    → right_side state kind x ts ≡ Ok (path_of kind x y, rest)
right_again state kind x us y reads ts rest s c =
    ap (λ r. r >>= λ right. Ok (path_of kind x right.0, right.1)) (reads ts rest s c)

pub reached_again : (state : Reading State) (x : State) (us : List (List ℕ)) (y : State) → Begins us → Reads state us y
    → (ts rest : Tokens) → Spans ts us rest → Closes rest → reached state x ts ≡ Ok (path_of Until x y, rest)
reached_again state x us y b reads ts rest s c =
    let P : List (List ℕ) → Type 0 = λ vs. Spans ts vs rest in
    ap (λ o. where_next o (Ok (Until, ts)) within >>= λ kind. right_side state kind.0 x kind.1)
    (no_sign (codes "<=") b.first b.others ts rest b.no_bound (subst P b.whole s))
    ∙ right_again state Until x us y reads ts rest s c

pub reached_within_again : (state : Reading State) (x : State) (token : List ℕ) (us : List (List ℕ)) (k : ℕ) (y : State)
    → IsSteps token k → Reads state us y → (ts rest : Tokens) → Spans ts (codes "<=" ∷ token ∷ us) rest → Closes rest
    → reached state x ts ≡ Ok (path_of (Within k) x y, rest)
reached_within_again state x token us k y n reads ts rest s c =
    let t = s.3 in
    ap (reached state x) s.2
    ∙ ap (λ r. r >>= λ kind. right_side state kind.0 x kind.1) (within_again token k n s.1 t.1 t.0 t.2)
    ∙ right_again state (Within k) x us y reads t.1 rest t.3 c

-- 3. The left side.

-- a left side, `U`, and what is read behind it
pub until_again : (state : Reading State) (us vs : List (List ℕ)) (x : State) (p : Path)
    → Begins us → Reads state us x → (ts rest : Tokens) → Spans ts (between us (codes "U") vs) rest
    → ((after : Tokens) → Spans after vs rest → reached state x after ≡ Ok (p, rest)) → path state ts ≡ Ok (p, rest)
until_again state us vs x p b reads ts rest s goes_on =
    let cut = spans_split us (codes "U" ∷ vs) ts rest s in
    let sign = cut.2 in
    let P : List (List ℕ) → Type 0 = λ ws. Spans ts ws cut.0 in
    let t : Spans ts (b.first ∷ b.others) cut.0 = subst P b.whole cut.1 in
    let closes : Closes cut.0 =
    subst (λ (t : Tokens). Closes t) (sym sign.2) (record { and = refl; or = refl; implies = refl }) in
    let on : State × Tokens → Result (Path × Tokens) FormulaFault =
    λ l. behind (codes "U") l.1 >>= λ after. reached state l.0 after in
    ap (λ r. r >>= λ token. cond (is token (codes "F")) (reached state True token.after)
    (cond (is token (codes "X")) (right_side state Next True token.after)
    (cond (is token (codes "G")) (right_side state Always True token.after) (state ts >>= on)))) (ap next t.2)
    ∙ ap (λ v. cond v (reached state True t.1) (cond (bytes_eq b.first (codes "X")) (right_side state Next True t.1)
    (cond (bytes_eq b.first (codes "G")) (right_side state Always True t.1) (state ts >>= on)))) b.no_reach
    ∙ ap (λ v. cond v (right_side state Next True t.1)
    (cond (bytes_eq b.first (codes "G")) (right_side state Always True t.1) (state ts >>= on))) b.no_next
    ∙ ap (λ v. cond v (right_side state Always True t.1) (state ts >>= on)) b.no_always
    ∙ ap (λ r. r >>= on) (reads ts cut.0 cut.1 closes)
    ∙ ap (λ r. r >>= λ after. reached state x after) (ap (behind (codes "U")) sign.2)
    ∙ goes_on sign.1 sign.3
