-- The tokens of a state formula and of a path that the rules derive are read.
use Rattle.std.proofs.Common.{◌≡◌, ◌∙◌, inl, inr, ℕ, suc, List, [], ◌∷◌, ◌++◌, true, None, Ok, refl, ap, sym, subst}
use Rattle.std.proofs.Common.{arith}
use Rattle.std.specs.Prelude.{codes}
use Rattle.formula_reader.specs.declared.formula.PathKind.{PathKind}
use Rattle.formula_reader.specs.declared.formula.PathKind.TheVariants.{Until, Within, Next, Always}
use Rattle.formula_tokens.specs.Fault.{◌>>=◌}
use Rattle.formula_reader.specs.Formula.{State, True, False, Label, And, Or, Implies, Path, Tree, inner_of}
use Rattle.formula_tokens.specs.Tokens.{Tokens, Then}
use Rattle.formula_reader.specs.Grammar.{inner_bound, tree_with, inner, sides, path, unary}
use Rattle.formula_tokens.specs.Reading.{behind, is_quoted, unquoted}
use Rattle.formula_reader.specs.Grammar.{both, either, implied, negated, closed, nested}
use Rattle.formula_tokens.specs.Reading.{follows}
use Rattle.formula_reader.specs.Rules.{formula_of, IsCoalition, IsBound, Compares, IsState, IsEither, IsBoth, IsUnary}
use Rattle.formula_reader.specs.Rules.{IsPath, plain_state, implies, plain_either, or, plain_both, and, negation}
use Rattle.formula_reader.specs.Rules.{brackets, everywhere, nowhere, label, inside, reach, reach_within, until}
use Rattle.formula_reader.specs.Rules.{until_within, next as next_path, always}
use Rattle.formula_tokens.proofs.Spans.{Spans, spans_split, spans_count}
use Rattle.formula_reader.proofs.Joining.{Stands, begun, went_on, ended}
use Rattle.formula_reader.proofs.Beginning.{quoted_begins, BeginsInner, inner_begins, state_begins}
use Rattle.formula_reader.proofs.HeadsAgain.{coalition_again, inner_bound_again, no_coalition}
use Rattle.formula_reader.proofs.PathsAgain.{path_of, Closes, Reads, right_again, reached_again, reached_within_again}
use Rattle.formula_reader.proofs.PathsAgain.{until_again}

label_read : (room : ℕ) (place : ℕ) (token : List ℕ) (after : Tokens) → is_quoted token ≡ true
    → unary (nested room) (Then place token after) ≡ Ok (Label (unquoted token), after)
unfolding nested
label_read room place token after e =
    let q = quoted_begins token e in
    let P : List ℕ → Type 0 = λ t. unary (nested room) (Then place t after) ≡ Ok (Label (unquoted t), after) in
    subst P (sym q.1) refl

abbrev StandsAll : ℕ → List (List ℕ) → State → Type 0
StandsAll room us x =
    (ts rest : Tokens) → Spans ts us rest → follows (codes "&") rest ≡ None → follows (codes "|") rest ≡ None
    → Stands (codes "=>") Implies (either (unary (nested room))) x rest (implied (unary (nested room)) ts)

reads_from : (room : ℕ) (us : List (List ℕ)) (x : State) → StandsAll room us x
    → Reads (implied (unary (nested room))) us x
reads_from room us x stands ts rest s c = ended (codes "=>") Implies (either (unary (nested room))) x rest
    (implied (unary (nested room)) ts) (stands ts rest s c.and c.or) c.implies

-- behind these tokens a path is read
abbrev ReadsPath : ℕ → List (List ℕ) → Path → Type 0
ReadsPath room us p =
    (ts rest : Tokens) → Spans ts us rest → Closes rest → path (implied (unary (nested room))) ts ≡ Ok (p, rest)

sides_from : (room : ℕ) (us : List (List ℕ)) (p : Path) → ReadsPath room us p → (ts rest : Tokens)
    → Spans ts (codes "[" ∷ (us ++ codes "]" ∷ [])) rest → sides (nested (suc room)) ts ≡ Ok (p, rest)
unfolding nested
sides_from room us p reads ts rest s =
    let cut = spans_split us (codes "]" ∷ []) s.1 rest s.3 in
    let close = cut.2 in
    let closes : Closes cut.0 =
    subst (λ (t : Tokens). Closes t) (sym close.2) (record { and = refl; or = refl; implies = refl }) in
    ap (sides (nested (suc room))) s.2
    ∙ ap (λ r. r >>= λ q. behind (codes "]") q.1 >>= λ after. Ok (q.0, after)) (reads s.1 cut.0 cut.1 closes)
    ∙ ap (λ r. r >>= λ after. Ok (p, after)) (ap (behind (codes "]")) close.2)
    ∙ ap (λ (t : Tokens). Ok (p, t)) close.3

-- a formula inside is read as one
unary_inner : (room : ℕ) (us : List (List ℕ)) (ts rest : Tokens) → BeginsInner us → Spans ts us rest
    → unary (nested room) ts ≡ inner (nested room) ts
unary_inner room us ts rest b s =
    let P : List (List ℕ) → Type 0 = λ vs. Spans ts vs rest in
    let Q : Tokens → Type 0 = λ t. unary (nested room) t ≡ inner (nested room) t in
    elim b [
      | inl p ↦ let t : Spans ts (codes "P" ∷ p.0) rest = subst P p.1 s in subst Q (sym t.2) refl
      | inr p ↦ let t : Spans ts (codes "<<" ∷ p.0) rest = subst P p.1 s in subst Q (sym t.2) refl
    ]

inner_from : (room : ℕ) (team asks us : List (List ℕ)) (f : Tree) → IsCoalition team f.coalition
    → IsBound asks f.bound → Compares f.bound → ReadsPath room us (path_of f.kind f.left f.right) → (ts rest : Tokens)
    → Spans ts (formula_of team asks us) rest → inner (nested (suc room)) ts ≡ Ok (inner_of f, rest)
inner_from room team asks us f n b c reads ts rest s =
    let back = codes "[" ∷ (us ++ codes "]" ∷ []) in
    let first = spans_split team (asks ++ back) ts rest s in
    let second = spans_split asks back first.0 rest first.2 in
    ap (λ r. r
    >>= λ t. inner_bound t.1 >>= λ a. sides (nested (suc room)) a.1 >>= λ p. Ok (inner_of (tree_with t.0 a.0 p.0), p.1))
    (coalition_again team f.coalition n ts first.0 first.1 (no_coalition asks back f.bound b first.0 rest first.2))
    ∙ ap (λ r. r >>= λ a. sides (nested (suc room)) a.1 >>= λ p. Ok (inner_of (tree_with f.coalition a.0 p.0), p.1))
    (inner_bound_again asks f.bound b c first.0 second.0 second.1)
    ∙ ap (λ r. r >>= λ p. Ok (inner_of (tree_with f.coalition f.bound p.0), p.1))
    (sides_from room us (path_of f.kind f.left f.right) reads second.0 rest second.2)

mutual
  unfolding nested

  unary_again : (room : ℕ) (us : List (List ℕ)) (x : State) → IsUnary room us x → (ts rest : Tokens) → Spans ts us rest
      → unary (nested room) ts ≡ Ok (x, rest)
  unary_again _ _ _ (negation room us x d) ts rest s =
      ap (λ t. unary (nested (suc room)) t) s.2 ∙ ap negated (unary_again room us x d s.1 rest s.3)
  unary_again _ _ _ (brackets room us x d) ts rest s =
      let cut = spans_split us (codes ")" ∷ []) s.1 rest s.3 in
      let close = cut.2 in
      let closes : Closes cut.0 =
      subst (λ (t : Tokens). Closes t) (sym close.2) (record { and = refl; or = refl; implies = refl }) in
      let inner = reads_from room us x (λ t r u a o. state_stands room us x d t r u a o) s.1 cut.0 cut.1 closes in
      let behind_it : behind (codes ")") cut.0 ≡ Ok rest =
      ap (behind (codes ")")) close.2 ∙ ap (λ (t : Tokens). Ok t) close.3 in
      ap (λ t. unary (nested (suc room)) t) s.2 ∙ ap closed inner ∙ ap (λ r. r >>= λ after. Ok (x, after)) behind_it
  unary_again _ _ _ (everywhere room) ts rest s =
      ap (λ t. unary (nested room) t) s.2 ∙ ap (λ (t : Tokens). Ok (True, t)) s.3
  unary_again _ _ _ (nowhere room) ts rest s =
      ap (λ t. unary (nested room) t) s.2 ∙ ap (λ (t : Tokens). Ok (False, t)) s.3
  unary_again _ _ _ (label room token q) ts rest s = ap (λ t. unary (nested room) t) s.2
      ∙ label_read room s.0 token s.1 q ∙ ap (λ (t : Tokens). Ok (Label (unquoted token), t)) s.3
  unary_again _ _ _ (inside room team asks us f n b c d) ts rest s =
      unary_inner (suc room) (formula_of team asks us) ts rest
      (inner_begins team asks (codes "[" ∷ (us ++ codes "]" ∷ [])) f.coalition f.bound n b c) s
      ∙ inner_from room team asks us f n b c (λ t r u e. path_again room us f.kind f.left f.right d t r u e) ts rest s

  both_stands : (room : ℕ) (us : List (List ℕ)) (x : State) → IsBoth room us x → (ts rest : Tokens) → Spans ts us rest
      → Stands (codes "&") And (unary (nested room)) x rest (both (unary (nested room)) ts)
  both_stands _ _ _ (plain_both room us x d) ts rest s =
      begun (codes "&") And (unary (nested room)) x ts rest (unary_again room us x d ts rest s)
  both_stands _ _ _ (and room us vs x y d e) ts rest s =
      let cut = spans_split us (codes "&" ∷ vs) ts rest s in
      let sign = cut.2 in
      went_on (codes "&") And (unary (nested room)) x y cut.0 sign.1 rest (both (unary (nested room)) ts)
      (both_stands room us x d ts cut.0 cut.1) (ap (follows (codes "&")) sign.2)
      (unary_again room vs y e sign.1 rest sign.3) (omega (arith, spans_count vs sign.1 rest sign.3))

  either_stands : (room : ℕ) (us : List (List ℕ)) (x : State) → IsEither room us x
      → (ts rest : Tokens) → Spans ts us rest → follows (codes "&") rest ≡ None
      → Stands (codes "|") Or (both (unary (nested room))) x rest (either (unary (nested room)) ts)
  either_stands _ _ _ (plain_either room us x d) ts rest s a =
      begun (codes "|") Or (both (unary (nested room))) x ts rest (ended (codes "&") And (unary (nested room)) x rest
      (both (unary (nested room)) ts) (both_stands room us x d ts rest s) a)
  either_stands _ _ _ (or room us vs x y d e) ts rest s a =
      let cut = spans_split us (codes "|" ∷ vs) ts rest s in
      let sign = cut.2 in
      went_on (codes "|") Or (both (unary (nested room))) x y cut.0 sign.1 rest (either (unary (nested room)) ts)
      (either_stands room us x d ts cut.0 cut.1 (ap (follows (codes "&")) sign.2)) (ap (follows (codes "|")) sign.2)
      (ended (codes "&") And (unary (nested room)) y rest (both (unary (nested room)) sign.1)
      (both_stands room vs y e sign.1 rest sign.3) a) (omega (arith, spans_count vs sign.1 rest sign.3))

  state_stands : (room : ℕ) (us : List (List ℕ)) (x : State) → IsState room us x → (ts rest : Tokens)
      → Spans ts us rest → follows (codes "&") rest ≡ None → follows (codes "|") rest ≡ None
      → Stands (codes "=>") Implies (either (unary (nested room))) x rest (implied (unary (nested room)) ts)
  state_stands _ _ _ (plain_state room us x d) ts rest s a o =
      begun (codes "=>") Implies (either (unary (nested room))) x ts rest (ended (codes "|") Or
      (both (unary (nested room))) x rest (either (unary (nested room)) ts) (either_stands room us x d ts rest s a) o)
  state_stands _ _ _ (implies room us vs x y d e) ts rest s a o =
      let cut = spans_split us (codes "=>" ∷ vs) ts rest s in
      let sign = cut.2 in
      went_on (codes "=>") Implies (either (unary (nested room))) x y cut.0 sign.1 rest
      (implied (unary (nested room)) ts)
      (state_stands room us x d ts cut.0 cut.1 (ap (follows (codes "&")) sign.2) (ap (follows (codes "|")) sign.2))
      (ap (follows (codes "=>")) sign.2)
      (ended (codes "|") Or (both (unary (nested room))) y rest (either (unary (nested room)) sign.1)
      (either_stands room vs y e sign.1 rest sign.3 a) o) (omega (arith, spans_count vs sign.1 rest sign.3))

  pub path_again : (room : ℕ) (us : List (List ℕ)) (kind : PathKind) (x y : State)
      → IsPath room us kind x y → (ts rest : Tokens) → Spans ts us rest → Closes rest
      → path (implied (unary (nested room))) ts ≡ Ok (path_of kind x y, rest)
  path_again _ _ _ _ _ (reach room us y d) ts rest s c =
      ap (path (implied (unary (nested room)))) s.2 ∙ reached_again (implied (unary (nested room))) True us y
      (state_begins room us y d) (reads_from room us y (λ t r u a o. state_stands room us y d t r u a o)) s.1 rest s.3 c
  path_again _ _ _ _ _ (reach_within room token us k y n d) ts rest s c =
      ap (path (implied (unary (nested room)))) s.2 ∙ reached_within_again (implied (unary (nested room))) True token us
      k y n (reads_from room us y (λ t r u a o. state_stands room us y d t r u a o)) s.1 rest s.3 c
  path_again _ _ _ _ _ (until room us vs x y d e) ts rest s c =
      until_again (implied (unary (nested room))) us vs x (path_of Until x y) (state_begins room us x d)
      (reads_from room us x (λ t r u a o. state_stands room us x d t r u a o)) ts rest s
      (λ after t. reached_again (implied (unary (nested room))) x vs y (state_begins room vs y e)
      (reads_from room vs y (λ t r u a o. state_stands room vs y e t r u a o)) after rest t c)
  path_again _ _ _ _ _ (until_within room us token vs k x y d n e) ts rest s c =
      until_again (implied (unary (nested room))) us (codes "<=" ∷ token ∷ vs) x (path_of (Within k) x y)
      (state_begins room us x d) (reads_from room us x (λ t r u a o. state_stands room us x d t r u a o)) ts rest s
      (λ after t. reached_within_again (implied (unary (nested room))) x token vs k y n
      (reads_from room vs y (λ t r u a o. state_stands room vs y e t r u a o)) after rest t c)
  path_again _ _ _ _ _ (next_path room us y d) ts rest s c =
      ap (path (implied (unary (nested room)))) s.2 ∙ right_again (implied (unary (nested room))) Next True us y
      (reads_from room us y (λ t r u a o. state_stands room us y d t r u a o)) s.1 rest s.3 c
  path_again _ _ _ _ _ (always room us y d) ts rest s c =
      ap (path (implied (unary (nested room)))) s.2 ∙ right_again (implied (unary (nested room))) Always True us y
      (reads_from room us y (λ t r u a o. state_stands room us y d t r u a o)) s.1 rest s.3 c

-- the two sides of a formula that the rules derive
pub sides_again : (room : ℕ) (us : List (List ℕ)) (kind : PathKind) (x y : State)
    → IsPath room us kind x y → (ts rest : Tokens) → Spans ts (codes "[" ∷ (us ++ codes "]" ∷ [])) rest
    → sides (nested (suc room)) ts ≡ Ok (path_of kind x y, rest)
sides_again room us kind x y d ts rest s =
    sides_from room us (path_of kind x y) (λ t r u c. path_again room us kind x y d t r u c) ts rest s

-- a state formula that the rules derive, where no operator stands behind it
pub state_again : (room : ℕ) (us : List (List ℕ)) (x : State) → IsState room us x
    → Reads (implied (unary (nested room))) us x
state_again room us x d = reads_from room us x (λ t r u a o. state_stands room us x d t r u a o)
