-- A formula that is said is denoted.
use Rattle.std.proofs.Common.{◌≡◌, inl, inr, ℕ, suc, List, [], ◌∷◌, ◌++◌, length, Option, Ok, Err, refl, ap, sym, subst}
use Rattle.std.proofs.Common.{nat_lt, arith}
use Rattle.formula_tokens.specs.declared.fault.FormulaCause.TheVariants.{TooLong}
use Rattle.formula_reader.specs.declared.formula.Bound.{Bound}
use Rattle.formula_tokens.specs.Fault.{fault_at, ◌>>=◌}
use Rattle.formula_reader.specs.Formula.{Path, Tree}
use Rattle.formula_reader.specs.Limits.{most_nested}
use Rattle.formula_tokens.specs.Limits.{longest}
use Rattle.formula_tokens.specs.Tokens.{Tokens, Finish, Broken, Then, tokens_of}
use Rattle.formula_reader.specs.Grammar.{coalition, bound, sides, nested, finished, tree_with, behind_bound, formula}
use Rattle.formula_reader.specs.Grammar.{formula_said}
use Rattle.formula_reader.specs.Rules.{IsCoalition, IsBound, IsFormula, IsPath, DenotesFormula}
use Rattle.formula_tokens.specs.Laws.{AreTokens}
use Rattle.formula_tokens.proofs.Spans.{Spans, Found, spans_append, chosen, bind_ok}
use Rattle.formula_reader.proofs.Orders.{le_from}
use Rattle.formula_reader.proofs.CoalitionsFound.{coalition_found}
use Rattle.formula_reader.proofs.BoundsFound.{bound_found}
use Rattle.formula_reader.proofs.Derived.{IsSides, sides_found, finds}
use Rattle.formula_tokens.proofs.Cutting.{tokens_cut}

pub ends_with : (us : List (List ℕ)) (ts : Tokens) (place : ℕ) → Spans ts us (Finish place) → AreTokens ts us
ends_with [] ts place s = let P : Tokens → Type 0 = λ t. AreTokens t [] in subst P (sym s) tt
ends_with (u ∷ us) ts place s =
    let P : Tokens → Type 0 = λ t. AreTokens t (u ∷ us) in
    subst P (sym s.2) (refl, ends_with us s.1 place s.3)

pub finished_ok : {X : Type 0} (x y : X) (ts : Tokens) → finished x ts ≡ Ok y
    → (place : ℕ) × (ts ≡ Finish place) × (x ≡ y)
finished_ok x y (Finish place) e = (place, refl, cc e)
finished_ok x y (Broken fault) e = cc e
finished_ok x y (Then place spelling rest) e = cc e

-- the tokens of a formula up to the end of the text
record Whole (ts : Tokens) (f : Tree) : Type 0 where
  pub tokens : List (List ℕ)
  pub read : AreTokens ts tokens
  pub formula : IsFormula tokens f

-- the outermost `[` takes the room that is kept for it
same_room : (less : ℕ) → suc most_nested ≡ suc less → less ≡ most_nested
same_room less e = omega (arith, e)

path_kept : (us : List (List ℕ)) (p : Path) (s : IsSides (suc most_nested) us p)
    → IsPath most_nested s.sides p.kind p.left p.right
path_kept us p s =
    let P : ℕ → Type 0 = λ room. IsPath room s.sides p.kind p.left p.right in
    subst P (same_room s.less s.room_is) s.path

whole_found : (ts : Tokens) (names : Option (List (List ℕ))) (second : Tokens) (b : Bound) (third : Tokens)
    (p : Path) (rest : Tokens) (f : Tree) → Found IsCoalition ts names second → Found IsBound second b third
    → Found (IsSides (suc most_nested)) third p rest → finished (tree_with names b p) rest ≡ Ok f → Whole ts f
whole_found ts names second b third p rest f team asks both e =
    let end = finished_ok (tree_with names b p) f rest e in
    let spans = spans_append team.tokens (asks.tokens ++ both.tokens) ts second rest team.spans
    (spans_append asks.tokens both.tokens second third rest asks.spans both.spans) in
    let Q : Tokens → Type 0 = λ t. Spans ts (team.tokens ++ (asks.tokens ++ both.tokens)) t in
    let P : Tree → Type 0 = λ g. Whole ts g in
    subst P end.2 (record {
      tokens = team.tokens ++ (asks.tokens ++ both.tokens);
      read = ends_with (team.tokens ++ (asks.tokens ++ both.tokens)) ts end.0 (subst Q end.1 spans);
      formula = record {
        team = team.tokens;
        asks = asks.tokens;
        sides = both.spells.sides;
        whole = ap (λ us. team.tokens ++ (asks.tokens ++ us)) both.spells.whole;
        coalition = team.spells;
        bound = asks.spells;
        path = path_kept both.tokens p both.spells;
      };
    })

formula_found : (ts : Tokens) (f : Tree) → formula ts ≡ Ok f → Whole ts f
formula_found ts f e =
    let a = bind_ok (coalition ts) (λ team. bound team.1 >>= λ asks. behind_bound team.0 asks.0 asks.1) f e in
    let b = bind_ok (bound a.value.1) (λ asks. behind_bound a.value.0 asks.0 asks.1) f a.then_ in
    let c = bind_ok (sides (nested (suc most_nested)) b.value.1)
    (λ p. finished (tree_with a.value.0 b.value.0 p.0) p.1) f b.then_ in
    whole_found ts a.value.0 a.value.1 b.value.0 b.value.1 c.value.0 c.value.1 f
    (coalition_found ts a.value.0 a.value.1 a.first) (bound_found a.value.1 b.value.0 b.value.1 b.first)
    (sides_found (suc most_nested) (finds (suc most_nested)) b.value.1 c.value.0 c.value.1 c.first) c.then_

-- What is said to be a formula is denoted.
pub formula_denoted : (text : List ℕ) (f : Tree) → formula_said text ≡ Ok f → DenotesFormula text f
unfolding formula_said
formula_denoted text f e =
    elim (chosen (nat_lt longest (length text)) (Err (fault_at longest TooLong)) (formula (tokens_of text)) (Ok f) e) [
      | inl t ↦ cc t.1
      | inr t ↦
          let found = formula_found (tokens_of text) f t.1 in
          record {
            short = le_from (length text) longest t.0;
            tokens = found.tokens;
            cut = tokens_cut text found.tokens found.read;
            formula = found.formula;
          }
    ]
