use Rattle.std.proofs.Common.{rules, ◌≡◌, sym, ap, ◌∙◌, inr, Err, true, false, subst, List, ℕ}
use Rattle.std.specs.Prelude.{bytes_eq, codes}
use Rattle.formula_reader.specs.Grammar.{names}
use Rattle.formula_tokens.specs.Reading.{is_word}
use Rattle.formula_tokens.specs.Cursor.{tokens_at, token_of}
use Rattle.formula_reader.proofs.Naming.{with_names, no_comma, more_names}
use Rattle.formula_reader.proofs.heads.read_names.Goals as goal

pub returns-then-not-is : goal.returns-then-not-is
returns-then-not-is c =
    let word : is_word c.in_ok-word.word.spelling.now ≡ true = search rules in
    let other : bytes_eq c.in_ok-sign.sign.spelling.now (codes ">>") ≡ false = search rules in
    let none : bytes_eq c.in_ok-sign.sign.spelling.now (codes ",") ≡ false = search rules in
    inr (no_comma _ _ (token_of c.in_ok-word.word) (token_of c.in_ok-sign.sign) _ c.loop-list.invariant
    c.in_ok-word.ensures word c.in_ok-sign.ensures other none ∙ ap (λ f. Err f) (sym c.fault-then-not-is.ensures))

pub loop-list-preserved : goal.loop-list-preserved
loop-list-preserved c =
    let word : is_word c.in_ok-word.word.spelling.now ≡ true = search rules in
    let other : bytes_eq c.in_ok-sign.sign.spelling.now (codes ">>") ≡ false = search rules in
    let comma : bytes_eq c.in_ok-sign.sign.spelling.now (codes ",") ≡ true = search rules in
    let P : List (List ℕ) → Type 0 =
    λ front. with_names front (names (tokens_at c.in_ok-sign.sign.after)) ≡ names (tokens_at c.args.cursor) in
    subst P (sym c.in_ok-add_name.ensures.ok) (more_names _ _ (token_of c.in_ok-word.word)
    (token_of c.in_ok-sign.sign) _ c.loop-list.invariant c.in_ok-word.ensures word c.in_ok-sign.ensures other comma)
