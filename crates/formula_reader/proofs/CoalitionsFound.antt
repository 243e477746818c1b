-- A coalition that is read is derived by the rules.
use Rattle.std.proofs.Common.{◌≡◌, ◌∙◌, inl, inr, ℕ, List, [], ◌∷◌, ◌++◌, cond, Option, Some, None, Ok, Err, refl, ap}
use Rattle.std.proofs.Common.{sym}
use Rattle.std.specs.Prelude.{codes, bytes_eq}
use Rattle.std.specs.List.{All}
use Rattle.std.proofs.lemmas.List.Elements.{All-nil, All-cons}
use Rattle.formula_tokens.specs.declared.fault.FormulaCause.TheVariants.{Unexpected}
use Rattle.formula_tokens.specs.Fault.{fault_at}
use Rattle.formula_tokens.specs.Tokens.{Tokens, Finish, Broken, Then}
use Rattle.formula_reader.specs.Grammar.{names, further_names, with_name, some_names}
use Rattle.formula_tokens.specs.Reading.{is_word, follows, where_next}
use Rattle.formula_reader.specs.Grammar.{coalition}
use Rattle.formula_reader.specs.Rules.{with_commas, IsWord, IsCoalition}
use Rattle.formula_tokens.proofs.Spans.{same_read, Found, chosen, bind_ok, follows_ok, same_bytes}

abbrev more_commas : List (List ℕ) → List (List ℕ)
more_commas [] = []
more_commas (name ∷ names) = codes "," ∷ with_commas (name ∷ names)

with_commas_from : (name : List ℕ) (names : List (List ℕ)) → with_commas (name ∷ names) ≡ name ∷ more_commas names
with_commas_from name [] = refl
with_commas_from name (other ∷ more) = refl

-- names up to `>>`
record Listed (ts : List (List ℕ)) (names : List (List ℕ)) : Type 0 where
  pub name : List ℕ
  pub others : List (List ℕ)
  pub some : names ≡ name ∷ others
  pub spelled : ts ≡ with_commas names ++ codes ">>" ∷ []
  pub words : All IsWord names

-- further names up to `>>`
record Continued (ts : List (List ℕ)) (names : List (List ℕ)) : Type 0 where
  pub spelled : ts ≡ more_commas names ++ codes ">>" ∷ []
  pub words : All IsWord names

first_name : (place : ℕ) (word : List ℕ) (after : Tokens) (ns : List (List ℕ)) (rest : Tokens)
    → ((ms : List (List ℕ)) (r : Tokens) → further_names after ≡ Ok (ms, r) → Found Continued after ms r)
    → names (Then place word after) ≡ Ok (ns, rest) → Found Listed (Then place word after) ns rest
first_name place word after ns rest more e =
    elim (chosen (is_word word) (with_name word (further_names after)) (Err (fault_at place Unexpected))
    (Ok (ns, rest)) e) [
      | inr t ↦ cc t.1
      | inl t ↦
          let b = bind_ok (further_names after) (λ x. Ok (word ∷ x.0, x.1)) (ns, rest) t.1 in
          let inner = more b.value.0 b.value.1 b.first in
          same_read Listed (Then place word after) (word ∷ b.value.0) ns b.value.1 rest
          (record {
            tokens = word ∷ inner.tokens;
            spans = (place, after, refl, inner.spans);
            spells = record {
              name = word;
              others = b.value.0;
              some = refl;
              spelled = ap (λ ts. word ∷ ts) inner.spells.spelled
                  ∙ ap (λ ts. ts ++ codes ">>" ∷ []) (sym (with_commas_from word b.value.0));
              words = All-cons IsWord word b.value.0 t.0 inner.spells.words;
            };
          })
          b.then_
    ]

comma : (ts : List (List ℕ)) (ns : List (List ℕ)) → Listed ts ns → Continued (codes "," ∷ ts) ns
comma ts [] listed = cc listed.some
comma ts (n ∷ ns) listed = record { spelled = ap (λ us. codes "," ∷ us) listed.spelled; words = listed.words }

next_name : (place : ℕ) (sign : List ℕ) (after : Tokens) (ns : List (List ℕ)) (rest : Tokens)
    → ((ms : List (List ℕ)) (r : Tokens) → names after ≡ Ok (ms, r) → Found Listed after ms r)
    → further_names (Then place sign after) ≡ Ok (ns, rest) → Found Continued (Then place sign after) ns rest
next_name place sign after ns rest more e =
    elim (chosen (bytes_eq sign (codes ">>")) (Ok ([], after))
    (cond (bytes_eq sign (codes ",")) (names after) (Err (fault_at place Unexpected))) (Ok (ns, rest)) e) [
      | inl t ↦ same_read Continued (Then place sign after) [] ns after rest
          (record {
            tokens = codes ">>" ∷ [];
            spans = (place, after, ap (λ s. Then place s after) (same_bytes _ _ t.0), refl);
            spells = record { spelled = refl; words = All-nil IsWord };
          })
          t.1
      | inr t ↦ elim (chosen (bytes_eq sign (codes ",")) (names after) (Err (fault_at place Unexpected))
          (Ok (ns, rest)) t.1) [
            | inr f ↦ cc f.1
            | inl f ↦
                let inner = more ns rest f.1 in
                record {
                  tokens = codes "," ∷ inner.tokens;
                  spans = (place, after, ap (λ s. Then place s after) (same_bytes _ _ f.0), inner.spans);
                  spells = comma inner.tokens ns inner.spells;
                }
          ]
    ]

mutual
  names_found : (ts : Tokens) (ns : List (List ℕ)) (rest : Tokens) → names ts ≡ Ok (ns, rest) → Found Listed ts ns rest
  names_found (Finish place) ns rest e = cc e
  names_found (Broken fault) ns rest e = cc e
  names_found (Then place word after) ns rest e = first_name place word after ns rest (further_found after) e

  further_found : (ts : Tokens) (ns : List (List ℕ)) (rest : Tokens) → further_names ts ≡ Ok (ns, rest)
      → Found Continued ts ns rest
  further_found (Finish place) ns rest e = cc e
  further_found (Broken fault) ns rest e = cc e
  further_found (Then place sign after) ns rest e = next_name place sign after ns rest (names_found after) e

pub coalition_found : (ts : Tokens) (team : Option (List (List ℕ))) (rest : Tokens) → coalition ts ≡ Ok (team, rest)
    → Found IsCoalition ts team rest
coalition_found ts team rest e = by_sign (follows (codes "<<") ts) refl e
  where
    by_end : (inside : Tokens) (place : ℕ) → ts ≡ Then place (codes "<<") inside
        → (o : Option Tokens) → follows (codes ">>") inside ≡ o
        → where_next o (some_names (names inside)) (λ after. Ok (Some [], after)) ≡ Ok (team, rest)
        → Found IsCoalition ts team rest
    by_end inside place at (Some after) end e =
        let close = follows_ok (codes ">>") inside after end in
        same_read IsCoalition ts (Some []) team after rest (record {
          tokens = codes "<<" ∷ codes ">>" ∷ [];
          spans = (place, inside, at, (close.0, after, close.1, refl));
          spells = (refl, All-nil IsWord);
        }) e
    by_end inside place at None end e =
        let b = bind_ok (names inside) (λ x. Ok (Some x.0, x.1)) (team, rest) e in
        let inner = names_found inside b.value.0 b.value.1 b.first in
        same_read IsCoalition ts (Some b.value.0) team b.value.1 rest
        (record {
          tokens = codes "<<" ∷ inner.tokens;
          spans = (place, inside, at, inner.spans);
          spells = (ap (λ us. codes "<<" ∷ us) inner.spells.spelled, inner.spells.words);
        }) b.then_

    by_sign : (o : Option Tokens) → follows (codes "<<") ts ≡ o → where_next o (Ok (None, ts))
        (λ inside. where_next (follows (codes ">>") inside) (some_names (names inside)) (λ after. Ok (Some [], after)))
        ≡ Ok (team, rest) → Found IsCoalition ts team rest
    by_sign None none e =
        same_read IsCoalition ts None team ts rest (record { tokens = []; spans = refl; spells = refl }) e
    by_sign (Some inside) some e =
        let at = follows_ok (codes "<<") ts inside some in
        by_end inside at.0 at.1 (follows (codes ">>") inside) refl e
