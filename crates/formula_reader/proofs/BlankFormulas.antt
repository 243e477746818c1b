-- A blank between tokens changes no formula.
use Rattle.std.proofs.Common.{◌≡◌, ◌∙◌, ◌≤◌, ℕ, List, [], ◌∷◌, ◌++◌, length, None, refl, ap, sym, subst}
use Rattle.std.proofs.lemmas.List.{append-nil}
use Rattle.formula_reader.specs.Formula.{Tree}
use Rattle.formula_tokens.specs.Laws.{AreTokens, spellings_of, cause_of, AreAlike, StandsAt, IsBlank}
use Rattle.formula_tokens.specs.Limits.{longest}
use Rattle.formula_reader.specs.Rules.{DenotesFormula}
use Rattle.formula_tokens.specs.Tokens.{Tokens, Finish, Broken, Then, tokens_of}
use Rattle.formula_tokens.proofs.Cutting.{cut_read, tokens_cut}
use Rattle.formula_tokens.proofs.Blanks.{all_tokens, parted_spellings, parted_cause}
use Rattle.formula_tokens.proofs.Reaching.{before_token}

tokens_all : (ts : Tokens) (us : List (List ℕ)) → AreTokens ts us → (spellings_of ts ≡ us) × (cause_of ts ≡ None)
tokens_all (Finish place) [] a = (refl, refl)
tokens_all (Finish place) (u ∷ us) a = absurd a
tokens_all (Broken fault) us a = absurd a
tokens_all (Then place spelling rest) [] a = absurd a
tokens_all (Then place spelling rest) (u ∷ us) a =
    let more = tokens_all rest us a.1 in
    (ap (λ s. s ∷ spellings_of rest) a.0 ∙ ap (λ xs. u ∷ xs) more.0, more.1)

alike_tokens : (ts others : Tokens) (us : List (List ℕ)) → AreAlike others ts → AreTokens ts us → AreTokens others us
alike_tokens ts others us alike a =
    let all = tokens_all ts us a in
    let P : List (List ℕ) → Type 0 = λ vs. AreTokens others vs in
    subst P (alike.spellings ∙ all.0) (all_tokens others (alike.cause ∙ all.1))

alike_denotes : (text other : List ℕ) (f : Tree) → AreAlike (tokens_of other) (tokens_of text) → length other ≤ longest
    → DenotesFormula text f → DenotesFormula other f
alike_denotes text other f alike short d = record {
  short = short;
  tokens = d.tokens;
  cut = tokens_cut other d.tokens
      (alike_tokens (tokens_of text) (tokens_of other) d.tokens alike (cut_read text d.tokens d.cut 0));
  formula = d.formula;
}

pub denotes_before : (front blank back : List ℕ) (f : Tree) → IsBlank blank
    → StandsAt (tokens_of (front ++ back)) (length front) → length (front ++ (blank ++ back)) ≤ longest
    → DenotesFormula (front ++ back) f → DenotesFormula (front ++ (blank ++ back)) f
denotes_before front blank back f is at short d =
    alike_denotes (front ++ back) (front ++ (blank ++ back)) f (before_token front blank back is at) short d

pub denotes_end : (text blank : List ℕ) (f : Tree) → IsBlank blank → length (text ++ blank) ≤ longest
    → DenotesFormula text f → DenotesFormula (text ++ blank) f
denotes_end text blank f is short d =
    let all = tokens_all (tokens_of text) d.tokens (cut_read text d.tokens d.cut 0) in
    let same : text ++ (blank ++ []) ≡ text ++ blank = ap (λ xs. text ++ xs) (append-nil blank) in
    let P : List ℕ → Type 0 = λ t. AreAlike (tokens_of t) (tokens_of text) in
    alike_denotes text (text ++ blank) f
    (subst P same (record {
      spellings = parted_spellings text blank [] is all.1 ∙ append-nil (spellings_of (tokens_of text));
      cause = parted_cause text blank [] is all.1 ∙ sym all.1;
    }))
    short d
