-- The names of a coalition, as far as they are read.
use Rattle.std.proofs.Common.{◌≡◌, ◌∙◌, ◌++◌, ◌+◌, ℕ, List, [], ◌∷◌, true, false, cond, Result, Ok, Err, refl, ap, sym}
use Rattle.std.proofs.Common.{append_assoc}
use Rattle.std.specs.Prelude.{bytes_eq, codes, if◌then◌else◌}
use Rattle.formula_tokens.specs.declared.fault.FormulaFault.{FormulaFault}
use Rattle.formula_tokens.specs.declared.fault.FormulaCause.TheVariants.{Unexpected}
use Rattle.formula_tokens.specs.Fault.{fault_at, ◌>>=◌}
use Rattle.formula_tokens.specs.Tokens.{Tokens, Finish, Broken, Then, Token, count_of}
use Rattle.formula_reader.specs.Grammar.{names, further_names, with_name}
use Rattle.formula_tokens.specs.Reading.{next, is, fails, is_word}

-- names that were read, and then what is read behind them
abbrev pub with_names : List (List ℕ) → Result (List (List ℕ) × Tokens) FormulaFault
    → Result (List (List ℕ) × Tokens) FormulaFault
with_names front read = read >>= λ x. Ok (front ++ x.0, x.1)

abbrev pub names_behind : Token → Result (List (List ℕ) × Tokens) FormulaFault
names_behind word = if is_word word.spelling then with_name word.spelling (further_names word.after)
    else fails word Unexpected

abbrev pub further_behind : Token → Result (List (List ℕ) × Tokens) FormulaFault
further_behind sign = if is sign (codes ">>") then Ok ([], sign.after) else if is sign (codes ",") then names sign.after
    else fails sign Unexpected

names_next : (ts : Tokens) → names ts ≡ (next ts >>= names_behind)
names_next (Finish place) = refl
names_next (Broken fault) = refl
names_next (Then place spelling rest) = refl

further_next : (ts : Tokens) → further_names ts ≡ (next ts >>= further_behind)
further_next (Finish place) = refl
further_next (Broken fault) = refl
further_next (Then place spelling rest) = refl

-- no name where one has to stand
at_word : (front : List (List ℕ)) (ts : Tokens) (word : Token) (said : Result (List (List ℕ) × Tokens) FormulaFault)
    → with_names front (names ts) ≡ said → next ts ≡ Ok word → said ≡ with_names front (names_behind word)
at_word front ts word said is e = sym is ∙ ap (with_names front) (names_next ts ∙ ap (λ r. r >>= names_behind) e)

behind_word : (front : List (List ℕ)) (ts : Tokens) (word : Token) (said : Result (List (List ℕ) × Tokens) FormulaFault)
    → with_names front (names ts) ≡ said → next ts ≡ Ok word → is_word word.spelling ≡ true
    → said ≡ with_names front (with_name word.spelling (next word.after >>= further_behind))
behind_word front ts word said is e w = at_word front ts word said is e
    ∙ ap (λ b. with_names front (cond b (with_name word.spelling (further_names word.after)) (fails word Unexpected))) w
    ∙ ap (λ r. with_names front (with_name word.spelling r)) (further_next word.after)

at_sign : (front : List (List ℕ)) (ts : Tokens) (word sign : Token)
    (said : Result (List (List ℕ) × Tokens) FormulaFault) → with_names front (names ts) ≡ said
    → next ts ≡ Ok word → is_word word.spelling ≡ true → next word.after ≡ Ok sign
    → said ≡ with_names front (with_name word.spelling (further_behind sign))
at_sign front ts word sign said is e w n = behind_word front ts word said is e w
    ∙ ap (λ r. with_names front (with_name word.spelling (r >>= further_behind))) n

wrong_sign : (front : List (List ℕ)) (ts : Tokens) (word sign : Token)
    (said : Result (List (List ℕ) × Tokens) FormulaFault) → with_names front (names ts) ≡ said
    → next ts ≡ Ok word → is_word word.spelling ≡ true → next word.after ≡ Ok sign
    → bytes_eq sign.spelling (codes ">>") ≡ false → said ≡ with_names front
    (with_name word.spelling (cond (bytes_eq sign.spelling (codes ",")) (names sign.after) (fails sign Unexpected)))
wrong_sign front ts word sign said is e w n s = at_sign front ts word sign said is e w n
    ∙ ap (λ b. with_names front (with_name word.spelling (cond b (Ok ([], sign.after))
    (cond (bytes_eq sign.spelling (codes ",")) (names sign.after) (fails sign Unexpected))))) s

pub no_comma : (front : List (List ℕ)) (ts : Tokens) (word sign : Token)
    (said : Result (List (List ℕ) × Tokens) FormulaFault) → with_names front (names ts) ≡ said → next ts ≡ Ok word
    → is_word word.spelling ≡ true → next word.after ≡ Ok sign → bytes_eq sign.spelling (codes ">>") ≡ false
    → bytes_eq sign.spelling (codes ",") ≡ false → said ≡ Err (fault_at sign.place Unexpected)
no_comma front ts word sign said is e w n s c = wrong_sign front ts word sign said is e w n s
    ∙ ap (λ b. with_names front (with_name word.spelling (cond b (names sign.after) (fails sign Unexpected)))) c

with_twice : (front : List (List ℕ)) (name : List ℕ) (read : Result (List (List ℕ) × Tokens) FormulaFault)
    → with_names front (with_name name read) ≡ with_names (front ++ name ∷ []) read
with_twice front name (Err fault) = refl
with_twice front name (Ok (names, rest)) =
    ap (λ (ns : List (List ℕ)). Ok (ns, rest)) (sym (append_assoc front (name ∷ []) names))

pub more_names : (front : List (List ℕ)) (ts : Tokens) (word sign : Token)
    (said : Result (List (List ℕ) × Tokens) FormulaFault) → with_names front (names ts) ≡ said → next ts ≡ Ok word
    → is_word word.spelling ≡ true → next word.after ≡ Ok sign → bytes_eq sign.spelling (codes ">>") ≡ false
    → bytes_eq sign.spelling (codes ",") ≡ true → with_names (front ++ word.spelling ∷ []) (names sign.after) ≡ said
more_names front ts word sign said is e w n s c =
    sym (wrong_sign front ts word sign said is e w n s
    ∙ ap (λ b. with_names front (with_name word.spelling (cond b (names sign.after) (fails sign Unexpected)))) c
    ∙ with_twice front word.spelling (names sign.after))

pub fewer : (ts : Tokens) (token : Token) → next ts ≡ Ok token → count_of ts ≡ count_of token.after + 1
fewer (Finish place) token e = cc
fewer (Broken fault) token e = cc
fewer (Then place spelling rest) token e = let t : rest ≡ token.after = cc in ap (λ r. count_of r + 1) t
