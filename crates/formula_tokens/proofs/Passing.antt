-- The tokens behind a token.
use Rattle.std.proofs.Common.{◌≡◌, ◌∙◌, ◌+◌, ◌-◌, ◌<◌, ◌≤◌, ℕ, zero, suc, List, [], ◌∷◌, length, take, drop, ap, sym}
use Rattle.std.proofs.Common.{subst, arith}
use Rattle.formula_tokens.specs.declared.tokens.Lead.{Lead}
use Rattle.formula_tokens.specs.Cursor.{Leads}
use Rattle.formula_tokens.specs.declared.front.Front.TheVariants.{Spelling}
use Rattle.formula_tokens.specs.Tokens.{Tokens, Then, in_front, tokens_from, front_from}

passing : (bytes : List ℕ) (place count : ℕ) → count ≤ length bytes
    → tokens_from place count bytes ≡ tokens_from (place + count) 0 (drop count bytes)
passing [] place zero h = let e : place ≡ place + 0 = omega arith in ap (λ p. tokens_from p 0 []) e
passing [] place (suc count) h = absurd (omega (arith, h))
passing (b ∷ bytes) place zero h = let e : place ≡ place + 0 = omega arith in ap (λ p. tokens_from p 0 (b ∷ bytes)) e
passing (b ∷ bytes) place (suc count) h =
    let e : place + 1 + count ≡ place + suc count = omega arith in
    passing bytes (place + 1) count (omega (arith, h)) ∙ ap (λ p. tokens_from p 0 (drop count bytes)) e

-- a token of so many bytes, and the tokens behind it
pub token_cut : (b : ℕ) (bytes : List ℕ) (place count : ℕ) → front_from b bytes ≡ Spelling count
    → 0 < count → count ≤ length bytes + 1 → tokens_from place 0 (b ∷ bytes)
    ≡ Then place (take count (b ∷ bytes)) (tokens_from (place + count) 0 (drop count (b ∷ bytes)))
token_cut b bytes place zero is some within = absurd (omega (arith, some))
token_cut b bytes place (suc count) is some within =
    let e : place + 1 + count ≡ place + suc count = omega arith in
    let d : suc count - 1 ≡ count = omega arith in
    ap (λ f. in_front place (b ∷ bytes) f (λ more. tokens_from (place + 1) more bytes)) is
    ∙ ap (λ k. Then place (take (suc count) (b ∷ bytes)) (tokens_from (place + 1) k bytes)) d
    ∙ ap (λ ts. Then place (take (suc count) (b ∷ bytes)) ts)
    (passing bytes (place + 1) count (omega (arith, within)) ∙ ap (λ p. tokens_from p 0 (drop count bytes)) e)

pub led_by : (text : List ℕ) (b : ℕ) (bytes : List ℕ) (place count : ℕ) (r : Lead)
    → text ≡ b ∷ bytes → front_from b bytes ≡ Spelling count → 0 < count → count ≤ length bytes + 1
    → Leads (Then place (take count text) (tokens_from (place + count) 0 (drop count text))) r
    → Leads (tokens_from place 0 text) r
led_by text b bytes place count r whole is some within leads =
    let P : List ℕ → Type 0 = λ t. Leads (Then place (take count t) (tokens_from (place + count) 0 (drop count t))) r
    → Leads (tokens_from place 0 t) r in
    let Q : Tokens → Type 0 = λ ts. Leads ts r in
    subst P (sym whole) (subst Q (sym (token_cut b bytes place count is some within))) leads
