-- A blank parts tokens.
use Rattle.std.proofs.Common.{◌≡◌, ◌∙◌, ◌+◌, ◌-◌, ℕ, zero, suc, List, [], ◌∷◌, ◌++◌, length, take, Bool, true, false}
use Rattle.std.proofs.Common.{None, refl, ap, sym, subst, arith, append_assoc}
use Rattle.std.specs.Prelude.{◌==◌, ◌||◌, ◌&&◌}
use Rattle.text_lines.specs.Text.{begins_lf}
use Rattle.formula_tokens.specs.declared.front.Front.{Front}
use Rattle.formula_tokens.specs.declared.front.Front.TheVariants.{Blank, Spelling, Unclosed, Strange}
use Rattle.formula_tokens.specs.Laws.{AreTokens, spellings_of, cause_of, AreAlike, IsBlank, space, tab, line_feed}
use Rattle.formula_tokens.specs.Laws.{return_and_line_feed}
use Rattle.formula_tokens.specs.TokenRules.{AreCut, nothing, blank, token}
use Rattle.formula_tokens.specs.Tokens.{Tokens, Finish, Broken, Then, tokens_of, in_front, tokens_from, front_from}
use Rattle.formula_tokens.specs.Tokens.{is_blank}
use Rattle.formula_tokens.proofs.Spans.{Spans}
use Rattle.formula_tokens.proofs.Cutting.{longest_read, blank_read, tokens_cut}
use Rattle.formula_tokens.proofs.NoBlanks.{later, begins_blank}

-- 1. A blank behind tokens.

passed_over : (blank_ : List ℕ) → IsBlank blank_ → (back : List ℕ) (place : ℕ)
    → tokens_from place 0 (blank_ ++ back) ≡ tokens_from (place + length blank_) 0 back
passed_over _ space back place = refl
passed_over _ tab back place = refl
passed_over _ line_feed back place = refl
passed_over _ return_and_line_feed back place =
    let e : place + 1 + 1 ≡ place + 2 = omega arith in
    ap (λ p. tokens_from p 0 back) e

stays_blank : (b : ℕ) (rest more : List ℕ) → is_blank b rest ≡ true → is_blank b (rest ++ more) ≡ true
stays_blank b [] more e = by_tests (b == 32 || b == 9 || b == 10) (b == 13) (begins_lf more) e
  where
    by_tests : (x y l : Bool) → (x || (y && false)) ≡ true → (x || (y && l)) ≡ true
    by_tests true y l e = refl
    by_tests false true l e = cc e
    by_tests false false l e = cc e
stays_blank b (c ∷ rest) more e = e

-- the tokens before a blank, and then what stands behind it
pub parted : (front : List ℕ) (tokens : List (List ℕ)) → AreCut front tokens → (blank_ back : List ℕ) → IsBlank blank_
    → (place : ℕ) → (end : ℕ) × Spans (tokens_from place 0 (front ++ (blank_ ++ back))) tokens (tokens_from end 0 back)
parted _ _ nothing blank_ back is place = (place + length blank_, passed_over blank_ is back place)
parted _ _ (blank b rest tokens e d) blank_ back is place =
    let more = parted rest tokens d blank_ back is (place + 1) in
    let P : Tokens → Type 0 = λ ts. Spans ts tokens (tokens_from more.0 0 back) in (
      more.0,
      subst P (sym (blank_read b (rest ++ (blank_ ++ back)) place (stays_blank b rest (blank_ ++ back) e))) more.1,
    )
parted _ _ (token spelling rest tokens l d) blank_ back is place =
    let more = parted rest tokens d blank_ back is (place + length spelling) in
    let long = later spelling rest (blank_ ++ back) (begins_blank blank_ is back) l in
    let here = ap (λ t. tokens_from place 0 t) (append_assoc spelling rest (blank_ ++ back))
    ∙ longest_read spelling (rest ++ (blank_ ++ back)) place long in
    (more.0, (place, tokens_from (place + length spelling) 0 (rest ++ (blank_ ++ back)), here, more.1))

-- 2. Places play no part.

front_alike : (text : List ℕ) (p q : ℕ) (f : Front) (ts us : ℕ → Tokens)
    → ((within : ℕ) → AreAlike (ts within) (us within)) → AreAlike (in_front p text f ts) (in_front q text f us)
front_alike text p q Blank ts us more = more 0
front_alike text p q (Spelling count) ts us more =
    let behind = more (count - 1) in
    record { spellings = ap (λ xs. take count text ∷ xs) behind.spellings; cause = behind.cause }
front_alike text p q Unclosed ts us more = record { spellings = refl; cause = refl }
front_alike text p q Strange ts us more = record { spellings = refl; cause = refl }

pub anywhere : (text : List ℕ) (p q within : ℕ) → AreAlike (tokens_from p within text) (tokens_from q within text)
anywhere [] p q within = record { spellings = refl; cause = refl }
anywhere (b ∷ bytes) p q zero =
    front_alike (b ∷ bytes) p q (front_from b bytes) (λ more. tokens_from (p + 1) more bytes)
    (λ more. tokens_from (q + 1) more bytes) (λ within. anywhere bytes (p + 1) (q + 1) within)
anywhere (b ∷ bytes) p q (suc within) = anywhere bytes (p + 1) (q + 1) within

pub spans_spellings : (tokens : List (List ℕ)) (ts rest : Tokens) → Spans ts tokens rest
    → spellings_of ts ≡ tokens ++ spellings_of rest
spans_spellings [] ts rest s = ap spellings_of s
spans_spellings (t ∷ tokens) ts rest s = ap spellings_of s.2 ∙ ap (λ xs. t ∷ xs) (spans_spellings tokens s.1 rest s.3)

pub spans_cause : (tokens : List (List ℕ)) (ts rest : Tokens) → Spans ts tokens rest → cause_of ts ≡ cause_of rest
spans_cause [] ts rest s = ap cause_of s
spans_cause (t ∷ tokens) ts rest s = ap cause_of s.2 ∙ spans_cause tokens s.1 rest s.3

-- up to the end of a text its tokens have its spellings
pub all_tokens : (ts : Tokens) → cause_of ts ≡ None → AreTokens ts (spellings_of ts)
all_tokens (Finish place) e = tt
all_tokens (Broken fault) e = cc e
all_tokens (Then place spelling rest) e = (refl, all_tokens rest e)

complete : (text : List ℕ) → cause_of (tokens_of text) ≡ None → AreCut text (spellings_of (tokens_of text))
complete text e = tokens_cut text (spellings_of (tokens_of text)) (all_tokens (tokens_of text) e)

pub parted_spellings : (front blank_ back : List ℕ) → IsBlank blank_
    → cause_of (tokens_of front) ≡ None → spellings_of (tokens_of (front ++ (blank_ ++ back)))
    ≡ spellings_of (tokens_of front) ++ spellings_of (tokens_of back)
parted_spellings front blank_ back is e =
    let tokens = spellings_of (tokens_of front) in
    let p = parted front tokens (complete front e) blank_ back is 0 in
    spans_spellings tokens (tokens_of (front ++ (blank_ ++ back))) (tokens_from p.0 0 back) p.1
    ∙ ap (λ xs. tokens ++ xs) (anywhere back p.0 0 0).spellings

pub parted_cause : (front blank_ back : List ℕ) → IsBlank blank_ → cause_of (tokens_of front) ≡ None
    → cause_of (tokens_of (front ++ (blank_ ++ back))) ≡ cause_of (tokens_of back)
parted_cause front blank_ back is e =
    let tokens = spellings_of (tokens_of front) in
    let p = parted front tokens (complete front e) blank_ back is 0 in
    spans_cause tokens (tokens_of (front ++ (blank_ ++ back))) (tokens_from p.0 0 back) p.1
    ∙ (anywhere back p.0 0 0).cause
