-- A blank before a token changes places alone.
use Rattle.std.proofs.Common.{◌≡◌, ◌∙◌, ◌+◌, ◌≤◌, ◌⊎◌, inl, inr, ℕ, zero, suc, List, [], ◌∷◌, ◌++◌, length, take, drop}
use Rattle.std.proofs.Common.{Bool, true, false, refl, ap, sym, subst, arith, append_assoc}
use Rattle.std.specs.Prelude.{◌==◌, ◌||◌, ◌&&◌}
use Rattle.std.proofs.lemmas.Bool.Decides.{nat_tests}
use Rattle.std.proofs.Math.Seq.{take-append_seam, drop-append_seam}
use Rattle.std.proofs.lemmas.List.{length-append, length-drop, length-take-le, take-append-drop}
use Rattle.text_lines.specs.Text.{begins_lf}
use Rattle.formula_tokens.specs.declared.front.Front.{Front}
use Rattle.formula_tokens.specs.declared.front.Front.TheVariants.{Blank, Spelling, Unclosed, Strange}
use Rattle.formula_tokens.specs.Laws.{spellings_of, cause_of, AreAlike, StandsAt, IsBlank}
use Rattle.formula_tokens.specs.TokenRules.{IsLongest, AreCut, nothing, blank, token}
use Rattle.formula_tokens.specs.Tokens.{Tokens, tokens_of, in_front, tokens_from, front_from, is_blank}
use Rattle.formula_tokens.proofs.Spans.{Spans}
use Rattle.formula_tokens.proofs.Passing.{token_cut}
use Rattle.formula_tokens.proofs.Lexed.{token_found, found_longest}
use Rattle.formula_tokens.proofs.Cutting.{blank_read, blank_found}
use Rattle.formula_tokens.proofs.NoBlanks.{earlier}
use Rattle.formula_tokens.proofs.Blanks.{parted, anywhere, spans_spellings, spans_cause}

-- a token begins a text
record BeginsToken (text : List ℕ) : Type 0 where
  pub first : ℕ
  pub others : List ℕ
  pub count : ℕ
  pub whole : text ≡ first ∷ others
  pub found : front_from first others ≡ Spelling count

-- the tokens before the place where one begins
record Reaches (start : ℕ) (text : List ℕ) (place : ℕ) : Type 0 where
  pub front : List ℕ
  pub back : List ℕ
  pub tokens : List (List ℕ)
  pub whole : text ≡ front ++ back
  pub size : start + length front ≡ place
  pub cut : AreCut front tokens
  pub spans : Spans (tokens_from start 0 text) tokens (tokens_from place 0 back)
  pub there : BeginsToken back

no_lf_there : (first : ℕ) (others : List ℕ) (count : ℕ) → front_from first others ≡ Spelling count
    → (first == 10) ≡ false
no_lf_there first others count e = by_test (first == 10) refl
  where
    by_test : (t : Bool) → (first == 10) ≡ t → (first == 10) ≡ false
    by_test false f = f
    by_test true t =
        let ten : first ≡ 10 = grind (arith, nat_tests) in
        let blank_there : front_from first others ≡ Blank = ap (λ b. front_from b others) ten in
        cc (e, blank_there)

-- a blank byte stays one where the text ends at the place that is reached: behind a CR no token begins before its LF
still_blank : (b : ℕ) (bytes front back : List ℕ) → is_blank b bytes ≡ true → bytes ≡ front ++ back → BeginsToken back
    → is_blank b front ≡ true
still_blank b bytes [] back e same there =
    let lf : begins_lf bytes ≡ false =
    ap begins_lf (same ∙ there.whole) ∙ no_lf_there there.first there.others there.count there.found in
    ap (λ y. (b == 32 || b == 9 || b == 10) || (b == 13 && y)) (sym lf) ∙ e
still_blank b bytes (c ∷ front) back e same there = sym (ap (is_blank b) same) ∙ e

blank_reaches : (start b : ℕ) (bytes : List ℕ) (place : ℕ) → is_blank b bytes ≡ true → Reaches (start + 1) bytes place
    → Reaches start (b ∷ bytes) place
blank_reaches start b bytes place e r = record {
  front = b ∷ r.front;
  back = r.back;
  tokens = r.tokens;
  whole = ap (λ xs. b ∷ xs) r.whole;
  size = omega (arith, r.size);
  cut = blank b r.front r.tokens (still_blank b bytes r.front r.back e r.whole r.there) r.cut;
  spans =
      let P : Tokens → Type 0 = λ ts. Spans ts r.tokens (tokens_from place 0 r.back) in
      subst P (sym (blank_read b bytes start e)) r.spans;
  there = r.there;
}

token_reaches : (start b : ℕ) (bytes : List ℕ) (count place : ℕ) → front_from b bytes ≡ Spelling count
    → Reaches (start + count) (drop count (b ∷ bytes)) place → Reaches start (b ∷ bytes) place
token_reaches start b bytes count place e r =
    let t = token_found b bytes count e in
    let spelling = take count (b ∷ bytes) in
    let size : length spelling ≡ count = length-take-le count (b ∷ bytes) (omega (arith, t.within)) in
    let P : List ℕ → Type 0 = λ rest. IsLongest spelling rest in
    record {
      front = spelling ++ r.front;
      back = r.back;
      tokens = spelling ∷ r.tokens;
      whole = sym (take-append-drop count (b ∷ bytes)) ∙ ap (λ xs. spelling ++ xs) r.whole
          ∙ sym (append_assoc spelling r.front r.back);
      size = omega (arith, r.size, size, length-append spelling r.front);
      cut = token spelling r.front r.tokens
          (earlier spelling r.front r.back (subst P r.whole (found_longest b bytes count e))) r.cut;
      spans = (
        start,
        tokens_from (start + count) 0 (drop count (b ∷ bytes)),
        token_cut b bytes start count e t.some t.within,
        r.spans,
      );
      there = r.there;
    }

reaches_here : (start b : ℕ) (bytes : List ℕ) (count place : ℕ) → front_from b bytes ≡ Spelling count → start ≡ place
    → Reaches start (b ∷ bytes) place
reaches_here start b bytes count place e same = record {
  front = [];
  back = b ∷ bytes;
  tokens = [];
  whole = refl;
  size = omega (arith, same);
  cut = nothing;
  spans = ap (λ p. tokens_from p 0 (b ∷ bytes)) same;
  there = record { first = b; others = bytes; count = count; whole = refl; found = e };
}

reaches_on : (start b : ℕ) (bytes : List ℕ) (place most : ℕ) → length (b ∷ bytes) ≤ suc most
    → ((text : List ℕ) (later : ℕ) → length text ≤ most → StandsAt (tokens_from later 0 text) place
    → Reaches later text place) → (f : Front) → front_from b bytes ≡ f
    → StandsAt (tokens_from start 0 (b ∷ bytes)) place → Reaches start (b ∷ bytes) place
reaches_on start b bytes place most h behind Blank e at =
    let blank_there = blank_found b bytes e in
    let P : Tokens → Type 0 = λ ts. StandsAt ts place in
    blank_reaches start b bytes place blank_there
    (behind bytes (start + 1) (omega (arith, h)) (subst P (blank_read b bytes start blank_there) at))
reaches_on start b bytes place most h behind (Spelling count) e at =
    let t = token_found b bytes count e in
    let P : Tokens → Type 0 = λ ts. StandsAt ts place in
    let there : (start ≡ place) ⊎ StandsAt (tokens_from (start + count) 0 (drop count (b ∷ bytes))) place =
    subst P (token_cut b bytes start count e t.some t.within) at in
    elim there [
      | inl same ↦ reaches_here start b bytes count place e same
      | inr more ↦ token_reaches start b bytes count place e (behind (drop count (b ∷ bytes)) (start + count)
          (omega (arith, h, t.some, length-drop count (b ∷ bytes))) more)
    ]
reaches_on start b bytes place most h behind Unclosed e at =
    let P : Tokens → Type 0 = λ ts. StandsAt ts place in
    absurd (subst P (ap (λ f. in_front start (b ∷ bytes) f (λ more. tokens_from (start + 1) more bytes)) e) at)
reaches_on start b bytes place most h behind Strange e at =
    let P : Tokens → Type 0 = λ ts. StandsAt ts place in
    absurd (subst P (ap (λ f. in_front start (b ∷ bytes) f (λ more. tokens_from (start + 1) more bytes)) e) at)

reaches : (most : ℕ) (text : List ℕ) (start place : ℕ) → length text ≤ most → StandsAt (tokens_from start 0 text) place
    → Reaches start text place
reaches most [] start place h at = absurd at
reaches zero (b ∷ bytes) start place h at = absurd (omega (arith, h))
reaches (suc most) (b ∷ bytes) start place h at = reaches_on start b bytes place most h
    (λ text later small there. reaches most text later place small there) (front_from b bytes) refl at

-- where the place is behind front, that is the front that is reached
same_fronts : (front back others rest : List ℕ) → front ++ back ≡ others ++ rest → length front ≡ length others
    → (front ≡ others) × (back ≡ rest)
same_fronts front back others rest e size = (
  sym (take-append_seam front back) ∙ ap (λ n. take n (front ++ back)) size ∙ ap (λ xs. take (length others) xs) e
      ∙ take-append_seam others rest,
  sym (drop-append_seam front back) ∙ ap (λ n. drop n (front ++ back)) size ∙ ap (λ xs. drop (length others) xs) e
      ∙ drop-append_seam others rest,
)

pub before_token : (front blank_ back : List ℕ) → IsBlank blank_ → StandsAt (tokens_of (front ++ back)) (length front)
    → AreAlike (tokens_of (front ++ (blank_ ++ back))) (tokens_of (front ++ back))
before_token front blank_ back is at =
    let r = reaches (length (front ++ back)) (front ++ back) 0 (length front) (omega arith) at in
    let same = same_fronts front back r.front r.back r.whole (omega (arith, r.size)) in
    let p = parted r.front r.tokens r.cut blank_ r.back is 0 in
    let with_blank = tokens_of (r.front ++ (blank_ ++ r.back)) in
    let alike = anywhere r.back p.0 (length front) 0 in
    let texts : front ++ (blank_ ++ back) ≡ r.front ++ (blank_ ++ r.back) =
    ap (λ xs. xs ++ (blank_ ++ back)) same.0 ∙ ap (λ xs. r.front ++ (blank_ ++ xs)) same.1 in
    record {
      spellings = ap (λ t. spellings_of (tokens_of t)) texts
          ∙ spans_spellings r.tokens with_blank (tokens_from p.0 0 r.back) p.1
          ∙ ap (λ xs. r.tokens ++ xs) alike.spellings
          ∙ sym (spans_spellings r.tokens (tokens_of (front ++ back)) (tokens_from (length front) 0 r.back) r.spans);
      cause = ap (λ t. cause_of (tokens_of t)) texts
          ∙ spans_cause r.tokens with_blank (tokens_from p.0 0 r.back) p.1 ∙ alike.cause
          ∙ sym (spans_cause r.tokens (tokens_of (front ++ back)) (tokens_from (length front) 0 r.back) r.spans);
    }
