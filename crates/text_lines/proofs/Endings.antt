-- Bytes that are cut at the first LF, and the ending of a line.
use Rattle.std.proofs.Common.{◌≡◌, ◌≢◌, ◌<◌, ◌-◌, ℕ, zero, suc, true, false, List, [], ◌∷◌, ◌++◌, length, take, drop}
use Rattle.std.proofs.Common.{Some, None, sym, ap, ◌∙◌, refl, subst, arith, eqb, slice_index, ◌==◌, append_assoc, Bool}
use Rattle.std.proofs.lemmas.Bool.Decides.{nat_tests}
use Rattle.memchr.specs.Find.{IsFirstByte, is_byte}
use Rattle.text_lines.specs.Text.{lines_of}
use Rattle.text_lines.specs.Laws.{HasNo, EndsInNoCr}
use Rattle.text_lines.proofs.LineLaws.{lines_of-lf, lines_of-crlf}

itself : (a : ℕ) → eqb a 10 ≡ true → a ≡ 10
itself a h = grind (arith, nat_tests)

passes : (a : ℕ) → a ≡ 10 → eqb a 10 ≡ true
passes a h = grind (arith, nat_tests)

-- bytes are the front of this length, an LF and the rest
pub record IsCutAt (place : ℕ) (bytes : List ℕ) : Type 0 where
  pub no_lf : HasNo 10 (take place bytes)
  pub parts : bytes ≡ take place bytes ++ 10 ∷ drop (suc place) bytes

cut : (bytes : List ℕ) (place : ℕ) → place < length bytes → slice_index bytes place ≡ 10
    → ((k : ℕ) → k < place → slice_index bytes k ≢ 10) → IsCutAt place bytes
cut [] place within here before = absurd (omega arith)
cut (b ∷ bytes) zero within here before = record { no_lf = tt; parts = ap (λ x. x ∷ bytes) here }
cut (b ∷ bytes) (suc place) within here before =
    let behind = cut bytes place (omega (arith, within)) here (λ k lt. before (suc k) (omega (arith, lt))) in
    record { no_lf = (before 0 (omega arith), behind.no_lf); parts = ap (λ t. b ∷ t) behind.parts }

has_none : (bytes : List ℕ) → ((k : ℕ) → k < length bytes → slice_index bytes k ≢ 10) → HasNo 10 bytes
has_none [] none = tt
has_none (b ∷ bytes) none = (none 0 (omega arith), has_none bytes (λ k lt. none (suc k) (omega (arith, lt))))

pub cut_at_lf : (bytes : List ℕ) (place : ℕ) → IsFirstByte (is_byte 10) bytes (Some place) → IsCutAt place bytes
cut_at_lf bytes place first =
    cut bytes place first.0.high (itself _ first.1) (λ k lt is. first.0.before k (omega arith) lt (passes _ is))

pub without_lf : (bytes : List ℕ) → IsFirstByte (is_byte 10) bytes None → HasNo 10 bytes
without_lf bytes nowhere = has_none bytes (λ k lt is. nowhere k (omega arith) lt (passes _ is))

-- the last byte is a CR
abbrev ends_cr : List ℕ → Bool
ends_cr line = slice_index line (length line - 1) == 13

last_off : (b : ℕ) (line : List ℕ)
    → b ∷ line ≡ take (length line) (b ∷ line) ++ slice_index (b ∷ line) (length line) ∷ []
last_off b [] = refl
last_off b (c ∷ line) = ap (λ t. b ∷ t) (last_off c line)

same_length : (n : ℕ) → suc n - 1 ≡ n
same_length n = omega arith

cr_off : (line : List ℕ) → ends_cr line ≡ true → line ≡ take (length line - 1) line ++ 13 ∷ []
cr_off [] is = absurd (zero_is is)
  where
    zero_is : eqb 0 13 ≡ true → ⊥
    zero_is h = grind (arith, nat_tests)
cr_off (b ∷ line) is =
    last_off b line
    ∙ ap (λ k. take k (b ∷ line) ++ slice_index (b ∷ line) k ∷ []) (sym (same_length (length line)))
    ∙ ap (λ x. take (length (b ∷ line) - 1) (b ∷ line) ++ x ∷ [])
    (thirteen (slice_index (b ∷ line) (length (b ∷ line) - 1)) is)
  where
    thirteen : (x : ℕ) → eqb x 13 ≡ true → x ≡ 13
    thirteen x h = grind (arith, nat_tests)

no_cr : (line : List ℕ) → ends_cr line ≡ false → EndsInNoCr line
no_cr [] not = tt
no_cr (b ∷ []) not = other b not
  where
    other : (x : ℕ) → eqb x 13 ≡ false → x ≢ 13
    other x h = grind (arith, nat_tests)
no_cr (b ∷ c ∷ line) not =
    no_cr (c ∷ line) (ap (λ k. eqb (slice_index (b ∷ c ∷ line) k) 13) (shorter (length line)) ∙ not)
  where
    shorter : (n : ℕ) → suc (suc n - 1) ≡ suc (suc n) - 1
    shorter n = omega arith

HasNo-front : (x : ℕ) (front back : List ℕ) → HasNo x (front ++ back) → HasNo x front
HasNo-front x [] back has = tt
HasNo-front x (y ∷ front) back has = (has.0, HasNo-front x front back has.1)

pub ends_at_lf : (line : List ℕ) → HasNo 10 line → ends_cr line ≡ false → (behind : List ℕ)
    → lines_of (line ++ 10 ∷ behind) ≡ line ∷ lines_of behind
ends_at_lf line none not behind = lines_of-lf line behind none (no_cr line not)

pub ends_at_crlf : (line line' : List ℕ) → HasNo 10 line → ends_cr line ≡ true → line' ≡ take (length line - 1) line
    → (behind : List ℕ) → lines_of (line ++ 10 ∷ behind) ≡ line' ∷ lines_of behind
ends_at_crlf line line' none is front behind =
    let whole : line ≡ line' ++ 13 ∷ [] = cr_off line is ∙ ap (λ t. t ++ 13 ∷ []) (sym front) in
    ap (λ t. lines_of (t ++ 10 ∷ behind)) whole
    ∙ ap lines_of (append_assoc line' (13 ∷ []) (10 ∷ behind))
    ∙ lines_of-crlf line' behind (HasNo-front 10 line' (13 ∷ []) (subst (λ t. HasNo 10 t) whole none))
