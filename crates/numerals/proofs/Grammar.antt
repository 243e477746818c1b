-- What a text is taken apart into by cases is how it is spelled.
use Rattle.std.proofs.Common.{◌≡◌, ◌≢◌, ◌∙◌, ◌<◌, ◌+◌, ◌⊎◌, inl, inr, ℕ, List, [], ◌∷◌, ◌++◌, refl, ap, sym, subst}
use Rattle.std.proofs.Common.{Bool, true, false, cond, Option, Some, None, length, take, drop, add-one, ◌&&◌, arith}
use Rattle.std.proofs.Math.Seq.{take-append_seam, drop-append_seam}
use Rattle.std.proofs.lemmas.List.{take-append-drop}
use Rattle.std.specs.Prelude.{option_map, IfSome, ◌==◌, ◌||◌}
use Rattle.std.proofs.lemmas.Bool.{cases_Bool, eqb-true, and_parts, or_cases}
use Rattle.std.proofs.lemmas.Bool.Decides.{nat_tests}
use Rattle.text_lines.specs.Text.{is_digit, all_digits, is_nil}
use Rattle.numerals.specs.declared.spelling.Written.{Written}
use Rattle.numerals.specs.declared.spelling.Written.TheVariants.{Point, Line}
use Rattle.numerals.specs.Spelling.{Exponent, no_exponent, Spelling, Decimal, Quotient, AreDigits, SpellsBack}
use Rattle.numerals.specs.Spelling.{SpellsSign, SpellsExponent, SpellsDecimal, SpellsQuotient, Spells, digits_len}
use Rattle.numerals.specs.Spelling.{leading_digits, behind_digits, exponent_digits, exponent_of, decimal_of}
use Rattle.numerals.specs.Spelling.{quotient_of, behind_front, spelling_of}
use Rattle.numerals.specs.Written.{exponent_in, spelling_in, IsOfDigits}

-- which way a test went
pub chosen : {X : Type 0} (b : Bool) (x y z : X) → cond b x y ≡ z → ((b ≡ true) × (x ≡ z)) ⊎ ((b ≡ false) × (y ≡ z))
chosen true x y z e = inl (refl, e)
chosen false x y z e = inr (refl, e)

-- 1. Digits at the front.

pub leading_all : (text : List ℕ) → all_digits (leading_digits text) ≡ true
leading_all [] = refl
leading_all (b ∷ bytes) = elim (cases_Bool (is_digit b)) [
  | inl e ↦
      ap (λ n. all_digits (take n (b ∷ bytes)))
      (ap (λ v. cond v (digits_len bytes + 1) 0) e ∙ add-one (digits_len bytes))
      ∙ ap (λ v. v && all_digits (leading_digits bytes)) e ∙ leading_all bytes
  | inr e ↦ ap (λ n. all_digits (take n (b ∷ bytes))) (ap (λ v. cond v (digits_len bytes + 1) 0) e)
]

pub digits_split : (text : List ℕ) → text ≡ leading_digits text ++ behind_digits text
digits_split text = sym (take-append-drop (digits_len text) text)

-- a digit stands at the front
abbrev begins_digit : List ℕ → Bool
begins_digit [] = false
begins_digit (b ∷ bytes) = is_digit b

pub digits_len-front : (front rest : List ℕ) → all_digits front ≡ true → begins_digit rest ≡ false
    → digits_len (front ++ rest) ≡ length front
digits_len-front [] [] h e = refl
digits_len-front [] (b ∷ rest) h e = ap (λ v. cond v (digits_len rest + 1) 0) e
digits_len-front (b ∷ front) rest h e =
    let is = and_parts (is_digit b) (all_digits front) h in
    ap (λ v. cond v (digits_len (front ++ rest) + 1) 0) is.0 ∙ ap (λ n. n + 1) (digits_len-front front rest is.1 e)
    ∙ add-one (length front)

pub leading-front : (front rest : List ℕ) → all_digits front ≡ true → begins_digit rest ≡ false
    → leading_digits (front ++ rest) ≡ front
leading-front front rest h e =
    ap (λ n. take n (front ++ rest)) (digits_len-front front rest h e) ∙ take-append_seam front rest

pub behind-front : (front rest : List ℕ) → all_digits front ≡ true → begins_digit rest ≡ false
    → behind_digits (front ++ rest) ≡ rest
behind-front front rest h e =
    ap (λ n. drop n (front ++ rest)) (digits_len-front front rest h e) ∙ drop-append_seam front rest

-- 2. From the cases to the grammar.

some-same : {X : Type 0} (x y : X) → Some x ≡ Some y → x ≡ y
some-same x y e = cc

pub exponent_digits-found : (below : Bool) (text : List ℕ) (e : Exponent) → exponent_digits below text ≡ Some e
    → (e ≡ record { below = below; digits = text }) × AreDigits text
exponent_digits-found below [] e is = cc
exponent_digits-found below (b ∷ bytes) e is =
    elim (chosen (all_digits (b ∷ bytes)) (Some (record { below = below; digits = b ∷ bytes })) None (Some e) is) [
      | inl t ↦ (sym (some-same (record { below = below; digits = b ∷ bytes }) e t.1), ((λ n. cc n), t.0))
      | inr t ↦ cc t.1
    ]

-- a sign and digits
pub record SpellsSigned (text : List ℕ) (exponent : Exponent) : Type 0 where
  pub sign : List ℕ
  pub parts : text ≡ sign ++ exponent.digits
  pub signed : SpellsSign sign exponent.below
  pub digits : AreDigits exponent.digits

signed-found : (sign text whole : List ℕ) (below : Bool) (e : Exponent) → whole ≡ sign ++ text → SpellsSign sign below
    → exponent_digits below text ≡ Some e → SpellsSigned whole e
signed-found sign text whole below e split signed is =
    let found = exponent_digits-found below text e is in
    let P : Exponent → Type 0 = λ x. SpellsSigned whole x in
    subst P (sym found.0) (record { sign = sign; parts = split; signed = signed; digits = found.1 })

pub exponent_of-found : (text : List ℕ) (e : Exponent) → exponent_of text ≡ Some e → SpellsSigned text e
exponent_of-found [] e is = cc
exponent_of-found (b ∷ bytes) e is =
    elim (chosen (b == 45) (exponent_digits true bytes)
    (cond (b == 43) (exponent_digits false bytes) (exponent_digits false (b ∷ bytes))) (Some e) is) [
      | inl t ↦ signed-found (45 ∷ []) bytes (b ∷ bytes) true e (ap (λ x. x ∷ bytes) (eqb-true b 45 t.0))
          (inr (inr (refl, refl))) t.1
      | inr t ↦ elim (chosen (b == 43) (exponent_digits false bytes) (exponent_digits false (b ∷ bytes)) (Some e) t.1) [
        | inl u ↦ signed-found (43 ∷ []) bytes (b ∷ bytes) false e (ap (λ x. x ∷ bytes) (eqb-true b 43 u.0))
            (inr (inl (refl, refl))) u.1
        | inr u ↦ signed-found [] (b ∷ bytes) (b ∷ bytes) false e refl (inl (refl, refl)) u.1
      ]
    ]

-- a decimal with these digits, and with this text behind them
pub record DecimalBehind (front back text : List ℕ) (spelling : Spelling) : Type 0 where
  pub exponent : Exponent
  pub is : spelling ≡ Decimal front back exponent
  pub power : SpellsExponent text exponent

mapped : {X Y : Type 0} (f : X → Y) (o : Option X) (y : Y) → option_map f o ≡ Some y
    → (x : X) × (o ≡ Some x) × (y ≡ f x)
mapped f None y e = cc
mapped f (Some x) y e = (x, refl, some-same y (f x) (sym e))

pub decimal_of-found : (front back text : List ℕ) (s : Spelling) → decimal_of front back text ≡ Some s
    → DecimalBehind front back text s
decimal_of-found front back [] s is = record {
  exponent = no_exponent;
  is = some-same s (Decimal front back no_exponent) (sym is);
  power = inl (refl, refl);
}
decimal_of-found front back (b ∷ bytes) s is =
    elim (chosen (b == 101 || b == 69) (option_map (Decimal front back) (exponent_of bytes)) None (Some s) is) [
      | inl t ↦
          let found = mapped (Decimal front back) (exponent_of bytes) s t.1 in
          let signed = exponent_of-found bytes found.0 found.1 in
          record {
            exponent = found.0;
            is = found.2;
            power = inr (record {
              letter = b;
              sign = signed.sign;
              parts = ap (λ x. b ∷ x) signed.parts;
              marked = elim (or_cases (b == 101) (b == 69) t.0) [
                | inl e ↦ inl (eqb-true b 101 e)
                | inr e ↦ inr (eqb-true b 69 e)
              ];
              signed = signed.signed;
              digits = signed.digits;
            });
          }
      | inr t ↦ cc t.1
    ]

decimal-found : (front back middle text whole : List ℕ) (s : Spelling) → whole ≡ front ++ (middle ++ text)
    → AreDigits front → SpellsBack middle back → decimal_of front back text ≡ Some s → Spells whole s
decimal-found front back middle text whole s split digits point is =
    let found = decimal_of-found front back text s is in
    let P : Spelling → Type 0 = λ x. Spells whole x in
    subst P (sym found.is)
    (record { middle = middle; end = text; parts = split; digits = digits; point = point; power = found.power })

quotient-found : (above text whole : List ℕ) (s : Spelling) → whole ≡ above ++ 47 ∷ text → AreDigits above
    → quotient_of above text ≡ Some s → Spells whole s
quotient-found above [] whole s split digits is = cc
quotient-found above (b ∷ bytes) whole s split digits is =
    elim (chosen (all_digits (b ∷ bytes)) (Some (Quotient above (b ∷ bytes))) None (Some s) is) [
      | inl t ↦
          let P : Spelling → Type 0 = λ x. Spells whole x in
          subst P (some-same (Quotient above (b ∷ bytes)) s t.1)
          (record { parts = split; numerator = digits; denominator = ((λ n. cc n), t.0) })
      | inr t ↦ cc t.1
    ]

behind-found : (front rest whole : List ℕ) (s : Spelling) → whole ≡ front ++ rest → AreDigits front
    → behind_front front rest ≡ Some s → Spells whole s
behind-found front [] whole s split digits is = decimal-found front [] [] [] whole s split digits (inl (refl, refl)) is
behind-found front (b ∷ bytes) whole s split digits is =
    elim (chosen (b == 46) (decimal_of front (leading_digits bytes) (behind_digits bytes))
    (cond (b == 47) (quotient_of front bytes) (decimal_of front [] (b ∷ bytes))) (Some s) is) [
      | inl t ↦
          decimal-found front (leading_digits bytes) (46 ∷ leading_digits bytes) (behind_digits bytes) whole s
          (split
          ∙ ap (λ r. front ++ r) (ap (λ x. x ∷ bytes) (eqb-true b 46 t.0) ∙ ap (λ r. 46 ∷ r) (digits_split bytes)))
          digits (inr (refl, leading_all bytes)) t.1
      | inr t ↦ elim (chosen (b == 47) (quotient_of front bytes) (decimal_of front [] (b ∷ bytes)) (Some s) t.1) [
        | inl u ↦ quotient-found front bytes whole s
            (split ∙ ap (λ x. front ++ x ∷ bytes) (eqb-true b 47 u.0)) digits u.1
        | inr u ↦ decimal-found front [] [] (b ∷ bytes) whole s split digits (inl (refl, refl)) u.1
      ]
    ]

not-nil : (xs : List ℕ) → is_nil xs ≡ false → xs ≢ []
not-nil [] e = cc
not-nil (x ∷ xs) e = λ n. cc n

pub spelling_of-found : (text : List ℕ) (s : Spelling) → spelling_of text ≡ Some s → Spells text s
spelling_of-found text s is =
    elim (chosen (is_nil (leading_digits text)) None
    (behind_front (leading_digits text) (behind_digits text)) (Some s) is) [
      | inl t ↦ cc t.1
      | inr t ↦ behind-found (leading_digits text) (behind_digits text) text s (digits_split text)
          (not-nil (leading_digits text) t.0, leading_all text) t.1
    ]

-- 3. From the grammar to the cases.

is-nil : (xs : List ℕ) → xs ≢ [] → is_nil xs ≡ false
is-nil [] e = absurd (e refl)
is-nil (x ∷ xs) e = refl

pub exponent_digits-again : (e : Exponent) → AreDigits e.digits → exponent_digits e.below e.digits ≡ Some e
exponent_digits-again e h = go e.digits h.0 h.1
  where
    go : (text : List ℕ) → text ≢ [] → all_digits text ≡ true
        → exponent_digits e.below text ≡ Some (record { below = e.below; digits = text })
    go [] n a = absurd (n refl)
    go (b ∷ bytes) n a = ap (λ v. cond v (Some (record { below = e.below; digits = b ∷ bytes })) None) a

-- a digit is no sign, no point, no line and no letter
digit-other : (b k : ℕ) → is_digit b ≡ true → (k < 48) ⊎ (57 < k) → (b == k) ≡ false
digit-other b k e h = elim h [ inl l ↦ grind (arith, nat_tests) | inr l ↦ grind (arith, nat_tests) ]

exponent-plain : (text : List ℕ) → AreDigits text → exponent_of text ≡ exponent_digits false text
exponent-plain [] h = absurd (h.0 refl)
exponent-plain (b ∷ bytes) h =
    let digit = (and_parts (is_digit b) (all_digits bytes) h.1).0 in
    ap (λ v. cond v (exponent_digits true bytes)
    (cond (b == 43) (exponent_digits false bytes) (exponent_digits false (b ∷ bytes))))
    (digit-other b 45 digit (inl (omega arith)))
    ∙ ap (λ v. cond v (exponent_digits false bytes) (exponent_digits false (b ∷ bytes)))
    (digit-other b 43 digit (inl (omega arith)))

exponent-again : (sign text : List ℕ) (e : Exponent) → text ≡ sign ++ e.digits → SpellsSign sign e.below
    → AreDigits e.digits → exponent_of text ≡ Some e
exponent-again sign text e split signed digits =
    ap exponent_of split ∙ elim signed [
      | inl t ↦ ap (λ s. exponent_of (s ++ e.digits)) t.0 ∙ exponent-plain e.digits digits
          ∙ ap (λ v. exponent_digits v e.digits) (sym t.1) ∙ exponent_digits-again e digits
      | inr u ↦ elim u [
        | inl t ↦ ap (λ s. exponent_of (s ++ e.digits)) t.0 ∙ ap (λ v. exponent_digits v e.digits) (sym t.1)
            ∙ exponent_digits-again e digits
        | inr t ↦ ap (λ s. exponent_of (s ++ e.digits)) t.0 ∙ ap (λ v. exponent_digits v e.digits) (sym t.1)
            ∙ exponent_digits-again e digits
      ]
    ]

letter : (b : ℕ) → (b ≡ 101) ⊎ (b ≡ 69) → (b == 101 || b == 69) ≡ true
letter b h = elim h [ inl e ↦ rw e refl | inr e ↦ rw e refl ]

-- an exponent begins with no digit, no point and no line
pub record BeginsPlain (text : List ℕ) : Type 0 where
  pub digit : begins_digit text ≡ false
  pub front : (front : List ℕ) → behind_front front text ≡ decimal_of front [] text

plain-letter : (b : ℕ) (bytes : List ℕ) → (b ≡ 101) ⊎ (b ≡ 69) → BeginsPlain (b ∷ bytes)
plain-letter b bytes h = elim h [
  | inl e ↦ rw e (record { digit = refl; front = λ f. refl })
  | inr e ↦ rw e (record { digit = refl; front = λ f. refl })
]

exponent-plainly : (text : List ℕ) (e : Exponent) → SpellsExponent text e → BeginsPlain text
exponent-plainly text e h = elim h [
  | inl t ↦
      let P : List ℕ → Type 0 = λ x. BeginsPlain x in
      subst P (sym t.0) (record { digit = refl; front = λ f. refl })
  | inr power ↦
      let P : List ℕ → Type 0 = λ x. BeginsPlain x in
      subst P (sym power.parts) (plain-letter power.letter (power.sign ++ e.digits) power.marked)
]

pub decimal_of-again : (front back text : List ℕ) (e : Exponent) → SpellsExponent text e
    → decimal_of front back text ≡ Some (Decimal front back e)
decimal_of-again front back text e h = elim h [
  | inl t ↦ ap (decimal_of front back) t.0 ∙ ap (λ x. Some (Decimal front back x)) (sym t.1)
  | inr power ↦
      ap (decimal_of front back) power.parts
      ∙ ap (λ v. cond v (option_map (Decimal front back) (exponent_of (power.sign ++ e.digits))) None)
      (letter power.letter power.marked)
      ∙ ap (option_map (Decimal front back))
      (exponent-again power.sign (power.sign ++ e.digits) e refl power.signed power.digits)
]

front-again : (front rest : List ℕ) → AreDigits front → begins_digit rest ≡ false
    → spelling_of (front ++ rest) ≡ behind_front front rest
front-again front rest h e =
    let leading = leading-front front rest h.1 e in
    let behind = behind-front front rest h.1 e in
    ap (λ d. cond (is_nil d) None (behind_front d (behind_digits (front ++ rest)))) leading
    ∙ ap (λ r. cond (is_nil front) None (behind_front front r)) behind
    ∙ ap (λ v. cond v None (behind_front front rest)) (is-nil front h.0)

decimal-again : (text front back : List ℕ) (e : Exponent) → SpellsDecimal text front back e
    → spelling_of text ≡ Some (Decimal front back e)
decimal-again text front back e h =
    let plain = exponent-plainly h.end e h.power in
    ap spelling_of h.parts ∙ elim h.point [
      | inl t ↦
          ap (λ m. spelling_of (front ++ (m ++ h.end))) t.0
          ∙ front-again front h.end h.digits plain.digit
          ∙ plain.front front
          ∙ ap (λ b. decimal_of front b h.end) (sym t.1)
          ∙ decimal_of-again front back h.end e h.power
      | inr t ↦
          ap (λ m. spelling_of (front ++ (m ++ h.end))) t.0
          ∙ front-again front (46 ∷ (back ++ h.end)) h.digits refl
          ∙ ap (λ b. decimal_of front b (behind_digits (back ++ h.end))) (leading-front back h.end t.1 plain.digit)
          ∙ ap (λ r. decimal_of front back r) (behind-front back h.end t.1 plain.digit)
          ∙ decimal_of-again front back h.end e h.power
    ]

quotient_of-again : (above below : List ℕ) → AreDigits below → quotient_of above below ≡ Some (Quotient above below)
quotient_of-again above [] h = absurd (h.0 refl)
quotient_of-again above (b ∷ below) h = ap (λ v. cond v (Some (Quotient above (b ∷ below))) None) h.1

pub spelling_of-again : (text : List ℕ) (s : Spelling) → Spells text s → spelling_of text ≡ Some s
spelling_of-again text (Decimal front back e) h = decimal-again text front back e h
spelling_of-again text (Quotient above below) h =
    ap spelling_of h.parts ∙ front-again above (47 ∷ below) h.numerator refl
    ∙ quotient_of-again above below h.denominator

-- 4. The parts of what is taken apart are digits.

pub spelled-digits : (text : List ℕ) (o : Option Written) → option_map spelling_in o ≡ spelling_of text
    → IfSome o IsOfDigits
spelled-digits text None is = tt
spelled-digits text (Some (Point front back power)) is =
    let spelled : SpellsDecimal text front.now back.now (exponent_in power) =
    spelling_of-found text (Decimal front.now back.now (exponent_in power)) (sym is) in
    let back_digits : all_digits back.now ≡ true =
    elim spelled.point [ inl t ↦ ap all_digits t.1 | inr t ↦ t.1 ] in
    let power_digits : all_digits power.digits.now ≡ true = elim spelled.power [
      | inl t ↦ ap (λ (x : Exponent). all_digits x.digits) t.1
      | inr t ↦ t.digits.1
    ] in
    (spelled.digits.1, (back_digits, power_digits))
spelled-digits text (Some (Line above below)) is =
    let spelled : SpellsQuotient text above.now below.now =
    spelling_of-found text (Quotient above.now below.now) (sym is) in
    (spelled.numerator.1, spelled.denominator.1)
