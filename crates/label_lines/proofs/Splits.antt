-- Bytes that are split at the first of a byte, and what stands between quotes.
use Rattle.std.proofs.Common.{◌≡◌, ◌≢◌, ◌<◌, ◌+◌, ◌-◌, ℕ, suc, Bool, true, false, cond, List, [], ◌∷◌, ◌++◌, length}
use Rattle.std.proofs.Common.{get_or, take, drop, Some, None, sym, ap, ◌∙◌, refl, subst, arith, eqb, ltb, leb, ◌&&◌}
use Rattle.std.proofs.Common.{◌⊎◌, inl, inr, add-one}
use Rattle.std.proofs.lemmas.Bool.{eqb-true, eqb-false, cases_Bool}
use Rattle.std.specs.Option.{option_map}
use Rattle.std.specs.List.{position_or_len}
use Rattle.std.proofs.lemmas.Bool.Decides.{nat_tests}
use Rattle.std.proofs.lemmas.List.{length-append}
use Rattle.text_lines.specs.Laws.{HasNo}
use Rattle.label_lines.specs.Header.{quoted}
use Rattle.text_lines.specs.Parts.{split_first, parted_at}

different : (a b : ℕ) → (a ≢ b) → eqb a b ≡ false
different a b h = grind (arith, nat_tests)

-- where the first of a byte stands, or the length
abbrev place : ℕ → List ℕ → ℕ
place x bytes = position_or_len (λ b. eqb b x) bytes

place_here : (x b : ℕ) (bytes : List ℕ) → eqb b x ≡ true → place x (b ∷ bytes) ≡ 0
place_here x b bytes h = grind (arith, h)

pub place_behind : (x b : ℕ) (bytes : List ℕ) → eqb b x ≡ false → place x (b ∷ bytes) ≡ suc (place x bytes)
place_behind x b bytes h = grind (arith, h)

pub record IsSplit (x : ℕ) (bytes front back : List ℕ) : Type 0 where
  pub form : bytes ≡ front ++ x ∷ back
  pub first : HasNo x front

-- up to the first of a byte there is none
split_at_place : (x : ℕ) (bytes : List ℕ) → place x bytes < length bytes
    → IsSplit x bytes (take (place x bytes) bytes) (drop (suc (place x bytes)) bytes)
split_at_place x [] h = absurd (omega arith)
split_at_place x (b ∷ bytes) h = by (cases_Bool (eqb b x)) (λ lt. split_at_place x bytes lt)
  where
    by : (eqb b x ≡ true) ⊎ (eqb b x ≡ false) → (place x bytes < length bytes
        → IsSplit x bytes (take (place x bytes) bytes) (drop (suc (place x bytes)) bytes))
        → IsSplit x (b ∷ bytes) (take (place x (b ∷ bytes)) (b ∷ bytes)) (drop (suc (place x (b ∷ bytes))) (b ∷ bytes))
    by (inl e) rest =
        let P : ℕ → Type 0 = λ k. IsSplit x (b ∷ bytes) (take k (b ∷ bytes)) (drop (suc k) (b ∷ bytes)) in
        subst P (sym (place_here x b bytes e)) (record { form = ap (λ y. y ∷ bytes) (eqb-true b x e); first = tt })
    by (inr e) rest =
        let P : ℕ → Type 0 = λ k. IsSplit x (b ∷ bytes) (take k (b ∷ bytes)) (drop (suc k) (b ∷ bytes)) in
        let behind = rest (omega (arith, place_behind x b bytes e, h)) in
        subst P (sym (place_behind x b bytes e))
        (record { form = ap (λ t. b ∷ t) behind.form; first = (eqb-false b x e, behind.first) })

split_by : (x : ℕ) (bytes front back : List ℕ) (v : Bool) → v ≡ ltb (place x bytes) (length bytes)
    → option_map (parted_at bytes) (cond v (Some (place x bytes)) None) ≡ Some (front, back)
    → IsSplit x bytes front back
split_by x bytes front back false e g = cc
split_by x bytes front back true e g =
    let within : place x bytes < length bytes = below (place x bytes) (length bytes) (sym e) in
    let at = split_at_place x bytes within in
    let pair : parted_at bytes (place x bytes) ≡ (front, back) = some_is _ _ g in
    let front_is : take (place x bytes) bytes ≡ front = ap (λ (p : List ℕ × List ℕ). p.0) pair in
    let back_is : drop (suc (place x bytes)) bytes ≡ back =
    ap (λ k. drop k bytes) (sym (add-one (place x bytes))) ∙ ap (λ (p : List ℕ × List ℕ). p.1) pair in
    let P : List ℕ → Type 0 = λ f. IsSplit x bytes f back in
    let Q : List ℕ → Type 0 = λ b. IsSplit x bytes (take (place x bytes) bytes) b in
    subst P front_is (subst Q back_is at)
  where
    below : (a b : ℕ) → ltb a b ≡ true → a < b
    below a b h = grind (arith, nat_tests)

    some_is : (p q : List ℕ × List ℕ) → Some p ≡ Some q → p ≡ q
    some_is p q h = cc

pub split_first-found : (x : ℕ) (bytes front back : List ℕ) → split_first x bytes ≡ Some (front, back)
    → IsSplit x bytes front back
split_first-found x bytes front back h = split_by x bytes front back (ltb (place x bytes) (length bytes)) refl h

place_at : (x : ℕ) (front back : List ℕ) → HasNo x front → place x (front ++ x ∷ back) ≡ length front
place_at x [] back h = place_here x x back (itself x)
  where
    itself : (a : ℕ) → eqb a a ≡ true
    itself a = grind (arith, nat_tests)
place_at x (b ∷ front) back h =
    place_behind x b (front ++ x ∷ back) (different b x h.0) ∙ ap (λ k. suc k) (place_at x front back h.1)

take_front : (front back : List ℕ) → take (length front) (front ++ back) ≡ front
take_front [] back = refl
take_front (b ∷ front) back = ap (λ t. b ∷ t) (take_front front back)

drop_front : (front back : List ℕ) (x : ℕ) → drop (length front + 1) (front ++ x ∷ back) ≡ back
drop_front front back x = ap (λ k. drop k (front ++ x ∷ back)) (add-one (length front)) ∙ by front
  where
    by : (f : List ℕ) → drop (suc (length f)) (f ++ x ∷ back) ≡ back
    by [] = refl
    by (b ∷ f) = by f

-- bytes are split at the first of a byte, and nowhere else
pub split_first-again : (x : ℕ) (front back : List ℕ) → HasNo x front
    → split_first x (front ++ x ∷ back) ≡ Some (front, back)
split_first-again x front back h =
    ap (λ k. option_map (parted_at (front ++ x ∷ back)) (cond (ltb k (length (front ++ x ∷ back))) (Some k) None))
    (place_at x front back h)
    ∙ ap (λ v. option_map (parted_at (front ++ x ∷ back)) (cond v (Some (length front)) None))
    (below (length front) (length (front ++ x ∷ back)) (omega (arith, length-append front (x ∷ back))))
    ∙ ap (λ f. Some (f, drop (length front + 1) (front ++ x ∷ back))) (take_front front (x ∷ back))
    ∙ ap (λ b. Some (front, b)) (drop_front front back x)
  where
    below : (a b : ℕ) → a < b → ltb a b ≡ true
    below a b h = grind (arith, nat_tests)

last_of : (bytes : List ℕ) → 0 < length bytes
    → bytes ≡ take (length bytes - 1) bytes ++ get_or bytes (length bytes - 1) 0 ∷ []
last_of [] h = absurd (omega arith)
last_of (b ∷ []) h = refl
last_of (b ∷ c ∷ bytes) h = ap (λ t. b ∷ t) (last_of (c ∷ bytes) (omega arith)
    ∙ ap (λ k. take k (c ∷ bytes) ++ get_or (c ∷ bytes) k 0 ∷ []) (same_place (length bytes)))
    ∙ sym (ap (λ k. take k (b ∷ c ∷ bytes) ++ get_or (b ∷ c ∷ bytes) k 0 ∷ []) (behind (length bytes)))
  where
    same_place : (n : ℕ) → suc n - 1 ≡ n
    same_place n = omega arith

    behind : (n : ℕ) → suc (suc n) - 1 ≡ suc n
    behind n = omega arith

quoted_by : (bytes name : List ℕ) (a b c : Bool) → a ≡ leb 2 (length bytes)
    → b ≡ eqb (get_or bytes 0 0) 34 → c ≡ eqb (get_or bytes (length bytes - 1) 0) 34
    → cond (a && b && c) (Some (take (length bytes - 2) (drop 1 bytes))) None ≡ Some name
    → bytes ≡ 34 ∷ (name ++ 34 ∷ [])
quoted_by bytes name false b c p q r g = cc
quoted_by bytes name true false c p q r g = cc
quoted_by bytes name true true false p q r g = cc
quoted_by [] name true true true p q r g = absurd (long (sym p))
  where
    long : leb 2 0 ≡ true → ⊥
    long h = grind (arith, nat_tests)
quoted_by (x ∷ []) name true true true p q r g = absurd (long (sym p))
  where
    long : leb 2 1 ≡ true → ⊥
    long h = grind (arith, nat_tests)
quoted_by (x ∷ y ∷ bytes) name true true true p q r g =
    let first : x ≡ 34 = eqb-true x 34 (sym q) in
    let last : get_or (y ∷ bytes) (length (y ∷ bytes) - 1) 0 ≡ 34 =
    ap (λ k. get_or (y ∷ bytes) k 0) (behind (length bytes)) ∙ ap (λ k. get_or (x ∷ y ∷ bytes) k 0)
    (before (length bytes)) ∙ eqb-true (get_or (x ∷ y ∷ bytes) (length (x ∷ y ∷ bytes) - 1) 0) 34 (sym r) in
    let inside : take (length (y ∷ bytes) - 1) (y ∷ bytes) ≡ name =
    ap (λ k. take k (y ∷ bytes)) (within (length bytes)) ∙ some_is _ _ g in
    ap (λ b. b ∷ y ∷ bytes) first ∙ ap (λ t. 34 ∷ t) (last_of (y ∷ bytes) (omega arith)
    ∙ ap (λ t. t ++ get_or (y ∷ bytes) (length (y ∷ bytes) - 1) 0 ∷ []) inside ∙ ap (λ b. name ++ b ∷ []) last)
  where
    behind : (n : ℕ) → suc n - 1 ≡ n
    behind n = omega arith

    before : (n : ℕ) → suc n ≡ suc (suc n) - 1
    before n = omega arith

    within : (n : ℕ) → suc n - 1 ≡ suc (suc n) - 2
    within n = omega arith

    some_is : (p q : List ℕ) → Some p ≡ Some q → p ≡ q
    some_is p q h = cc

pub quoted-found : (bytes name : List ℕ) → quoted bytes ≡ Some name → bytes ≡ 34 ∷ (name ++ 34 ∷ [])
quoted-found bytes name h = quoted_by bytes name (leb 2 (length bytes)) (eqb (get_or bytes 0 0) 34)
    (eqb (get_or bytes (length bytes - 1) 0) 34) refl refl refl h

last_is : (name : List ℕ) → get_or (name ++ 34 ∷ []) (length name) 0 ≡ 34
last_is [] = refl
last_is (b ∷ name) = last_is name

pub quoted-again : (name : List ℕ) → quoted (34 ∷ (name ++ 34 ∷ [])) ≡ Some name
quoted-again name =
    let long : length (name ++ 34 ∷ []) ≡ length name + 1 = length-append name (34 ∷ []) in
    ap (λ n. cond (leb 2 (suc n) && true && eqb (get_or (34 ∷ (name ++ 34 ∷ [])) (suc n - 1) 0) 34)
    (Some (take (suc n - 2) (name ++ 34 ∷ []))) None) long
    ∙ ap (λ v. cond (v && true && eqb (get_or (34 ∷ (name ++ 34 ∷ [])) (suc (length name + 1) - 1) 0) 34)
    (Some (take (suc (length name + 1) - 2) (name ++ 34 ∷ []))) None) (at_least (length name))
    ∙ ap (λ k. cond (eqb (get_or (34 ∷ (name ++ 34 ∷ [])) k 0) 34)
    (Some (take (suc (length name + 1) - 2) (name ++ 34 ∷ []))) None) (end (length name))
    ∙ ap (λ b. cond (eqb b 34) (Some (take (suc (length name + 1) - 2) (name ++ 34 ∷ []))) None) (last_is name)
    ∙ ap (λ k. Some (take k (name ++ 34 ∷ []))) (inner (length name))
    ∙ ap (λ t. Some t) (take_front name (34 ∷ []))
  where
    at_least : (n : ℕ) → leb 2 (suc (n + 1)) ≡ true
    at_least n = grind (arith, nat_tests)

    end : (n : ℕ) → suc (n + 1) - 1 ≡ suc n
    end n = omega arith

    inner : (n : ℕ) → suc (n + 1) - 2 ≡ n
    inner n = omega arith
