-- Lists that begin with others, and results that are an `Err`.
use Rattle.std.proofs.Common.{◌≡◌, ℕ, ◌<◌, ◌≤◌, List, [], length, take, arith, sym, ◌∙◌, ap}
use Rattle.std.specs.Prelude.{slice_index, IfOk, OnErr, Result, Ok, Err}
use Rattle.std.proofs.lemmas.List.{append-nil, get_or_append_left, get_or-take, length-append, length-take-le}
use Rattle.game_model.specs.Growing.{IsLonger}

pub on_err : {T E : Type 0} (r : Result T E) (P : Type 0) → P → OnErr r P
on_err (Ok x) P p = tt
on_err (Err e) P p = p

pub longer-same : (xs ys : List ℕ) → ys ≡ xs → IsLonger xs ys
longer-same xs ys h = ([], h ∙ sym (append-nil xs))

pub longer-at : (xs ys : List ℕ) → IsLonger xs ys → (i : ℕ) → i < length xs → slice_index ys i ≡ slice_index xs i
longer-at xs ys h i l = ap (λ ys. slice_index ys i) h.1 ∙ get_or_append_left xs h.0 0 i l

pub longer-length : (xs ys : List ℕ) → IsLonger xs ys → length xs ≤ length ys
longer-length xs ys h = omega (arith, ap length h.1, length-append xs h.0)

-- a list that begins with the first n of another
pub taken-at : (n : ℕ) (xs ys : List ℕ) → n ≤ length xs → IsLonger (take n xs) ys → (i : ℕ) → i < n
    → slice_index ys i ≡ slice_index xs i
taken-at n xs ys le h i l =
    longer-at (take n xs) ys h i (omega (arith, length-take-le n xs le)) ∙ get_or-take n xs i 0 l

pub taken-length : (n : ℕ) (xs ys : List ℕ) → n ≤ length xs → IsLonger (take n xs) ys → n ≤ length ys
taken-length n xs ys le h = omega (arith, longer-length (take n xs) ys h, length-take-le n xs le)

pub if_ok-more : {T E : Type 0} (r : Result T E) (P Q : Type 0) → IfOk r (λ _. P) → (P → Q) → IfOk r (λ _. Q)
if_ok-more (Ok x) P Q p f = f p
if_ok-more (Err e) P Q p f = tt

pub on_err-more : {T E : Type 0} (r : Result T E) (P Q : Type 0) → OnErr r P → (P → Q) → OnErr r Q
on_err-more (Ok x) P Q p f = tt
on_err-more (Err e) P Q p f = f p

-- what holds of an `Ok` and of an `Err`
pub either : {T E : Type 0} (r : Result T E) (P Q R : Type 0) → IfOk r (λ _. P) → OnErr r Q → (P → R) → (Q → R) → R
either (Ok x) P Q R p q f g = f p
either (Err e) P Q R p q f g = g q
