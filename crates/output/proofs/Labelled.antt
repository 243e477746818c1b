-- Numbers behind their labels are read in one way.
use Rattle.std.proofs.Common.{◌≡◌, ◌∙◌, ℕ, List, ◌∷◌, ◌++◌, get_or, append_assoc, sym, ap}
use Rattle.std.specs.Prelude.{codes, decimal}
use Rattle.std.proofs.lemmas.List.{append_cancel_left}
use Rattle.verdicts.proofs.Numbers.{decimal-one, number-one}
use Rattle.output.specs.Refusals.{numbered, choice_place}
use Rattle.output.specs.Printable.{IsPrintable, ArePrintable}

-- the bytes of equal texts at a place
pub at : {xs ys : List ℕ} → xs ≡ ys → (i : ℕ) → get_or xs i 0 ≡ get_or ys i 0
at e i = ap (λ (t : List ℕ). get_or t i 0) e

pub numbered-one : (label : List ℕ) (m n : ℕ) → IsPrintable m → IsPrintable n → numbered label m ≡ numbered label n
    → m ≡ n
numbered-one label m n hm hn e = decimal-one m n hm hn (append_cancel_left label (decimal m) (decimal n) e)

numbered-onto : (label : List ℕ) (m n : ℕ) (r s : List ℕ) → IsPrintable m → IsPrintable n
    → numbered label m ++ 32 ∷ r ≡ numbered label n ++ 32 ∷ s → (m ≡ n) × (r ≡ s)
numbered-onto label m n r s hm hn e =
    let in_order = sym (append_assoc label (decimal m) (32 ∷ r)) ∙ e ∙ append_assoc label (decimal n) (32 ∷ s) in
    number-one m n r s hm hn (append_cancel_left label (decimal m ++ 32 ∷ r) (decimal n ++ 32 ∷ s) in_order)

-- two numbers
pub pair-one : (a b : List ℕ) (m n i j : ℕ) → ArePrintable m n → ArePrintable i j
    → numbered a m ++ numbered (32 ∷ b) n ≡ numbered a i ++ numbered (32 ∷ b) j → (m ≡ i) × (n ≡ j)
pair-one a b m n i j h k e =
    let first = numbered-onto a m i (numbered b n) (numbered b j) h.0 k.0 e in
    (first.0, numbered-one b n j h.1 k.1 first.1)

-- where a choice stands, with text behind
choice_place-onto : (m n : ℕ) (r : List ℕ)
    → choice_place m n ++ r ≡ numbered (codes " state ") m ++ (numbered (codes " choice ") n ++ r)
choice_place-onto m n r = append_assoc (numbered (codes " state ") m) (numbered (codes " choice ") n) r

pub place-onto : (m n i j : ℕ) (r s : List ℕ) → ArePrintable m n → ArePrintable i j
    → choice_place m n ++ 32 ∷ r ≡ choice_place i j ++ 32 ∷ s → (m ≡ i) × (n ≡ j) × (r ≡ s)
place-onto m n i j r s h k e =
    let in_order = sym (choice_place-onto m n (32 ∷ r)) ∙ e ∙ choice_place-onto i j (32 ∷ s) in
    let first = numbered-onto (codes " state ") m i (numbered (codes "choice ") n ++ 32 ∷ r)
    (numbered (codes "choice ") j ++ 32 ∷ s) h.0 k.0 in_order in
    let second = numbered-onto (codes "choice ") n j r s h.1 k.1 first.1 in
    (first.0, second.0, second.1)
