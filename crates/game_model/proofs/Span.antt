-- Spans: their elements and length, their parts, one more, several in a row, and two that are the same.
use Rattle.std.proofs.Common.{◌≡◌, ℕ, zero, suc, ◌+◌, ◌-◌, ◌<◌, ◌≤◌, List, [], ◌∷◌, ◌++◌, length, map, take, drop}
use Rattle.std.proofs.Common.{get_or, arith, refl, sym, ◌∙◌, ap}
use Rattle.std.proofs.lemmas.List.{get_or_default, get_or-take, get_or-drop, same_lists, length-take-le, length-drop}
use Rattle.std.specs.Prelude.{slice_index, flat_map}
use Rattle.game_model.specs.Span.{span}

pub length-span : {X : Type 0} (f : ℕ → X) (a k : ℕ) → length (span f a k) ≡ k
length-span f a zero = refl
length-span f a (suc k) = ap suc (length-span f (a + 1) k)

pub get_or-span : {X : Type 0} (f : ℕ → X) (a k i : ℕ) (d : X) → i < k → get_or (span f a k) i d ≡ f (a + i)
get_or-span f a zero i d l = absurd (omega arith)
get_or-span f a (suc k) zero d l = ap f (omega arith)
get_or-span f a (suc k) (suc i) d l =
    let at : a + 1 + i ≡ a + suc i = omega arith in
    get_or-span f (a + 1) k i d (omega arith) ∙ ap f at

pub span-more : {X : Type 0} (f : ℕ → X) (a k : ℕ) → span f a (suc k) ≡ span f a k ++ f (a + k) ∷ []
span-more f a zero = let at : a ≡ a + 0 = omega arith in ap (λ i. f i ∷ []) at
span-more f a (suc k) =
    let at : a + 1 + k ≡ a + suc k = omega arith in
    ap (λ l. f a ∷ l) (span-more f (a + 1) k ∙ ap (λ i. span f (a + 1) k ++ f i ∷ []) at)

pub span-same : {X : Type 0} (f g : ℕ → X) (a k : ℕ) → ((i : ℕ) → a ≤ i → i < a + k → f i ≡ g i)
    → span f a k ≡ span g a k
span-same f g a zero h = refl
span-same f g a (suc k) h = ap (λ x. x ∷ span f (a + 1) k) (h a (omega arith) (omega arith))
    ∙ ap (λ l. g a ∷ l) (span-same f g (a + 1) k (λ i l m. h i (omega arith) (omega arith)))

-- two spans that begin at different places
pub span-moved : {X : Type 0} (f g : ℕ → X) (a b k : ℕ) → ((i : ℕ) → i < k → f (a + i) ≡ g (b + i))
    → span f a k ≡ span g b k
span-moved f g a b k h =
    same_lists _ _ (length-span f a k ∙ sym (length-span g b k))
    (λ i d l. let inside : i < k = omega (arith, length-span f a k) in
    get_or-span f a k i d inside ∙ h i inside ∙ sym (get_or-span g b k i d inside))

pub map-span : {X Y : Type 0} (h : X → Y) (f : ℕ → X) (a k : ℕ) → map h (span f a k) ≡ span (λ i. h (f i)) a k
map-span h f a zero = refl
map-span h f a (suc k) = ap (λ l. h (f a) ∷ l) (map-span h f (a + 1) k)

pub take-span : {X : Type 0} (f : ℕ → X) (a s k : ℕ) → s ≤ k → take s (span f a k) ≡ span f a s
take-span f a zero k l = refl
take-span f a (suc s) zero l = absurd (omega arith)
take-span f a (suc s) (suc k) l = ap (λ xs. f a ∷ xs) (take-span f (a + 1) s k (omega arith))

drop-span : {X : Type 0} (f : ℕ → X) (a s k : ℕ) → drop s (span f a k) ≡ span f (a + s) (k - s)
drop-span f a zero k =
    let at : a ≡ a + 0 = omega arith in
    let all : k ≡ k - 0 = omega arith in
    ap (λ i. span f i k) at ∙ ap (span f (a + 0)) all
drop-span f a (suc s) zero = let none : 0 ≡ 0 - suc s = omega arith in ap (span f (a + suc s)) none
drop-span f a (suc s) (suc k) =
    let at : a + 1 + s ≡ a + suc s = omega arith in let left : k - s ≡ suc k - suc s = omega arith in
    drop-span f (a + 1) s k ∙ ap (λ i. span f i (k - s)) at ∙ ap (span f (a + suc s)) left

-- a part of a span
pub part-span : {X : Type 0} (f : ℕ → X) (from to k : ℕ) → to ≤ k
    → take (to - from) (drop from (span f 0 k)) ≡ span f from (to - from)
part-span f from to k l =
    let at : 0 + from ≡ from = omega arith in
    ap (take (to - from)) (drop-span f 0 from k ∙ ap (λ i. span f i (k - from)) at)
    ∙ take-span f from (to - from) (k - from) (omega arith)

pub span-append : {X : Type 0} (f : ℕ → X) (a j k : ℕ) → span f a j ++ span f (a + j) k ≡ span f a (j + k)
span-append f a zero k =
    let at : a + 0 ≡ a = omega arith in
    let all : k ≡ 0 + k = omega arith in
    ap (λ i. span f i k) at ∙ ap (span f a) all
span-append f a (suc j) k =
    let at : a + suc j ≡ a + 1 + j = omega arith in let all : suc (j + k) ≡ suc j + k = omega arith in
    ap (λ i. f a ∷ (span f (a + 1) j ++ span f i k)) at
    ∙ ap (λ l. f a ∷ l) (span-append f (a + 1) j k) ∙ ap (span f a) all

-- where each part is a span that ends where the next begins, so are all of them together
pub flat_map-span : {X Y : Type 0} (h : X → List Y) (g : ℕ → X) (f : ℕ → Y) (b : ℕ → ℕ) (a k : ℕ)
    → ((i : ℕ) → a ≤ i → i < a + k → (h (g i) ≡ span f (b i) (b (i + 1) - b i)) × (b i ≤ b (i + 1)))
    → (flat_map h (span g a k) ≡ span f (b a) (b (a + k) - b a)) × (b a ≤ b (a + k))
flat_map-span h g f b a zero each =
    let at : b a ≡ b (a + 0) = ap b (let same : a ≡ a + 0 = omega arith in same) in
    let none : 0 ≡ b (a + 0) - b a = omega arith in
    (ap (span f (b a)) none, omega arith)
flat_map-span h g f b a (suc k) each =
    let first : (h (g a) ≡ span f (b a) (b (a + 1) - b a)) × (b a ≤ b (a + 1)) = each a (omega arith) (omega arith) in
    let rest : (flat_map h (span g (a + 1) k) ≡ span f (b (a + 1)) (b (a + 1 + k) - b (a + 1)))
    × (b (a + 1) ≤ b (a + 1 + k)) = flat_map-span h g f b (a + 1) k (λ i l m. each i (omega arith) (omega arith)) in
    let end : b (a + 1 + k) ≡ b (a + suc k) = ap b (let same : a + 1 + k ≡ a + suc k = omega arith in same) in
    let next : b (a + 1) ≡ b a + (b (a + 1) - b a) = omega (arith, first.1) in
    let count : (b (a + 1) - b a) + (b (a + 1 + k) - b (a + 1)) ≡ b (a + suc k) - b a =
    omega (arith, first.1, rest.1, end) in (
      ap (λ xs. xs ++ flat_map h (span g (a + 1) k)) first.0
          ∙ ap (λ xs. span f (b a) (b (a + 1) - b a) ++ xs)
          (rest.0 ∙ ap (λ i. span f i (b (a + 1 + k) - b (a + 1))) next)
          ∙ span-append f (b a) (b (a + 1) - b a) (b (a + 1 + k) - b (a + 1))
          ∙ ap (span f (b a)) count,
      omega (arith, first.1, rest.1, end),
    )

-- a part of a list
pub take-drop-span : (xs : List ℕ) (a k : ℕ) → a + k ≤ length xs → take k (drop a xs) ≡ span (slice_index xs) a k
take-drop-span xs a k l =
    let count : length (take k (drop a xs)) ≡ k = length-take-le k (drop a xs) (omega (arith, length-drop a xs)) in
    same_lists _ _ (count ∙ sym (length-span (slice_index xs) a k))
    (λ i d m. let inside : i < k = omega (arith, count) in
    get_or-take k (drop a xs) i d inside ∙ get_or-drop a xs i d ∙ get_or_default xs (a + i) d 0 (omega arith)
    ∙ sym (get_or-span (slice_index xs) a k i d inside))
