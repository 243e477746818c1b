-- Facts that hold or don't, and how many numbers have one.
use Rattle.std.proofs.Common.{◌≡◌, ℕ, zero, suc, ◌<◌, ◌≤◌, Bool, true, false, List, [], ◌∷◌, arith, refl, sym, subst}
use Rattle.std.proofs.Common.{◌+◌, inl, inr, ◌⊎◌}
use Rattle.std.specs.List.{All}
use Rattle.std.proofs.lemmas.List.Elements.{All-nil, All-cons, All-head, All-tail}
use Rattle.std.proofs.lemmas.Bool.{cases_lt, cases_eq}
use Rattle.game_model.specs.Query.{Query, is_goal, is_dead}
use Rattle.determinacy.proofs.Arena.{Some, Free}

abbrev pub Decided : Type 0 → Type 0
Decided A = A ⊎ (A → ⊥)

pub dec-some : {X : Type 0} (P : X → Type 0) → ((x : X) → Decided (P x)) → (xs : List X) → Decided (Some P xs)
dec-some P d [] = inr (λ h. h)
dec-some P d (x ∷ xs) = elim (d x) [
  | inl has ↦ inl (inl has)
  | inr hasnt ↦ elim (dec-some P d xs) [
    | inl has ↦ inl (inr has)
    | inr none ↦ inr (λ h. elim h [ inl here ↦ hasnt here | inr later ↦ none later ])
  ]
]

pub dec-all : {X : Type 0} (P : X → Type 0) → ((x : X) → Decided (P x)) → (xs : List X) → Decided (All P xs)
dec-all P d [] = inl (All-nil P)
dec-all P d (x ∷ xs) = elim (d x) [
  | inr hasnt ↦ inr (λ h. hasnt (All-head P x xs h))
  | inl here ↦ elim (dec-all P d xs) [
    | inl later ↦ inl (All-cons P x xs here later)
    | inr none ↦ inr (λ h. none (All-tail P x xs h))
  ]
]

pub none-all : {X : Type 0} (P : X → Type 0) (xs : List X) → (Some P xs → ⊥) → All (λ x. P x → ⊥) xs
none-all P [] h = All-nil (λ x. P x → ⊥)
none-all P (x ∷ xs) h =
    All-cons (λ x. P x → ⊥) x xs (λ here. h (inl here)) (none-all P xs (λ later. h (inr later)))

pub not-all : {X : Type 0} (P : X → Type 0) → ((x : X) → Decided (P x)) → (xs : List X) → (All P xs → ⊥)
    → Some (λ x. P x → ⊥) xs
not-all P d [] h = absurd (h (All-nil P))
not-all P d (x ∷ xs) h = elim (d x) [
  | inr hasnt ↦ inl hasnt
  | inl here ↦ inr (not-all P d xs (λ later. h (All-cons P x xs here later)))
]

pub dec-both : (A B : Type 0) → Decided A → Decided B → Decided (A × B)
dec-both A B (inl a) (inl b) = inl (a, b)
dec-both A B (inl a) (inr b) = inr (λ h. b h.1)
dec-both A B (inr a) d = inr (λ h. a h.0)

pub dec-either : (A B : Type 0) → Decided A → Decided B → Decided (A ⊎ B)
dec-either A B (inl a) d = inl (inl a)
dec-either A B (inr a) (inl b) = inl (inr b)
dec-either A B (inr a) (inr b) = inr (λ h. elim h [ inl x ↦ a x | inr y ↦ b y ])

pub dec-not : (A : Type 0) → Decided A → Decided (A → ⊥)
dec-not A (inl a) = inr (λ h. h a)
dec-not A (inr a) = inl a

pub dec-lt : (a b : ℕ) → Decided (a < b)
dec-lt a b = elim (cases_lt a b) [ inl h ↦ inl h | inr h ↦ inr (λ k. omega (arith, h, k)) ]

pub dec-le : (a b : ℕ) → Decided (a ≤ b)
dec-le a b = elim (cases_lt b a) [ inl h ↦ inr (λ k. omega (arith, h, k)) | inr h ↦ inl h ]

pub dec-eq : (a b : ℕ) → Decided (a ≡ b)
dec-eq a b = elim (cases_eq a b) [ inl h ↦ inl h | inr h ↦ inr h ]

pub dec-false : (b : Bool) → Decided (b ≡ false)
dec-false true = inr (λ h. absurd (cc))
dec-false false = inl refl

pub dec-free : (q : Query) (s : ℕ) → Decided (Free q s)
dec-free q s = dec-both _ _ (dec-false (is_goal q s)) (dec-false (is_dead q s))

-- how many numbers below k have a fact
abbrev pub one : {A : Type 0} → Decided A → ℕ
one (inl has) = 1
one (inr none) = 0

abbrev pub tally : {A : ℕ → Type 0} → ((s : ℕ) → Decided (A s)) → ℕ → ℕ
tally d zero = 0
tally d (suc k) = one (d k) + tally d k

pub tally-most : {A : ℕ → Type 0} (d : (s : ℕ) → Decided (A s)) (k : ℕ) → tally d k ≤ k
tally-most d zero = omega arith
tally-most {A} d (suc k) = omega (arith, tally-most d k, at-most-one (d k))
  where
    at-most-one : (a : Decided (A k)) → one a ≤ 1
    at-most-one (inl has) = omega arith
    at-most-one (inr none) = omega arith

-- where all that have the one fact have the other, both have the same, or the other has more
pub tally-more : {A B : ℕ → Type 0} (d : (s : ℕ) → Decided (A s)) (e : (s : ℕ) → Decided (B s)) → ((s : ℕ) → A s → B s)
    → (k : ℕ) → (tally d k ≤ tally e k) × (((s : ℕ) → s < k → B s → A s) ⊎ (tally d k < tally e k))
tally-more d e h zero = (omega arith, inl (λ s l b. absurd (omega (arith, l))))
tally-more {A} {B} d e h (suc k) = more (d k) (e k) (tally-more d e h k)
  where
    up-to : (B k → A k) → ((s : ℕ) → s < k → B s → A s) → (s : ℕ) → s < suc k → B s → A s
    up-to last same s l there = elim (cases_lt s k) [
      | inl below ↦ same s below there
      | inr end ↦
          let at : s ≡ k = omega (arith, l, end) in
          subst A (sym at) (last (subst B at there))
    ]

    more : (a : Decided (A k)) (b : Decided (B k))
        → (tally d k ≤ tally e k) × (((s : ℕ) → s < k → B s → A s) ⊎ (tally d k < tally e k))
        → (one a + tally d k ≤ one b + tally e k)
        × (((s : ℕ) → s < suc k → B s → A s) ⊎ (one a + tally d k < one b + tally e k))
    more (inl a) (inr b) old = absurd (b (h k a))
    more (inr a) (inl b) old = (omega (arith, old.0), inr (omega (arith, old.0)))
    more (inl a) (inl b) old = (
      omega (arith, old.0),
      elim old.1 [ inl same ↦ inl (up-to (λ _. a) same) | inr less ↦ inr (omega (arith, less)) ],
    )
    more (inr a) (inr b) old = (
      omega (arith, old.0),
      elim old.1 [ inl same ↦ inl (up-to (λ last. absurd (b last)) same) | inr less ↦ inr (omega (arith, less)) ],
    )
