-- An option that only its long name calls, among the rules of a command.
use Rattle.std.proofs.Common.{◌≡◌, ◌∙◌, ◌⊎◌, ◌||◌, ◌&&◌, ◌==◌, ℕ, Bool, cond, true, false, true≢false, not}
use Rattle.std.proofs.Common.{List, [], ◌∷◌, ◌++◌, Option, Some, None, IfSome, is_some, refl, sym}
use Rattle.std.proofs.Common.{inl, inr, find, bytes_eq, arith}
use Rattle.std.specs.List.{list_all, list_any}
use Rattle.std.specs.Option.{option_map_or}
use Rattle.std.proofs.lemmas.Bool.{ne_eqb}
use Rattle.std.proofs.lemmas.Slice.Eq.{bytes_eq-Decides}
use Rattle.clap.specs.Walk.{Rule, Text, arg_by_index, arg_by_long, arg_by_short, has_long, has_short, is_empty}
use Rattle.clap.proofs.WalkLemmas.{both}

-- 1. What holds of each of some things.

abbrev pub Every : {X : Type 0} → (X → Type 0) → List X → Type 0
Every P [] = Unit {0}
Every P (x ∷ xs) = P x × Every P xs

pub every_append : {X : Type 0} (P : X → Type 0) (xs ys : List X) → Every P xs → Every P ys → Every P (xs ++ ys)
every_append P [] ys of_xs of_ys = of_ys
every_append P (x ∷ xs) ys of_xs of_ys = (of_xs.0, every_append P xs ys of_xs.1 of_ys)

-- the first that passes has what each has that passes
pub first_has : {X : Type 0} (P : X → Type 0) (p : X → Bool) (xs : List X) → Every (λ x. p x ≡ true → P x) xs
    → IfSome (find p xs) P
first_has P p [] every = tt
first_has {X} P p (x ∷ xs) every = go (p x) refl (first_has P p xs every.1)
  where
    go : (b : Bool) → p x ≡ b → IfSome (find p xs) P → IfSome (cond b (Some x) (find p xs)) P
    go true passes later = every.0 passes
    go false passes later = later

-- 2. An option that only its long name calls.

-- the rule has no short name, and does not take all the words that follow
abbrev pub is_quiet : Rule → Bool
is_quiet a = not (is_some a.short) && (is_empty a.short_aliases && not a.trailing_var_arg)

-- the rule is another, or has no other name than this, no place and no default
abbrev pub is_apart : Text → Rule → Bool
is_apart name a = not (bytes_eq a.id name) || (not (is_some a.index)
    && (option_map_or (λ s. bytes_eq s name) a.long true && (is_empty a.aliases && is_empty a.defaults)))

-- only this word calls the rule, which has no default
pub record IsOnly (name : Text) (a : Rule) : Type 0 where
  pub index : is_some a.index ≡ false
  pub long : option_map_or (λ s. bytes_eq s name) a.long true ≡ true
  pub aliases : is_empty a.aliases ≡ true
  pub defaults : is_empty a.defaults ≡ true

pub denied : (b : Bool) → not b ≡ true → b ≡ false
denied true e = absurd (true≢false (sym e))
denied false e = refl

either : (a b : Bool) → (a || b) ≡ true → (a ≡ true) ⊎ (b ≡ true)
either true b e = inl refl
either false b e = inr e

pub apart : (name : Text) (a : Rule) → is_apart name a ≡ true → (a.id ≡ name → ⊥) ⊎ IsOnly name a
apart name a e = elim (either _ _ e) [
  | inl other ↦ inl (λ same. true≢false (sym ((bytes_eq-Decides a.id name).1 same) ∙ denied _ other))
  | inr only ↦
      let one = both _ _ only in
      let two = both _ _ one.1 in
      let three = both _ _ two.1 in
      inr (record { index = denied _ one.0; long = two.0; aliases = three.0; defaults = three.1 })
]

pub not_empty : {X : Type 0} (x : X) (xs : List X) → is_empty (x ∷ xs) ≡ true → ⊥
not_empty x xs e = true≢false (sym e ∙ ne_eqb _ _ (λ is. omega (arith, is)))

no_alias : (name : Text) (aliases : List Text) → is_empty aliases ≡ true
    → list_any (λ alias. bytes_eq alias name) aliases ≡ false
no_alias name [] e = refl
no_alias name (x ∷ xs) e = absurd (not_empty x xs e)

no_short_alias : (x : ℕ) (aliases : List ℕ) → is_empty aliases ≡ true
    → list_any (λ alias. alias == x) aliases ≡ false
no_short_alias x [] e = refl
no_short_alias x (y ∷ ys) e = absurd (not_empty y ys e)

no_char : (x : ℕ) (short : Option ℕ) → is_some short ≡ false → option_map_or (λ s. s == x) short false ≡ false
no_char x None e = refl
no_char x (Some y) e = absurd (true≢false e)

no_place : (i : ℕ) (index : Option ℕ) → is_some index ≡ false → option_map_or (λ k. k == i) index false ≡ false
no_place i None e = refl
no_place i (Some y) e = absurd (true≢false e)

-- an option that only one long name calls is not called by another
called : (name word : Text) (long : Option Text) → option_map_or (λ s. bytes_eq s name) long true ≡ true
    → option_map_or (λ s. bytes_eq s word) long false ≡ true → word ≡ name
called name word None only calls = absurd (true≢false (sym calls))
called name word (Some s) only calls =
    sym ((bytes_eq-Decides s word).0 calls) ∙ (bytes_eq-Decides s name).0 only

-- 3. The rules of a command, where each is quiet, and apart from a name.

-- this is another name
abbrev pub IsOtherThan : Text → Text → Type 0
IsOtherThan name id = id ≡ name → ⊥

module _ (name : Text) where
  abbrev IsOther : Text → Type 0
  IsOther = IsOtherThan name

  pub record AreApart (c : List Rule) : Type 0 where
    pub quiet : list_all is_quiet c ≡ true
    pub apart : list_all (is_apart name) c ≡ true

  module _ (c : List Rule) (are : AreApart c) where
    pub no_short : (x : ℕ) → arg_by_short c x ≡ None
    no_short x = go c are.quiet
      where
        unshort : (a : Rule) → is_quiet a ≡ true → (not (is_some a.index) && has_short a x) ≡ false
        unshort a quiet =
            let parts = both _ _ quiet in
            let rest = both _ _ parts.1 in
            rw (no_char x a.short (denied _ parts.0), no_short_alias x a.short_aliases rest.0)
            (none (not (is_some a.index)))
          where
            none : (b : Bool) → (b && false) ≡ false
            none true = refl
            none false = refl

        go : (rules : List Rule) → list_all is_quiet rules ≡ true
            → find (λ a. not (is_some a.index) && has_short a x) rules ≡ None
        go [] every = refl
        go (a ∷ rest) every =
            let parts = both _ _ every in
            rw (unshort a parts.0) (go rest parts.1)

    -- a rule at a place is another
    pub placed : (i : ℕ) → IfSome (arg_by_index c i) (λ a. IsOther a.id × (a.trailing_var_arg ≡ false))
    placed i = first_has (λ (a : Rule). IsOther a.id × (a.trailing_var_arg ≡ false)) _ c (go c are.quiet are.apart)
      where
        other : (a : Rule) → is_apart name a ≡ true → option_map_or (λ k. k == i) a.index false ≡ true → IsOther a.id
        other a is at = elim (apart name a is) [
          | inl another ↦ another
          | inr only ↦ absurd (true≢false (sym at ∙ no_place i a.index only.index))
        ]

        go : (rules : List Rule) → list_all is_quiet rules ≡ true → list_all (is_apart name) rules ≡ true
            → Every (λ (a : Rule). option_map_or (λ k. k == i) a.index false ≡ true
            → IsOther a.id × (a.trailing_var_arg ≡ false)) rules
        go [] quiet every = tt
        go (a ∷ rest) quiet every =
            let calm = both _ _ quiet in
            let parts = both _ _ every in
            (λ at. (other a parts.0 at, denied _ (both _ _ (both _ _ calm.0).1).1), go rest calm.1 parts.1)

    -- a rule that another word calls is another
    pub longs : (word : Text) → IsOther word → IfSome (arg_by_long c word) (λ a. IsOther a.id)
    longs word differs = first_has (λ (a : Rule). IsOther a.id) _ c (go c are.apart)
      where
        other : (a : Rule) → is_apart name a ≡ true → (not (is_some a.index) && has_long a word) ≡ true → IsOther a.id
        other a is calls = elim (apart name a is) [
          | inl another ↦ another
          | inr only ↦ elim (either _ _ (both _ _ calls).1) [
            | inl long ↦ absurd (differs (called name word a.long only.long long))
            | inr alias ↦ absurd (true≢false (sym alias ∙ no_alias word a.aliases only.aliases))
          ]
        ]

        go : (rules : List Rule) → list_all (is_apart name) rules ≡ true
            → Every (λ (a : Rule). (not (is_some a.index) && has_long a word) ≡ true → IsOther a.id) rules
        go [] every = tt
        go (a ∷ rest) every =
            let parts = both _ _ every in
            (other a parts.0, go rest parts.1)
