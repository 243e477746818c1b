-- Choices that serve, and states that are attracted.
use Rattle.std.proofs.Common.{◌≡◌, ◌⊎◌, ℕ, ◌<◌, Bool, true, false, List, length, get_or, refl, ap, ◌∙◌, inl, inr, not}
use Rattle.std.proofs.lemmas.Bool.{cases_Bool}
use Rattle.std.specs.Prelude.{◌&&◌}
use Rattle.std.specs.List.{list_any, list_all}
use Rattle.std.proofs.lemmas.List.Folds.{list_any_at, list_all_at}
use Rattle.game_model.specs.declared.game.Side.TheVariants.{Max, Min}
use Rattle.game_model.specs.Game.{Distribution, no_distribution, choices_of, choice_of}
use Rattle.game_model.specs.Query.{Query, side_at}
use Rattle.attractors.proofs.Tests.{any-place, all-place}
use Rattle.attractors.specs.Attractor.{ExcludedSets, meets, serves, attracts, is_attracted}

served : (a b : Bool) → (not a && b) ≡ true → (a ≡ false) × (b ≡ true)
served true b h = absurd (cc)
served false b h = (refl, h)

serve : (a b : Bool) → a ≡ false → b ≡ true → (not a && b) ≡ true
serve true b h k = absurd (cc)
serve false b h k = k

unserved : (a b : Bool) → (not a && b) ≡ false → (a ≡ true) ⊎ (b ≡ false)
unserved true b h = inl refl
unserved false b h = inr h

unserve : (a b : Bool) → (a ≡ false → b ≡ true → ⊥) → (not a && b) ≡ false
unserve true b h = refl
unserve false true h = absurd (h refl refl)
unserve false false h = refl

-- what a choice that serves, or does not, says of its successors
pub serves-both : (excluded : ExcludedSets) (set : List Bool) (m : Distribution) → serves excluded set m ≡ true
    → (excluded.choices m ≡ false) × (meets set m ≡ true)
serves-both excluded set m h = served (excluded.choices m) (meets set m) h

pub serves-by : (excluded : ExcludedSets) (set : List Bool) (m : Distribution) → excluded.choices m ≡ false
    → meets set m ≡ true
    → serves excluded set m ≡ true
serves-by excluded set m h k = serve (excluded.choices m) (meets set m) h k

pub serves-not : (excluded : ExcludedSets) (set : List Bool) (m : Distribution) → serves excluded set m ≡ false
    → (excluded.choices m ≡ true) ⊎ (meets set m ≡ false)
serves-not excluded set m h = unserved (excluded.choices m) (meets set m) h

pub unserved-by : (excluded : ExcludedSets) (set : List Bool) (m : Distribution)
    → (excluded.choices m ≡ false → meets set m ≡ true → ⊥) → serves excluded set m ≡ false
unserved-by excluded set m h = unserve (excluded.choices m) (meets set m) h

-- a state of the maximiser is attracted by one choice, and one of the minimiser by all
pub attracts-one : (q : Query) (excluded : ExcludedSets) (set : List Bool) (s c : ℕ) → side_at q s ≡ Max
    → c < length (choices_of q.game s) → serves excluded set (choice_of q.game s c) ≡ true
    → is_attracted q excluded set s ≡ true
attracts-one q excluded set s c is_side l serve = ap (λ side. attracts side excluded set (choices_of q.game s)) is_side
    ∙ list_any_at (serves excluded set) (choices_of q.game s) c no_distribution l serve

all-serve : (excluded : ExcludedSets) (set : List Bool) (choices : List Distribution)
    → ((c : ℕ) → c < length choices → serves excluded set (get_or choices c no_distribution) ≡ true)
    → list_all (serves excluded set) choices ≡ true
all-serve excluded set choices each = elim (cases_Bool (list_all (serves excluded set) choices)) [
  | inl holds ↦ holds
  | inr fails ↦
      let one : (c : ℕ) × (c < length choices) × (serves excluded set (get_or choices c no_distribution) ≡ false) =
      all-place (serves excluded set) choices no_distribution fails in
      let serve : serves excluded set (get_or choices one.0 no_distribution) ≡ true = each one.0 one.1 in
      let other : serves excluded set (get_or choices one.0 no_distribution) ≡ false = one.2 in
      absurd (cc)
]

pub attracts-all : (q : Query) (excluded : ExcludedSets) (set : List Bool) (s : ℕ) → side_at q s ≡ Min
    → ((c : ℕ) → c < length (choices_of q.game s) → serves excluded set (choice_of q.game s c) ≡ true)
    → is_attracted q excluded set s ≡ true
attracts-all q excluded set s is_side each = ap (λ side. attracts side excluded set (choices_of q.game s)) is_side
    ∙ all-serve excluded set (choices_of q.game s) each

-- and is left where no choice does so, or one does not
none-serve : (excluded : ExcludedSets) (set : List Bool) (choices : List Distribution)
    → ((c : ℕ) → c < length choices → serves excluded set (get_or choices c no_distribution) ≡ true → ⊥)
    → list_any (serves excluded set) choices ≡ false
none-serve excluded set choices none = elim (cases_Bool (list_any (serves excluded set) choices)) [
  | inl holds ↦
      let one : (c : ℕ) × (c < length choices) × (serves excluded set (get_or choices c no_distribution) ≡ true) =
      any-place (serves excluded set) choices no_distribution holds in
      absurd (none one.0 one.1 one.2)
  | inr fails ↦ fails
]

pub left-by-none : (q : Query) (excluded : ExcludedSets) (set : List Bool) (s : ℕ) → side_at q s ≡ Max
    → ((c : ℕ) → c < length (choices_of q.game s) → serves excluded set (choice_of q.game s c) ≡ true → ⊥)
    → is_attracted q excluded set s ≡ false
left-by-none q excluded set s is_side none = ap (λ side. attracts side excluded set (choices_of q.game s)) is_side
    ∙ none-serve excluded set (choices_of q.game s) none

pub left-by-one : (q : Query) (excluded : ExcludedSets) (set : List Bool) (s c : ℕ) → side_at q s ≡ Min
    → c < length (choices_of q.game s) → serves excluded set (choice_of q.game s c) ≡ false
    → is_attracted q excluded set s ≡ false
left-by-one q excluded set s c is_side l fails = ap (λ side. attracts side excluded set (choices_of q.game s)) is_side
    ∙ list_all_at (serves excluded set) (choices_of q.game s) c no_distribution l fails

-- a state of the maximiser is attracted by some choice
pub attracts-some : (q : Query) (excluded : ExcludedSets) (set : List Bool) (s : ℕ) → side_at q s ≡ Max
    → list_any (serves excluded set) (choices_of q.game s) ≡ true → is_attracted q excluded set s ≡ true
attracts-some q excluded set s is_side some =
    ap (λ side. attracts side excluded set (choices_of q.game s)) is_side ∙ some
