-- The opening words, and a won exchange, keep what holds of the words.
use Rattle.std.proofs.Common.{◌≡◌, ℕ, zero, suc, ◌+◌, ◌<◌, ◌≤◌, Bool, true, false, List, [], ◌∷◌, ◌++◌, length, get_or}
use Rattle.std.proofs.Common.{set, map, take, arith, refl, sym, ap, ◌∙◌, subst, inl, inr, le_refl, length-set}
use Rattle.std.specs.Prelude.{slice_index, slice_index_or, Some, if◌then◌else◌}
use Rattle.std.proofs.lemmas.Bool.{cases_eq, true≢false, cases_Bool}
use Rattle.std.proofs.lemmas.List.{map-set, length-map, take_more}
use Rattle.game_model.specs.Game.{choices_of}
use Rattle.game_model.specs.Query.{Query, IsQuery, states, is_goal, is_dead}
use Rattle.game_model.specs.Limits.{unit}
use Rattle.game_model.specs.Rounded.{down_step, down_steps, opening, IsBelow}
use Rattle.game_model.proofs.Choices.{AreChoicesOf, AreChoicesOf-choices_of}
use Rattle.game_laws.proofs.Steps.{down_step-le, down_steps-rises}
use Rattle.step_core.specs.Word.{packed, value_in, choice_in, value_at, values_of, picks_of, opening_words}
use Rattle.step_core.specs.Word.{opening_word}
use Rattle.step_core.specs.Sound.{AreSoundWords, Sees}
use Rattle.fixed_bellman.specs.Given.{IsFree, IsGivenBy}
use Rattle.fixed_bellman.proofs.Tables.{IsGivenBy-below}
use Rattle.step_core.proofs.Raised.{next_rank, Ranked-raised}
use Rattle.step_core.proofs.Sights.{value_at-here, value_at-else, Sees-below}

-- the values of words, as a list
pub values_of-at : (words : List ℕ) (s : ℕ) → slice_index (values_of words) s ≡ value_at words s
values_of-at [] s = refl
values_of-at (word ∷ words) zero = refl
values_of-at (word ∷ words) (suc s) = values_of-at words s

pub values_of-is : (words : List ℕ) → slice_index (values_of words) ≡ value_at words
values_of-is words = λ k s. values_of-at words s k

-- goals have the unit
pub AreSoundWords-goals : (q : Query) (words : List ℕ) → AreSoundWords q words → (s : ℕ) → s < states q
    → is_goal q s ≡ true → value_at words s ≡ unit
AreSoundWords-goals q words k s l goal = sym (values_of-at words s) ∙ k.ranked.goals s l goal

-- no value is above the unit
pub AreSoundWords-units : (q : Query) (words : List ℕ) → AreSoundWords q words → (s : ℕ) → s < states q
    → value_at words s ≤ unit
AreSoundWords-units q words k s l = subst (λ n. n ≤ unit) (values_of-at words s) (k.ranked.units s l)

-- a won exchange
module _ (q : Query) (h : IsQuery q) (words seen : List ℕ) (i word : ℕ) (inside : i < states q) (free : IsFree q i)
    (many : length words ≡ states q) (sees : Sees q words seen) (up : value_at words i < value_in word)
    (given : IsGivenBy q (value_at seen) i (value_in word) (choice_in word)) where
  chosen : AreChoicesOf q.game (choices_of q.game)
  chosen = AreChoicesOf-choices_of q.game h.game

  there : i < length words
  there = subst (λ n. i < n) (sym many) inside

  -- adds one down step at most
  pub raised-within : (r : ℕ) → IsBelow q (value_at words) (down_steps q r)
      → IsBelow q (value_at (set words i word)) (down_steps q (suc r))
  unfolding down_steps
  raised-within r below s l =
      let step : down_step q (value_at seen) i ≤ down_step q (down_steps q r) i = down_step-le q (value_at seen)
      (down_steps q r) chosen (λ t k. omega (arith, Sees-below q words seen sees t, below t k)) i in
      elim (cases_eq s i) [
        | inl same ↦ subst (λ n. value_at (set words i word) n ≤ down_steps q (suc r) n) (sym same)
            (omega (
              arith,
              value_at-here words i word there,
              step,
              IsGivenBy-below q (value_at seen) i (value_in word) (choice_in word) h inside free given,
            ))
        | inr other ↦ omega (arith, value_at-else words i word s other, below s l, down_steps-rises q chosen r s)
      ]

  pub AreSoundWords-won : AreSoundWords q words → AreSoundWords q (set words i word)
  AreSoundWords-won k = record {
    as_many = length-set words i word ∙ k.as_many;
    rounds = suc k.rounds;
    below = raised-within k.rounds k.below;
    ranks = set k.ranks i (next_rank k.ranks);
    ranks_as_many = length-set k.ranks i (next_rank k.ranks) ∙ k.ranks_as_many;
    ranked = rw (map-set value_in words i word, map-set (λ (w : ℕ). Some (choice_in w)) words i word)
        (Ranked-raised q h (values_of words) (picks_of words) k.ranks (value_at seen) i (value_in word)
        (choice_in word) inside
        (length-map words value_in ∙ k.as_many) (length-map words (λ (w : ℕ). Some (choice_in w)) ∙ k.as_many)
        k.ranks_as_many free k.ranked
        (λ s l. omega (arith, values_of-at words s, Sees-below q words seen sees s))
        (omega (arith, values_of-at words i)) given);
  }

-- the opening words
opening_words-at : (goals : List Bool) (s : ℕ)
    → slice_index (map opening_word goals) s ≡ opening_word (slice_index_or goals s false)
opening_words-at [] s = refl
opening_words-at (goal ∷ goals) zero = refl
opening_words-at (goal ∷ goals) (suc s) = opening_words-at goals s

value_in-if : (goal : Bool) → value_in (opening_word goal) ≡ (if goal then unit else 0)
value_in-if true = refl
value_in-if false = refl

pub opening_words-value : (q : Query) (s : ℕ) → value_at (opening_words q) s ≡ opening q s
opening_words-value q s = ap value_in (opening_words-at q.goals s) ∙ value_in-if (is_goal q s)

if-units : (goal : Bool) → (if goal then unit else 0) ≤ unit
if-units true = le_refl unit
if-units false = omega arith

zeros : ℕ → List ℕ
zeros zero = []
zeros (suc n) = 0 ∷ zeros n

length-zeros : (n : ℕ) → length (zeros n) ≡ n
unfolding zeros
length-zeros zero = refl
length-zeros (suc n) = let rest = length-zeros n in omega arith

pub AreSoundWords-opening : (q : Query) → IsQuery q → AreSoundWords q (opening_words q)
unfolding down_steps
AreSoundWords-opening q h = record {
  as_many = length-map q.goals opening_word ∙ h.goals;
  rounds = zero;
  below = λ s l. subst (λ n. n ≤ opening q s) (sym (opening_words-value q s)) (le_refl (opening q s));
  ranks = zeros (states q);
  ranks_as_many = length-zeros (states q);
  ranked = record {
    units = λ s l. rw (is s) (if-units (is_goal q s));
    goals = λ s l goal. is s ∙ ap (λ (g : Bool). if g then unit else 0) goal;
    deads = λ s l dead. is s ∙ ap (λ (g : Bool). if g then unit else 0) (apart s dead);
    greatest = λ s l goal dead positive max. absurd (none s goal positive);
    least = λ s l goal dead positive min c in_range. absurd (none s goal positive);
  };
}
  where
    is : (s : ℕ) → slice_index (values_of (opening_words q)) s ≡ opening q s
    is s = values_of-at (opening_words q) s ∙ opening_words-value q s

    apart : (s : ℕ) → is_dead q s ≡ true → is_goal q s ≡ false
    apart s dead = elim (cases_Bool (is_goal q s)) [
      | inl goal ↦ absurd (true≢false (sym dead ∙ h.apart s goal))
      | inr free ↦ free
    ]

    none : (s : ℕ) → is_goal q s ≡ false → 0 < slice_index (values_of (opening_words q)) s → ⊥
    none s goal positive =
        let zero_at : slice_index (values_of (opening_words q)) s ≡ 0 =
        is s ∙ ap (λ (g : Bool). if g then unit else 0) goal in
        omega arith

-- a view that has seen the words
pub Sees-itself : (q : Query) (words : List ℕ) → AreSoundWords q words → Sees q words words
Sees-itself q words k = record { as_many = k.as_many; each = λ s. inl refl; goals = AreSoundWords-goals q words k }

-- one more word of the opening table
pub opening_words-more : (q : Query) (words : List ℕ) (s word : ℕ) → words ≡ take s (opening_words q)
    → s < length q.goals → word ≡ opening_word (is_goal q s) → words ++ word ∷ [] ≡ take (s + 1) (opening_words q)
opening_words-more q words s word so_far inside is =
    let at : get_or (opening_words q) s 0 ≡ word = opening_words-at q.goals s ∙ sym is in
    let there : s < length (opening_words q) = subst (λ n. s < n) (sym (length-map q.goals opening_word)) inside in
    (λ e. so_far e ++ sym at e ∷ []) ∙ sym (take_more (opening_words q) s 0 there)
