-- The choices of closed words.
use Rattle.std.proofs.Common.{◌≡◌, ℕ, ◌<◌, Bool, true, false, List, length, refl, sym, ap, ◌∙◌, subst, eq-eqb, ne_eqb}
use Rattle.std.proofs.Common.{arith}
use Rattle.std.specs.Prelude.{slice_index, slice_index_or, ◌==◌, ◌||◌, Option, Some, None, if◌then◌else◌}
use Rattle.std.proofs.lemmas.List.{get_or-map}
use Rattle.game_model.specs.declared.game.Side.{Side}
use Rattle.game_model.specs.declared.game.Side.TheVariants.{Max, Min}
use Rattle.game_model.specs.Query.{Query, states, is_goal, is_dead, side_at}
use Rattle.game_model.specs.Ranks.{Ranked, HasRankedChoice}
use Rattle.rank_certificate.specs.Layers.{IsRankable}
use Rattle.step_core.specs.Word.{value_in, choice_in, values_of, picks_of}
use Rattle.step_core.specs.Sound.{AreSoundWords}
use Rattle.step_core.specs.Events.{on_side}
use Rattle.step_core.proofs.Words.{values_of-at}
use Rattle.bracket_engine.specs.Choices.{choice_of_word, AreChoices}

-- the choices of the words, where a plan needs them
picks-at : (words : List ℕ) (s : ℕ) → s < length words
    → slice_index_or (picks_of words) s None ≡ Some (choice_in (slice_index words s))
picks-at words s inside = get_or-map (λ (w : ℕ). Some (choice_in w)) words s 0 None inside

module _ (q : Query) (word s : ℕ) where
  needs : is_goal q s ≡ false → is_dead q s ≡ false → side_at q s ≡ Max → 0 < value_in word
      → choice_of_word q s word ≡ Some (choice_in word)
  needs goal dead max positive =
      let test : (value_in word == 0) ≡ false = ne_eqb (value_in word) 0 (λ none. omega arith) in
      λ e. if goal e || dead e then None else on_side (max e) (if test e then None else Some (choice_in word)) None

  none-goal : is_goal q s ≡ true → choice_of_word q s word ≡ None
  none-goal goal = λ e. if goal e || is_dead q s then None
      else on_side (side_at q s) (if value_in word == 0 then None else Some (choice_in word)) None

  none-if : (b : Bool) (x : Option ℕ) → x ≡ None → (if b then None else x) ≡ None
  none-if true x none = refl
  none-if false x none = none

  none-dead : is_dead q s ≡ true → choice_of_word q s word ≡ None
  none-dead dead = (λ e. if is_goal q s || dead e then None
      else on_side (side_at q s) (if value_in word == 0 then None else Some (choice_in word)) None)
      ∙ or-none (is_goal q s) _
    where
      or-none : (goal : Bool) (x : Option ℕ) → (if goal || true then None else x) ≡ None
      or-none true x = refl
      or-none false x = refl

  none-least : side_at q s ≡ Min → choice_of_word q s word ≡ None
  none-least min = (λ e. if is_goal q s || is_dead q s then None
      else on_side (min e) (if value_in word == 0 then None else Some (choice_in word)) None)
      ∙ none-if (is_goal q s || is_dead q s) None refl

  none-zero : value_in word ≡ 0 → choice_of_word q s word ≡ None
  none-zero none =
      let test : (value_in word == 0) ≡ true = eq-eqb (value_in word) 0 none in
      (λ e. if is_goal q s || is_dead q s then None
      else on_side (side_at q s) (if test e then None else Some (choice_in word)) None)
      ∙ either-side (side_at q s) (is_goal q s || is_dead q s) None refl
    where
      either-side : (side : Side) (b : Bool) (x : Option ℕ) → x ≡ None
          → (if b then None else on_side side x None) ≡ None
      either-side Max b x none = none-if b x none
      either-side Min b x none = none-if b None refl

pub AreChoices-closed : (q : Query) (words lower : List ℕ) (choices : List (Option ℕ))
    → lower ≡ values_of words → length choices ≡ states q
    → ((s : ℕ) → s < states q → slice_index_or choices s None ≡ choice_of_word q s (slice_index words s))
    → AreChoices q lower choices
AreChoices-closed q words lower choices is many each = record {
  as_many = many;
  none_at_goals = λ s inside goal. each s inside ∙ none-goal q (slice_index words s) s goal;
  none_at_deads = λ s inside dead. each s inside ∙ none-dead q (slice_index words s) s dead;
  none_at_least = λ s inside min. each s inside ∙ none-least q (slice_index words s) s min;
  none_at_zero = λ s inside none. each s inside ∙ none-zero q (slice_index words s) s
      (sym (values_of-at words s) ∙ ap (λ (l : List ℕ). slice_index l s) (sym is) ∙ none);
}

-- the ranks of sound words go with their values and choices
pub IsRankable-closed : (q : Query) (words lower : List ℕ) (choices : List (Option ℕ))
    → AreSoundWords q words → lower ≡ values_of words
    → ((s : ℕ) → s < states q → slice_index_or choices s None ≡ choice_of_word q s (slice_index words s))
    → IsRankable q lower choices
IsRankable-closed q words lower choices sound is each =
    let ranked : Ranked q (values_of words) choices sound.ranks = record {
      units = sound.ranked.units;
      goals = sound.ranked.goals;
      deads = sound.ranked.deads;
      greatest = λ s inside goal dead positive max.
          let old : HasRankedChoice q (slice_index (values_of words)) (slice_index sound.ranks) (picks_of words) s =
          sound.ranked.greatest s inside goal dead positive max in
          let there : s < length words = subst (λ n. s < n) (sym sound.as_many) inside in
          let above : 0 < value_in (slice_index words s) = subst (λ n. 0 < n) (values_of-at words s) positive in
          record {
            choice = old.choice;
            given = each s inside ∙ needs q (slice_index words s) s goal dead max above
                ∙ sym (picks-at words s there) ∙ old.given;
            inside = old.inside;
            ranked = old.ranked;
          };
      least = sound.ranked.least;
    } in
    (sound.ranks, subst (λ (l : List ℕ). Ranked q l choices sound.ranks) (sym is) ranked)
