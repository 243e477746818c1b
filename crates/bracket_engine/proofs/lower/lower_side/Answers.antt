use Rattle.std.proofs.Common.{◌≡◌, ℕ, ◌<◌, List, Option, sym, subst, slice_index}
use Rattle.std.specs.Prelude.{slice_index_or, None}
use Rattle.game_model.specs.Query.{states}
use Rattle.game_model.specs.Ranks.{ReachesUnder}
use Rattle.rank_certificate.specs.Layers.{IsRankable}
use Rattle.lower_guess.specs.LowerGuess.{IsLowerGuess}
use Rattle.bracket_engine.specs.Choices.{choice_of_word}
use Rattle.bracket_engine.proofs.ClosedChoices.{AreChoices-closed, IsRankable-closed}
use Rattle.bracket_engine.proofs.Guessed.{all-units-ranked, AreChoices-guessed, AreLayered-guessed}
use Rattle.bracket_engine.proofs.lower.lower_side.Goals as goal

pub lower_guess_over-requires-clause-rankable : goal.lower_guess_over-requires-clause-rankable
lower_guess_over-requires-clause-rankable c =
    let q = c.args.base.now.question.now in
    let given : List (Option ℕ) = c.in_ok-choices.choices.items in
    let named : (s : ℕ) → s < states q → slice_index_or given s None ≡ choice_of_word q s (slice_index c.args.words s) =
    subst (λ (l : List ℕ). (s : ℕ) → s < states q → slice_index_or given s None ≡ choice_of_word q s (slice_index l s))
    c.as_slice.ensures c.in_ok-choices.ensures.choices in
    subst (λ (l : List (Option ℕ)). IsRankable q c.args.base.now.values.now l) (sym c.deref.ensures.value)
    (IsRankable-closed q c.args.words c.args.base.now.values.now given c.requires.sound c.requires.base named)

pub returns : goal.returns
returns c =
    let q = c.args.base.now.question.now in
    let base : List ℕ = c.args.base.now.values.now in
    let given : List (Option ℕ) = c.in_ok-choices.choices.items in
    let guess = c.in_ok-guess.guess in
    let values : List ℕ = guess.values.items in
    let choices : List (Option ℕ) = guess.plan.choices.items in
    let named : (s : ℕ) → s < states q → slice_index_or given s None ≡ choice_of_word q s (slice_index c.args.words s) =
    subst (λ (l : List ℕ). (s : ℕ) → s < states q → slice_index_or given s None ≡ choice_of_word q s (slice_index l s))
    c.as_slice.ensures c.in_ok-choices.ensures.choices in
    let is : IsLowerGuess q c.args.base.now.zero.now base given values choices guess.plan.ranks.items =
    subst (λ (l : List (Option ℕ)). IsLowerGuess q c.args.base.now.zero.now base l values choices
    guess.plan.ranks.items) c.deref.ensures.value c.in_ok-guess.ensures.guess in
    record {
      lower = record {
        as_many = c.in_ok-guess.ensures.length;
        units = all-units-ranked q values choices guess.plan.ranks.items c.in_ok-guess.ensures.length
            c.in_ok-guess.ensures.ranked;
        near = c.in_ok-guess.ensures.near;
        above = c.in_ok-guess.ensures.above;
        given = given;
        guess = is;
      };
      choices = AreChoices-guessed q c.args.base.now.zero.now base values given choices guess.plan.ranks.items is
          (AreChoices-closed q c.args.words base given c.requires.base c.in_ok-choices.ensures.as_many named);
      ranked = c.in_ok-guess.ensures.ranked;
      layered = AreLayered-guessed q c.args.base.now.zero.now base values given choices guess.plan.ranks.items
          c.args.base.now.posed is;
      reached = subst (λ (l : List ℕ). ReachesUnder q choices (slice_index l)) c.deref-2.ensures.value
          (subst (λ (l : List (Option ℕ)). ReachesUnder q l (slice_index c.deref-2.result.now))
          c.deref-3.ensures.value c.ranks_reach.ensures);
    }
