use Rattle.std.proofs.Common.{◌≡◌, ℕ, ◌≤◌, All, List, true, ap, ◌∙◌, sym, subst}
use Rattle.std.specs.Prelude.{slice_index, ◌↔◌}
use Rattle.game_model.specs.Limits.{unit}
use Rattle.game_model.specs.Rounded.{IsSettled}
use Rattle.step_core.specs.Word.{values_of}
use Rattle.verdicts.specs.Stop.{bound_of}
use Rattle.bracket_engine.specs.inside.Sides.{IsLowerSide, IsUpperSide}
use Rattle.bracket_engine.proofs.Bracketing.{all-units-raced, quiet-over, AreUpperParts-over, IsBracket-over}
use Rattle.bracket_engine.proofs.closing.bracket_of.Goals as goal

pub is_stable-stable-requires-clause-units : goal.is_stable-stable-requires-clause-units
is_stable-stable-requires-clause-units g c =
    subst (λ (l : List ℕ). All (λ v. v ≤ unit) l) (sym c.deref.ensures.value)
    (all-units-raced c.args.made.now.ending.now.question.now c.args.raced.words c.in_ok-base.base.items
    c.args.raced.rounds c.requires.over.words (c.in_ok-base.ensures ∙ ap values_of c.as_slice-2.ensures))

pub is_stable-stable-requires-clause-swapped_units : goal.is_stable-stable-requires-clause-swapped_units
is_stable-stable-requires-clause-swapped_units g c =
    subst (λ (l : List ℕ). All (λ v. v ≤ unit) l) (sym c.deref-2.ensures.value)
    (all-units-raced c.args.swapped_question c.args.raced.swapped_words
    c.in_ok-swapped_values.swapped_values.items c.args.raced.rounds c.requires.over.swapped_words
    (c.in_ok-swapped_values.ensures ∙ ap values_of c.as_slice.ensures))

pub is_stable-stable-requires-clause-quiet : goal.is_stable-stable-requires-clause-quiet
is_stable-stable-requires-clause-quiet g c is =
    let ending = c.args.made.now.ending.now in
    let q = ending.question.now in
    let raced = c.args.raced in
    let lower : List ℕ = c.in_ok-base.base.items in
    let swapped_values : List ℕ = c.in_ok-swapped_values.swapped_values.items in
    let lower_is : lower ≡ values_of raced.words = c.in_ok-base.ensures ∙ ap values_of c.as_slice-2.ensures in
    let swapped_values_are : swapped_values ≡ values_of raced.swapped_words =
    c.in_ok-swapped_values.ensures ∙ ap values_of c.as_slice.ensures in
    let settled : IsSettled q (slice_index lower) × IsSettled c.args.swapped_question (slice_index swapped_values) =
    quiet-over q c.args.swapped_question ending.zero.now
    (bound_of ending.rule.now) ending.initial.now c.args.made.now.most raced lower swapped_values
    ending.posed c.requires.zero c.requires.swapped_question c.requires.over lower_is swapped_values_are is in (
      subst (λ (l : List ℕ). IsSettled q (slice_index l)) (sym c.deref.ensures.value) settled.0,
      subst (λ (l : List ℕ). IsSettled c.args.swapped_question (slice_index l)) (sym c.deref-2.ensures.value) settled.1,
    )

pub both_sides-requires-clause-base : goal.both_sides-requires-clause-base
both_sides-requires-clause-base g c lifetimes within =
    c.deref-3.ensures.value ∙ (c.in_ok-base.ensures ∙ ap values_of c.as_slice-2.ensures)

pub invariant_of-over-clause-units : goal.invariant_of-over-clause-units
invariant_of-over-clause-units g c =
    subst (λ (l : List ℕ). All (λ v. v ≤ unit) l) (sym c.deref-3.ensures.value)
    (all-units-raced c.args.made.now.ending.now.question.now c.args.raced.words c.in_ok-base.base.items
    c.args.raced.rounds c.requires.over.words (c.in_ok-base.ensures ∙ ap values_of c.as_slice-2.ensures))

pub both_sides-requires-clause-parts : goal.both_sides-requires-clause-parts
both_sides-requires-clause-parts g c lifetimes within =
    let ending = c.args.made.now.ending.now in
    let raced = c.args.raced in
    AreUpperParts-over ending.question.now c.args.swapped_question ending.zero.now (bound_of ending.rule.now)
    ending.initial.now c.args.made.now.most raced c.in_ok-base.base.items c.in_ok-swapped_values.swapped_values.items
    ending.posed c.requires.zero c.requires.swapped_question c.requires.over
    (c.in_ok-base.ensures ∙ ap values_of c.as_slice-2.ensures)
    (c.in_ok-swapped_values.ensures ∙ ap values_of c.as_slice.ensures)

pub returns : goal.returns
returns g c =
    let ending = c.args.made.now.ending.now in
    let q = ending.question.now in
    let swapped_question = c.args.swapped_question in
    let zero = ending.zero.now in
    let raced = c.args.raced in
    let lower : List ℕ = c.in_ok-base.base.items in
    let swapped_values : List ℕ = c.in_ok-swapped_values.swapped_values.items in
    let lower_is : lower ≡ values_of raced.words = c.in_ok-base.ensures ∙ ap values_of c.as_slice-2.ensures in
    let swapped_values_are : swapped_values ≡ values_of raced.swapped_words =
    c.in_ok-swapped_values.ensures ∙ ap values_of c.as_slice.ensures in
    let stable = c.is_stable-stable.result in
    let one : (stable ≡ true)
    ↔ (IsSettled q (slice_index lower) × IsSettled swapped_question (slice_index c.deref-2.result.now)) =
    subst (λ (l : List ℕ).
    (stable ≡ true) ↔ (IsSettled q (slice_index l) × IsSettled swapped_question (slice_index c.deref-2.result.now)))
    c.deref.ensures.value c.is_stable-stable.ensures in
    let settled : (stable ≡ true)
    ↔ (IsSettled q (slice_index lower) × IsSettled swapped_question (slice_index swapped_values)) =
    subst (λ (l : List ℕ). (stable ≡ true)
    ↔ (IsSettled q (slice_index lower) × IsSettled swapped_question (slice_index l))) c.deref-2.ensures.value one in
    let below : IsLowerSide q zero lower c.in_ok-lower.lower =
    subst (λ (l : List ℕ). IsLowerSide q zero l c.in_ok-lower.lower) c.deref-3.ensures.value
    c.in_ok-lower.ensures.lower in
    let above : IsUpperSide q zero (slice_index lower) (slice_index swapped_values) raced.kept c.in_ok-lower.upper =
    subst (λ (l : List ℕ). IsUpperSide q zero (slice_index l)
    (slice_index swapped_values) raced.kept c.in_ok-lower.upper) c.deref-3.ensures.value c.in_ok-lower.ensures.upper in
    record {
      bounds = IsBracket-over q swapped_question zero
          (bound_of ending.rule.now) ending.initial.now c.args.made.now.most raced lower swapped_values ending.posed
          c.requires.zero c.requires.swapped_question c.requires.over lower_is swapped_values_are
          c.in_ok-lower.upper.table.items stable ending.inside above.upper settled;
      lists = record {
        lower = below.lower.as_many;
        choices = below.choices.as_many;
        ranks = below.layered.as_many;
        upper = above.upper.table.many;
        replies = above.first.as_many;
      };
      passes = record {
        units = above.upper.table.units;
        inductive = above.upper.table.inductive;
        replies = above.good;
        ranked = below.ranked;
      };
      lower = below.lower;
      choices = below.choices;
      layered = below.layered;
      reached = below.reached;
      replies = above.first;
      holds = above.holds;
    }
