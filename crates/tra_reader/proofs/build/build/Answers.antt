use Rattle.std.proofs.Common.{◌∙◌, ◌<◌, List, Result, sym, ap, subst}
use Rattle.std.specs.List.{All}
use Rattle.game_model.specs.Game.{Distribution}
use Rattle.transition_lines.specs.Limits.{most_stated_choices}
use Rattle.transition_lines.specs.declared.line.Transition.{Transition}
use Rattle.transition_lines.specs.declared.fault.TraFault.{TraFault}
use Rattle.game_outside.specs.Answers.{AnswersOrWants}
use Rattle.transition_lines.specs.Faults.{IsOutOfMemory}
use Rattle.transition_lines.specs.Choices.{transitions_game}
use Rattle.transition_lines.specs.Order.{IsWithin}
use Rattle.tra_reader.proofs.Sorted.{same_transitions}
use Rattle.transition_lines.proofs.Ends.{AreSmall}
use Rattle.std.proofs.lemmas.List.Elements.{All-weaker}
use Rattle.transition_lines.proofs.Alike.{game_alike}
use Rattle.tra_reader.proofs.build.build.Goals as goal

pub returns : goal.returns
returns c =
    let n = c.args.header.now.states in
    let ordered = c.put_in_order.new.transitions.items in
    let small : (ts : List Transition) → All (IsWithin n) ts → AreSmall ts =
    λ ts within. All-weaker (IsWithin n) (λ t. t.choice < most_stated_choices) (λ t w. w.choice_in) ts within in
    let same = same_transitions ordered c.args.transitions.items
    (small ordered (c.in_ok-put_in_order.ensures.within n c.requires.within))
    (small c.args.transitions.items c.requires.within) c.in_ok-put_in_order.ensures.same in
    let P : Result (List (List Distribution)) TraFault → Type 0 =
    λ said. AnswersOrWants IsOutOfMemory (λ (g : List (List Distribution)). g) c.build_in_order.result said in
    subst P (ap (λ (ts : List Transition). transitions_game ts n c.args.header.now.choices) c.deref.ensures.value
    ∙ game_alike ordered c.args.transitions.items n c.args.header.now.choices same) c.build_in_order.ensures

pub build_in_order-requires-clause-within : goal.build_in_order-requires-clause-within
build_in_order-requires-clause-within c =
    let P : List Transition → Type 0 = λ ts. All (IsWithin c.args.header.now.states) ts in
    subst P (sym c.deref.ensures.value) (c.in_ok-put_in_order.ensures.within c.args.header.now.states c.requires.within)
