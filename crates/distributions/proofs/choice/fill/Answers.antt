use Rattle.std.proofs.Common.{◌≡◌, ◌∙◌, ◌*◌, ℕ, List, length, sym, ap, subst, arith, Result}
use Rattle.std.proofs.lemmas.List.{length-map}
use Rattle.game_outside.specs.Answers.{AnswersOrWants}
use Rattle.game_model.specs.declared.game.Edge.{Edge}
use Rattle.game_model.specs.Game.{Distribution, total_of}
use Rattle.distributions.specs.declared.choice.ChoiceFault.{ChoiceFault}
use Rattle.fractions.specs.Limits.{finest, most_value}
use Rattle.distributions.specs.Parts.{edge_of_part, choice_over, choice_said, gathered, sum_said, weighted, with_total}
use Rattle.distributions.specs.Parts.{IsOutOfMemory}
use Rattle.distributions.proofs.Multiples.{denominator-is}
use Rattle.distributions.proofs.Gathering.{total-le}
use Rattle.distributions.proofs.choice.fill.Goals as goal

pub weigh-requires-clause-divided : goal.weigh-requires-clause-divided
weigh-requires-clause-divided c =
    (denominator-is c.args.parts.now c.in-Ok.common c.shares_are_fractions.ensures (sym c.in-Ok.ensures.value)).multiple

pub gather-requires : goal.gather-requires
gather-requires c =
    let count : length c.weigh.new.edges.items ≡ length c.args.parts.now =
    ap (λ (es : List Edge). length es) c.in-Ok-weigh.ensures.value
    ∙ length-map c.args.parts.now (edge_of_part c.in-Ok.common) in
    omega (arith, total-le c.weigh.new.edges.items (most_value * finest) c.in-Ok-weigh.ensures.small, count, c.requires)

pub near_total-requires-clause-small : goal.near_total-requires-clause-small
near_total-requires-clause-small c =
    let count : length c.weigh.new.edges.items ≡ length c.args.parts.now =
    ap (λ (es : List Edge). length es) c.in-Ok-weigh.ensures.value
    ∙ length-map c.args.parts.now (edge_of_part c.in-Ok.common) in
    omega (
      arith,
      total-le c.weigh.new.edges.items (most_value * finest) c.in-Ok-weigh.ensures.small,
      count,
      c.requires,
      c.in-Ok-gather.ensures.total,
      ap (λ es. total_of es) c.deref.ensures.value,
    )

pub returns-clause-said : goal.returns-clause-said
returns-clause-said c =
    let common : ℕ = c.in-Ok.common in
    let edges : List Edge = c.gather.new.edges.items in
    let is : edges ≡ gathered (weighted common c.args.parts.now) =
    c.in-Ok-gather.ensures.value ∙ ap gathered c.in-Ok-weigh.ensures.value in
    let said : choice_said c.args.parts.now ≡ sum_said common edges =
    ap (λ r. choice_over r c.args.parts.now) (sym c.in-Ok.ensures.value) ∙ ap (λ es. sum_said common es) (sym is) in
    let P : List Edge → Type 0 =
    λ es. AnswersOrWants {X = ℕ} IsOutOfMemory (with_total es) c.near_total.result (sum_said common es) in
    let Q : Result Distribution ChoiceFault → Type 0 =
    λ r. AnswersOrWants {X = ℕ} IsOutOfMemory (with_total edges) c.near_total.result r in
    subst Q (sym said) (subst P c.deref.ensures.value c.near_total.ensures.said)
