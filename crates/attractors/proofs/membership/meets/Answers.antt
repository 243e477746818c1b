use Rattle.std.proofs.Common.{◌≡◌, arith, sym, ap, ◌∙◌}
use Rattle.std.specs.Prelude.{slice_index_or, false}
use Rattle.std.specs.List.{list_any}
use Rattle.std.proofs.lemmas.List.{take_all}
use Rattle.std.proofs.lemmas.List.Folds.{list_any_at}
use Rattle.game_model.specs.Game.{choice_of, destinations}
use Rattle.attractors.proofs.Meeting.{meets-read, successor-within}
use Rattle.attractors.proofs.membership.meets.Goals as goal

pub bounds-set-to : goal.bounds-set-to
bounds-set-to c =
    let to : c.successors-to-items.result.now
    ≡ destinations (choice_of c.args.question.now.game c.args.state c.args.choice).edges =
    c.successors-to-items.ensures
    ∙ ap (λ g. destinations (choice_of g c.args.state c.args.choice).edges) c.game.ensures in
    omega (
      arith,
      successor-within _ _ _ c.loop-to.to-index _ c.invariant.ensures.game c.requires.state c.requires.choice to
          c.loop-to-test.true,
      c.requires.many,
    )

pub returns-then-set-to : goal.returns-then-set-to
returns-then-set-to c =
    let to : c.successors-to-items.result.now
    ≡ destinations (choice_of c.args.question.now.game c.args.state c.args.choice).edges =
    c.successors-to-items.ensures
    ∙ ap (λ g. destinations (choice_of g c.args.state c.args.choice).edges) c.game.ensures in
    sym (list_any_at (λ t. slice_index_or c.args.set.now t false) c.successors-to-items.result.now
    c.loop-to.to-index 0 c.loop-to-test.true c.if-set-to.true) ∙ meets-read c.args.set.now
    (choice_of c.args.question.now.game c.args.state c.args.choice) c.successors-to-items.result.now to

pub returns : goal.returns
returns c =
    let to : c.successors-to-items.result.now
    ≡ destinations (choice_of c.args.question.now.game c.args.state c.args.choice).edges =
    c.successors-to-items.ensures
    ∙ ap (λ g. destinations (choice_of g c.args.state c.args.choice).edges) c.game.ensures in
    sym (ap (list_any (λ t. slice_index_or c.args.set.now t false))
    (sym (take_all c.loop-to.to-index c.successors-to-items.result.now (omega (arith, c.loop-to-test.false))))
    ∙ c.loop-to.invariant) ∙ meets-read c.args.set.now
    (choice_of c.args.question.now.game c.args.state c.args.choice) c.successors-to-items.result.now to
