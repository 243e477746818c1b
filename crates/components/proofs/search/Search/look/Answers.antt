use Rattle.std.proofs.Common.{◌≡◌, ◌<◌, length, arith, ap, ◌∙◌}
use Rattle.game_model.specs.Game.{choice_of, destinations}
use Rattle.predecessors.proofs.Counts.{successor-inside}
use Rattle.components.proofs.search.Search.look.Goals as goal

pub follow-requires-clause-inside : goal.follow-requires-clause-inside
follow-requires-clause-inside g c =
    let to : c.successors-successors.result.now
    ≡ destinations (choice_of c.args.question.now.game c.args.state c.args.seen.choice).edges =
    c.successors-successors.ensures
    ∙ ap (λ game. destinations (choice_of game c.args.state c.args.seen.choice).edges) c.game.ensures in
    let state : c.args.state < length c.args.question.now.game = omega (arith, c.requires.state, c.requires.one) in
    λ k less.
    omega (arith, successor-inside _ _ _ k _ to c.invariant.ensures.game state c.requires.choice less, c.requires.one)

pub enter-requires : goal.enter-requires
enter-requires g c =
    let to : c.successors-successors.result.now
    ≡ destinations (choice_of c.args.question.now.game c.args.state c.args.seen.choice).edges =
    c.successors-successors.ensures
    ∙ ap (λ game. destinations (choice_of game c.args.state c.args.seen.choice).edges) c.game.ensures in
    let state : c.args.state < length c.args.question.now.game = omega (arith, c.requires.state, c.requires.one) in
    omega (
      arith,
      successor-inside _ _ _ c.in-Some.place _ to c.invariant.ensures.game state c.requires.choice
          c.in-Some.ensures.place,
      c.requires.one,
      c.follow.ensures.same,
    )
