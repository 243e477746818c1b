use Rattle.std.proofs.Common.{◌≡◌, ◌≤◌, List, length, get_or, arith, ap, subst, ◌∙◌}
use Rattle.std.specs.Prelude.{slice_index}
use Rattle.std.proofs.lemmas.List.{get_or-map, length-map}
use Rattle.game_model.specs.declared.game.Edge.{Edge}
use Rattle.game_model.specs.Game.{no_edge, choice_of, destinations, edge_of}
use Rattle.predecessors.proofs.Counts.{successor-inside}
use Rattle.components.proofs.order.leads_back.Goals as goal

pub bounds-component-to : goal.bounds-component-to
bounds-component-to c =
    let q = c.args.question.now in
    let to : c.successors-to-items.result.now ≡ destinations (choice_of q.game c.args.state c.args.choice).edges =
    c.successors-to-items.ensures
    ∙ ap (λ game. destinations (choice_of game c.args.state c.args.choice).edges) c.game.ensures in
    omega (
      arith,
      c.requires.many,
      successor-inside q.game c.args.state c.args.choice _ _ to c.invariant.ensures.game c.requires.state
          c.requires.choice c.loop-to-test.true,
    )

pub returns : goal.returns
returns c =
    let q = c.args.question.now in
    let edges : List Edge = (choice_of q.game c.args.state c.args.choice).edges in
    let to : c.successors-to-items.result.now ≡ destinations edges =
    c.successors-to-items.ensures
    ∙ ap (λ game. destinations (choice_of game c.args.state c.args.choice).edges) c.game.ensures in
    λ holds place less.
    let at : get_or c.successors-to-items.result.now place 0
    ≡ (edge_of q.game c.args.state c.args.choice place).to =
    ap (λ l. get_or l place 0) to ∙ get_or-map (λ (e : Edge). e.to) edges place no_edge 0 less in
    subst (λ t. slice_index c.args.component.now t ≤ slice_index c.args.component.now c.args.state) at
    (c.loop-to.invariant place (omega (
      arith,
      less,
      ap length to,
      length-map edges (λ (e : Edge). e.to),
      c.loop-to-test.false,
    )))
