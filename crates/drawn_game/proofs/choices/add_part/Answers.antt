use Rattle.std.proofs.Common.{◌∙◌, ◌++◌, List, sym, ap, take, drop, arith}
use Rattle.game_model.specs.declared.game.Edge.{Edge}
use Rattle.drawn_game.specs.inside.Adding.{with_part}
use Rattle.drawn_game.proofs.Adding.{set_added}
use Rattle.drawn_game.proofs.choices.add_part.Goals as goal

pub returns-then-part-edge-2 : goal.returns-then-part-edge-2
returns-then-part-edge-2 c =
    let at = c.loop-place.invariant in
    set_added c.loop-place.edges.items c.loop-place.place c.index-edge.result.now c.index_mut.result.now c.args.part
    (omega arith) c.index-edge.ensures c.index_mut.ensures.value c.if-part-edge-2.true
    ∙ ap (λ (es : List Edge). take c.loop-place.place es ++ with_part (drop c.loop-place.place es) c.args.part) at.same
    ∙ sym at.behind
