use Rattle.std.proofs.Common.{◌∙◌, List, Bool, length, ap}
use Rattle.std.proofs.lemmas.List.FromFn.{length-map-range_with_len}
use Rattle.drawn_game.proofs.drawn.Drawn.question.Goals as goal

pub build-requires-clause-goal : goal.build-requires-clause-goal
build-requires-clause-goal c =
    let n = c.states-states.result in
    ap (λ (ms : List Bool). length ms) c.in_ok-goals.ensures ∙ length-map-range_with_len _ 0 n ∙ c.states-states.ensures
