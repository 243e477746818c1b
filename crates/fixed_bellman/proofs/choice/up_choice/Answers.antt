use Rattle.std.proofs.Common.{◌≡◌, ◌<◌, List, ap, ◌∙◌}
use Rattle.std.specs.Prelude.{slice_index}
use Rattle.game_model.specs.Game.{Distribution, choice_of, choice_among}
use Rattle.game_model.specs.Values.{weighted_sum}
use Rattle.game_model.specs.Rounded.{up_value}
use Rattle.game_model.proofs.Rising.{total-pos}
use Rattle.fixed_bellman.proofs.Rounds.{up-above, up-least}
use Rattle.fixed_bellman.proofs.choice.up_choice.Goals as goal

pub returns : goal.returns
returns c =
    let m = choice_of c.args.question.now.game c.args.state c.args.choice in
    let sum = weighted_sum (slice_index c.args.table.now) m.edges in
    let positive : 0 < m.total =
    total-pos m (c.invariant.ensures.game.distribution c.args.state c.args.choice c.requires.state c.requires.choice) in
    let is : c.up.result ≡ up_value (slice_index c.args.table.now) m = c.up.ensures.value
    ∙ c.table_quotient.ensures.up ∙ ap (λ (ms : List Distribution). up_value (slice_index c.args.table.now)
    (choice_among ms c.args.choice)) c.row.ensures in record {
      value = is;
      units = c.up.ensures.units;
      above = up-above sum m.total c.up.result positive is;
      least = up-least sum m.total c.up.result positive is;
    }
