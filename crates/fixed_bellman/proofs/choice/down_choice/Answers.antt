use Rattle.std.proofs.Common.{◌≡◌, ◌<◌, List, ap, ◌∙◌}
use Rattle.std.specs.Prelude.{slice_index}
use Rattle.game_model.specs.Game.{Distribution, choice_of, choice_among}
use Rattle.game_model.specs.Values.{weighted_sum}
use Rattle.game_model.specs.Rounded.{down_value}
use Rattle.game_model.proofs.Rising.{total-pos}
use Rattle.fixed_bellman.proofs.Rounds.{down-below, down-greatest}
use Rattle.fixed_bellman.proofs.choice.down_choice.Goals as goal

pub returns : goal.returns
returns c =
    let m = choice_of c.args.question.now.game c.args.state c.args.choice in
    let sum = weighted_sum (slice_index c.args.table.now) m.edges in
    let positive : 0 < m.total =
    total-pos m (c.invariant.ensures.game.distribution c.args.state c.args.choice c.requires.state c.requires.choice) in
    let is : c.down.result ≡ down_value (slice_index c.args.table.now) m = c.down.ensures.value
    ∙ c.table_quotient.ensures.down ∙ ap (λ (ms : List Distribution). down_value (slice_index c.args.table.now)
    (choice_among ms c.args.choice)) c.row.ensures in record {
      value = is;
      units = c.down.ensures.units;
      below = down-below sum m.total c.down.result positive is;
      greatest = down-greatest sum m.total c.down.result positive is;
    }
