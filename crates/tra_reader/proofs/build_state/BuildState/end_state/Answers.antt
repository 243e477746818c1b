use Rattle.std.proofs.Common.{rules, ◌<◌}
use Rattle.game_model.specs.Limits.{most_choices}
use Rattle.tra_reader.proofs.build_state.BuildState.end_state.Goals as goal

pub returns-then-choices-gt-MOST_CHOICES : goal.returns-then-choices-gt-MOST_CHOICES
returns-then-choices-gt-MOST_CHOICES c =
    let many : most_choices < c.args.choices = search rules in
    c.note_crowded.ensures c.args.choices many
