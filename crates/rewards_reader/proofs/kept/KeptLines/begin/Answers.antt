use Rattle.std.proofs.Common.{◌+◌, ◌∙◌, None, ap, length, rules}
use Rattle.std.proofs.lemmas.List.{length-replicate}
use Rattle.game_model.specs.Game.{choices_below}
use Rattle.rewards_reader.proofs.Entries.{AreAmounts-none}
use Rattle.rewards_reader.proofs.kept.KeptLines.begin.Goals as goal

pub invariant_of-result : goal.invariant_of-result
invariant_of-result c =
    let places = choices_below c.args.game.now (length c.args.game.now) + length c.args.game.now in
    record {
      many = ap length c.in-Ok-no_rewards.ensures ∙ length-replicate places None;
      few = search rules;
      within = search rules;
      amounts = AreAmounts-none c.in-Ok-no_rewards.entries.items places c.in-Ok-no_rewards.ensures;
    }
