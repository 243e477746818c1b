use Rattle.std.proofs.Common.{◌∙◌, Some, rules}
use Rattle.std.proofs.Common.{length-set}
use Rattle.rewards_reader.proofs.Entries.{AreAmounts-set}
use Rattle.rewards_reader.proofs.kept.KeptLines.put.Goals as goal

pub invariant_of-self : goal.invariant_of-self
invariant_of-self c =
    let self = c.args.self.now in
    let reward = c.args.line.now.reward in
    record {
      many = length-set self.entries.items c.place_of-place.result (Some reward) ∙ self.many;
      few = search rules;
      within = search rules;
      amounts = AreAmounts-set self.entries.items c.place_of-place.result reward c.invariant.ensures self.amounts;
    }
