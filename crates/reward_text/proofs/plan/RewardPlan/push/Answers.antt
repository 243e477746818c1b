use Rattle.std.proofs.Common.{length, rules}
use Rattle.reward_text.specs.declared.plan.RewardPlan.{RewardPlan}
use Rattle.reward_text.proofs.Plans.{IsPushed, entries_of-push, zeros-push}
use Rattle.reward_text.proofs.plan.RewardPlan.push.Goals as goal

pub returns-clause-entries : goal.returns-clause-entries
returns-clause-entries c =
    let old = c.args.self.now in
    let new : RewardPlan = record {
      places = old.places;
      finite = c.push.new.self;
      lower = c.push-2.new.self;
      choices = c.push-3.new.self;
      ranks = c.push-4.new.self;
      bounded = c.push-5.new.self;
      upper = c.push-6.new.self;
      replies = c.push-7.new.self;
    } in
    let pushed : IsPushed old new c.args.entry = record {
      finite = search rules;
      lower = search rules;
      choices = search rules;
      ranks = search rules;
      bounded = search rules;
      upper = search rules;
      replies = search rules;
    } in
    entries_of-push old new c.args.entry (length old.lower.items) c.requires.lists pushed

pub returns-clause-units : goal.returns-clause-units
returns-clause-units c =
    let old = c.args.self.now in
    let entry = c.args.entry in
    let lists = c.requires.lists in
    let units = c.requires.units in
    let n = length old.lower.items in
    record {
      lower = search (rules, units.lower);
      upper = search (rules, units.upper);
      no_lower = zeros-push old.finite.items c.push.new.self.items old.lower.items c.push-2.new.self.items entry.lower n
          lists.finite lists.lower units.no_lower (search rules) (search rules);
      no_upper = zeros-push old.bounded.items c.push-5.new.self.items old.upper.items c.push-6.new.self.items
          entry.upper n lists.bounded lists.upper units.no_upper (search rules) (search rules);
    }
