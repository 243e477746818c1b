use Rattle.std.proofs.Common.{length, rules}
use Rattle.plan_text.specs.declared.plan.Plan.{Plan}
use Rattle.plan_text.proofs.Plans.{IsPushed, entries_of-push}
use Rattle.plan_text.proofs.plan.Plan.push.Goals as goal

pub returns-clause-entries : goal.returns-clause-entries
returns-clause-entries c =
    let old = c.args.self.now in
    let new : Plan = record {
      lower = c.push.new.self;
      choices = c.push-2.new.self;
      ranks = c.push-3.new.self;
      upper = c.push-4.new.self;
      replies = c.push-5.new.self;
    } in
    let pushed : IsPushed old new c.args.entry = record {
      lower = search rules;
      choices = search rules;
      ranks = search rules;
      upper = search rules;
      replies = search rules;
    } in
    entries_of-push old new c.args.entry (length old.lower.items) c.requires.lists pushed
