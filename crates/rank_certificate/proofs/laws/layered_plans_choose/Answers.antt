use Rattle.rank_certificate.proofs.Layered.{none-at-goals, none-at-deads, none-at-least, none-at-zero}
use Rattle.rank_certificate.proofs.laws.layered_plans_choose.Goals as goal

pub returns-clause-none_at_goals : goal.returns-clause-none_at_goals
returns-clause-none_at_goals c =
    none-at-goals c.args.question.now c.args.values.now c.args.choices.now c.args.ranks.now c.requires

pub returns-clause-none_at_deads : goal.returns-clause-none_at_deads
returns-clause-none_at_deads c =
    none-at-deads c.args.question.now c.args.values.now c.args.choices.now c.args.ranks.now c.requires

pub returns-clause-none_at_least : goal.returns-clause-none_at_least
returns-clause-none_at_least c =
    none-at-least c.args.question.now c.args.values.now c.args.choices.now c.args.ranks.now c.requires

pub returns-clause-none_at_zero : goal.returns-clause-none_at_zero
returns-clause-none_at_zero c =
    none-at-zero c.args.question.now c.args.values.now c.args.choices.now c.args.ranks.now c.requires
