use Rattle.std.proofs.Common.{refl}
use Rattle.reward_check.specs.Certificates.{said}
use Rattle.reward_units.specs.Rounded.{exact_in}
use Rattle.reward_units.specs.Exact.{AreRounded}
use Rattle.reward_reports.specs.Reports.{IsRewardCertificate}
use Rattle.reward_reports.proofs.Reported.{rounded, have-values, reported}
use Rattle.reward_reports.proofs.report.reward_report_of.Goals as goal

pub returns-clause-report : goal.returns-clause-report
returns-clause-report c =
    let tables = c.args.tables.now in
    let q = tables.question.now in
    let exact = exact_in q.game c.args.rewards.now in
    let places = c.args.places in
    let both_ways : AreRounded (said tables) exact places =
    rounded tables exact places c.requires.low c.requires.high in
    let certificate : IsRewardCertificate q exact places (said tables) = record {
      posed = tables.posed;
      same = refl;
      fine = c.requires.places;
      values = have-values tables;
      rounded = both_ways;
      accepted = c.requires.accepted;
      sound = record {
        exists = c.rewards_of_a_file_have_a_denominator.ensures q c.args.rewards.now c.invariant.ensures;
        each = λ den whole paid. c.accepted_bounds_are_exact.ensures (said tables) exact places den whole
            tables.posed tables.alive tables.many_bounded paid both_ways (have-values tables) c.requires.accepted;
      };
    } in
    reported (λ answer. answer.text.items) (λ answer. answer.status) q exact c.args.initial.now c.args.bound.now
    c.args.how places (said tables) certificate
    (c.accepted_bounds_are_in_order.ensures (said tables) exact places tables.posed tables.alive tables.many_bounded
    both_ways (have-values tables) c.requires.accepted) c.requires.inside c.known_count.ensures
    c.reward_verdicts_are_right.ensures c.undecided_rewards_are_left_open.ensures c.report_rewards.result
    c.report_rewards.ensures.text c.report_rewards.ensures.status
