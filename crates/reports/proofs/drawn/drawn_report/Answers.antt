use Rattle.std.proofs.Common.{◌≡◌, ◌∙◌, ap, arith}
use Rattle.drawn_game.specs.Asked.{question_of}
use Rattle.reports.specs.Made.{drawn_question}
use Rattle.reports.proofs.DrawnReports.{made, sum-fits}
use Rattle.reports.proofs.drawn.drawn_report.Goals as goal

pub returns-clause-made : goal.returns-clause-made
returns-clause-made g c =
    let make = c.args.make.now in
    let same : c.in_ok-question.question ≡ drawn_question make.seed make.states =
    c.in_ok-question.ensures ∙ ap question_of c.in_ok-drawn.ensures.exact in
    made (λ answer. answer.text.items) (λ answer. answer.status) make.seed make.states make.rounds
    c.in_ok-question.question c.in_ok-found.found.zero c.in_ok-found.found.bracket same c.in_ok-found.ensures.zero
    c.in_ok-found.ensures.found c.write_summary.result c.write_summary.ensures.text c.write_summary.ensures.status

pub write_summary-requires : goal.write_summary-requires
write_summary-requires g c =
    let found = c.in_ok-found.ensures.found in
    let few = c.invariant-2.ensures.game.few in
    let plan = c.in_ok-found.found.bracket.plan in
    record {
      fits = (
        sum-fits plan.lower.items (omega (arith, found.lists.lower, few)) found.lower.units,
        sum-fits plan.upper.items (omega (arith, found.lists.upper, few)) found.passes.units,
      );
    }
