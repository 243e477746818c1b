use Rattle.std.proofs.Common.{◌≡◌, ◌<◌, ◌∙◌, ℕ, ap, sym, subst, arith}
use Rattle.std.specs.Prelude.{slice_index}
use Rattle.game_model.specs.Query.{states}
use Rattle.formula_reader.specs.declared.formula.Bound.{Bound}
use Rattle.formula_reader.specs.Formula.{Tree, tree_of}
use Rattle.command_words.specs.Words.{check_of}
use Rattle.rpatl_syntax.specs.Dual.{answered}
use Rattle.certificate_audit.proofs.Soundness.{sound}
use Rattle.bracket_engine.specs.BracketOfRun.{IsBracketOfRun}
use Rattle.verdicts.specs.declared.report.How.TheVariants.{Rounds}
use Rattle.reports.proofs.Limits.{plan_line, plan-units, printed-in_limits}
use Rattle.reports.proofs.Reported.{all-left_open, reported, verdict-answered, plan_verdict}
use Rattle.reports.proofs.Shown.{shown-above, shown-printable}
use Rattle.reports.proofs.reports.bracket_report.Goals as goal

pub returns-clause-report : goal.returns-clause-report
returns-clause-report g c =
    let q = c.args.posed.now.question in
    let zero = c.in_ok-bracketed.bracketed.zero in
    let found = c.in_ok-bracketed.bracketed.bracket in
    let plan = c.in_ok-plan.plan in
    let f = tree_of c.args.spelled.now in
    let bound = (answered f).bound in
    let lower = plan.lower.items in
    let upper = plan.upper.items in
    let initial = c.args.posed.now.initial.items in
    let check = check_of c.args.check.now in
    let asked = c.args.check.now.rounds in
    let P : Bound → Type 0 = λ b. IsBracketOfRun q zero b initial asked found in
    let is_found : IsBracketOfRun q zero bound initial asked found =
    subst P (ap (λ (t : Tree). t.bound) c.requires.same)
    (rw c.deref-initial.ensures.value at c.in_ok-bracketed.ensures.found) in
    let shown = c.in_ok-plan.ensures.shown in
    let lists = c.in_ok-plan.ensures.lists in
    let passes = c.in_ok-plan.ensures.passes in
    let agree : (s : ℕ) → s < states q
    → (plan_line f (Rounds found.rounds) plan s).verdict ≡ plan_verdict bound plan s = λ s within.
    let units = plan-units q plan lists passes s within in
    verdict-answered c.mirrored_verdicts_are_those_of_the_dual.ensures f c.requires.share (slice_index lower s)
    (slice_index upper s) units.0 units.1 in
    let left_open = all-left_open q zero bound initial asked found plan c.invariant.ensures
    (shown-above q zero bound initial asked check.traps found plan is_found shown) shown.below is_found.bounds
    c.requires.inside in
    reported (λ answer. answer.text.items) (λ answer. answer.status) q initial f check zero found plan (record {
      posed = c.invariant.ensures;
      inside = c.requires.inside;
      is_zero = c.in_ok-bracketed.ensures.zero;
      is_found = is_found;
      shown = shown;
      lists = lists;
      sound = sound q plan c.invariant.ensures passes;
      passes = passes;
      limits = printed-in_limits q plan initial (Rounds found.rounds) (shown-printable q zero bound initial
          asked check.traps found plan is_found shown c.invariant.ensures lists passes c.make_answer.ensures.ranks)
          (omega (arith, is_found.bounds.near.few, c.requires.in_range.few_rounds)) c.requires.inside check.plan f;
      left_open = λ i d there undecided. left_open i d there (sym (agree _ (c.requires.inside i d there)) ∙ undecided);
    }) c.make_answer.result (rw c.deref-initial.ensures.value at c.make_answer.ensures.text)
    (rw c.deref-initial.ensures.value at c.make_answer.ensures.status)
