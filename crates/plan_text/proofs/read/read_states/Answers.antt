use Rattle.std.proofs.Common.{◌∙◌, ◌+◌, sym, ap, inr, arith, rules}
use Rattle.std.proofs.lemmas.Result.{err_from_is_err_and}
use Rattle.text_lines.specs.Text.{lines_of, significant}
use Rattle.plan_text.specs.Entries.{Entry, entries_of}
use Rattle.plan_text.specs.Said.{line_said, entries_from}
use Rattle.plan_text.proofs.Plans.{length-entries_of}
use Rattle.plan_text.proofs.StateLines.{entries_from-more, entries_from-fault, entries_from-end, all_read}
use Rattle.plan_text.proofs.read.read_states.Goals as goal

pub returns-in_err-entry-clause-said : goal.returns-in_err-entry-clause-said
returns-in_err-entry-clause-said c =
    let at = c.loop-state.invariant in
    let before = entries_of c.loop-state.plan in
    let count = length-entries_of c.loop-state.plan c.loop-state.state at.lists in
    let lines = significant (lines_of c.loop-state.rest.now) in
    let fault = entries_from-fault Entry (line_said c.args.version) c.args.states before c.loop-state.state count
    (omega arith) c.loop-state.number lines c.in_err-entry.field-0.0 c.in_err-entry.ensures.said in
    let answer = err_from_is_err_and c.from_residual.result c.from_residual.ensures.1 in
    rw (answer.1, answer.2) (inr (sym at.said ∙ fault))

pub loop-state-preserved : goal.loop-state-preserved
loop-state-preserved c =
    let at = c.loop-state.invariant in
    let before = entries_of c.loop-state.plan in
    let count = length-entries_of c.loop-state.plan c.loop-state.state at.lists in
    let lines = significant (lines_of c.loop-state.rest.now) in
    let rest = significant (lines_of c.in_ok-entry.after.now) in
    let more = entries_from-more Entry (line_said c.args.version) c.args.states before c.loop-state.state count
    (omega arith) c.loop-state.number lines rest c.in_ok-entry.entry c.in_ok-entry.ensures.said in
    record {
      lists = search rules;
      said = ap (λ entries. entries_from c.args.version c.args.states entries (c.loop-state.number + 1) rest)
          c.in-Ok-push.ensures.entries ∙ sym more ∙ at.said;
      number = omega (arith, at.number, c.in_ok-entry.ensures.shorter);
    }

pub returns-in_err-check_end-clause-said : goal.returns-in_err-check_end-clause-said
returns-in_err-check_end-clause-said c =
    let at = c.loop-state.invariant in
    let before = entries_of c.loop-state.plan in
    let count = length-entries_of c.loop-state.plan c.loop-state.state at.lists in
    let end = entries_from-end Entry (line_said c.args.version) c.args.states before (omega (arith, count))
    c.loop-state.number (lines_of c.loop-state.rest.now) in
    let answer =
    err_from_is_err_and c.from_residual-in_err-check_end.result c.from_residual-in_err-check_end.ensures.1 in
    rw (answer.1, answer.2) (inr (sym at.said ∙ end ∙ ap (all_read before) (sym c.in_err-check_end.ensures)))

pub returns-clause-said : goal.returns-clause-said
returns-clause-said c =
    let at = c.loop-state.invariant in
    let before = entries_of c.loop-state.plan in
    let count = length-entries_of c.loop-state.plan c.loop-state.state at.lists in
    let end = entries_from-end Entry (line_said c.args.version) c.args.states before (omega (arith, count))
    c.loop-state.number (lines_of c.loop-state.rest.now) in
    sym at.said ∙ end ∙ ap (all_read before) (sym c.in_ok-check_end.ensures)
