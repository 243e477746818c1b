use Rattle.std.proofs.Common.{◌∙◌, ◌++◌, [], List, ℕ, Bool, ap, sym, append_assoc}
use Rattle.std.specs.Prelude.{if◌then◌else◌}
use Rattle.reports.specs.Sure.{is_marked, state_line}
use Rattle.reports.proofs.SureLines.{lines_before, lines-more}
use Rattle.reports.proofs.sure.append_marked.Goals as goal

pub loop-state-preserved : goal.loop-state-preserved
loop-state-preserved c =
    let marks : List Bool = c.args.marks.now in
    let s : ℕ = c.loop-state.state in
    let line : List ℕ = (if is_marked marks s then state_line s else []) in
    let text : List ℕ = c.args.text.now.items in
    c.in_ok-append_if_marked.ensures ∙ ap (λ t. t ++ line) c.loop-state.invariant
    ∙ append_assoc text (lines_before marks s) line ∙ ap (λ ls. text ++ ls) (sym (lines-more marks s))
