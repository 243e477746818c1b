use Rattle.std.proofs.Common.{sym, false}
use Rattle.label_lines.specs.Labels.{holds_at}
use Rattle.nested_truth.proofs.Tables.{filled-length, filled-at}
use Rattle.nested_truth.proofs.known_sets.KnownSets.of_label.Goals as goal

pub returns-clause-states : goal.returns-clause-states
returns-clause-states c = filled-length (holds_at c.args.labels.now c.args.name.now) c.args.states
    c.in_ok-sure.sure.items c.in_ok-sure.ensures

pub returns-clause-known : goal.returns-clause-known
returns-clause-known c =
    let holds = holds_at c.args.labels.now c.args.name.now in
    record {
      sure = λ s l. sym (filled-at holds c.args.states c.in_ok-sure.sure.items c.in_ok-sure.ensures false s l);
      possible =
          λ s l. sym (filled-at holds c.args.states c.in_ok-possible.possible.items c.in_ok-possible.ensures false s l);
    }
