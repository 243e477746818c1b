use Rattle.std.proofs.Common.{◌≡◌, ◌∙◌, sym}
use Rattle.formula_reader.specs.Formula.{tree_of}
use Rattle.reports.proofs.NestedReports.{answered-nested}
use Rattle.reports.proofs.nested.nested_report.Goals as goal

pub returns-clause-report : goal.returns-clause-report
returns-clause-report g c =
    let loaded = c.args.loaded.now in
    let found = c.in-Ok.found in
    let e = c.in-Ok.ensures in
    let k = c.known_numbers.ensures in
    let posed = sym e.posed ∙ c.requires.answerable.named in
    let same : found.initial.items ≡ c.args.initial.now = cc (posed) in
    answered-nested (record { game = loaded.game; labels = loaded.labels; owners = loaded.owners })
    (tree_of loaded.formula) c.args.way found
    (record {
      game = c.invariant.ensures;
      count = k.how;
      inner = k.inner;
      undecided = k.undecided;
      inside = e.inside;
      lowers = e.many.0;
      uppers = e.many.1;
      lower_units = e.units.0;
      upper_units = e.units.1;
    }) c.args.initial.now c.written.result e.nested same c.written.ensures.text c.written.ensures.status
