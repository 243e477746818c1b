use Rattle.std.proofs.Common.{◌≡◌, ◌<◌, ◌∙◌, ap, sym, length, get_or, [], List, Bool, arith, rules}
use Rattle.std.proofs.lemmas.List.{get_or_default, get_or_past}
use Rattle.label_lines.specs.Labels.{marks_of}
use Rattle.label_lines.proofs.NamedMarks.{marks_of-labels_named, place_named, placed, not_placed, past_sets}
use Rattle.label_reader.proofs.labels.Labels.marks.Goals as goal

pub returns-in-Some-clause-marks : goal.returns-in-Some-clause-marks
returns-in-Some-clause-marks c =
    let entries = c.self.inside.names.entries in
    let sets = c.self.inside.sets.items in
    let place : place_named entries c.args.name.now ≡ c.in-Some.place =
    (placed _ _ _ (sym c.get_index_of.ensures.index ∙ c.in-Some.is)).1 in
    let within : c.in-Some.place < length sets = search rules in
    c.marks.ensures ∙ c.index.ensures ∙ get_or_default sets c.in-Some.place c.index.result.now [] within
    ∙ ap (λ k. get_or sets k []) (sym place)
    ∙ sym (marks_of-labels_named entries sets c.args.name.now c.self.invariant.count)
    ∙ ap (λ l. marks_of l.labels c.args.name.now) c.self.view_is

pub returns-in-Some-clause-short : goal.returns-in-Some-clause-short
returns-in-Some-clause-short c =
    let sets = c.self.inside.sets.items in
    let within : c.in-Some.place < length sets = search rules in
    omega (
      arith,
      c.self.invariant.small,
      c.self.invariant.lengths c.in-Some.place c.index.result.now within,
      ap (λ (t : List Bool). length t) (c.marks.ensures ∙ c.index.ensures),
    )

pub returns-in-None-clause-marks : goal.returns-in-None-clause-marks
returns-in-None-clause-marks c =
    let entries = c.self.inside.names.entries in
    let sets = c.self.inside.sets.items in
    let past = past_sets entries sets c.args.name.now c.self.invariant.count
    (not_placed _ _ (sym c.get_index_of.ensures.index ∙ c.in-None.is)) in
    sym (marks_of-labels_named entries sets c.args.name.now c.self.invariant.count
    ∙ get_or_past sets (place_named entries c.args.name.now) [] past)
    ∙ ap (λ l. marks_of l.labels c.args.name.now) c.self.view_is
