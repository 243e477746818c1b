use Rattle.std.proofs.Common.{◌≡◌, ◌++◌, ◌∷◌, [], List, Bool, length, take, drop, All, sym, ap, subst, ◌∙◌, arith}
use Rattle.text_lines.specs.Text.{fields_of}
use Rattle.label_lines.specs.declared.kind.FileKind.TheVariants.{LabelFile}
use Rattle.label_reader.specs.inside.Marked.{AreMarked, with_marks}
use Rattle.label_lines.specs.Texts.{labelling, is_said}
use Rattle.label_reader.proofs.Bodies.{AnswersBehind-line, AnswersBehind-fault, add_line-known, add_line-unknown}
use Rattle.std.proofs.lemmas.List.{take_at}
use Rattle.label_lines.proofs.KnownLines.{line_with, known_line-known, known_line-fault, known_fields-all}
use Rattle.label_reader.proofs.Marking.{AreMarked-line}
use Rattle.label_reader.proofs.label_sets.LabelSetsLineReader.take.Goals as goal

pub invariant_of-self : goal.invariant_of-self
invariant_of-self c =
    let self = c.args.self.now in
    let same = c.mark_all.auto.sets ∙ ap (λ (sets : List (List Bool)). length sets) c.as_mut_slice.ensures.value in
    let back = take_at c.mark_all.new.sets (drop (length c.mark_all.new.sets) self.sets.items) self.sets.len
    (omega (arith, same, self.sets.ok)) in
    let P : List (List Bool) → Type 0 = λ sets. All (λ marks. length marks ≡ self.states) sets in
    record {
      single = self.single;
      count = ap (λ (sets : List (List Bool)). length sets) back ∙ same ∙ self.count;
      lengths = subst P (sym back)
          (c.mark_all.ensures.lengths self.states (subst P (sym c.as_mut_slice.ensures.value) self.lengths));
    }

pub returns-in-Err-mark_all-clause-fault : goal.returns-in-Err-mark_all-clause-fault
returns-in-Err-mark_all-clause-fault c =
    let self = c.args.self.now in
    let n = self.states in
    let items = self.header in
    let unknown = known_line-fault n items c.args.line.now c.in-Ok.state (fields_of c.in-Ok.numbers.now)
    c.in-Err-mark_all.cause c.in-Ok.ensures.line c.in-Ok.ensures.range (sym c.in-Err-mark_all.ensures.known) in
    rw c.at-in-Err-mark_all.ensures
    (λ lines. AnswersBehind-fault LabelFile n (labelling n) items c.args.number c.args.line.now lines
    (λ read. AreMarked n items (is_said read) self.sets.items) c.in-Err-mark_all.cause
    (λ read before. add_line-unknown LabelFile n items read c.args.line.now c.in-Err-mark_all.cause unknown))

pub returns-in-Ok-mark_all-clause-ok : goal.returns-in-Ok-mark_all-clause-ok
returns-in-Ok-mark_all-clause-ok c =
    let self = c.args.self.now in
    let n = self.states in
    let items = self.header in
    let fields = fields_of c.in-Ok.numbers.now in
    let line = line_with c.in-Ok.state fields in
    let same = c.mark_all.auto.sets ∙ ap (λ (sets : List (List Bool)). length sets) c.as_mut_slice.ensures.value in
    let back = take_at c.mark_all.new.sets (drop (length c.mark_all.new.sets) self.sets.items) self.sets.len
    (omega (arith, same, self.sets.ok)) in
    let marked = c.in-Ok-mark_all.ensures.marks
    ∙ ap (λ sets. with_marks items c.in-Ok.state sets fields) c.as_mut_slice.ensures.value in
    let known = known_line-known n items c.args.line.now c.in-Ok.state fields c.in-Ok.ensures.line c.in-Ok.ensures.range
    (sym c.in-Ok-mark_all.ensures.known) in
    λ lines answer rest. AnswersBehind-line LabelFile n (labelling n) items c.args.number c.args.line.now lines
    (λ read. AreMarked n items (is_said read) self.sets.items)
    (λ read. AreMarked n items (is_said read)
    (take self.sets.len (c.mark_all.new.sets ++ drop (length c.mark_all.new.sets) self.sets.items)))
    answer
    (λ read before.
    let P : List (List Bool) → Type 0 = λ sets. AreMarked n items (is_said (read ++ line ∷ [])) sets in
    record {
      more = read ++ line ∷ [];
      is = add_line-known LabelFile n items read c.args.line.now line known;
      holds = subst P (sym (back ∙ marked))
          (AreMarked-line n items c.in-Ok.state fields read self.sets.items self.single c.in-Ok.ensures.range
          (known_fields-all items fields (sym c.in-Ok-mark_all.ensures.known)) before);
    })
    rest
