use Rattle.std.proofs.Common.{rules, ◌≡◌, ◌∷◌, ◌++◌, [], Ok, Err, sym, ap, subst, refl, ◌∙◌}
use Rattle.text_lines.specs.Text.{lines_of, significant}
use Rattle.text_lines.specs.Blank.{IsRightFor}
use Rattle.game_outside.proofs.PartRead.{begins, lines_read, refused_part, all_read, rest_dropped, limit_passed}
use Rattle.game_outside.proofs.PartRead.{ends_so, err_is}
use Rattle.game_outside.proofs.file.read_lines_from.Goals as goal

pub loop-feeder-init : goal.loop-feeder-init
loop-feeder-init g c = record {
  part = begins (g.H.Shelf.held c.args.shelf.now) c.args.name.now
      (λ lines answer. g.R.LineReader.answers c.args.reader 1 (significant lines) answer)
      (g.H.Shelf.rest c.begin.new.shelf) c.in_ok-text.text
      (IsRightFor g.R.LineReader.answers c.new-feeder.result.reader c.new-feeder.result.next c.new-feeder.result.blanks)
      c.in_ok-text.ensures.rest (ap (λ t. t.held) c.in_ok-text.ensures.begun)
      (ap (λ t. t.taken) c.in_ok-text.ensures.begun) (ap (λ t. t.ended) c.in_ok-text.ensures.begun)
      (λ lines answer still.
      subst (λ reader. g.R.LineReader.answers reader 1 (significant lines) answer) c.new-feeder.ensures.reader
      (subst (λ number. g.R.LineReader.answers c.new-feeder.result.reader number (significant lines) answer)
      c.new-feeder.ensures.next
      (still [] tt (sym c.new-feeder.ensures.blanks))));
  going = search rules;
  limit = search rules;
  taken = search rules;
  within = search rules;
  lines = search rules;
  kept = search rules;
  quiet = search rules;
}

pub returns-in_err-finish-clause-reads : goal.returns-in_err-finish-clause-reads
returns-in_err-finish-clause-reads g c =
    ends_so (λ text answer. g.R.LineReader.answers c.args.reader 1 (significant (lines_of text)) answer)
    (g.H.Shelf.held c.args.shelf.now) c.args.name.now c.args.limit
    c.in_err-finish.field-0.0 c.from_residual-in_err-finish.result (err_is _ _ c.from_residual-in_err-finish.ensures)
    (λ too_long. limit_passed (g.H.Shelf.held c.args.shelf.now) c.args.name.now
    (λ lines answer. g.R.LineReader.answers c.args.reader 1 (significant lines) answer)
    (g.H.Shelf.rest c.next_line.new.shelf) (g.H.Shelf.rest c.finish.new.shelf) c.push_line.new.self
    (λ _ answer. answer ≡ Err c.in-Err.fault) c.args.limit
    (refused_part (g.H.Shelf.held c.args.shelf.now) c.args.name.now
    (λ lines answer. g.R.LineReader.answers c.args.reader 1 (significant lines) answer)
    (g.H.Shelf.rest c.loop-feeder.shelf) (g.H.Shelf.rest c.next_line.new.shelf) c.loop-feeder.text
    c.next_line.new.self c.push_line.new.self
    (IsRightFor g.R.LineReader.answers c.loop-feeder.feeder.reader c.loop-feeder.feeder.next
    c.loop-feeder.feeder.blanks)
    c.next_line.new.line.items c.deref.result.now (Err c.in-Err.fault) c.loop-feeder.invariant.part
    (c.next_line.ensures.line (search rules)) c.push_line.ensures.same c.deref.ensures.value c.in-Err.ensures.fault)
    (search rules) (search rules))

pub returns-in-Err-clause-reads : goal.returns-in-Err-clause-reads
returns-in-Err-clause-reads g c =
    rest_dropped (g.H.Shelf.held c.args.shelf.now) c.args.name.now
    (λ lines answer. g.R.LineReader.answers c.args.reader 1 (significant lines) answer)
    (g.H.Shelf.rest c.next_line.new.shelf) (g.H.Shelf.rest c.finish.new.shelf) c.push_line.new.self c.finish.new.self
    (λ _ answer. answer ≡ Err c.in-Err.fault)
    c.args.limit (Err c.in-Err.fault)
    (refused_part (g.H.Shelf.held c.args.shelf.now) c.args.name.now
    (λ lines answer. g.R.LineReader.answers c.args.reader 1 (significant lines) answer)
    (g.H.Shelf.rest c.loop-feeder.shelf) (g.H.Shelf.rest c.next_line.new.shelf) c.loop-feeder.text
    c.next_line.new.self c.push_line.new.self
    (IsRightFor g.R.LineReader.answers c.loop-feeder.feeder.reader c.loop-feeder.feeder.next
    c.loop-feeder.feeder.blanks)
    c.next_line.new.line.items c.deref.result.now (Err c.in-Err.fault) c.loop-feeder.invariant.part
    (c.next_line.ensures.line (search rules)) c.push_line.ensures.same c.deref.ensures.value c.in-Err.ensures.fault)
    c.in_ok-finish.ensures.dropped (λ over. ap g.H.Shelf.rest (c.finish.ensures.text.ended over))
    (λ over. c.finish.ensures.text.taken_is ∙ ap g.H.Shelf.taken (c.finish.ensures.text.ended over)
    ∙ sym c.next_line.ensures.text.taken_is ∙ sym (ap (λ t. t.taken) c.push_line.ensures.same)) (search rules)
    (λ lines. refl)

pub loop-feeder-preserved : goal.loop-feeder-preserved
loop-feeder-preserved g c = record {
  part = lines_read (g.H.Shelf.held c.args.shelf.now) c.args.name.now
      (λ lines answer. g.R.LineReader.answers c.args.reader 1 (significant lines) answer)
      (g.H.Shelf.rest c.loop-feeder.shelf) (g.H.Shelf.rest c.next_line.new.shelf) c.loop-feeder.text
      c.next_line.new.self c.push_line.new.self
      (IsRightFor g.R.LineReader.answers c.loop-feeder.feeder.reader c.loop-feeder.feeder.next
      c.loop-feeder.feeder.blanks)
      (IsRightFor g.R.LineReader.answers c.push_line.new.feeder.reader c.push_line.new.feeder.next
      c.push_line.new.feeder.blanks)
      c.next_line.new.line.items c.loop-feeder.invariant.part
      (c.next_line.ensures.line (search rules)) c.push_line.ensures.same
      (λ behind answer still.
      subst (λ line. IsRightFor g.R.LineReader.answers c.loop-feeder.feeder.reader c.loop-feeder.feeder.next
      c.loop-feeder.feeder.blanks (line ∷ lines_of (c.next_line.new.self.held ++ behind)) answer) c.deref.ensures.value
      (c.in_default.ensures.ok behind answer still));
  going = search rules;
  limit = search rules;
  taken = search rules;
  within = search rules;
  lines = search rules;
  kept = search rules;
  quiet = search rules;
}

pub returns-in-Ok-clause-reads : goal.returns-in-Ok-clause-reads
returns-in-Ok-clause-reads g c =
    all_read (g.H.Shelf.held c.args.shelf.now) c.args.name.now
    (λ lines answer. g.R.LineReader.answers c.args.reader 1 (significant lines) answer)
    (g.H.Shelf.rest c.loop-feeder.shelf) (g.H.Shelf.rest c.next_line.new.shelf) c.loop-feeder.text c.next_line.new.self
    (IsRightFor g.R.LineReader.answers c.loop-feeder.feeder.reader c.loop-feeder.feeder.next
    c.loop-feeder.feeder.blanks)
    c.next_line.new.line.items c.args.limit (Ok c.in-Ok.made) c.loop-feeder.invariant.part
    (c.next_line.ensures.end (search rules))
    (λ over. ap g.H.Shelf.rest (c.next_line.ensures.text.ended over)) c.loop-feeder.invariant.within c.in-Ok.ensures

pub returns-clause-reads : goal.returns-clause-reads
returns-clause-reads g c =
    all_read (g.H.Shelf.held c.args.shelf.now) c.args.name.now
    (λ lines answer. g.R.LineReader.answers c.args.reader 1 (significant lines) answer)
    (g.H.Shelf.rest c.loop-feeder.shelf) (g.H.Shelf.rest c.next_line.new.shelf) c.loop-feeder.text c.next_line.new.self
    (IsRightFor g.R.LineReader.answers c.loop-feeder.feeder.reader c.loop-feeder.feeder.next
    c.loop-feeder.feeder.blanks)
    c.next_line.new.line.items c.args.limit (Err c.in-Err-end.fault) c.loop-feeder.invariant.part
    (c.next_line.ensures.end (search rules))
    (λ over. ap g.H.Shelf.rest (c.next_line.ensures.text.ended over))
    c.loop-feeder.invariant.within c.in-Err-end.ensures
