use Rattle.std.proofs.Common.{map, refl}
use Rattle.std.specs.String.{string_bytes}
use Rattle.std.proofs.lemmas.Option.{MatchOption-at_none, MatchOption-at_some}
use Rattle.command_words.specs.Words.{command_of}
use Rattle.stogame_app.proofs.Complete.{completed, is_read}
use Rattle.stogame_app.proofs.Endings.{answers_words, asks_shelf}
use Rattle.stogame_app.proofs.command.run.Goals as goal

pub returns-in-Ok-Some-clause-ends : goal.returns-in-Ok-Some-clause-ends
returns-in-Ok-Some-clause-ends g c =
    let words = map string_bytes c.args.words.now in
    let command = command_of c.in-Ok-Some.command in
    let denoted = MatchOption-at_some _ _ c.in-Ok-Some.command c.in-Ok-Some.field-0-is c.in-Ok-Some.ensures in
    c.end_run.ensures.ends words _ _ (answers_words words command denoted c.answer-made.result c.answer-made.ensures)

pub returns-in-Ok-Some-clause-shelf : goal.returns-in-Ok-Some-clause-shelf
returns-in-Ok-Some-clause-shelf g c =
    let words = map string_bytes c.args.words.now in
    let command = command_of c.in-Ok-Some.command in
    let denoted = MatchOption-at_some _ _ c.in-Ok-Some.command c.in-Ok-Some.field-0-is c.in-Ok-Some.ensures in
    asks_shelf words command denoted c.answer-made.result c.end_run.result c.answer-made.ensures
    c.end_run.ensures.read_fault

pub returns-in-Ok-Some-clause-complete : goal.returns-in-Ok-Some-clause-complete
returns-in-Ok-Some-clause-complete g c = λ accepted calm quiet.
    let words = map string_bytes c.args.words.now in
    let command = command_of c.in-Ok-Some.command in
    let denoted = MatchOption-at_some _ _ c.in-Ok-Some.command c.in-Ok-Some.field-0-is c.in-Ok-Some.ensures in
    let asked = c.questions_are_what_is_asked.ensures in
    let apart = c.audits_have_one_answer.ensures.accepted in
    let one = c.words_denote_one_command.ensures in
    let shelf = asks_shelf words command denoted c.answer-made.result c.end_run.result c.answer-made.ensures
    c.end_run.ensures.read_fault in
    completed asked apart one accepted _ _ _ c.end_run.result
    (c.end_run.ensures.ends words _ _ (answers_words words command denoted c.answer-made.result c.answer-made.ensures))
    (is_read asked apart one accepted shelf refl calm) (λ is. quiet (c.end_run.ensures.write_fault is))

pub returns-in-Ok-None-clause-ends : goal.returns-in-Ok-None-clause-ends
returns-in-Ok-None-clause-ends g c = c.end_with_usage.ensures.ends (map string_bytes c.args.words.now) _ _
    (MatchOption-at_none _ _ c.in-Ok-None.field-0-is c.in-Ok-None.ensures)

pub returns-in-Ok-None-clause-complete : goal.returns-in-Ok-None-clause-complete
returns-in-Ok-None-clause-complete g c = λ accepted calm quiet.
    absurd (MatchOption-at_none _ _ c.in-Ok-None.field-0-is c.in-Ok-None.ensures accepted.command accepted.denoted)
