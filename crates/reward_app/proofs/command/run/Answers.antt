use Rattle.std.proofs.Common.{map, refl}
use Rattle.std.specs.String.{string_bytes}
use Rattle.std.proofs.lemmas.Option.{MatchOption-at_none, MatchOption-at_some}
use Rattle.reward_words.specs.Words.{reward_command_of}
use Rattle.reward_app.proofs.Complete.{completed, is_read}
use Rattle.reward_app.proofs.Endings.{answers_words, asks_shelf}
use Rattle.reward_app.proofs.command.run.Goals as goal

pub returns-in-Ok-Some-clause-rewards : goal.returns-in-Ok-Some-clause-rewards
returns-in-Ok-Some-clause-rewards g c = λ any any_denoted.
    let words = map string_bytes c.args.words.now in
    let command = reward_command_of c.in-Ok-Some.command in
    let denoted = MatchOption-at_some _ _ c.in-Ok-Some.command c.in-Ok-Some.field-0-is c.in-Ok-Some.ensures in
    c.end_run.ensures.ends words _ _ (answers_words words command denoted c.answer-made.result c.answer-made.ensures)

pub returns-in-Ok-Some-clause-rewards_shelf : goal.returns-in-Ok-Some-clause-rewards_shelf
returns-in-Ok-Some-clause-rewards_shelf g c = λ any any_denoted.
    let words = map string_bytes c.args.words.now in
    let command = reward_command_of c.in-Ok-Some.command in
    let denoted = MatchOption-at_some _ _ c.in-Ok-Some.command c.in-Ok-Some.field-0-is c.in-Ok-Some.ensures in
    asks_shelf words command denoted c.answer-made.result c.end_run.result c.answer-made.ensures
    c.end_run.ensures.read_fault

pub returns-in-Ok-Some-clause-rewards_complete : goal.returns-in-Ok-Some-clause-rewards_complete
returns-in-Ok-Some-clause-rewards_complete g c = λ accepted calm quiet.
    let words = map string_bytes c.args.words.now in
    let command = reward_command_of c.in-Ok-Some.command in
    let denoted = MatchOption-at_some _ _ c.in-Ok-Some.command c.in-Ok-Some.field-0-is c.in-Ok-Some.ensures in
    let asked = c.reward_questions_are_what_is_asked.ensures in
    let apart = c.reward_audits_have_one_answer.ensures.accepted in
    let one = c.words_denote_one_reward_command.ensures in
    let shelf = asks_shelf words command denoted c.answer-made.result c.end_run.result c.answer-made.ensures
    c.end_run.ensures.read_fault in
    completed asked apart one accepted _ _ _ c.end_run.result
    (c.end_run.ensures.ends words _ _ (answers_words words command denoted c.answer-made.result c.answer-made.ensures))
    (is_read asked apart one accepted shelf refl calm) (λ is. quiet (c.end_run.ensures.write_fault is))

pub returns-in-Ok-Some-clause-ends : goal.returns-in-Ok-Some-clause-ends
returns-in-Ok-Some-clause-ends g c = λ none.
    let command = reward_command_of c.in-Ok-Some.command in
    let denoted = MatchOption-at_some _ _ c.in-Ok-Some.command c.in-Ok-Some.field-0-is c.in-Ok-Some.ensures in
    absurd (none command denoted)

pub returns-in-Ok-Some-clause-shelf : goal.returns-in-Ok-Some-clause-shelf
returns-in-Ok-Some-clause-shelf g c = λ none.
    let command = reward_command_of c.in-Ok-Some.command in
    let denoted = MatchOption-at_some _ _ c.in-Ok-Some.command c.in-Ok-Some.field-0-is c.in-Ok-Some.ensures in
    absurd (none command denoted)

pub returns-in-Ok-Some-clause-complete : goal.returns-in-Ok-Some-clause-complete
returns-in-Ok-Some-clause-complete g c = λ accepted calm quiet.
    let words = map string_bytes c.args.words.now in
    let command = reward_command_of c.in-Ok-Some.command in
    let denoted = MatchOption-at_some _ _ c.in-Ok-Some.command c.in-Ok-Some.field-0-is c.in-Ok-Some.ensures in
    absurd (c.reward_words_are_no_other_command.ensures words (command, denoted) accepted.command accepted.denoted)

pub returns-in-Ok-None-clause-rewards : goal.returns-in-Ok-None-clause-rewards
returns-in-Ok-None-clause-rewards g c = λ command denoted.
    absurd (MatchOption-at_none _ _ c.in-Ok-None.field-0-is c.in-Ok-None.ensures command denoted)

pub returns-in-Ok-None-clause-rewards_shelf : goal.returns-in-Ok-None-clause-rewards_shelf
returns-in-Ok-None-clause-rewards_shelf g c = λ command denoted.
    absurd (MatchOption-at_none _ _ c.in-Ok-None.field-0-is c.in-Ok-None.ensures command denoted)

pub returns-in-Ok-None-clause-rewards_complete : goal.returns-in-Ok-None-clause-rewards_complete
returns-in-Ok-None-clause-rewards_complete g c = λ accepted calm quiet.
    absurd (MatchOption-at_none _ _ c.in-Ok-None.field-0-is c.in-Ok-None.ensures accepted.command accepted.denoted)
