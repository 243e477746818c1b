use Rattle.nested_truth.proofs.Ways.{answered-once, answered-twice}
use Rattle.nested_truth.proofs.answering.answer_both.Goals as goal

pub returns-in-None-clause-answered : goal.returns-in-None-clause-answered
returns-in-None-clause-answered g c =
    let q = c.args.questions.now in
    answered-once c.args.setting.way q.low q.high c.args.bound c.args.starts.now _ _ _ c.in_ok-lower.ensures.answer
    c.in-None.is

pub returns-in_ok-upper-in-Some-clause-answered : goal.returns-in_ok-upper-in-Some-clause-answered
returns-in_ok-upper-in-Some-clause-answered g c =
    let q = c.args.questions.now in
    answered-twice c.args.setting.way q.low q.high c.args.bound c.args.starts.now _ _ _ c.in_ok-lower.ensures.answer
    c.in-Some.high _ _ _ c.in-Some.is c.requires.other c.in_ok-upper-in-Some.ensures.answer
