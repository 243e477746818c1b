use Rattle.std.proofs.Common.{IsTrue, arith, refl, inr, rules}
use Rattle.std.proofs.lemmas.Result.{err_from_is_err_and}
use Rattle.reward_check.specs.Certificates.{said}
use Rattle.reward_check.specs.Parts.{LooksAt, IsTaken, IsRight}
use Rattle.reward_check.specs.inside.Ranges.{IsRangeOf}
use Rattle.reward_check.proofs.Causes.{lack-wrong}
use Rattle.reward_check.proofs.check.check_state.Goals as goal

pub loop-choice-init : goal.loop-choice-init
loop-choice-init c = λ k less may.
    let range : IsRangeOf c.args.part (said c.args.tables.now) c.args.state c.in-Some.range = c.in-Some.ensures.some in
    absurd (omega (arith, ((range.exact k).0 may).0, less))

pub returns-in_err-check_choice-clause-ok : goal.returns-in_err-check_choice-clause-ok
returns-in_err-check_choice-clause-ok c =
    let range : IsRangeOf c.args.part (said c.args.tables.now) c.args.state c.in-Some.range = c.in-Some.ensures.some in
    let sure : IsTrue c.looks_at.result = search rules in
    let looked : LooksAt c.args.part (said c.args.tables.now) c.args.state = c.looks_at.ensures.0 sure in
    let may : IsTaken c.args.part (said c.args.tables.now) c.args.state c.loop-choice.choice =
    (range.exact c.loop-choice.choice).1 (c.loop-choice.auto.choice, c.loop-choice-test.true) in
    let wrong : ¬ IsRight c.args.part (said c.args.tables.now) c.args.state c.loop-choice.choice =
    lack-wrong c.args.part (said c.args.tables.now) c.args.state c.loop-choice.choice
    c.in_err-check_choice.field-0.0 c.in_err-check_choice.ensures.lack in
    let answer = err_from_is_err_and c.from_residual.result c.from_residual.ensures.1 in
    rw answer.1 (
      λ ok. absurd (cc),
      λ at. absurd (wrong (at.right looked c.loop-choice.choice may)),
    )

pub returns-in_err-check_choice-clause-cause : goal.returns-in_err-check_choice-clause-cause
returns-in_err-check_choice-clause-cause c =
    let range : IsRangeOf c.args.part (said c.args.tables.now) c.args.state c.in-Some.range = c.in-Some.ensures.some in
    let sure : IsTrue c.looks_at.result = search rules in
    let answer = err_from_is_err_and c.from_residual.result c.from_residual.ensures.1 in
    rw (answer.1, answer.2) (inr (
      c.loop-choice.choice,
      record {
        looked = c.looks_at.ensures.0 sure;
        planned = range.planned;
        taken = (range.exact c.loop-choice.choice).1 (c.loop-choice.auto.choice, c.loop-choice-test.true);
        before = c.loop-choice.invariant;
        lack = c.in_err-check_choice.ensures.lack;
      },
    ))

pub returns-clause-ok : goal.returns-clause-ok
returns-clause-ok c =
    let range : IsRangeOf c.args.part (said c.args.tables.now) c.args.state c.in-Some.range =
    c.in-Some.ensures.some in (
      λ ok. record {
        planned = λ looked. range.planned;
        right = λ looked k may. c.loop-choice.invariant k
            (omega (arith, ((range.exact k).0 may).1, c.loop-choice-test.false)) may;
      },
      λ at. refl,
    )
