use Rattle.std.proofs.Common.{refl}
use Rattle.std.proofs.lemmas.Result.{err_from_is_err_and}
use Rattle.reward_check.specs.Certificates.{said}
use Rattle.reward_check.proofs.Order.{upper-fault, ranks-fault, lower-fault, infinite-fault, accepted}
use Rattle.reward_check.proofs.check.check_rewards.Goals as goal

pub returns-in_err-check_part-clause-fault : goal.returns-in_err-check_part-clause-fault
returns-in_err-check_part-clause-fault c =
    let fault = c.in_err-check_part.field-0.0 in
    let answer =
    err_from_is_err_and c.from_residual-in_err-check_part.result c.from_residual-in_err-check_part.ensures.1 in
    rw (answer.1, answer.2) (upper-fault (said c.args.tables.now) (c.in_ok-check_goals.ensures.ok.0 refl) fault.state
    fault.cause c.in_err-check_part.ensures.fault)

pub returns-in_err-check_part-2-clause-fault : goal.returns-in_err-check_part-2-clause-fault
returns-in_err-check_part-2-clause-fault c =
    let fault = c.in_err-check_part-2.field-0.0 in
    let answer =
    err_from_is_err_and c.from_residual-in_err-check_part-2.result c.from_residual-in_err-check_part-2.ensures.1 in
    rw (answer.1, answer.2) (ranks-fault (said c.args.tables.now) (c.in_ok-check_goals.ensures.ok.0 refl)
    (c.in_ok-check_part.ensures.ok.0 refl) fault.state fault.cause c.in_err-check_part-2.ensures.fault)

pub returns-in_err-check_part-3-clause-fault : goal.returns-in_err-check_part-3-clause-fault
returns-in_err-check_part-3-clause-fault c =
    let fault = c.in_err-check_part-3.field-0.0 in
    let answer =
    err_from_is_err_and c.from_residual-in_err-check_part-3.result c.from_residual-in_err-check_part-3.ensures.1 in
    rw (answer.1, answer.2) (lower-fault (said c.args.tables.now) (c.in_ok-check_goals.ensures.ok.0 refl)
    (c.in_ok-check_part.ensures.ok.0 refl) (c.in_ok-check_part-2.ensures.ok.0 refl) fault.state fault.cause
    c.in_err-check_part-3.ensures.fault)

pub returns-in_err-check_part-4-clause-fault : goal.returns-in_err-check_part-4-clause-fault
returns-in_err-check_part-4-clause-fault c =
    let fault = c.in_err-check_part-4.field-0.0 in
    let answer =
    err_from_is_err_and c.from_residual-in_err-check_part-4.result c.from_residual-in_err-check_part-4.ensures.1 in
    rw (answer.1, answer.2) (infinite-fault (said c.args.tables.now) (c.in_ok-check_goals.ensures.ok.0 refl)
    (c.in_ok-check_part.ensures.ok.0 refl) (c.in_ok-check_part-2.ensures.ok.0 refl)
    (c.in_ok-check_part-3.ensures.ok.0 refl) fault.state fault.cause c.in_err-check_part-4.ensures.fault)

pub returns-clause-ok : goal.returns-clause-ok
returns-clause-ok c = (
  λ ok. accepted (said c.args.tables.now) (c.in_ok-check_goals.ensures.ok.0 refl)
      (c.in_ok-check_part.ensures.ok.0 refl) (c.in_ok-check_part-2.ensures.ok.0 refl)
      (c.in_ok-check_part-3.ensures.ok.0 refl) (c.in_ok-check_part-4.ensures.ok.0 refl),
  λ at. refl,
)

pub returns-clause-sound : goal.returns-clause-sound
returns-clause-sound c = λ ok.
    let tables = c.args.tables.now in
    c.accepted_rewards_are_sound.ensures (said c.args.tables.now) tables.posed tables.alive tables.many_bounded
    (accepted (said c.args.tables.now) (c.in_ok-check_goals.ensures.ok.0 refl)
    (c.in_ok-check_part.ensures.ok.0 refl) (c.in_ok-check_part-2.ensures.ok.0 refl)
    (c.in_ok-check_part-3.ensures.ok.0 refl) (c.in_ok-check_part-4.ensures.ok.0 refl))
