use Rattle.std.proofs.Common.{◌≡◌, inr, ap, ◌∙◌, arith}
use Rattle.std.proofs.lemmas.Result.{err_from_is_err_and}
use Rattle.step_core.specs.Events.{unless_raised, given_by}
use Rattle.step_core.specs.Word.{choice_in, value_at}
use Rattle.step_core.specs.Configuration.{seen_by}
use Rattle.step_core.proofs.Told.{last, there-none, high-told, none-told, raises-told}
use Rattle.step_core.proofs.world.World.win.Goals as goal

pub returns-in_err-named-clause-answer : goal.returns-in_err-named-clause-answer
returns-in_err-named-clause-answer c =
    let p = err_from_is_err_and c.from_residual.result c.from_residual.ensures.1 in
    let w = c.args.self.now in
    rw (p.1, p.2) (inr (c.in_err-named.ensures.err
    (unless_raised w c.args.state c.args.from c.args.to (last w c.args.view c.args.state c.args.to))))

pub returns-in_err-raises-clause-answer : goal.returns-in_err-raises-clause-answer
returns-in_err-raises-clause-answer c =
    let p = err_from_is_err_and c.from_residual-in_err-raises.result c.from_residual-in_err-raises.ensures.1 in
    let w = c.args.self.now in
    let others = last w c.args.view c.args.state c.args.to in
    let there = c.in_ok-named.ensures.ok in
    rw (p.1, p.2) (inr (there-none w c.args.view c.args.state
    (unless_raised w c.args.state c.args.from c.args.to others) there.0 there.1 ∙ c.in_err-raises.ensures.err others))

pub returns-then-given-value_of-clause-answer : goal.returns-then-given-value_of-clause-answer
returns-then-given-value_of-clause-answer c =
    let w = c.args.self.now in
    let there = c.in_ok-named.ensures.ok in
    let same : given_by w.question (value_at (seen_by w c.args.view)) c.args.state c.choice_of.result
    ≡ given_by w.question (value_at (seen_by w c.args.view)) c.args.state (choice_in c.args.to) =
    ap (given_by w.question (value_at (seen_by w c.args.view)) c.args.state) c.choice_of.ensures in
    inr (high-told w c.args.view c.args.state c.args.from c.args.to there.0 there.1 c.in_ok-raises.ensures.ok
    (omega (arith, c.in-Ok.ensures, same, c.value_of.ensures, c.if-given-value_of.true)))

pub raise-requires : goal.raise-requires
raise-requires c =
    let w = c.args.self.now in
    let there = c.in_ok-named.ensures.ok in
    let same : given_by w.question (value_at (seen_by w c.args.view)) c.args.state c.choice_of.result
    ≡ given_by w.question (value_at (seen_by w c.args.view)) c.args.state (choice_in c.args.to) =
    ap (given_by w.question (value_at (seen_by w c.args.view)) c.args.state) c.choice_of.ensures in
    raises-told w c.args.view c.args.state c.args.from c.args.to there.0 there.1 c.in_ok-raises.ensures.ok
    (omega (arith, c.in-Ok.ensures, same, c.value_of.ensures, c.if-given-value_of.false))

pub returns-clause-answer : goal.returns-clause-answer
returns-clause-answer c =
    let w = c.args.self.now in
    let there = c.in_ok-named.ensures.ok in
    let same : given_by w.question (value_at (seen_by w c.args.view)) c.args.state c.choice_of.result
    ≡ given_by w.question (value_at (seen_by w c.args.view)) c.args.state (choice_in c.args.to) =
    ap (given_by w.question (value_at (seen_by w c.args.view)) c.args.state) c.choice_of.ensures in
    none-told w c.args.view c.args.state c.args.from c.args.to there.0 there.1 c.in_ok-raises.ensures.ok
    (omega (arith, c.in-Ok.ensures, same, c.value_of.ensures, c.if-given-value_of.false))
