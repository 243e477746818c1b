use Rattle.std.proofs.Common.{ℕ, ◌<◌, ◌≤◌, sym, subst, arith}
use Rattle.game_model.specs.Query.{Query}
use Rattle.game_model.specs.Rounded.{down_step}
use Rattle.fixed_bellman.specs.Given.{IsStepAbove}
use Rattle.value_words.specs.Passes.{NamesFirst, seen_by}
use Rattle.value_words.proofs.Grown.{step-rises, first-before}
use Rattle.value_words.proofs.table.ValueTable+P.raise.Goals as goal

pub returns-then-value-least-clause-step : goal.returns-then-value-least-clause-step
returns-then-value-least-clause-step g c =
    let s : ℕ = c.args.state in
    let e = c.step_above-value.ensures in
    let low : down_step g.P.Posing.posed (seen_by c.load.new.pass) s ≤ c.step_above-value.result.0 =
    subst (λ (q : Query). down_step q (seen_by c.load.new.pass) s ≤ c.step_above-value.result.0)
    c.args.self.now.is e.step.low in
    omega (
      arith,
      step-rises g.P.Posing.posed c.args.pass.now.seat c.load.new.pass.seat s c.args.self.now.posed
          c.load.ensures.looked.grew,
      low,
      c.if-value-least.true,
      c.value_of-least.ensures,
      c.load.ensures.value,
      e.onward.grew.up s,
    )

pub returns-clause-step : goal.returns-clause-step
returns-clause-step g c =
    let s : ℕ = c.args.state in
    let low : down_step g.P.Posing.posed (seen_by c.load.new.pass) s ≤ c.step_above-value.result.0 =
    subst (λ (q : Query). down_step q (seen_by c.load.new.pass) s ≤ c.step_above-value.result.0) c.args.self.now.is
    c.step_above-value.ensures.step.low in
    omega (
      arith,
      step-rises g.P.Posing.posed c.args.pass.now.seat c.load.new.pass.seat s c.args.self.now.posed
          c.load.ensures.looked.grew,
      low,
      c.exchange_up.ensures.reached,
      c.pack.ensures.value,
    )

pub returns-clause-first : goal.returns-clause-first
returns-clause-first g c = λ won.
    let q = g.P.Posing.posed in
    let s : ℕ = c.args.state in
    let value : ℕ = c.step_above-value.result.0 in
    let choice : ℕ = c.step_above-value.result.1 in
    let seen = seen_by c.load.new.pass in
    let step : IsStepAbove q seen (seen_by c.step_above-value.new.pass) s c.value_of-least.result value choice =
    subst (λ (p : Query). IsStepAbove p seen (seen_by c.step_above-value.new.pass) s c.value_of-least.result value
    choice) c.args.self.now.is c.step_above-value.ensures.step in
    let first = first-before q c.args.pass.now.seat c.load.new.pass.seat s choice value c.args.self.now.posed
    c.requires.state step.inside c.load.ensures.looked.grew step.first in
    subst (λ word. NamesFirst q (seen_by c.args.pass.now) s word) (sym (c.exchange_up.ensures.wrote won))
    (λ n before. let named : n < choice = omega (arith, before, c.pack.ensures.choice) in
    omega (arith, first n named, c.pack.ensures.value))
