use Rattle.std.proofs.Common.{◌≢◌, refl, ◌∙◌, arith}
use Rattle.game_model.specs.declared.game.Side.TheVariants.{Max, Min}
use Rattle.fixed_bellman.proofs.Between.{greatest-step, least-step}
use Rattle.fixed_bellman.proofs.above.step_above.Goals as goal

pub returns-in-Max-clause-step : goal.returns-in-Max-clause-step
returns-in-Max-clause-step g c =
    let seen = g.V.Values.seen c.args.values.now c.args.pass.now in
    let e = c.greatest_above.ensures in record {
      units = e.units;
      floored = e.floored;
      none = e.none;
      low = greatest-step c.args.question.now seen c.args.state c.greatest_above.result.0 c.requires.free
          c.in-Max.ensures e.low;
      given = λ above. record {
        greatest = λ _. (e.inside, e.given above);
        least = λ is. absurd (let never : Max ≢ Min = (cc) in never (c.in-Max.ensures ∙ is));
      };
      inside = e.inside;
      first = e.first;
      least = λ is. absurd (let never : Max ≢ Min = (cc) in never (c.in-Max.ensures ∙ is));
    }

pub returns-in-Min-clause-step : goal.returns-in-Min-clause-step
returns-in-Min-clause-step g c =
    let seen = g.V.Values.seen c.args.values.now c.args.pass.now in
    let e = c.least_above.ensures in record {
      units = e.units;
      floored = e.floored;
      none = λ _. refl;
      low = least-step c.args.question.now seen c.args.state e.low.0 c.least_above.result c.requires.free
          c.in-Min.ensures e.low.1 e.low.2;
      given = λ above. record {
        greatest = λ is. absurd (let never : Min ≢ Max = (cc) in never (c.in-Min.ensures ∙ is));
        least = λ _. (refl, e.given above);
      };
      inside = c.invariant.ensures.game.chosen c.args.state c.requires.state;
      first = λ d below. absurd (omega arith);
      least = λ _. refl;
    }
