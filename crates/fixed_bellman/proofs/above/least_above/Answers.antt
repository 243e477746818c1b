use Rattle.std.proofs.Common.{◌≡◌, ℕ, ◌<◌, ◌≤◌, length, refl, arith}
use Rattle.game_model.specs.Game.{choices_of, choice_of}
use Rattle.fixed_bellman.specs.Quotients.{rounded_down}
use Rattle.fixed_bellman.proofs.Tables.{row-fits, choice_fits, down_value-units}
use Rattle.fixed_bellman.proofs.Between.{not-less, ReadChoice, read-choice, value-old, high-gains}
use Rattle.fixed_bellman.proofs.above.least_above.Goals as goal
use Rattle.fixed_bellman.proofs.above.least_above.Goals.{then-down_below, else-down_below}

pub loop-choice-init : goal.loop-choice-init
loop-choice-init g c =
    let laws = g.met.V.Values in
    let values = c.args.values.now in
    let seen = g.V.Values.seen values in
    let q = c.args.question.now in
    let s : ℕ = c.args.state in
    let start = c.args.pass.now in
    let some : 0 < length (choices_of q.game s) = c.invariant.ensures.game.chosen s c.requires.state in record {
      onward = laws.still values start;
      floor = c.requires.floor;
      units = omega arith;
      low = (
        0,
        some,
        down_value-units q.game (seen start) (choice_of q.game s 0)
            (choice_fits q s 0 c.invariant.ensures c.requires.state some)
            (λ t inside. laws.units values start t (c.requires.fits t inside)),
      );
      given = λ d none. absurd (omega arith);
    }

pub returns-then-not-down_above-clause-low : goal.returns-then-not-down_above-clause-low
returns-then-not-down_above-clause-low g c =
    let laws = g.met.V.Values in
    let values = c.args.values.now in
    let seen = g.V.Values.seen values in
    let start = c.args.pass.now in
    let middle = c.loop-choice.pass in
    let end = c.quotient-given.new.pass in
    let h = c.loop-choice.invariant in
    let e = c.quotient-given.ensures in
    let read : ReadChoice c.args.question.now c.args.state c.loop-choice.choice c.quotient-given.result (seen start)
    (seen middle) (seen end) = read-choice c.invariant.ensures c.requires.state c.row-row.ensures
    c.choices-choice-end.ensures c.loop-choice-test.true e.between (laws.rises values start middle h.onward)
    (laws.rises values middle end e.onward) in
    let stays : rounded_down c.quotient-given.result ≤ c.args.floor =
    not-less c.args.floor (rounded_down c.quotient-given.result) c.if-not-down_above.ensures.1 in
    (c.loop-choice.choice, read.chosen, omega (arith, stays, value-old read))

pub quotient-given-requires-clause-fits : goal.quotient-given-requires-clause-fits
quotient-given-requires-clause-fits g c =
    let laws = g.met.V.Values in
    let values = c.args.values.now in
    let middle = c.loop-choice.pass in
    row-fits c.args.question.now c.args.state c.loop-choice.choice c.row-row.result
    (g.V.Values.fits values middle) c.invariant.ensures c.requires.state c.row-row.ensures
    (omega (arith, c.choices-choice-end.ensures, c.loop-choice-test.true))
    (λ t inside. laws.carried values c.args.pass.now middle t c.loop-choice.invariant.onward (c.requires.fits t inside))

pub loop-choice-preserved : goal.loop-choice-preserved
loop-choice-preserved g c =
    let laws = g.met.V.Values in
    let values = c.args.values.now in
    let seen = g.V.Values.seen values in
    let start = c.args.pass.now in
    let middle = c.loop-choice.pass in
    let end = c.quotient-given.new.pass in
    let h = c.loop-choice.invariant in
    let e = c.quotient-given.ensures in
    let read : ReadChoice c.args.question.now c.args.state c.loop-choice.choice c.quotient-given.result (seen start)
    (seen middle) (seen end) = read-choice c.invariant.ensures c.requires.state c.row-row.ensures
    c.choices-choice-end.ensures c.loop-choice-test.true e.between (laws.rises values start middle h.onward)
    (laws.rises values middle end e.onward) in
    let best : ℕ = c.loop-choice.best in
    let down : ℕ = rounded_down c.quotient-given.result in
    let above : c.args.floor < down = c.if-not-down_above.ensures.0 refl in
    elim c.if-down_below.branch [
      | then-down_below w ↦
          let less : down < best = w.if-down_below.ensures.0 refl in
          let is : w.down-best.result ≡ down = w.down-best.ensures.value in
          rw w.best-is (record {
            onward = laws.further values start middle end h.onward e.onward;
            floor = omega arith;
            units = w.down-best.ensures.units;
            low = (c.loop-choice.choice, read.chosen, omega (arith, is, value-old read));
            given = high-gains read best w.down-best.result h.given (omega arith) (omega arith);
          })
      | else-down_below w ↦
          let keep : best ≤ down = not-less down best w.if-down_below.ensures.1 in
          rw w.best-is (record {
            onward = laws.further values start middle end h.onward e.onward;
            floor = h.floor;
            units = h.units;
            low = h.low;
            given = high-gains read best best h.given (omega arith) keep;
          })
    ]
