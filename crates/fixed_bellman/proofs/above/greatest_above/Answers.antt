use Rattle.std.proofs.Common.{◌≡◌, ℕ, ◌<◌, ◌≤◌, refl, arith}
use Rattle.fixed_bellman.specs.Quotients.{rounded_down}
use Rattle.fixed_bellman.proofs.Tables.{row-fits}
use Rattle.fixed_bellman.proofs.Between.{not-less, ReadChoice, read-choice, value-new, low-gains, given-later}
use Rattle.fixed_bellman.proofs.above.greatest_above.Goals as goal
use Rattle.fixed_bellman.proofs.above.greatest_above.Goals.{then-down_above, else-down_above}

pub quotient-given-requires-clause-fits : goal.quotient-given-requires-clause-fits
quotient-given-requires-clause-fits g c =
    let laws = g.met.V.Values in
    let values = c.args.values.now in
    let middle = c.loop-choice.pass in
    row-fits c.args.question.now c.args.state c.loop-choice.choice c.row-row.result
    (g.V.Values.fits values middle) c.invariant.ensures c.requires.state c.row-row.ensures
    (omega (arith, c.choices-choice-end.ensures, c.loop-choice-test.true))
    (λ t inside. laws.carried values c.args.pass.now middle t c.loop-choice.invariant.onward (c.requires.fits t inside))

pub loop-choice-preserved : goal.loop-choice-preserved
loop-choice-preserved g c =
    let laws = g.met.V.Values in
    let values = c.args.values.now in
    let seen = g.V.Values.seen values in
    let start = c.args.pass.now in
    let middle = c.loop-choice.pass in
    let end = c.quotient-given.new.pass in
    let h = c.loop-choice.invariant in
    let e = c.quotient-given.ensures in
    let read : ReadChoice c.args.question.now c.args.state c.loop-choice.choice c.quotient-given.result (seen start)
    (seen middle) (seen end) = read-choice c.invariant.ensures c.requires.state c.row-row.ensures
    c.choices-choice-end.ensures c.loop-choice-test.true e.between (laws.rises values start middle h.onward)
    (laws.rises values middle end e.onward) in
    let best : ℕ = c.loop-choice.best in
    let down : ℕ = rounded_down c.quotient-given.result in
    elim c.if-down_above.branch [
      | then-down_above w ↦
          let gain : best < down = w.if-down_above.ensures.0 refl in
          let is : w.down-best.result ≡ down = w.down-best.ensures.value in
          rw (w.best-is, w.first-is) (record {
            onward = laws.further values start middle end h.onward e.onward;
            units = w.down-best.ensures.units;
            floored = omega (arith, h.floored);
            none = λ same. absurd (omega (arith, h.floored, same));
            inside = read.chosen;
            low = low-gains read best w.down-best.result h.low (omega arith) (omega arith);
            given = λ _. rw is (value-new read);
            first = λ d below. omega (arith, h.low d below);
          })
      | else-down_above w ↦
          let stays : down ≤ best = not-less best down w.if-down_above.ensures.1 in
          rw (w.best-is, w.first-is) (record {
            onward = laws.further values start middle end h.onward e.onward;
            units = h.units;
            floored = h.floored;
            none = h.none;
            inside = h.inside;
            low = low-gains read best best h.low (omega arith) stays;
            given = λ above. given-later read c.loop-choice.first best h.inside (h.given above);
            first = h.first;
          })
    ]
