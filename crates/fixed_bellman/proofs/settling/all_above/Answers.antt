use Rattle.std.proofs.Common.{ℕ, ◌+◌, ◌<◌, ◌≤◌, List, length, refl, sym, arith}
use Rattle.std.specs.Prelude.{slice_index}
use Rattle.std.proofs.lemmas.Bool.{true≢false}
use Rattle.std.proofs.lemmas.List.Elements.{All-from_get_or}
use Rattle.game_model.specs.declared.game.Side.TheVariants.{Min}
use Rattle.game_model.specs.Game.{Distribution, no_distribution}
use Rattle.game_model.specs.Values.{optimum}
use Rattle.game_model.specs.Rounded.{down_value}
use Rattle.game_model.proofs.Best.{optimum-below}
use Rattle.fixed_bellman.specs.Quotients.{rounded_down}
use Rattle.fixed_bellman.proofs.Tables.{optimum-least}
use Rattle.fixed_bellman.proofs.Between.{not-less}
use Rattle.fixed_bellman.proofs.settling.all_above.Goals as goal

pub returns-then-not-down_above : goal.returns-then-not-down_above
returns-then-not-down_above c =
    let f : Distribution → ℕ = down_value (slice_index c.args.table.now) in
    let i : ℕ = c.loop-choice.choice in
    let inside : i < length c.args.row.now = omega (arith, c.choices-choice-end.ensures, c.loop-choice-test.true) in
    let here : rounded_down c.table_quotient.result ≤ c.args.floor =
    not-less c.args.floor (rounded_down c.table_quotient.result) c.if-not-down_above.ensures.1 in (
      λ wrong. absurd (true≢false (sym wrong)),
      λ above. absurd (omega
          (arith, here, above, c.table_quotient.ensures.down, optimum-below f c.args.row.now i no_distribution inside)),
    )

pub returns : goal.returns
returns c =
    let f : Distribution → ℕ = down_value (slice_index c.args.table.now) in
    let next : ℕ = c.args.floor + 1 in
    let row : List Distribution = c.args.row.now in
    let least : next ≤ optimum Min f row = optimum-least Min f next row c.invariant.ensures.some
    (All-from_get_or (λ m. next ≤ f m) row no_distribution (λ d l. let above = c.loop-choice.invariant d
    (omega (arith, c.choices-choice-end.ensures, c.loop-choice-test.false)) in omega (arith, above))) in
    (λ _. omega (arith, least), λ _. refl)
