use Rattle.std.proofs.Common.{ℕ, ◌<◌, ◌≤◌, List, length, refl, sym, arith}
use Rattle.std.specs.Prelude.{slice_index}
use Rattle.std.proofs.lemmas.Bool.{true≢false}
use Rattle.std.proofs.lemmas.List.Elements.{All-from_get_or}
use Rattle.game_model.specs.declared.game.Side.TheVariants.{Max}
use Rattle.game_model.specs.Game.{Distribution, choice_among, no_distribution}
use Rattle.game_model.specs.Values.{optimum}
use Rattle.game_model.specs.Rounded.{down_value}
use Rattle.game_model.proofs.Best.{optimum-each, optimum-most}
use Rattle.fixed_bellman.proofs.settling.some_above.Goals as goal

pub returns-then-down_above : goal.returns-then-down_above
returns-then-down_above c =
    let f : Distribution → ℕ = down_value (slice_index c.args.table.now) in
    let i : ℕ = c.loop-choice.choice in
    let inside : i < length c.args.row.now = omega (arith, c.choices-choice-end.ensures, c.loop-choice-test.true) in
    let here : c.args.floor < f (choice_among c.args.row.now i) =
    omega (arith, c.if-down_above.ensures.0 refl, c.table_quotient.ensures.down) in
    (λ _. omega (arith, here, optimum-each f c.args.row.now i no_distribution inside), λ _. refl)

pub returns : goal.returns
returns c =
    let f : Distribution → ℕ = down_value (slice_index c.args.table.now) in
    let floor : ℕ = c.args.floor in
    let row : List Distribution = c.args.row.now in
    let most : optimum Max f row ≤ floor = optimum-most Max f floor row
    (All-from_get_or (λ m. f m ≤ floor) row no_distribution
    (λ d l. c.loop-choice.invariant d (omega (arith, c.choices-choice-end.ensures, c.loop-choice-test.false)))) in
    (λ wrong. absurd (true≢false (sym wrong)), λ above. absurd (omega (arith, most, above)))
