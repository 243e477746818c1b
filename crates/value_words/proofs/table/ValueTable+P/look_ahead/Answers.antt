use Rattle.std.proofs.Common.{◌≡◌, ℕ, ◌<◌, length, ap, subst, ◌∙◌, arith}
use Rattle.std.specs.Prelude.{All}
use Rattle.game_model.specs.Query.{states}
use Rattle.value_words.proofs.table.ValueTable+P.look_ahead.Goals as goal

pub successors_between-requires-clause-inside : goal.successors_between-requires-clause-inside
successors_between-requires-clause-inside g c =
    let same : length c.game-game.result.now ≡ states g.P.Posing.posed =
    ap length c.game-game.ensures ∙ ap states c.args.self.now.is in
    omega (arith, c.requires.inside, same)

pub look_at-requires-clause-inside : goal.look_at-requires-clause-inside
look_at-requires-clause-inside g c =
    let same : length c.game-game.result.now ≡ states g.P.Posing.posed =
    ap length c.game-game.ensures ∙ ap states c.args.self.now.is in
    subst (λ (n : ℕ). All (λ t. t < n) c.successors_between.result.now) same c.successors_between.ensures.states
