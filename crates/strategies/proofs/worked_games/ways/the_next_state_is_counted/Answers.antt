use Rattle.std.proofs.Common.{◌≡◌, ◌<◌, ◌≤◌, ◌*◌, [], refl, arith}
use Rattle.game_model.specs.declared.game.Side.{Side}
use Rattle.game_model.specs.declared.game.Side.TheVariants.{Max, Min}
use Rattle.strategies.specs.Strategies.{Strategy, IsStrategyOf}
use Rattle.strategies.specs.Plays.{plays}
use Rattle.strategies.specs.Next.{ways_next}
use Rattle.strategies.specs.worked_games.Games.{coin_loop}
use Rattle.strategies.specs.worked_games.Players.{first_choice}
use Rattle.strategies.specs.worked_games.Counted.{only}
use Rattle.strategies.proofs.Posed.{is_coin}
use Rattle.strategies.proofs.worked_games.ways.the_next_state_is_counted.Goals as goal

-- whatever both play
won-next : (greatest least : Strategy) → greatest [] 0 0 ≡ 0 → ways_next coin_loop (only 1) 1 greatest least 0 ≡ 1
unfolding plays
won-next greatest least first = rw first refl

pub returns-clause-sure : goal.returns-clause-sure
returns-clause-sure c = λ parts best.
    let first : (side : Side) → IsStrategyOf coin_loop side first_choice =
    λ side past s throw inside is. is_coin.game.chosen s inside in
    let taken : best.greatest [] 0 0 < 1 = best.is_greatest [] 0 0 (omega arith) refl in
    let most : 1 * parts 0 ≤ ways_next coin_loop (only 1) 1 best.greatest first_choice 0 =
    best.assured 1 0 first_choice (first Min) (omega arith) in
    let least : ways_next coin_loop (only 1) 1 first_choice best.least 0 ≤ 1 * parts 0 =
    best.held 1 0 first_choice (first Max) (omega arith) in
    omega (
      arith,
      most,
      least,
      won-next best.greatest first_choice (omega (arith, taken)),
      won-next first_choice best.least refl,
    )
