use Rattle.std.proofs.Common.{map}
use Rattle.std.specs.String.{string_bytes}
use Rattle.reward_words.proofs.Denoting.{solve_denoted}
use Rattle.reward_words.proofs.words.read_solve.Goals as goal

pub returns-in-Some : goal.returns-in-Some
returns-in-Some c =
    let found = rw c.in-Some.is at c.in_ok-matches.ensures in
    solve_denoted c.in_ok-solve_reward_command.field-0 c.in-Some.matches (map string_bytes c.args.words.now)
    c.solve_reward_words.result c.in_ok-solve_reward_command.ensures found c.solve_reward_words.ensures
