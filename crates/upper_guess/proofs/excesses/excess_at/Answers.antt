use Rattle.std.proofs.Common.{arith, ◌^◌, ◌≤◌, ◌<◌}
use Rattle.std.proofs.Math.Nat.{pow-le-pow_right}
use Rattle.upper_guess.specs.Guess.{last_place}
use Rattle.upper_guess.proofs.excesses.excess_at.Goals as goal

pub returns-clause-small : goal.returns-clause-small
returns-clause-small c =
    let most : 2 ^ c.args.place ≤ 2 ^ last_place = pow-le-pow_right (let two : 0 < 2 = omega arith in two) c.requires in
    omega (arith, most)
