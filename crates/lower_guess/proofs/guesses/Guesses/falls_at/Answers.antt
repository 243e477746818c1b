use Rattle.std.proofs.Common.{◌<◌, arith}
use Rattle.std.proofs.lemmas.Bool.Decides.{nat_tests}
use Rattle.lower_guess.proofs.Entries.{falls-refused}
use Rattle.lower_guess.proofs.guesses.Guesses.falls_at.Goals as goal

pub returns : goal.returns
returns c = λ h.
    let below : c.in-Some-step.step < c.in-Some.entry = grind (arith, nat_tests) in
    falls-refused c.args.self.now c.args.state c.requires
    (omega (arith, below, c.in-Some.ensures, c.in-Some-step.ensures))
