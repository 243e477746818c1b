use Rattle.std.proofs.Common.{◌<◌, arith}
use Rattle.std.proofs.lemmas.Bool.Decides.{nat_tests}
use Rattle.upper_guess.proofs.Entries.{refused-at}
use Rattle.upper_guess.proofs.guesses.Guesses.rises_at.Goals as goal

pub returns : goal.returns
returns c = λ h.
    let above : c.in-Some.entry < c.in-Some-entry.raised = grind (arith, nat_tests) in
    refused-at c.args.self.now c.args.steps c.args.state c.requires.state
    (omega (arith, above, c.in-Some.ensures, c.in-Some-entry.ensures))
