use Rattle.std.proofs.Common.{◌<◌, arith}
use Rattle.tra_reader.proofs.finished_choices.FinishedChoices.go_to.Goals as goal

pub returns-clause-made : goal.returns-clause-made
returns-clause-made c = λ n ts found low is.
    let finished = c.args.self.now in
    let h : finished.choice < c.args.choice = omega arith in
    c.note_gap.ensures n finished.count c.args.choice ts h
    (is.none finished.state finished.choice (omega (arith, h, low)) (omega arith) (omega (arith, h))) found is.made
