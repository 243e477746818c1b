use Rattle.std.proofs.Common.{rules, ◌≡◌, ℕ, ◌+◌, sym, subst}
use Rattle.tra_reader.specs.inside.GrowingGames.{IsMade}
use Rattle.tra_reader.proofs.finished_choices.FinishedChoices.end_choice.Goals as goal

pub returns-in-Some-clause-made : goal.returns-in-Some-clause-made
returns-in-Some-clause-made c = λ n ts are some within made.
    let finished = c.args.self.now in
    let more : c.in-Some.count ≡ finished.count + 1 = search rules in
    let P : ℕ → Type 0 = λ count. IsMade n ts finished.state (finished.choice + 1) count c.push.new.self in
    subst P (sym more) (c.push.ensures n finished.count ts are some within made)
