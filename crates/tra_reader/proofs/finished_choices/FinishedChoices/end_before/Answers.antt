use Rattle.std.proofs.Common.{rules, ◌≡◌, ◌<◌, [], length, sym, subst, arith}
use Rattle.std.proofs.lemmas.List.{nil_from_length}
use Rattle.std.proofs.lemmas.Bool.Decides.{nat_tests}
use Rattle.tra_reader.specs.declared.finished_choices.FinishedChoices.{FinishedChoices}
use Rattle.tra_reader.specs.inside.GrowingGames.{AreFinishedBefore}
use Rattle.tra_reader.proofs.Gaps.{before_next, before_first}
use Rattle.tra_reader.proofs.finished_choices.FinishedChoices.end_before.Goals as goal
use Rattle.tra_reader.proofs.finished_choices.FinishedChoices.end_before.Goals.{then-not-is_empty, else-not-is_empty}

pub returns-clause-made : goal.returns-clause-made
returns-clause-made c = λ n place ts h le are within none made.
    let old = c.args.self.now in
    let P : FinishedChoices → Type 0 = λ finished. AreFinishedBefore n ts place finished in
    let before : AreFinishedBefore n ts place c.if-not-is_empty.self = elim c.if-not-is_empty.branch [
      | then-not-is_empty w ↦
          let some : 0 < length c.args.parts.now = search rules in
          let is = w.end_choice.ensures in
          subst P (sym w.self-is) (before_next n place ts old w.end_choice.new.self is.state is.choice c.requires.low
          within none (is.made n ts are some within made))
      | else-not-is_empty w ↦
          let empty : c.args.parts.now ≡ [] = nil_from_length c.args.parts.now (grind (arith, nat_tests, w)) in
          subst P (sym w.self-is)
          (before_first n place ts old c.args.parts.now empty are c.requires.low within none made)
    ] in
    c.end_states.ensures.made n place ts h le before
