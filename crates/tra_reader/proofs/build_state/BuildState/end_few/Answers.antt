use Rattle.std.proofs.Common.{rules, ◌≡◌, ◌+◌, sym, subst}
use Rattle.game_model.specs.Draft.{Draft}
use Rattle.tra_reader.specs.declared.build_state.BuildState.{BuildState}
use Rattle.tra_reader.specs.declared.build_state.BuildState.TheVariants.{Builds}
use Rattle.tra_reader.specs.inside.GrowingGames.{IsMade, ended}
use Rattle.tra_reader.proofs.FinishedSteps.{built_state, other_state}
use Rattle.tra_reader.proofs.build_state.BuildState.end_few.Goals as goal

pub returns-else-is_err : goal.returns-else-is_err
returns-else-is_err c = λ n count ts h few none within made.
    let s = c.args.state in
    let k = c.args.choices in
    let P : BuildState → Type 0 = λ p. IsMade n ts s k count p in
    let Q : Draft → Type 0 = λ d. IsMade n ts (s + 1) 0 count (Builds d) in
    let built : c.end.new.builder ≡ ended s k c.in-Builds.builder = search rules in
    subst Q (sym built) (built_state n ts s k count c.in-Builds.builder h c.requires none (subst P c.in-Builds.is made))

pub returns-in_default : goal.returns-in_default
returns-in_default c = λ n count ts h few none within made.
    other_state n ts c.args.state c.args.choices count c.args.self.now c.in_default.not-Builds c.requires none made
