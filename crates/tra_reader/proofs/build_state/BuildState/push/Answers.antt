use Rattle.std.proofs.Common.{◌+◌, sym, subst}
use Rattle.tra_reader.specs.declared.build_state.BuildState.{BuildState}
use Rattle.tra_reader.specs.inside.GrowingGames.{IsMade}
use Rattle.tra_reader.proofs.FinishedSteps.{built_choice, fault_choice, some_of_parts}
use Rattle.tra_reader.proofs.build_state.BuildState.push.Goals as goal

pub returns-in-Err : goal.returns-in-Err
returns-in-Err c = λ n count ts are some within made.
    let s = c.args.state in
    let k = c.args.choice in
    let P : BuildState → Type 0 = λ p. IsMade n ts s k count p in
    let Q : BuildState → Type 0 = λ p. IsMade n ts s (k + 1) (count + 1) p in
    subst Q (sym c.after_fault.ensures)
    (fault_choice n ts s k count c.in-Builds.builder c.in-Err.fault c.args.parts.now are
    (some_of_parts ts s k c.args.parts.now are some) c.in-Err.ensures.err (subst P c.in-Builds.is made))

pub returns-in_default-build : goal.returns-in_default-build
returns-in_default-build c = λ n count ts are some within made.
    let s = c.args.state in
    let k = c.args.choice in
    let P : BuildState → Type 0 = λ p. IsMade n ts s k count p in
    built_choice n ts s k count c.args.parts.now c.in-Builds.builder c.build.new.builder are
    (some_of_parts ts s k c.args.parts.now are some) within c.in_default-build.ensures.ok (subst P c.in-Builds.is made)
