use Rattle.std.proofs.Common.{rules, ◌≡◌, ◌∙◌, Err, Ok, Option, None, Some, List, inr, sym, ap, subst, arith}
use Rattle.game_model.specs.Game.{Distribution}
use Rattle.transition_lines.specs.declared.fault.TraFault.{TraFault}
use Rattle.tra_reader.specs.declared.build_state.BuildState.TheVariants.{Builds, Faulty, Crowded, Gap}
use Rattle.transition_lines.specs.Choices.{states_said}
use Rattle.tra_reader.specs.inside.GrowingGames.{IsAsStated}
use Rattle.tra_reader.proofs.Gaps.{made_of_all, gap_game, full_game, fault_said, stated_answer}
use Rattle.tra_reader.proofs.finished_choices.FinishedChoices.finish.Goals as goal

pub returns-in-Gap : goal.returns-in-Gap
returns-in-Gap c = λ n ts state choice made.
    let i = c.in-Gap.state in
    let j = c.in-Gap.choice in
    let is = made_of_all n ts c.args.self (Gap i j) state choice c.in-Gap.is made in
    inr (gap_game ts n i j c.args.stated (omega (arith, is.1)) is.0
    ∙ ap (λ (f : TraFault). Err f) (sym c.of_all-in-Gap.ensures))

pub returns-in-Crowded : goal.returns-in-Crowded
returns-in-Crowded c = λ n ts state choice made.
    let i = c.in-Crowded.state in
    let is = made_of_all n ts c.args.self (Crowded i) state choice c.in-Crowded.is made in
    inr (full_game (Some i) ts n c.args.self.count c.args.stated is
    ∙ ap (λ (f : TraFault). Err f) (sym c.of_all-in-Crowded.ensures))

pub returns-in-Faulty : goal.returns-in-Faulty
returns-in-Faulty c = λ n ts state choice made.
    let fault = c.in-Faulty.fault in
    let count = c.args.self.count in
    let is = made_of_all n ts c.args.self (Faulty fault) state choice c.in-Faulty.is made in
    inr (full_game None ts n count c.args.stated is.0 ∙ stated_answer c.args.stated count _ fault
    (states_said ts n) c.stated_otherwise-otherwise.ensures (fault_said ts n fault is.1)
    ∙ ap (λ (f : TraFault). Err f) (sym c.unwrap_or.ensures))

pub returns-in-Some : goal.returns-in-Some
returns-in-Some c = λ n ts state choice made.
    let count = c.args.self.count in
    let is = made_of_all n ts c.args.self (Builds c.in-Builds.builder) state choice c.in-Builds.is made in
    let P : Option TraFault → Type 0 = λ o. IsAsStated c.args.stated count o in
    inr (full_game None ts n count c.args.stated is.0
    ∙ (subst P c.in-Some.is c.stated_otherwise-otherwise.ensures) (states_said ts n))

pub returns-in-None : goal.returns-in-None
returns-in-None c = λ n ts state choice made.
    let count = c.args.self.count in
    let is = made_of_all n ts c.args.self (Builds c.in-Builds.builder) state choice c.in-Builds.is made in
    let P : Option TraFault → Type 0 = λ o. IsAsStated c.args.stated count o in
    let game : c.finish.result ≡ c.in-Builds.builder.done = search rules in
    full_game None ts n count c.args.stated is.0
    ∙ (subst P c.in-None.is c.stated_otherwise-otherwise.ensures) (states_said ts n) ∙ is.1.done
    ∙ ap (λ (g : List (List Distribution)). Ok g) (sym game)
