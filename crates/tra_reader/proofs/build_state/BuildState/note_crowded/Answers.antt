use Rattle.std.proofs.Common.{inl, inr, subst}
use Rattle.tra_reader.specs.declared.build_state.BuildState.{BuildState}
use Rattle.tra_reader.specs.inside.GrowingGames.{IsMade}
use Rattle.tra_reader.proofs.FinishedSteps.{crowded_state, later_state}
use Rattle.tra_reader.proofs.build_state.BuildState.note_crowded.Goals as goal

pub returns-in-Builds : goal.returns-in-Builds
returns-in-Builds c = λ k many n count ts h few none within made.
    let P : BuildState → Type 0 = λ p. IsMade n ts c.args.state k count p in
    elim c.in-Builds.is [
      | inl builds ↦ crowded_state ts c.args.state k count many none ((subst P builds.1 made).0)
      | inr faulty ↦ crowded_state ts c.args.state k count many none ((subst P faulty.1 made).0)
    ]

pub returns-in-Gap-2 : goal.returns-in-Gap-2
returns-in-Gap-2 c = λ k many n count ts h few none within made.
    elim c.in-Gap.is [
      | inl gap ↦ later_state n ts c.args.state k count c.args.self.now (λ draft e. cc gap.2)
          (λ fault e. cc gap.2) few none made
      | inr (inl crowded) ↦ later_state n ts c.args.state k count c.args.self.now (λ draft e. cc crowded.1)
          (λ fault e. cc crowded.1) few none made
      | inr (inr wanting) ↦ later_state n ts c.args.state k count c.args.self.now (λ draft e. cc wanting)
          (λ fault e. cc wanting) few none made
    ]
