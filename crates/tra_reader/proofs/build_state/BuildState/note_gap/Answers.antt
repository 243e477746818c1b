use Rattle.std.proofs.Common.{inl, inr, None, Some, subst}
use Rattle.tra_reader.specs.declared.build_state.BuildState.{BuildState}
use Rattle.tra_reader.specs.inside.GrowingGames.{IsMade}
use Rattle.tra_reader.proofs.Gaps.{noted}
use Rattle.tra_reader.proofs.build_state.BuildState.note_gap.Goals as goal

pub returns-in-Builds : goal.returns-in-Builds
returns-in-Builds c = λ n count later ts h none found made.
    let P : BuildState → Type 0 = λ p. IsMade n ts c.args.state c.args.choice count p in
    elim c.in-Builds.is [
      | inl builds ↦ noted None ts c.args.state c.args.choice later count h none found ((subst P builds.1 made).0)
      | inr (inl faulty) ↦ noted None ts c.args.state c.args.choice later count h none found ((subst P faulty.1 made).0)
      | inr (inr crowded) ↦
          noted (Some crowded.0) ts c.args.state c.args.choice later count h none found (subst P crowded.1 made)
    ]
