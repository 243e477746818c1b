use Rattle.std.proofs.Common.{length, arith, ap, subst, inl, inr}
use Rattle.std.proofs.lemmas.Bool.{cases_eq}
use Rattle.game_model.specs.Game.{choices_of}
use Rattle.trap_sets.specs.inside.OfInternal.{IsInternalOf, LeadsOf}
use Rattle.trap_sets.proofs.Reaching.{IsMore-join}
use Rattle.trap_sets.proofs.reach.Search.go_on.Goals as goal

pub loop-choice-preserved : goal.loop-choice-preserved
loop-choice-preserved c =
    let internal = c.args.internal.now in
    record {
      more = IsMore-join _ _ _ _ _ _ _ c.loop-choice.invariant.more c.in_ok-follow.ensures.more;
      met = λ d t below holds leads. elim (cases_eq d c.loop-choice.choice) [
        | inl same ↦ c.in_ok-follow.ensures.passed (subst (IsInternalOf internal c.args.state) same holds) t
            (subst (λ e. LeadsOf internal c.args.state e t) same leads)
        | inr other ↦ c.in_ok-follow.ensures.more.larger t
            (c.loop-choice.invariant.met d t (omega (arith, below, other)) holds leads)
      ];
    }

pub returns-clause-passed : goal.returns-clause-passed
returns-clause-passed c = λ t step. c.loop-choice.invariant.met step.choice t (omega (
  arith,
  step.internal.mdp.inside,
  c.loop-choice-test.false,
  c.choices_of-choice-end.ensures,
  ap (λ g. length (choices_of g c.args.state)) c.game.ensures,
)) step.internal step.leads
