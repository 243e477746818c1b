use Rattle.std.proofs.Common.{◌≡◌, length, arith, refl, ap, subst, sym, inl, inr}
use Rattle.std.specs.Prelude.{slice_index}
use Rattle.std.proofs.lemmas.Bool.{cases_lt}
use Rattle.rank_certificate.specs.Ranking.{IsRankedAt}
use Rattle.rank_certificate.proofs.States.{Ranked-each}
use Rattle.rank_certificate.proofs.check.check_ranks.Goals as goal

pub loop-state-preserved : goal.loop-state-preserved
loop-state-preserved c = λ s inside. elim (cases_lt s c.loop-state.state) [
  | inl before ↦ c.loop-state.invariant s before
  | inr here ↦
      let same : s ≡ c.loop-state.state = omega arith in
      let now = c.in_default-check_state.ensures in
      subst (λ t. IsRankedAt c.args.question.now (slice_index c.args.values.now)
      (slice_index c.args.ranks.now) c.args.choices.now t) (sym same) (now.ok.0 refl)
]

pub ranks_reach-requires : goal.ranks_reach-requires
ranks_reach-requires c = Ranked-each c.args.question.now c.args.values.now c.args.choices.now c.args.ranks.now
    c.in_default.ensures c.requires.values
    (λ s inside. c.loop-state.invariant s
    (omega (arith, c.loop-state-test.false, inside, c.states-state-end.ensures, ap length c.game.ensures)))

pub returns-clause-ok : goal.returns-clause-ok
returns-clause-ok c = (
  λ ok. Ranked-each c.args.question.now c.args.values.now c.args.choices.now c.args.ranks.now
      c.in_default.ensures c.requires.values
      (λ s inside. c.loop-state.invariant s
      (omega (arith, c.loop-state-test.false, inside, c.states-state-end.ensures, ap length c.game.ensures))),
  λ ranked. refl,
)
