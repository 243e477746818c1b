use Rattle.std.proofs.Common.{◌≡◌, ℕ, arith, sym, ap, ◌∙◌, subst, inl, inr, true, false}
use Rattle.std.specs.Prelude.{slice_index, slice_index_or}
use Rattle.std.proofs.lemmas.Bool.{cases_eq}
use Rattle.trap_sets.specs.inside.OfInternal.{IsStepOf, LeadsOf}
use Rattle.trap_sets.proofs.Leading.{listed-leads, leads-listed, leads-inside}
use Rattle.trap_sets.proofs.Reaching.{IsMore-weaker, IsMore-join}
use Rattle.trap_sets.proofs.reach.Search.follow.Goals as goal

pub add-requires-clause-state : goal.add-requires-clause-state
add-requires-clause-state c =
    let internal = c.args.internal.now in
    let q = internal.mdp.question.now in
    let s = c.args.step.state in
    let d = c.args.step.choice in
    let t : ℕ = slice_index c.successors-to-items.result.now c.loop-to.to-index in
    let leads : LeadsOf internal s d t =
    listed-leads q s d c.loop-to.to-index _ _ c.successors-to-items.ensures c.game.ensures c.loop-to-test.true in
    omega (
      arith,
      leads-inside q s d t internal.mdp.posed c.requires.state c.requires.choice leads,
      c.loop-to.invariant.more.many,
      c.requires.many,
    )

pub loop-to-preserved : goal.loop-to-preserved
loop-to-preserved c =
    let internal = c.args.internal.now in
    let q = internal.mdp.question.now in
    let s = c.args.step.state in
    let d = c.args.step.choice in
    let t : ℕ = slice_index c.successors-to-items.result.now c.loop-to.to-index in
    let step : IsStepOf internal s t = record {
      choice = d;
      state = c.requires.state;
      internal = c.has.ensures.0 c.if-not-has.false;
      leads = listed-leads q s d c.loop-to.to-index _ _ c.successors-to-items.ensures c.game.ensures
          c.loop-to-test.true;
    } in
    record {
      more = IsMore-join (IsStepOf internal s) _ _ _ _ _ _ c.loop-to.invariant.more (IsMore-weaker (λ u. u ≡ t)
          (IsStepOf internal s) _ _ _ _
          (λ u same. subst (IsStepOf internal s) (sym same) step) c.in_ok-add.ensures.more);
      met = λ k below. elim (cases_eq k c.loop-to.to-index) [
        | inl same ↦ ap (λ j. slice_index_or c.add.new.self.marks.items
            (slice_index c.successors-to-items.result.now j) false) same ∙ c.in_ok-add.ensures.added
        | inr other ↦ c.in_ok-add.ensures.more.larger (slice_index c.successors-to-items.result.now k)
            (c.loop-to.invariant.met k (omega (arith, below, other)))
      ];
    }

pub returns-clause-passed : goal.returns-clause-passed
returns-clause-passed c = λ holds t leads.
    let q = c.args.internal.now.mdp.question.now in
    let s = c.args.step.state in
    let d = c.args.step.choice in
    let at = leads-listed q s d t _ _ c.successors-to-items.ensures c.game.ensures leads in
    subst (λ u. slice_index_or c.loop-to.self.marks.items u false ≡ true) at.2
    (c.loop-to.invariant.met at.0 (omega (arith, at.1, c.loop-to-test.false)))
