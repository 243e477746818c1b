use Rattle.std.proofs.Common.{◌≡◌, ℕ, ◌+◌, ◌*◌, ◌^◌, ◌<◌, arith, sym, subst, ◌∙◌}
use Rattle.std.specs.Prelude.{IfSome}
use Rattle.fixed_bellman.proofs.GameSums.{one-more, one-more-fits}
use Rattle.upper_guess.specs.inside.OfGuesses.{entry_of}
use Rattle.upper_guess.proofs.Entries.{entry-first, entry-goal, entry-dead, entry-free, entry-units}
use Rattle.upper_guess.proofs.guesses.Guesses.+local.Goals as goal

pub entry-returns-then-steps-eq0 : goal.entry-returns-then-steps-eq0
entry-returns-then-steps-eq0 t c =
    c.first_entry.ensures.value ∙ sym (entry-first c.args.self.now c.args.steps c.args.state c.if-steps-eq0.true)

pub entry-returns-then-is_goal : goal.entry-returns-then-is_goal
entry-returns-then-is_goal t c = sym (entry-goal c.args.self.now c.args.steps c.args.state
    (omega (arith, c.if-steps-eq0.false)) (sym c.is_goal.ensures ∙ c.if-is_goal.true))

pub entry-returns-then-is_dead : goal.entry-returns-then-is_dead
entry-returns-then-is_dead t c =
    sym (entry-dead c.args.self.now c.args.steps c.args.state (omega (arith, c.if-steps-eq0.false))
    (sym c.is_goal.ensures ∙ c.if-is_goal.false) (sym c.is_dead.ensures ∙ c.if-is_dead.true))

pub entry-returns : goal.entry-returns
entry-returns t c =
    subst (λ (x : ℕ). IfSome c.best.result (λ v. v ≡ x))
    (sym (entry-free c.args.self.now c.args.steps c.args.state (omega (arith, c.if-steps-eq0.false))
    (sym c.is_goal.ensures ∙ c.if-is_goal.false) (sym c.is_dead.ensures ∙ c.if-is_dead.false)))
    c.best.ensures

pub sum-overflow_mul-sum : goal.sum-overflow_mul-sum
sum-overflow_mul-sum t c =
    let fits : c.loop-place.sum + c.edge-edge.result.weight * c.in_ok-entry.entry < 2 ^ 128 =
    one-more-fits c.args.self.now.question.now (entry_of c.args.self.now c.args.steps) c.args.state c.args.choice
    c.loop-place.place c.loop-place.sum (entry-units c.args.self.now c.args.steps) c.game-game.ensures
    c.edge_count-place-end.ensures c.loop-place-test.true c.edge-edge.ensures c.loop-place.invariant
    c.in_ok-entry.ensures c.args.self.now.posed c.requires.state c.requires.choice in
    rw c.from.ensures (omega (arith, fits))

pub sum-overflow_add-sum : goal.sum-overflow_add-sum
sum-overflow_add-sum t c =
    let fits : c.loop-place.sum + c.edge-edge.result.weight * c.in_ok-entry.entry < 2 ^ 128 =
    one-more-fits c.args.self.now.question.now (entry_of c.args.self.now c.args.steps) c.args.state c.args.choice
    c.loop-place.place c.loop-place.sum (entry-units c.args.self.now c.args.steps) c.game-game.ensures
    c.edge_count-place-end.ensures c.loop-place-test.true c.edge-edge.ensures c.loop-place.invariant
    c.in_ok-entry.ensures c.args.self.now.posed c.requires.state c.requires.choice in
    rw c.from.ensures (omega (arith, fits))

pub sum-loop-place-preserved : goal.sum-loop-place-preserved
sum-loop-place-preserved t c =
    rw c.from.ensures (one-more c.args.self.now.question.now (entry_of c.args.self.now c.args.steps) c.args.state
    c.args.choice c.loop-place.place c.loop-place.sum (entry-units c.args.self.now c.args.steps) c.game-game.ensures
    c.edge_count-place-end.ensures c.loop-place-test.true c.edge-edge.ensures c.loop-place.invariant
    c.in_ok-entry.ensures)
