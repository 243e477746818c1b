use Rattle.std.proofs.Common.{◌≡◌, ℕ, ◌+◌, arith, subst}
use Rattle.round_workers.specs.Share.{IsSwept}
use Rattle.round_workers.proofs.Sweeps.{swept-twice, swept-one}
use Rattle.round_workers.proofs.sweep.walk.Goals as goal
use Rattle.round_workers.proofs.sweep.walk.Goals.{then-visit, else-visit}

pub loop-state-preserved : goal.loop-state-preserved
loop-state-preserved g c =
    let q = g.P.Posing.posed in
    let marks = c.args.task.now.marks.now in
    let u = c.visit.ensures in
    let old = c.args.pass.now.seat in
    let mid = c.loop-state.pass.seat in
    let new = c.visit.new.pass.seat in
    elim c.if-visit.branch [
      | then-visit w ↦ rw w.raises-is (swept-twice q marks c.args.from c.loop-state.state (c.loop-state.state + 1) old
          mid new c.loop-state.raises 1 c.args.task.now.table.now.posed c.loop-state.invariant
          (swept-one q marks c.loop-state.state 1 mid new u.grew u.step
          (let more = w.if-visit.ensures.won in omega arith) (omega arith) u.parts))
      | else-visit w ↦ rw w.raises-is
          (subst (λ (n : ℕ). IsSwept q marks 1 c.args.from (c.loop-state.state + 1) old new n)
          (let none : c.loop-state.raises + 0 ≡ c.loop-state.raises = omega arith in none)
          (swept-twice q marks c.args.from c.loop-state.state (c.loop-state.state + 1) old mid new c.loop-state.raises 0
          c.args.task.now.table.now.posed c.loop-state.invariant
          (swept-one q marks c.loop-state.state 0 mid new u.grew u.step
          (let same = w.if-visit.ensures.won in omega arith) (omega arith) u.parts)))
    ]
