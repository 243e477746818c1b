use Rattle.std.proofs.Common.{◌≡◌, ℕ, ◌<◌, List, Bool, arith, inl, inr, subst, sym, ap, ◌∙◌, length}
use Rattle.std.specs.Prelude.{slice_index}
use Rattle.std.proofs.lemmas.Bool.{cases_lt}
use Rattle.predecessors.specs.Moves.{LeadsTo}
use Rattle.predecessors.specs.Marks.{IsMarked}
use Rattle.lower_guess.proofs.lesser.mark_again.Goals.{then-next-state, else-next-state}
use Rattle.lower_guess.proofs.lesser.mark_again.Goals as goal

pub loop-state-preserved : goal.loop-state-preserved
loop-state-preserved c =
    let h = c.loop-state.invariant in
    let i : ℕ = c.loop-state.state in
    elim c.if-next-state.branch [
      | then-next-state w ↦ record {
        many = ap length w.marks-is ∙ w.mark_predecessors.ensures.marks;
        marked = λ s c' t upto fell leads.
            subst (λ (m : List Bool). IsMarked m s) (sym w.marks-is) (elim (cases_lt t i) [
              | inl early ↦ w.mark_predecessors.ensures.kept s (h.marked s c' t early fell leads)
              | inr last ↦ w.mark_predecessors.ensures.marked s c'
                  (subst (λ (u : ℕ). LeadsTo c.args.game.now s c' u) (omega (arith, upto, last)) leads)
            ]);
      }
      | else-next-state w ↦ record {
        many = ap length w.marks-is ∙ h.many;
        marked = λ s c' t upto fell leads.
            subst (λ (m : List Bool). IsMarked m s) (sym w.marks-is) (elim (cases_lt t i) [
              | inl early ↦ h.marked s c' t early fell leads
              | inr last ↦
                  let same : t ≡ i = omega (arith, upto, last) in
                  absurd (omega (
                    arith,
                    w.if-next-state.false,
                    subst (λ (u : ℕ). slice_index c.args.next.now u < slice_index c.args.table.now u) same fell,
                  ))
            ]);
      }
    ]

pub returns-clause-marked : goal.returns-clause-marked
returns-clause-marked c s c' t inside fell leads = c.loop-state.invariant.marked s c' t
    (omega (arith, inside, c.loop-state-test.false, c.states-state-end.ensures)) fell leads
