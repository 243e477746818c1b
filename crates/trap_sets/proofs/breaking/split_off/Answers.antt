use Rattle.std.proofs.Common.{◌≡◌, ◌+◌, ℕ, true, false, List, arith, refl, sym, ◌∙◌, subst}
use Rattle.std.specs.Prelude.{slice_index, slice_index_or}
use Rattle.trap_sets.specs.inside.Breaking.{IsSplit}
use Rattle.trap_sets.proofs.Splitting.{IsSplit-stays, IsSplit-moves, split-all}
use Rattle.trap_sets.proofs.breaking.split_off.Goals as goal
use Rattle.trap_sets.proofs.breaking.split_off.Goals.{then-part-place+then-not-marks-place, else-part-place}
use Rattle.trap_sets.proofs.breaking.split_off.Goals.{else-part-place-via-then-part-place+else-not-marks-place}
use Rattle.trap_sets.proofs.breaking.split_off.Goals.{else-part-place-via-else-part-place}

pub loop-place-preserved : goal.loop-place-preserved
loop-place-preserved c =
    let old = c.args.part.now in
    let marks = c.args.marks.now in
    let state = c.args.state in
    let own : ℕ = slice_index old state in
    let n : ℕ = c.loop-place.place in
    let now = c.loop-place.part in
    let h : IsSplit old marks own (state + 1) n now = c.loop-place.invariant.split in
    let was : slice_index now n ≡ slice_index old n = h.later n (omega arith) in
    record {
      own = refl;
      split = elim c.if-part-place.branch [
        | then-part-place+then-not-marks-place w ↦
            subst (λ (xs : List ℕ). IsSplit old marks own (state + 1) (n + 1) xs) (sym w.part-is)
            (IsSplit-moves old marks own (state + 1) n now h
            (omega (arith, c.loop-place-test.true, h.many)) (sym was ∙ w.if-part-place.true) w.if-not-marks-place.true)
        | else-part-place w ↦ subst (λ (xs : List ℕ). IsSplit old marks own (state + 1) (n + 1) xs) (sym w.part-is)
            (IsSplit-stays old marks own (state + 1) n now h (λ is out. elim w.else-part-place.branch [
              | else-part-place-via-then-part-place+else-not-marks-place v ↦
                  let e : slice_index_or marks n false ≡ true = v.if-not-marks-place.false in
                  cc
              | else-part-place-via-else-part-place v ↦ v.if-part-place.false (was ∙ is)
            ]))
      ];
    }

pub returns : goal.returns
returns c =
    let split = split-all c.args.mdp.now.question.now c.args.mdp.now.replies.now c.args.part.now c.args.marks.now
    c.args.state c.loop-place.place c.loop-place.part c.requires.keeps c.requires.rooted c.requires.breaks
    (omega (arith, c.loop-place-test.false, c.loop-place.invariant.split.many)) c.loop-place.invariant.split in
    record { keeps = split.0; rooted = split.1; more = split.2 }
