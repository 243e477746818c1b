use Rattle.std.proofs.Common.{◌≡◌, ℕ, ◌+◌, ◌<◌, List, length, arith, ap, sym, subst}
use Rattle.std.specs.Prelude.{slice_index}
use Rattle.game_model.specs.declared.game.Side.TheVariants.{Max}
use Rattle.game_model.specs.Game.{choices_of}
use Rattle.game_model.specs.Query.{side_at}
use Rattle.trap_sets.specs.Exits.{IsBestBefore}
use Rattle.trap_sets.proofs.Exits.{best-stays, best-less, best-raised}
use Rattle.trap_sets.proofs.lower.raise_exit.Goals as goal
use Rattle.trap_sets.proofs.lower.raise_exit.Goals.{then-not-stays+then-exits-trap, then-not-stays+else-exits-trap}
use Rattle.trap_sets.proofs.lower.raise_exit.Goals.{else-not-stays}

pub loop-choice-preserved : goal.loop-choice-preserved
loop-choice-preserved c =
    let q = c.args.upper.now.question.now in
    let v = slice_index c.args.upper.now.entries.now in
    let greatest : side_at q c.args.state ≡ Max = sym c.in-Max.ensures in
    let inside : c.loop-choice.choice < length (choices_of q.game c.args.state) = omega (
      arith,
      c.loop-choice-test.true,
      c.choices_of-choice-end.ensures,
      ap (λ g. length (choices_of g c.args.state)) c.game.ensures,
    ) in
    elim c.if-not-stays.branch [
      | then-not-stays+then-exits-trap w ↦ subst
          (λ (xs : List ℕ). IsBestBefore q v c.args.of.now xs c.args.state (c.loop-choice.choice + 1)) (sym w.exits-is)
          (best-raised q v c.args.of.now c.loop-choice.exits c.args.state c.loop-choice.choice c.loop-choice.invariant
          w.up_choice-value.result c.requires.state inside greatest (c.stays.ensures.no w.if-not-stays.true)
          (omega (arith, c.requires.most, c.loop-choice.auto.exits)) w.up_choice-value.ensures.value
          w.if-exits-trap.true)
      | then-not-stays+else-exits-trap w ↦ subst
          (λ (xs : List ℕ). IsBestBefore q v c.args.of.now xs c.args.state (c.loop-choice.choice + 1)) (sym w.exits-is)
          (best-less q v c.args.of.now c.loop-choice.exits c.args.state c.loop-choice.choice c.loop-choice.invariant
          (omega (arith, w.up_choice-value.ensures.value, w.if-exits-trap.false)))
      | else-not-stays w ↦ subst
          (λ (xs : List ℕ). IsBestBefore q v c.args.of.now xs c.args.state (c.loop-choice.choice + 1)) (sym w.exits-is)
          (best-stays q v c.args.of.now c.loop-choice.exits c.args.state c.loop-choice.choice c.loop-choice.invariant
          (c.stays.ensures.yes w.if-not-stays.false))
    ]
