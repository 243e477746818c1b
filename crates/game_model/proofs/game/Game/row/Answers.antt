use Rattle.std.proofs.Common.{arith, ap, length}
use Rattle.game_model.proofs.Facts.{state-inside}
use Rattle.game_model.proofs.Rows.{in-order, in-lists, row-is, row-kept}
use Rattle.game_model.proofs.game.Game.row.Goals as goal

pub index-requires : goal.index-requires
index-requires c =
    omega (arith, c.self.inside.first_choice.ok.0, state-inside _ _ _ _ _ _ _ c.self.view_is _ c.requires)

pub index-requires-2 : goal.index-requires-2
index-requires-2 c =
    omega (arith, c.self.inside.first_choice.ok.0, state-inside _ _ _ _ _ _ _ c.self.view_is _ c.requires)

pub part-requires-clause-order : goal.part-requires-clause-order
part-requires-clause-order c =
    omega (
      arith,
      in-order _ _ _ _ _ _ _ c.self.view_is c.self.invariant.laid_out _ _ _ c.requires
          c.index.ensures c.index-2.ensures,
    )

pub part-requires-clause-within : goal.part-requires-clause-within
part-requires-clause-within c =
    omega (
      arith,
      ap length c.deref.ensures.value,
      (in-lists _ _ _ _ _ _ _ c.self.view_is c.self.invariant.laid_out _ _ _ c.requires c.index.ensures
          c.index-2.ensures).0,
    )

pub part-requires-2-clause-order : goal.part-requires-2-clause-order
part-requires-2-clause-order c =
    in-order _ _ _ _ _ _ _ c.self.view_is c.self.invariant.laid_out _ _ _ c.requires c.index.ensures c.index-2.ensures

pub part-requires-2-clause-within : goal.part-requires-2-clause-within
part-requires-2-clause-within c =
    omega (
      arith,
      ap length c.deref-2.ensures.value,
      (in-lists _ _ _ _ _ _ _ c.self.view_is c.self.invariant.laid_out _ _ _ c.requires c.index.ensures
          c.index-2.ensures).1,
    )

pub invariant_of-result : goal.invariant_of-result
invariant_of-result c =
    rw (
      c.part.ensures,
      c.part-2.ensures,
      c.deref.ensures.value,
      c.deref-2.ensures.value,
      c.deref-3.ensures.value,
      c.deref-4.ensures.value,
      c.deref-5.ensures.value,
    )
    (row-kept _ _ _ _ _ _ _ c.self.view_is c.self.invariant.laid_out _ _ _ c.requires c.index.ensures c.index-2.ensures
    c.self.invariant.game)

pub returns : goal.returns
returns c =
    rw (
      c.part.ensures,
      c.part-2.ensures,
      c.deref.ensures.value,
      c.deref-2.ensures.value,
      c.deref-3.ensures.value,
      c.deref-4.ensures.value,
      c.deref-5.ensures.value,
    )
    (row-is _ _ _ _ _ _ _ c.self.view_is c.self.invariant.laid_out _ _ _ c.requires c.index.ensures c.index-2.ensures)
