use Rattle.std.proofs.Common.{◌≡◌, length, map, not, arith, ap, sym, subst, ◌∙◌}
use Rattle.std.proofs.lemmas.List.{length-map}
use Rattle.game_model.specs.Dual.{IsZeroSet}
use Rattle.zero_sets.proofs.Values.{IsZeroSet-complement}
use Rattle.zero_sets.proofs.zero_set_over.Goals as goal

pub of_list-requires : goal.of_list-requires
of_list-requires c =
    let many : length c.in_ok-complement.field-0.items ≡ length c.in_ok-reached.reached.items =
    ap length (c.in_ok-complement.ensures ∙ ap (map not) c.deref.ensures.value)
    ∙ length-map c.in_ok-reached.reached.items not in
    omega (arith, many, c.in_ok-reached.ensures.many, c.invariant.ensures.game.few)

pub returns : goal.returns
returns c =
    subst (IsZeroSet c.args.question.now)
    (sym (c.of_list.ensures ∙ c.in_ok-complement.ensures ∙ ap (map not) c.deref.ensures.value))
    (IsZeroSet-complement c.args.question.now c.in_ok-reached.reached.items c.invariant.ensures c.in_ok-reached.ensures)
