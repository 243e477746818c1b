use Rattle.std.proofs.Common.{◌≡◌, ◌∙◌, ap, sym, subst, arith, Some, inl, inr}
use Rattle.std.proofs.lemmas.Result.{err_from_is_err_and}
use Rattle.formula_reader.specs.Formula.{State}
use Rattle.formula_reader.specs.Grammar.{unary, nested}
use Rattle.formula_tokens.specs.Reading.{follows}
use Rattle.formula_reader.specs.inside.Levels.{sign_of, join_of, level_of, operand_of}
use Rattle.formula_tokens.specs.Cursor.{tokens_at}
use Rattle.formula_reader.proofs.Derived.{operand_shortens}
use Rattle.formula_reader.proofs.Joining.{Stands, one_less, went_on, broke_off}
use Rattle.formula_reader.proofs.states.+state.Goals as goal

pub level_state-loop-after-preserved : goal.level_state-loop-after-preserved
level_state-loop-after-preserved t c =
    let next : follows (sign_of c.args.level) (tokens_at c.loop-after.rest) ≡ Some (tokens_at c.in-Some.after) =
    ap (λ s. follows s (tokens_at c.loop-after.rest)) (sym c.sign.ensures) ∙ c.in-Some.ensures in
    let P : State → Type 0 = λ x. Stands (sign_of c.args.level) (join_of c.args.level)
    (operand_of c.args.level (unary (nested c.args.room))) x (tokens_at c.in_ok-right.behind_right)
    (level_of c.args.level (unary (nested c.args.room)) (tokens_at c.args.cursor)) in
    subst P (sym c.in_ok-left-2.ensures) (went_on _ _ _ _ _ _ _ _ _ c.loop-after.invariant next c.in_ok-right.ensures
    (operand_shortens c.args.level c.args.room _ _ _ c.in_ok-right.ensures))

pub level_state-returns-in_err-right : goal.level_state-returns-in_err-right
level_state-returns-in_err-right t c =
    let next : follows (sign_of c.args.level) (tokens_at c.loop-after.rest) ≡ Some (tokens_at c.in-Some.after) =
    ap (λ s. follows s (tokens_at c.loop-after.rest)) (sym c.sign.ensures) ∙ c.in-Some.ensures in
    let p = err_from_is_err_and c.from_residual-in_err-right.result c.from_residual-in_err-right.ensures.1 in
    rw (p.1, p.2) (elim c.in_err-right.ensures [
      | inl memory ↦ inl memory
      | inr fault ↦ inr (broke_off _ _ _ _ _ _ _ _ c.loop-after.invariant next fault)
    ])

pub level_state-loop-after-smaller : goal.level_state-loop-after-smaller
level_state-loop-after-smaller t c =
    let next : follows (sign_of c.args.level) (tokens_at c.loop-after.rest) ≡ Some (tokens_at c.in-Some.after) =
    ap (λ s. follows s (tokens_at c.loop-after.rest)) (sym c.sign.ensures) ∙ c.in-Some.ensures in
    omega (
      arith,
      operand_shortens c.args.level c.args.room _ _ _ c.in_ok-right.ensures,
      one_less (sign_of c.args.level) (tokens_at c.loop-after.rest) (tokens_at c.in-Some.after) next,
    )
