use Rattle.std.proofs.Common.{arith, ◌<◌, ap, ◌∙◌, sym, subst}
use Rattle.game_model.specs.Limits.{total_bound}
use Rattle.game_model.specs.Game.{choice_among}
use Rattle.game_model.proofs.Rising.{total-pos}
use Rattle.game_model.proofs.Rows.{row-count, total-in, fine}
use Rattle.game_model.proofs.row.Row.total.Goals as goal

pub bounds-self-inside-choice : goal.bounds-self-inside-choice
bounds-self-inside-choice c = omega (arith, c.self.invariant.enough, row-count _ _ _ _ _ _ c.self.view_is, c.requires)

pub returns-then-total-eq0-clause-value : goal.returns-then-total-eq0-clause-value
returns-then-total-eq0-clause-value c =
    c.added_total.ensures ∙ ap (λ row. (choice_among row c.args.choice).total) c.again.ensures

pub returns-then-total-eq0-clause-positive : goal.returns-then-total-eq0-clause-positive
returns-then-total-eq0-clause-positive c =
    subst (λ n. 0 < n) (sym (returns-then-total-eq0-clause-value c))
    (total-pos _ (fine _ _ _ _ _ _ c.self.view_is c.self.invariant _ c.requires))

pub returns-then-total-eq0-clause-small : goal.returns-then-total-eq0-clause-small
returns-then-total-eq0-clause-small c =
    subst (λ n. n < total_bound) (sym (returns-then-total-eq0-clause-value c))
    (fine _ _ _ _ _ _ c.self.view_is c.self.invariant _ c.requires).small

pub returns-clause-value : goal.returns-clause-value
returns-clause-value c =
    c.from.ensures ∙ total-in _ _ _ _ _ _ c.self.view_is _ c.requires (omega (arith, c.if-total-eq0.false))

pub returns-clause-positive : goal.returns-clause-positive
returns-clause-positive c =
    subst (λ n. 0 < n) (sym (returns-clause-value c))
    (total-pos _ (fine _ _ _ _ _ _ c.self.view_is c.self.invariant _ c.requires))

pub returns-clause-small : goal.returns-clause-small
returns-clause-small c =
    subst (λ n. n < total_bound) (sym (returns-clause-value c))
    (fine _ _ _ _ _ _ c.self.view_is c.self.invariant _ c.requires).small
