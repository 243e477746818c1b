use Rattle.std.proofs.Common.{ℕ, List, ap, sym, ◌∙◌, subst}
use Rattle.game_model.specs.declared.game.Edge.{Edge}
use Rattle.game_model.specs.Game.{IsDistribution}
use Rattle.game_model.specs.Draft.{with_choice}
use Rattle.game_model.proofs.Longer.{if_ok-more}
use Rattle.game_model.proofs.builder.GameBuilder.push_choice.Goals as goal

pub push_edges-requires : goal.push_edges-requires
push_edges-requires c =
    let P : ℕ → Type 0 = λ n. IsDistribution (record { total = n; edges = c.args.choice.now.edges }) in
    let Q : List Edge → Type 0 = λ es. IsDistribution (record { total = c.total.result; edges = es }) in
    subst Q (sym c.edges.ensures) (subst P (sym c.total.ensures) c.invariant.ensures)

pub returns-clause-ok : goal.returns-clause-ok
returns-clause-ok c = if_ok-more c.push_edges.result _ _ c.push_edges.ensures.ok
    (λ p. p ∙ ap (λ n. with_choice c.args.self.now (record { total = n; edges = c.edges.result.now })) c.total.ensures
    ∙ ap (λ es. with_choice c.args.self.now (record { total = c.args.choice.now.total; edges = es })) c.edges.ensures)
