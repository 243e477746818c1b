use Rattle.std.proofs.Common.{arith, ◌≡◌, ◌-◌, ◌++◌, ◌∷◌, [], ap, ◌∙◌, length}
use Rattle.game_model.specs.Draft.{with_state}
use Rattle.game_model.proofs.State.{ended-draft}
use Rattle.game_model.proofs.builder.GameBuilder.end_state.Goals as goal

pub returns-clause-ok : goal.returns-clause-ok
returns-clause-ok c =
    let count : c.len-end.result ≡ length c.self.inside.first_edge.items =
    omega (arith, c.len-end.ensures, c.self.inside.first_edge.ok.0) in
    ended-draft _ _ _ _ _ _ _ c.self.invariant
    (c.in_ok-push.ensures.items ∙ ap (λ n. c.self.inside.first_choice.items ++ (n - 1) ∷ []) count)
    ∙ ap with_state c.self.view_is
