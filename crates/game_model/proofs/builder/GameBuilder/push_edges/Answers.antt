use Rattle.std.proofs.Common.{◌≡◌, ap, sym, ◌∙◌, subst}
use Rattle.game_model.specs.Game.{Distribution, IsDistribution}
use Rattle.game_model.specs.Flat.{AreFlatLists}
use Rattle.game_model.specs.Draft.{distribution_of, with_choice}
use Rattle.game_model.proofs.Longer.{either, if_ok-more, on_err-more}
use Rattle.game_model.proofs.Push.{draft_at, still-flat, still-draft, pushed-flat, pushed-draft}
use Rattle.game_model.proofs.builder.GameBuilder.push_edges.Goals as goal

-- a distribution is that of its edges
of-edges : (m : Distribution) → IsDistribution m → distribution_of m.edges ≡ m
of-edges m h = ap (λ n. record { total = n; edges = m.edges }) h.sums

pub invariant_of-self : goal.invariant_of-self
invariant_of-self c =
    let fine : IsDistribution (distribution_of c.args.edges.now) = subst IsDistribution
    (sym (of-edges (record { total = c.args.total; edges = c.args.edges.now }) c.requires)) c.requires in
    either c.add_choice.result _ _ _ c.add_choice.ensures.ok c.add_choice.ensures.err
    (λ p. pushed-flat _ _ _ _ _ _ _ _ _ _ _ c.args.edges.now c.self.invariant p.0 p.1 p.2 p.3 p.4 p.5 fine)
    (λ p. subst (λ fe. AreFlatLists c.self.inside.first_choice.items fe c.add_choice.new.totals.items
    c.add_choice.new.to.items c.add_choice.new.low.items c.add_choice.new.high.items) (sym p.0)
    (still-flat _ _ _ _ _ _ _ _ _ _ c.self.invariant p.1 p.2 p.3 p.4))

pub returns-clause-ok : goal.returns-clause-ok
returns-clause-ok c = if_ok-more c.add_choice.result _ _ c.add_choice.ensures.ok
    (λ p. pushed-draft _ _ _ _ _ _ _ _ _ _ _ c.args.edges.now c.self.invariant p.0 p.1 p.2 p.3 p.4 p.5
    ∙ ap (λ d. with_choice d (distribution_of c.args.edges.now)) c.self.view_is
    ∙ ap (λ m. with_choice c.args.self.now m)
    (of-edges (record { total = c.args.total; edges = c.args.edges.now }) c.requires))

pub returns-clause-err : goal.returns-clause-err
returns-clause-err c = on_err-more c.add_choice.result _ _ c.add_choice.ensures.err
    (λ p. ap (λ fe. draft_at c.self.inside.first_choice.items fe c.add_choice.new.totals.items c.add_choice.new.to.items
    c.add_choice.new.low.items c.add_choice.new.high.items) p.0
    ∙ still-draft _ _ _ _ _ _ _ _ _ _ c.self.invariant p.1 p.2 p.3 p.4 ∙ c.self.view_is)
