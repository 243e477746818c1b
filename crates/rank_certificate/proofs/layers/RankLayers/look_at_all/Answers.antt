use Rattle.std.proofs.Common.{◌≡◌, ◌<◌, length, arith, ap, sym, subst, ◌∙◌, inl, inr}
use Rattle.std.proofs.lemmas.Bool.{cases_lt}
use Rattle.game_model.specs.Query.{states}
use Rattle.rank_certificate.specs.inside.RankLayers.{IsApart}
use Rattle.rank_certificate.proofs.Looked.{Looks-many, Looks-kept, Looks-apart, Looks-grown}
use Rattle.rank_certificate.specs.inside.OfAsked.{value_in, only_in}
use Rattle.rank_certificate.proofs.layers.RankLayers.look_at_all.Goals as goal

pub loop-state-preserved : goal.loop-state-preserved
loop-state-preserved c =
    let q = c.args.asked.now.question.now in
    let value = value_in c.args.asked.now in
    let only = only_in c.args.asked.now in
    let level = c.args.level in
    let h = c.loop-state.invariant in
    let at = c.loop-state.state in
    let inside : at < states q =
    omega (arith, c.loop-state-test.true, c.states-state-end.ensures, ap length c.game.ensures) in
    let looks = c.in_ok-look.ensures in
    let many = Looks-many q value only level at _ _ _ _ _ _ looks in
    record {
      ranks = many.0 ∙ h.ranks;
      choices = many.1 ∙ h.choices;
      layers = λ begin old first. Looks-grown q value only level begin old _ _ _ c.args.asked.now.posed
          (h.layers begin old first) at inside _ _ _ looks;
      apart = λ begin old first s less left. elim (cases_lt s at) [
        | inl early ↦ h.apart begin old first s early (Looks-kept q value only level at _ _ _ _ _ _ looks s left)
        | inr last ↦
            let same : s ≡ at = omega (arith, less, last) in
            subst (λ u. IsApart q value only level c.look.new.self.ranks.items u) (sym same) (Looks-apart q value only
            level begin old _ _ _ c.args.asked.now.posed (h.layers begin old first) at inside _ _ _ looks) left
      ];
    }

pub returns-clause-apart : goal.returns-clause-apart
returns-clause-apart c begin old first s inside = c.loop-state.invariant.apart begin old first s
    (omega (arith, inside, c.loop-state-test.false, c.states-state-end.ensures, ap length c.game.ensures))
