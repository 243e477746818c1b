use Rattle.std.proofs.Common.{◌≡◌, None, arith, refl, sym, subst, inr, ◌∙◌}
use Rattle.game_model.specs.declared.game.Side.TheVariants.{Min}
use Rattle.game_model.specs.Query.{side_at}
use Rattle.rank_certificate.specs.inside.RankLayers.{HasRankWithin}
use Rattle.rank_certificate.specs.Carrying.{IsCarriedBy, IsChosen}
use Rattle.rank_certificate.specs.inside.OfAsked.{value_in, only_in}
use Rattle.rank_certificate.proofs.layers.RankLayers.look.Goals as goal

pub returns-in_ok-join-in-Min : goal.returns-in_ok-join-in-Min
returns-in_ok-join-in-Min c =
    let q = c.args.asked.now.question.now in
    let value = value_in c.args.asked.now in
    let ranks = c.args.self.now.ranks.items in
    let min : side_at q c.args.state ≡ Min = sym c.side.ensures ∙ c.in-Min.is in
    let all : IsCarriedBy Min q value (only_in c.args.asked.now) (HasRankWithin ranks c.args.level) c.args.state =
    rw c.deref-in-Min.ensures.value at (c.all_carry.ensures.0 c.if-all_carry.true) in
    inr (record {
      none = grind (arith, c.is_some.ensures, c.if-is_some.false, c.index.ensures);
      carried = subst (λ side. IsCarriedBy side q value (only_in c.args.asked.now)
          (HasRankWithin ranks c.args.level) c.args.state) (sym min) all;
      choice = None;
      chosen = subst (λ side. IsChosen side q value (only_in c.args.asked.now)
          (HasRankWithin ranks c.args.level) c.args.state None) (sym min) refl;
      new_ranks = c.in_ok-join-in-Min.ensures.ranks;
      new_choices = c.in_ok-join-in-Min.ensures.choices;
      new_order = c.in_ok-join-in-Min.ensures.order;
    })
