use Rattle.std.proofs.Common.{◌≡◌, ◌+◌, length, arith, subst, sym}
use Rattle.rank_certificate.specs.inside.OfAsked.{value_in, only_in}
use Rattle.game_model.proofs.Longer.{longer-length}
use Rattle.rank_certificate.specs.inside.RankLayers.{AreRankLayers}
use Rattle.rank_certificate.proofs.NextLayer.{Opened-layers, RankLayers-step}
use Rattle.rank_certificate.proofs.table.all_layers.Goals as goal

pub loop-begin-init : goal.loop-begin-init
loop-begin-init c =
    let q = c.args.asked.now.question.now in
    let value = value_in c.args.asked.now in
    let order = c.in_ok-layers.layers.order.items in
    let opened : AreRankLayers q value (only_in c.args.asked.now) 0 0 order c.in_ok-layers.layers.ranks.items
    c.in_ok-layers.layers.choices.items order =
    Opened-layers q value (only_in c.args.asked.now) _ _ _ c.in_ok-layers.ensures.opened c.in_ok-layers.ensures.choices
    c.in_ok-layers.ensures.none in
    let h = c.in_ok-look_at_all.ensures.layers 0 order opened in
    let begin : c.len-begin.result ≡ length order =
    omega (arith, c.len-begin.ensures, c.in_ok-layers.layers.order.ok.0) in
    record {
      layers = subst (λ n. AreRankLayers q value (only_in c.args.asked.now) 1 n c.look_at_all.new.self.order.items
          c.look_at_all.new.self.ranks.items c.look_at_all.new.self.choices.items c.look_at_all.new.self.order.items)
          (sym begin)
          (RankLayers-step q value (only_in c.args.asked.now) 0 0 order _ _ _ h
          (c.in_ok-look_at_all.ensures.apart 0 order opened));
      positive = omega arith;
      begin = omega (arith, begin, longer-length order c.look_at_all.new.self.order.items h.longer);
      level = omega arith;
    }

pub loop-begin-preserved : goal.loop-begin-preserved
loop-begin-preserved c =
    let q = c.args.asked.now.question.now in
    let value = value_in c.args.asked.now in
    let h = c.in_ok-advance.ensures.layers in
    let old = c.loop-begin.layers.order.items in
    let level = c.loop-begin.level in
    let end : c.len-end.result ≡ length old = omega (arith, c.len-end.ensures, c.loop-begin.layers.order.ok.0) in
    let long : c.len.result ≡ length old = omega (arith, c.len.ensures, c.loop-begin.layers.order.ok.0) in
    record {
      layers = subst (λ n. AreRankLayers q value (only_in c.args.asked.now) (level + 1) n c.advance.new.self.order.items
          c.advance.new.self.ranks.items c.advance.new.self.choices.items c.advance.new.self.order.items) (sym end)
          (RankLayers-step q value (only_in c.args.asked.now) level c.loop-begin.begin old _ _ _ h
          c.in_ok-advance.ensures.apart);
      positive = omega (arith, c.loop-begin.invariant.positive);
      begin = omega (arith, end, longer-length old c.advance.new.self.order.items h.longer);
      level = omega (arith, end, long, c.loop-begin.invariant.level, c.loop-begin-test.true);
    }
