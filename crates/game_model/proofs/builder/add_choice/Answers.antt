use Rattle.std.proofs.Common.{arith, ◌≡◌, ◌-◌, ap, refl, ◌∙◌, subst, length, take, get_or}
use Rattle.game_model.specs.Flat.{last_of}
use Rattle.game_model.specs.Growing.{IsLonger, IsStill}
use Rattle.game_model.proofs.Read.{read}
use Rattle.game_model.proofs.Longer.{on_err, longer-same}
use Rattle.game_model.proofs.High.{below-taken}
use Rattle.game_model.proofs.builder.add_choice.Goals as goal

pub returns-in_err-add_edges-clause-err : goal.returns-in_err-add_edges-clause-err
returns-in_err-add_edges-clause-err c =
    let count : c.len-count.result ≡ length c.args.first_edge.now.items =
    omega (arith, c.len-count.ensures, c.args.first_edge.now.ok.0) in
    let begin : c.index.result.now ≡ last_of c.args.first_edge.now.items =
    read c.args.first_edge.now.items _ _ (omega (arith, c.requires.some)) c.index.ensures
    ∙ ap (λ n. get_or c.args.first_edge.now.items (n - 1) 0) count in
    let still : IsStill c.args.first_edge.now.items c.args.totals.now.items c.args.to.now.items c.args.low.now.items
    c.args.high.now.items c.args.first_edge.now.items c.truncate.new.self.items c.add_edges.new.to.items
    c.add_edges.new.low.items c.add_high.new.high.items = (
      refl,
      longer-same _ _ (c.truncate.ensures.items ∙ ap (λ n. take (n - 1) c.args.totals.now.items) count),
      subst (λ xs. IsLonger xs c.add_edges.new.to.items)
          (c.truncate-2.ensures.items ∙ ap (λ n. take n c.args.to.now.items) begin) c.add_edges.ensures.to_longer,
      subst (λ xs. IsLonger xs c.add_edges.new.low.items)
          (c.truncate-3.ensures.items ∙ ap (λ n. take n c.args.low.now.items) begin) c.add_edges.ensures.low_longer,
      below-taken _ _ _ _ _ begin c.truncate-4.ensures.items c.add_high.ensures.below,
    ) in
    on_err _ _ still

pub returns-in_err-push-clause-err : goal.returns-in_err-push-clause-err
returns-in_err-push-clause-err c =
    let count : c.len-count.result ≡ length c.args.first_edge.now.items =
    omega (arith, c.len-count.ensures, c.args.first_edge.now.ok.0) in
    let begin : c.index.result.now ≡ last_of c.args.first_edge.now.items =
    read c.args.first_edge.now.items _ _ (omega (arith, c.requires.some)) c.index.ensures
    ∙ ap (λ n. get_or c.args.first_edge.now.items (n - 1) 0) count in
    let still : IsStill c.args.first_edge.now.items c.args.totals.now.items c.args.to.now.items c.args.low.now.items
    c.args.high.now.items c.args.first_edge.now.items c.push.new.self.items c.add_edges.new.to.items
    c.add_edges.new.low.items c.add_high.new.high.items = (
      refl,
      longer-same _ _ (c.in_err-push.ensures.items ∙ c.truncate.ensures.items
          ∙ ap (λ n. take (n - 1) c.args.totals.now.items) count),
      subst (λ xs. IsLonger xs c.add_edges.new.to.items)
          (c.truncate-2.ensures.items ∙ ap (λ n. take n c.args.to.now.items) begin) c.add_edges.ensures.to_longer,
      subst (λ xs. IsLonger xs c.add_edges.new.low.items)
          (c.truncate-3.ensures.items ∙ ap (λ n. take n c.args.low.now.items) begin) c.add_edges.ensures.low_longer,
      below-taken _ _ _ _ _ begin c.truncate-4.ensures.items c.add_high.ensures.below,
    ) in
    on_err _ _ still
