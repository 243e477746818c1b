use Rattle.std.proofs.Common.{◌≡◌, ◌<◌, length, arith}
use Rattle.std.specs.Prelude.{slice_index}
use Rattle.std.proofs.lemmas.List.{get_or_read}
use Rattle.game_model.proofs.Longer.{longer-length}
use Rattle.trap_sets.proofs.Reaching.{IsReaching-more, AreReached-all}
use Rattle.trap_sets.proofs.reach.reached.Goals as goal

pub loop-place-preserved : goal.loop-place-preserved
loop-place-preserved c =
    let old = c.loop-place.search in
    let new = c.pass.new.self in
    let room : c.loop-place.place < length old.order.items =
    omega (arith, c.loop-place-test.true, c.len.ensures, old.order.ok.0) in
    let at : c.index-state.result.now ≡ slice_index old.order.items c.loop-place.place =
    get_or_read old.order.items _ _ room c.index-state.ensures 0 in
    record {
      reaching = IsReaching-more c.args.internal.now c.args.way old.marks.items old.order.items new.marks.items
          new.order.items c.loop-place.place c.index-state.result.now c.loop-place.invariant.reaching room at
          c.in_ok-pass.ensures.more c.in_ok-pass.ensures.passed;
      within = omega
          (arith, room, longer-length old.order.items new.order.items c.in_ok-pass.ensures.more.longer);
    }

pub returns : goal.returns
returns c = AreReached-all c.args.internal.now c.args.way c.loop-place.search.marks.items
    c.loop-place.search.order.items
    c.loop-place.place c.loop-place.invariant.reaching
    (omega (arith, c.loop-place-test.false, c.len.ensures, c.loop-place.search.order.ok.0))
