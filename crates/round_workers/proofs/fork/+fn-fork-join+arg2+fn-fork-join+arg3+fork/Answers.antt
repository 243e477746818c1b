use Rattle.std.proofs.Common.{refl, ◌-◌, arith}
use Rattle.round_workers.proofs.Parts.{parts-meet, swept-same}
use Rattle.round_workers.proofs.fork.+fn-fork-join+arg2+fn-fork-join+arg3+fork.Goals as goal

pub returns : goal.returns
returns g t c =
    let q = g.P.Posing.posed in
    let marks = c.args.task.now.marks.now in
    let range = c.args.range in
    let front = c.halves.result.0 in
    let back = c.halves.result.1 in
    let h = c.halves.ensures in
    let first = h.firsts.0 in
    let middle = h.firsts.1 in
    let next = h.firsts.2 in
    let last = h.firsts.3 in
    let some = range.some in
    let p = c.split-other.ensures in
    let m = c.meet.ensures in
    parts-meet q marks (front.last - front.first) (back.last - back.first)
    (range.last - range.first) range.low front.high range.high c.args.pass.seat c.split-other.new.pass.seat
    c.split-other.result.seat _ _ c.meet.result.pass.seat _ _ c.meet.result.raises
    p.grew p.seen p.won p.new.1 p.new.2 p.parts
    (swept-same q marks (front.last - front.first) front.low front.high range.low front.high _ _ _ h.lows.0 refl
    c.join-left.ensures.first)
    (swept-same q marks (back.last - back.first) back.low back.high front.high range.high _ _ _ h.lows.1 h.lows.2
    c.join-left.ensures.second)
    m.left m.right m.won m.parts m.raises (omega arith) (omega arith) (omega arith)
