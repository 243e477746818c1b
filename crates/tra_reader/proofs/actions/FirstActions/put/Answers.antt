use Rattle.std.proofs.Common.{rules, ◌≡◌, ◌++◌, length, nat_eq}
use Rattle.std.specs.HashMap.{get}
use Rattle.tra_reader.proofs.Spans.{put_behind}
use Rattle.tra_reader.proofs.actions.FirstActions.put.Goals as goal

pub returns : goal.returns
returns c =
    let old = c.args.self.now in
    let all : c.extend_from_slice.new.self.items ≡ old.bytes.items ++ c.args.action.now = search rules in
    let first : c.len-start.result ≡ length old.bytes.items = search rules in
    let last : c.len-end.result ≡ length c.extend_from_slice.new.self.items = search rules in
    λ q. put_behind old.bytes.items c.args.action.now c.extend_from_slice.new.self.items c.len-start.result
    c.len-end.result c.args.place q (get nat_eq old.spans q) (get nat_eq c.insert.new.self q) all first last
    (c.in_ok-insert.ensures.updates.0 q) (old.inside q)
