use Rattle.std.proofs.Common.{ℕ, List, take, get_or, subst, sym}
use Rattle.std.specs.Prelude.{Contains}
use Rattle.std.proofs.lemmas.List.{take_more}
use Rattle.std.proofs.lemmas.List.Elements.{Contains-get_or}
use Rattle.predecessors.proofs.Listed.{listed-exactly}
use Rattle.predecessors.specs.declared.lists.Move.{Move}
use Rattle.predecessors.specs.Moves.{LeadsTo}
use Rattle.rank_certificate.specs.inside.RankLayers.{Follows}
use Rattle.rank_certificate.proofs.Followed.{Follows-then}
use Rattle.rank_certificate.specs.inside.OfAsked.{value_in, only_in}
use Rattle.rank_certificate.proofs.layers.RankLayers.go_back.Goals as goal

pub follow-requires-clause-state : goal.follow-requires-clause-state
follow-requires-clause-state c =
    let items : List Move = c.of_state-step-items.result.now in
    let d : Move = record { state = 0; choice = 0 } in
    let m : Move = get_or items c.loop-step.step-index d in
    let leads : LeadsTo c.args.asked.now.question.now.game m.state m.choice c.args.hand =
    (listed-exactly c.args.asked.now.lists m.state m.choice c.args.hand c.requires.hand).0
    (subst (λ list. Contains list m) c.of_state-step-items.ensures
    (Contains-get_or items c.loop-step.step-index d c.loop-step-test.true)) in
    leads.state

pub follow-requires-clause-choice : goal.follow-requires-clause-choice
follow-requires-clause-choice c =
    let items : List Move = c.of_state-step-items.result.now in
    let d : Move = record { state = 0; choice = 0 } in
    let m : Move = get_or items c.loop-step.step-index d in
    let leads : LeadsTo c.args.asked.now.question.now.game m.state m.choice c.args.hand =
    (listed-exactly c.args.asked.now.lists m.state m.choice c.args.hand c.requires.hand).0
    (subst (λ list. Contains list m) c.of_state-step-items.ensures
    (Contains-get_or items c.loop-step.step-index d c.loop-step-test.true)) in
    leads.choice

pub loop-step-preserved : goal.loop-step-preserved
loop-step-preserved c =
    let items : List Move = c.of_state-step-items.result.now in
    let i : ℕ = c.loop-step.step-index in
    let d : Move = record { state = 0; choice = 0 } in
    subst (λ part. Follows c.args.asked.now.question.now (value_in c.args.asked.now) (only_in c.args.asked.now)
    c.args.level c.args.hand part c.args.self.now.ranks.items c.args.self.now.choices.items c.args.self.now.order.items
    c.follow.new.self.ranks.items c.follow.new.self.choices.items c.follow.new.self.order.items)
    (sym (take_more items i d c.loop-step-test.true))
    (Follows-then c.args.asked.now.question.now (value_in c.args.asked.now)
    (only_in c.args.asked.now) c.args.level c.args.hand (take i items)
    (get_or items i d) c.args.self.now.ranks.items c.args.self.now.choices.items c.args.self.now.order.items
    c.loop-step.self.ranks.items c.loop-step.self.choices.items c.loop-step.self.order.items
    c.follow.new.self.ranks.items c.follow.new.self.choices.items c.follow.new.self.order.items
    c.loop-step.invariant c.in_ok-follow.ensures)
