use Rattle.std.proofs.Common.{◌≡◌, ◌∙◌, ◌≤◌, List, sym, ap, subst, rules, arith, zero-add}
use Rattle.std.specs.Prelude.{All}
use Rattle.game_model.specs.declared.game.Edge.{Edge}
use Rattle.game_model.specs.Game.{IsRising, no_edge, total_of}
use Rattle.distributions.specs.inside.Merging.{merged_from}
use Rattle.game_model.specs.Rising.{RiseFrom}
use Rattle.distributions.proofs.Gathering.{gathered-only, merged-rises, merged-gathered, merged-total}
use Rattle.game_model.proofs.RisingEdges.{IsRising-from, weighty-from}
use Rattle.distributions.proofs.gather.gather.Goals as goal

pub returns-then-is_gathered-clause-value : goal.returns-then-is_gathered-clause-value
returns-then-is_gathered-clause-value c =
    let rise : RiseFrom 0 c.args.edges.now.items = search rules in
    sym (gathered-only c.args.edges.now.items c.args.edges.now.items rise (λ to. search rules))

pub returns-then-is_gathered-clause-rising : goal.returns-then-is_gathered-clause-rising
returns-then-is_gathered-clause-rising c =
    let rise : RiseFrom 0 c.args.edges.now.items = search rules in
    IsRising-from 0 c.args.edges.now.items rise

pub returns-then-is_gathered-clause-weighty : goal.returns-then-is_gathered-clause-weighty
returns-then-is_gathered-clause-weighty c =
    let rise : RiseFrom 0 c.args.edges.now.items = search rules in
    weighty-from 0 c.args.edges.now.items rise

pub returns-then-is_gathered-2-clause-value : goal.returns-then-is_gathered-2-clause-value
returns-then-is_gathered-2-clause-value c =
    let rise : RiseFrom 0 c.put_in_order.new.edges.items = search rules in
    sym (gathered-only c.args.edges.now.items c.put_in_order.new.edges.items rise c.in_ok-put_in_order.ensures.weights)

pub returns-then-is_gathered-2-clause-rising : goal.returns-then-is_gathered-2-clause-rising
returns-then-is_gathered-2-clause-rising c =
    let rise : RiseFrom 0 c.put_in_order.new.edges.items = search rules in
    IsRising-from 0 c.put_in_order.new.edges.items rise

pub returns-then-is_gathered-2-clause-weighty : goal.returns-then-is_gathered-2-clause-weighty
returns-then-is_gathered-2-clause-weighty c =
    let rise : RiseFrom 0 c.put_in_order.new.edges.items = search rules in
    weighty-from 0 c.put_in_order.new.edges.items rise

pub returns-clause-value : goal.returns-clause-value
returns-clause-value c =
    let merged : c.in_ok-merged.merged.items ≡ merged_from no_edge c.put_in_order.new.edges.items =
    c.in_ok-merged.ensures ∙ ap (λ es. merged_from no_edge es) c.deref-3.ensures.value in
    merged ∙ sym (merged-gathered c.args.edges.now.items c.put_in_order.new.edges.items
    c.in_ok-put_in_order.ensures.standing c.in_ok-put_in_order.ensures.weights)

pub returns-clause-total : goal.returns-clause-total
returns-clause-total c =
    let merged : c.in_ok-merged.merged.items ≡ merged_from no_edge c.put_in_order.new.edges.items =
    c.in_ok-merged.ensures ∙ ap (λ es. merged_from no_edge es) c.deref-3.ensures.value in
    ap (λ es. total_of es) merged ∙ merged-total no_edge c.put_in_order.new.edges.items
    ∙ zero-add (total_of c.put_in_order.new.edges.items) ∙ c.in_ok-put_in_order.ensures.total

pub returns-clause-rising : goal.returns-clause-rising
returns-clause-rising c =
    let merged : c.in_ok-merged.merged.items ≡ merged_from no_edge c.put_in_order.new.edges.items =
    c.in_ok-merged.ensures ∙ ap (λ es. merged_from no_edge es) c.deref-3.ensures.value in
    let P : List Edge → Type 0 = λ es. IsRising es in
    subst P (sym merged) (IsRising-from 0 (merged_from no_edge c.put_in_order.new.edges.items)
    (merged-rises 0 no_edge c.put_in_order.new.edges.items (omega arith) c.in_ok-put_in_order.ensures.standing))

pub returns-clause-weighty : goal.returns-clause-weighty
returns-clause-weighty c =
    let merged : c.in_ok-merged.merged.items ≡ merged_from no_edge c.put_in_order.new.edges.items =
    c.in_ok-merged.ensures ∙ ap (λ es. merged_from no_edge es) c.deref-3.ensures.value in
    let P : List Edge → Type 0 = λ es. All (λ e. 1 ≤ e.weight) es in
    subst P (sym merged) (weighty-from 0 (merged_from no_edge c.put_in_order.new.edges.items)
    (merged-rises 0 no_edge c.put_in_order.new.edges.items (omega arith) c.in_ok-put_in_order.ensures.standing))
