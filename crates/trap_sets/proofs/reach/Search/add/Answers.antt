use Rattle.std.proofs.Common.{◌≡◌, List, ℕ, true, false, sym, ◌∙◌, subst}
use Rattle.std.specs.Prelude.{slice_index_or, slice_set}
use Rattle.std.proofs.lemmas.List.{get_or_read}
use Rattle.trap_sets.specs.inside.Reaching.{IsMore}
use Rattle.trap_sets.proofs.Reaching.{IsMore-add}
use Rattle.trap_sets.proofs.reach.Search.add.Goals as goal

pub returns-clause-more : goal.returns-clause-more
returns-clause-more c =
    let marks = c.args.self.now.marks.items in
    let order = c.args.self.now.order.items in
    let state = c.args.state in
    let member : c.index.result.now ≡ slice_index_or marks state false =
    get_or_read marks _ _ c.requires.state c.index.ensures false in
    subst (λ (l : List ℕ). IsMore (λ s. s ≡ state) marks order (slice_set marks state true) l)
    (sym c.in_ok-push.ensures.items)
    (IsMore-add marks order state c.requires.ordered c.requires.state (sym member ∙ c.if-index.false))
