use Rattle.std.proofs.Common.{ℕ, List, subst, sym}
use Rattle.std.specs.Prelude.{slice_index}
use Rattle.game_model.specs.Limits.{unit}
use Rattle.game_model.specs.Rounded.{IsInductive}
use Rattle.inductive_check.specs.Replies.{AreReplies}
use Rattle.trap_sets.proofs.Lowered.{units-from, capped-from, replies-from, inductive-from}
use Rattle.trap_sets.proofs.lower.lower_traps_over.Goals as goal

pub inductive_is_high-requires : goal.inductive_is_high-requires
inductive_is_high-requires c =
    let q = c.args.question.now in
    subst (λ (xs : List ℕ). IsInductive q (slice_index xs)) (sym c.deref-3.ensures.value)
    (inductive-from q c.args.upper.now c.in_ok-sets.sets.of.items c.deref.result.now c.in_ok-table.table.items
    c.args.replies.now c.in_ok-sets.sets.count c.invariant.ensures c.requires.length c.deref.ensures.value
    c.in_ok-table.ensures c.in_ok-sets.ensures c.requires.replies c.requires.inductive)

pub replies_hold-requires-clause-inductive : goal.replies_hold-requires-clause-inductive
replies_hold-requires-clause-inductive c =
    let q = c.args.question.now in
    subst (λ (xs : List ℕ). IsInductive q (slice_index xs)) (sym c.deref-4.ensures.value)
    (inductive-from q c.args.upper.now c.in_ok-sets.sets.of.items c.deref.result.now c.in_ok-table.table.items
    c.args.replies.now c.in_ok-sets.sets.count c.invariant.ensures c.requires.length c.deref.ensures.value
    c.in_ok-table.ensures c.in_ok-sets.ensures c.requires.replies c.requires.inductive)

pub replies_hold-requires-clause-replies : goal.replies_hold-requires-clause-replies
replies_hold-requires-clause-replies c =
    let q = c.args.question.now in
    subst (λ (xs : List ℕ). AreReplies q (slice_index xs) c.args.replies.now) (sym c.deref-4.ensures.value)
    (replies-from q c.args.upper.now c.in_ok-sets.sets.of.items c.deref.result.now c.in_ok-table.table.items
    c.args.replies.now c.in_ok-sets.sets.count c.invariant.ensures c.requires.length c.deref.ensures.value
    c.in_ok-table.ensures c.in_ok-sets.ensures c.requires.replies)

pub returns-clause-units : goal.returns-clause-units
returns-clause-units c =
    let q = c.args.question.now in
    units-from q c.args.upper.now c.in_ok-sets.sets.of.items c.deref.result.now c.in_ok-table.table.items
    c.args.replies.now c.in_ok-sets.sets.count c.invariant.ensures c.requires.length c.deref.ensures.value
    c.in_ok-table.ensures unit c.requires.units

pub returns-clause-inductive : goal.returns-clause-inductive
returns-clause-inductive c =
    let q = c.args.question.now in
    inductive-from q c.args.upper.now c.in_ok-sets.sets.of.items c.deref.result.now c.in_ok-table.table.items
    c.args.replies.now c.in_ok-sets.sets.count c.invariant.ensures c.requires.length c.deref.ensures.value
    c.in_ok-table.ensures c.in_ok-sets.ensures c.requires.replies c.requires.inductive

pub returns-clause-replies : goal.returns-clause-replies
returns-clause-replies c =
    let q = c.args.question.now in
    replies-from q c.args.upper.now c.in_ok-sets.sets.of.items c.deref.result.now c.in_ok-table.table.items
    c.args.replies.now c.in_ok-sets.sets.count c.invariant.ensures c.requires.length c.deref.ensures.value
    c.in_ok-table.ensures c.in_ok-sets.ensures c.requires.replies

pub returns-clause-capped : goal.returns-clause-capped
returns-clause-capped c =
    let q = c.args.question.now in
    capped-from q c.args.upper.now c.in_ok-sets.sets.of.items c.deref.result.now c.in_ok-table.table.items
    c.args.replies.now c.in_ok-sets.sets.count c.invariant.ensures c.requires.length c.deref.ensures.value
    c.in_ok-table.ensures c.in_ok-sets.ensures c.requires.replies
