use Rattle.std.proofs.Common.{◌≡◌, ◌<◌, ◌≤◌, length, arith, subst}
use Rattle.std.specs.Prelude.{slice_index}
use Rattle.std.proofs.lemmas.List.{get_or_read}
use Rattle.game_model.specs.Query.{states}
use Rattle.trap_sets.specs.inside.Each.{IsEach}
use Rattle.trap_sets.specs.inside.Naming.{IsClass}
use Rattle.trap_sets.proofs.Each.{IsEach-none, IsEach-push}
use Rattle.trap_sets.proofs.Keeping.{KeepsEnds-classes}
use Rattle.trap_sets.proofs.Leading.{leads-edge}
use Rattle.trap_sets.proofs.internal.Internal.divided.Goals as goal

pub loop-place-init : goal.loop-place-init
loop-place-init c = IsEach-none _ _ c.in_ok-class.ensures.items

pub loop-place-preserved : goal.loop-place-preserved
loop-place-preserved c =
    let internal = c.args.self.now in
    let place = c.loop-place.place in
    let room : place < length c.in_ok-component.component.items =
    omega (arith, c.loop-place-test.true, internal.parted, c.in_ok-component.ensures.many) in
    IsEach-push _ _ _ c.class_of.result place c.in_ok-push.ensures.items c.loop-place.invariant
    (subst (λ x. IsClass (slice_index internal.part.now place) x c.class_of.result)
    (get_or_read c.in_ok-component.component.items _ _ room c.index.ensures 0) c.class_of.ensures)

pub returns : goal.returns
returns c =
    let internal = c.args.self.now in
    let q = internal.mdp.question.now in
    let component = c.in_ok-component.component.items in
    let class = c.loop-place.class.items in
    let all : c.loop-place.place ≡ states q = omega (arith, c.loop-place-test.false, internal.parted) in
    KeepsEnds-classes q internal.mdp.replies.now internal.part.now c.requires component (λ s d t ls is leads.
    let at = leads-edge q s d t leads in
    subst (λ u. slice_index component u ≤ slice_index component s) at.2 (c.in_ok-component.ensures.order s ls d
    is.mdp.inside ((internal.flagged.each s d ls is.mdp.inside).1 is) at.0 at.1)) class
    (subst (IsEach (λ s. IsClass (slice_index internal.part.now s) (slice_index component s)) class) all
    c.loop-place.invariant)
