use Rattle.std.proofs.Common.{◌≡◌, ℕ, ◌<◌, List, length, arith, ap, sym, subst, ◌∙◌, inl, inr}
use Rattle.std.specs.Prelude.{slice_index}
use Rattle.std.proofs.lemmas.Bool.{cases_lt}
use Rattle.std.proofs.lemmas.List.{get_or_read}
use Rattle.game_model.specs.Query.{states}
use Rattle.game_model.proofs.Longer.{longer-at, longer-length}
use Rattle.predecessors.proofs.Listed.{listed-exactly}
use Rattle.predecessors.specs.Moves.{LeadsTo}
use Rattle.rank_certificate.specs.inside.OfAsked.{value_in}
use Rattle.rank_certificate.proofs.layers.RankLayers.spread.Goals as goal

pub loop-place-preserved : goal.loop-place-preserved
loop-place-preserved c =
    let q = c.args.asked.now.question.now in
    let h = c.loop-place.invariant.layers in
    let old : List ℕ = c.args.self.now.order.items in
    let order : List ℕ = c.loop-place.self.order.items in
    let place : ℕ = c.loop-place.place in
    let lp : place < length old = omega (arith, c.loop-place-test.true, c.requires.end) in
    let there : place < length order = omega (arith, lp, longer-length old order h.longer) in
    let is : slice_index old place ≡ c.index-hand.result.now =
    sym (get_or_read order _ _ there c.index-hand.ensures 0 ∙ longer-at old order h.longer place lp) in
    let inside : c.index-hand.result.now < states q =
    omega (arith, is, longer-at old order h.longer place lp, h.inside place there) in
    let go = c.in_ok-go_back.ensures in
    record {
      layers = go.grown c.args.begin old h;
      followed = λ k s c' from upto leads equal left carried. elim (cases_lt k place) [
        | inl early ↦ c.loop-place.invariant.followed k s c' from early leads equal (go.kept s left) carried
        | inr last ↦
            let same : k ≡ place = omega (arith, upto, last) in
            let at : slice_index old k ≡ c.index-hand.result.now = ap (slice_index old) same ∙ is in
            go.apart c.args.begin old h s c'
            ((listed-exactly c.args.asked.now.lists s c' c.index-hand.result.now inside).1
            (subst (λ t. LeadsTo q.game s c' t) at leads))
            (ap (value_in c.args.asked.now) (sym at) ∙ equal) left carried
      ];
    }

pub returns-clause-followed : goal.returns-clause-followed
returns-clause-followed c k s c' from upto =
    c.loop-place.invariant.followed k s c' from (omega (arith, upto, c.loop-place-test.false, c.requires.end))
