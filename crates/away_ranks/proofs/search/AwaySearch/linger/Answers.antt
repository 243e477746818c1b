use Rattle.std.proofs.Common.{◌≡◌, List, Bool, true, false, subst, ap, ◌∙◌}
use Rattle.std.specs.Prelude.{slice_index_or}
use Rattle.attractors.specs.Attractor.{IsAttractor}
use Rattle.almost_sure.specs.ExcludedSets.{gone_excluded}
use Rattle.expected_rewards.specs.Turned.{turned}
use Rattle.away_ranks.proofs.Found.{are-sure, both-ok}
use Rattle.away_ranks.proofs.search.AwaySearch.linger.Goals as goal

pub returns-clause-sure : goal.returns-clause-sure
returns-clause-sure c =
    let q = c.args.question.now in
    let left = c.in_ok-left.left.items in
    let gone = c.args.self.now.gone.items in
    let drawn : IsAttractor (turned q) (gone_excluded gone) left =
    subst (λ (set : List Bool). IsAttractor (turned q) (gone_excluded set) left) c.deref.ensures.value
    c.in_ok-left.ensures.left in
    both-ok c.let_go.result _ _ _ (λ more none all is s inside within.
    let same : c.let_go.new.self.gone.items ≡ gone = none is in
    are-sure q gone left c.invariant.ensures c.requires.alive drawn
    (λ t l unleft. subst (λ set. slice_index_or set t false ≡ true) same
    (all t l (ap (λ set. slice_index_or set t false) c.deref-2.ensures.value ∙ unleft))) s inside
    (subst (λ set. slice_index_or set s false ≡ false) same within))
    c.let_go.ensures.none c.let_go.ensures.all
