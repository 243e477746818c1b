use Rattle.std.proofs.Common.{◌≡◌, List, Bool, map, not, ap, ◌∙◌}
use Rattle.away_ranks.proofs.Found.{AreAlmostSure-found, AreAwayRanks-found, HasChoices-found, ranks-few}
use Rattle.away_ranks.proofs.away_ranks.Goals as goal

rest : (c : goal.After-drop-turned-inside-4) → c.of_list.result ≡ map not c.linger.new.self.gone.items
rest c = c.of_list.ensures ∙ c.in_ok-finite.ensures ∙ ap (λ (set : List Bool). map not set) c.deref.ensures.value

pub returns-clause-finite : goal.returns-clause-finite
returns-clause-finite c =
    let search = c.linger.new.self in
    AreAlmostSure-found c.args.question.now c.invariant.ensures search.gone.items c.of_list.result
    search.choices.items search.ranks.items search.top c.in_ok-linger.ensures.search.ranked (rest c)
    (c.in_ok-linger.ensures.sure c.if-not-branch.true)

pub returns-clause-away : goal.returns-clause-away
returns-clause-away c =
    let search = c.linger.new.self in
    AreAwayRanks-found c.args.question.now c.invariant.ensures search.gone.items c.of_list.result
    search.choices.items search.ranks.items search.top c.in_ok-linger.ensures.search.ranked (rest c)

pub returns-clause-choices : goal.returns-clause-choices
returns-clause-choices c =
    let search = c.linger.new.self in
    HasChoices-found c.args.question.now c.invariant.ensures search.gone.items c.of_list.result
    search.choices.items search.ranks.items search.top c.in_ok-linger.ensures.search.ranked (rest c)

pub returns-clause-low : goal.returns-clause-low
returns-clause-low c =
    let search = c.linger.new.self in
    ranks-few c.args.question.now c.invariant.ensures search.gone.items c.of_list.result search.choices.items
    search.ranks.items search.top c.in_ok-linger.ensures.search.ranked (rest c)
