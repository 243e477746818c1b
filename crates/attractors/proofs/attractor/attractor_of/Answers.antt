use Rattle.std.proofs.Common.{ℕ, List, arith, subst}
use Rattle.std.proofs.lemmas.List.{take_all}
use Rattle.attractors.specs.Attractor.{ExcludedSets}
use Rattle.attractors.specs.Search.{IsAttractorSearch, moves_into}
use Rattle.attractors.proofs.Closing.{IsAttractor-grown}
use Rattle.attractors.proofs.attractor.attractor_of.Goals as goal

pub returns : goal.returns
returns g c =
    let q = c.args.question.now in
    let excluded : ExcludedSets = g.S.Excluded.excluded c.args.excluded.now q in
    let search = c.loop-place.search in
    IsAttractor-grown q excluded c.args.predecessors.now search.members.items search.next_choice.items
    search.order.items
    c.invariant.ensures c.requires.lists
    (subst (λ (list : List ℕ). IsAttractorSearch q excluded
    (moves_into c.args.predecessors.now list) search.members.items search.next_choice.items search.order.items)
    (take_all c.loop-place.place search.order.items
    (omega (arith, c.loop-place-test.false, c.len.ensures, search.order.ok.0))) c.loop-place.invariant.grown)
