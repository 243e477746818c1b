use Rattle.std.proofs.Common.{◌≡◌, ℕ, List, length, take, arith, sym, ap, ◌∙◌, subst}
use Rattle.game_model.proofs.Longer.{longer-length}
use Rattle.attractors.specs.Attractor.{ExcludedSets}
use Rattle.attractors.specs.Search.{IsAttractorSearch, moves_into}
use Rattle.attractors.proofs.Testing.{IsAttractorSearch-tested, take-longer}
use Rattle.attractors.proofs.attractor.advance.Goals as goal

pub returns-then-end-place : goal.returns-then-end-place
returns-then-end-place g c =
    let q = c.args.question.now in
    let excluded : ExcludedSets = g.S.Excluded.excluded c.args.excluded.now q in
    let old = c.args.search.now in
    let new = c.test_all.new.search in
    let end : c.len-end.result ≡ length old.order.items = omega (arith, c.len-end.ensures, old.order.ok.0) in
    record {
      further = omega (arith, end, c.requires.place);
      within = omega (arith, end, longer-length old.order.items new.order.items c.in_ok-test_all.ensures.longer);
      grown = subst (λ (list : List ℕ). IsAttractorSearch q excluded
          (moves_into c.args.predecessors.now list) new.members.items new.next_choice.items new.order.items)
          (sym (ap (λ n. take n new.order.items) end
          ∙ take-longer old.order.items new.order.items c.in_ok-test_all.ensures.longer))
          (IsAttractorSearch-tested q excluded c.args.predecessors.now old.members.items new.members.items
          new.next_choice.items
          old.order.items new.order.items c.requires.lists c.requires.grown.many c.requires.grown.ordered
          c.in_ok-test_all.ensures.larger
          c.in_ok-test_all.ensures.tested c.in_ok-test_all.ensures.grows);
    }
