use Rattle.std.proofs.Common.{◌≡◌, ℕ, ◌<◌, length, List, Option, Some, None}
use Rattle.std.specs.Prelude.{slice_index, slice_index_or}
use Rattle.rank_certificate.proofs.Given.{numbers-some, given-layered, given-Ranked}
use Rattle.rank_certificate.proofs.find.find_ranks_over.Goals as goal

pub unwrap-requires : goal.unwrap-requires
unwrap-requires c =
    let some = c.requires.rankable in
    numbers-some c.args.question.now c.args.values.now c.args.choices.now some.0 c.invariant.ensures some.1 _ _
    c.in_ok-layers.ensures _ c.in_ok-ranks.ranks (rw c.deref.ensures.value at c.in_ok-ranks.ensures)

pub returns : goal.returns
returns c =
    let q = c.args.question.now in
    let values = c.args.values.now in
    let choices = c.args.choices.now in
    let some = c.requires.rankable in
    let found : List (Option ℕ) = c.in_ok-layers.layers.ranks.items in
    let ranks : List ℕ = c.unwrap.result.items in
    let all : (length ranks ≡ length found)
    × ((s : ℕ) → s < length found → slice_index_or found s None ≡ Some (slice_index ranks s)) =
    rw c.deref.ensures.value at (rw c.unwrap.ensures at c.in_ok-ranks.ensures) in
    record {
      ranked = given-Ranked q values choices some.0 c.invariant.ensures some.1 found _ c.in_ok-layers.ensures ranks
          all.0 all.1;
      layered = given-layered q values choices some.0 c.invariant.ensures some.1 found _ c.in_ok-layers.ensures ranks
          all.0 all.1;
    }
