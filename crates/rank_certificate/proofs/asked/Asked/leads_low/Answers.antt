use Rattle.std.proofs.Common.{ℕ, arith, sym, inl, inr}
use borrow.Author.Count.{below_more}
use Rattle.std.specs.Prelude.{slice_index_or}
use Rattle.std.proofs.lemmas.Bool.{true≢false}
use Rattle.rank_certificate.specs.inside.RankLayers.{HasRankWithin}
use Rattle.rank_certificate.specs.inside.OfAsked.{value_in}
use Rattle.rank_certificate.proofs.Meeting.{IsMet, successors-inside, met-none}
use Rattle.rank_certificate.proofs.asked.Asked.leads_low.Goals.{then-there-value, else-there-value}
use Rattle.rank_certificate.proofs.asked.Asked.leads_low.Goals as goal

pub bounds-self-to : goal.bounds-self-to
bounds-self-to c =
    let a = c.args.self.now in
    omega (
      arith,
      a.valued,
      successors-inside a.question.now c.args.state c.args.choice c.args.row.now c.successors-to-items.result.now
          c.requires.row c.successors-to-items.ensures a.posed c.requires.state c.requires.choice c.loop-to.to-index
          c.loop-to-test.true,
    )

pub is_low-requires : goal.is_low-requires
is_low-requires c =
    let a = c.args.self.now in
    omega (
      arith,
      c.requires.ranks,
      successors-inside a.question.now c.args.state c.args.choice c.args.row.now c.successors-to-items.result.now
          c.requires.row c.successors-to-items.ensures a.posed c.requires.state c.requires.choice c.loop-to.to-index
          c.loop-to-test.true,
    )

pub loop-to-preserved : goal.loop-to-preserved
loop-to-preserved c =
    let value = value_in c.args.self.now in
    let among = HasRankWithin c.args.ranks.now c.args.level in
    let t : ℕ = slice_index_or c.successors-to-items.result.now c.loop-to.to-index 0 in
    below_more (λ p. IsMet value among c.args.state (slice_index_or c.successors-to-items.result.now p 0) → ⊥)
    c.loop-to.to-index c.loop-to.invariant (λ met. elim met [
      | inl greater ↦ omega (arith, greater, c.if-value-there.false)
      | inr equal ↦ elim c.if-there-value.branch [
        | then-there-value w ↦ let low = w.is_low.ensures.1 equal.1 in grind (arith, low, w.value-is, c.if-is_low.false)
        | else-there-value w ↦ let same = equal.0 in grind (arith, same, w.if-there-value.false)
      ]
    ])

pub returns : goal.returns
returns c =
    let a = c.args.self.now in (
      λ wrong. absurd (true≢false (sym wrong)),
      λ leads.
          absurd (met-none a.question.now c.args.state c.args.choice c.args.row.now c.successors-to-items.result.now
          c.requires.row c.successors-to-items.ensures (value_in a) (HasRankWithin c.args.ranks.now c.args.level)
          (λ p l. c.loop-to.invariant p (omega (arith, l, c.loop-to-test.false))) leads),
    )
