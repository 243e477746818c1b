use Rattle.std.proofs.Common.{inl, inr}
use Rattle.std.specs.Prelude.{slice_index}
use Rattle.std.proofs.lemmas.Bool.{cases_lt}
use Rattle.rank_certificate.specs.Carrying.{CanBeRanked}
use Rattle.lower_guess.proofs.Refused.{still-refused}
use Rattle.lower_guess.proofs.guesses.Guesses.rank.Goals as goal

pub returns-in_default-clause-found : goal.returns-in_default-clause-found
returns-in_default-clause-found c =
    let g = c.args.self.now in
    let none : ¬ CanBeRanked g.question.now c.args.table.items =
    rw c.deref.ensures.value at (rw c.in_default.is at c.in_ok-plan.ensures.found) in
    λ j few. elim (cases_lt j c.args.steps) [
      | inl early ↦ c.requires.refused j early
      | inr late ↦ still-refused g.question.now g.zero.now (slice_index g.base.now) g.excess g.posed c.args.steps
          c.args.table.items c.requires.table c.requires.stand none j late
    ]

pub returns-clause-found : goal.returns-clause-found
returns-clause-found c = record {
  steps = c.args.steps;
  few = c.requires.few;
  entries = c.requires.table;
  ranked = (_, _, rw c.deref.ensures.value at (rw c.in-Some.is at c.in_ok-plan.ensures.ranked));
  refused = c.requires.refused;
}
