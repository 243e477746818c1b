use Rattle.std.proofs.Common.{◌≡◌, ℕ, List, subst}
use Rattle.std.specs.Prelude.{slice_index}
use Rattle.std.proofs.lemmas.Result.{IfOk-weaker}
use Rattle.bracket_engine.specs.Bracket.{complements_of, AreLesser}
use Rattle.bracket_engine.proofs.Uppers.{IsUpperFrom-lesser}
use Rattle.bracket_engine.proofs.upper.upper_table.Goals as goal

pub returns : goal.returns
returns g c =
    let swapped_values : List ℕ = c.args.swapped_values.items in
    let unlost : List ℕ = c.in_ok-unlost.unlost.items in
    let guessed : List ℕ = c.in_ok-guessed.guessed.items in
    let complements : unlost ≡ complements_of swapped_values =
    subst (λ (l : List ℕ). unlost ≡ complements_of l) c.deref.ensures.value c.in_ok-unlost.ensures in
    IfOk-weaker c.lesser.result _ _ (λ upper lesser.
    let first : AreLesser unlost c.deref-3.result.now upper.items =
    subst (λ (l : List ℕ). AreLesser l c.deref-3.result.now upper.items) c.deref-2.ensures.value lesser in
    let both : AreLesser unlost guessed upper.items =
    subst (λ (l : List ℕ). AreLesser unlost l upper.items) c.deref-3.ensures.value first in
    IsUpperFrom-lesser c.args.base.now.question.now c.args.base.now.zero.now
    (slice_index c.args.base.now.values.now) swapped_values unlost guessed upper.items c.args.kept
    c.args.base.now.posed c.requires.parts.many complements c.requires.parts.unlost c.in_ok-guessed.ensures both)
    c.lesser.ensures
