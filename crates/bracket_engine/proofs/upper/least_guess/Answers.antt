use Rattle.std.proofs.Common.{ℕ, List, subst, sym}
use Rattle.std.specs.Prelude.{Option, IfSome, slice_index}
use Rattle.std.proofs.lemmas.Result.{IfOk-weaker}
use Rattle.upper_guess.specs.Guess.{IsFirstGuess}
use Rattle.bracket_engine.specs.declared.stopping.SettlingGuess.{SettlingGuess}
use Rattle.bracket_engine.specs.Bracket.{AreLesser}
use Rattle.bracket_engine.specs.Stop.{IsUpper, IsLeastGuess}
use Rattle.bracket_engine.proofs.Uppers.{IsLeastGuess-both}
use Rattle.bracket_engine.proofs.upper.least_guess.Goals as goal

pub returns : goal.returns
returns g c =
    let q = c.args.base.now.question.now in
    let zero = c.args.base.now.zero.now in
    let guessed : List ℕ = c.in_ok-guessed.guessed.items in
    let kept : SettlingGuess = c.in-Some.field-0 in
    let lower : List ℕ = c.args.base.now.values.now in
    let here : IsFirstGuess q zero (slice_index lower) guessed = c.in_ok-guessed.ensures.first in
    let facts : IsFirstGuess q zero (slice_index kept.lower.items) kept.guess.items × IsUpper q kept.guess.items =
    subst (λ (k : Option SettlingGuess).
    IfSome k (λ one. IsFirstGuess q zero (slice_index one.lower.items) one.guess.items × IsUpper q one.guess.items))
    c.in-Some.is c.requires.kept in
    IfOk-weaker c.lesser.result _ _ (λ least lesser.
    let first : AreLesser guessed c.deref-2.result.now least.items =
    subst (λ (l : List ℕ). AreLesser l c.deref-2.result.now least.items) c.deref.ensures.value lesser in
    let both : AreLesser guessed kept.guess.items least.items =
    subst (λ (l : List ℕ). AreLesser guessed l least.items) c.deref-2.ensures.value first in
    let one : IsUpper q guessed = record {
      many = c.in_ok-guessed.ensures.length;
      units = c.in_ok-guessed.ensures.units;
      inductive = c.in_ok-guessed.ensures.inductive;
    } in
    subst (λ (k : Option SettlingGuess). IsLeastGuess q zero (slice_index lower) k least.items) (sym c.in-Some.is)
    (IsLeastGuess-both q zero (slice_index lower) kept guessed least.items c.args.base.now.posed here one facts.1 both))
    c.lesser.ensures
