use Rattle.std.proofs.Common.{◌≡◌, ◌<◌, length, arith, sym, ◌∙◌, inl, inr}
use Rattle.std.proofs.lemmas.Bool.{cases_lt}
use Rattle.std.proofs.lemmas.List.{get_or_past}
use Rattle.step_core.specs.Word.{greater_words}
use Rattle.step_core.proofs.Sights.{taken-other, rest-other, taken-own, length-greater_words}
use Rattle.step_core.proofs.Worlds.{words-same}
use Rattle.step_core.proofs.view.take_greater.Goals as goal
use Rattle.step_core.proofs.view.take_greater.Goals.{then-value_of, else-value_of}

pub loop-state-preserved : goal.loop-state-preserved
loop-state-preserved c =
    let xs = c.args.words.now in
    let ys = c.args.others.now in
    let words = c.loop-state.words in
    let i = c.loop-state.state in
    let k = c.loop-state.invariant in
    let inside : i < length words =
    let auto = c.loop-state.auto.words in let test = c.loop-state-test.true in omega arith in
    elim c.if-value_of.branch [
      | then-value_of w ↦ rw w.words-is (record {
        taken = taken-other xs ys words i inside (sym c.requires) k.taken k.rest
            (omega (arith, w.if-value_of.true, c.value_of.ensures, c.value_of-in-loop-state.ensures));
        rest = rest-other xs ys words i inside (sym c.requires) k.taken k.rest;
      })
      | else-value_of w ↦ rw w.words-is (record {
        taken = taken-own xs ys words i inside (sym c.requires) k.taken k.rest
            (omega (arith, w.if-value_of.false, c.value_of.ensures, c.value_of-in-loop-state.ensures));
        rest = λ s above. k.rest s (omega arith);
      })
    ]

pub returns : goal.returns
returns c =
    let xs = c.args.words.now in
    let ys = c.args.others.now in
    let words = c.loop-state.words in
    let k = c.loop-state.invariant in
    let many : length words ≡ length (greater_words xs ys) =
    c.loop-state.auto.words ∙ sym (length-greater_words xs ys (sym c.requires)) in
    words-same words (greater_words xs ys) many (λ s. elim (cases_lt s c.loop-state.state) [
      | inl below ↦ k.taken s below
      | inr above ↦ get_or_past words s 0 (omega (arith, above, c.loop-state-test.false, c.loop-state.auto.words))
          ∙ sym (get_or_past (greater_words xs ys) s 0
          (omega (arith, above, c.loop-state-test.false, c.loop-state.auto.words, many)))
    ])
