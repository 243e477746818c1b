-- Brackets that are settled agree.
use Rattle.std.proofs.Common.{◌≡◌, ℕ, ◌<◌, Bool, true, List, length, arith, refl, sym, ap, ◌∙◌, subst}
use Rattle.std.specs.Prelude.{slice_index}
use Rattle.std.proofs.lemmas.List.{get_or_default, same_lists}
use Rattle.game_model.specs.Query.{Query, states}
use Rattle.formula_reader.specs.declared.formula.Bound.{Bound}
use Rattle.verdicts.specs.Verdict.{is_asking}
use Rattle.upper_guess.specs.Guess.{IsFirstGuess}
use Rattle.upper_guess.proofs.One.{one-first-guess}
use Rattle.bracket_engine.specs.Stop.{upper_from, with_kept}
use Rattle.bracket_engine.specs.Bracket.{IsBracket}

-- two lower tables that are settled are both the least
pub settled-agree : (q : Query) (zero other_zero : List Bool) (bound other_bound : Bound)
    (initial other_initial : List ℕ) (asked other_asked : ℕ) (lower upper other other_upper : List ℕ)
    (rounds other_rounds : ℕ) → IsBracket q zero bound initial asked lower upper rounds true
    → IsBracket q other_zero other_bound other_initial other_asked other other_upper other_rounds true → lower ≡ other
settled-agree q zero other_zero bound other_bound initial other_initial asked other_asked lower upper other other_upper
    rounds other_rounds one two =
    let first = one.ended.least refl in
    let second = two.ended.least refl in
    same_lists lower other (one.sound.base_length ∙ sym two.sound.base_length) (λ s d inside.
    let within : s < states q = subst (λ n. s < n) one.sound.base_length inside in
    omega (
      arith,
      get_or_default lower s d 0 inside,
      get_or_default other s d 0 (subst (λ n. s < n) (sym two.sound.base_length) within),
      first.least (slice_index other) second.opens second.settled s within,
      second.least (slice_index lower) first.opens first.settled s within,
    ))

-- and two upper ones where none was kept: the guesses are over the same lower table,
-- and the swapped values are both the least
pub settled-upper-agree : (q : Query) (zero : List Bool) (bound other_bound : Bound) (initial other_initial : List ℕ)
    (asked other_asked : ℕ) (lower upper other_lower other : List ℕ) (rounds other_rounds : ℕ) → is_asking bound ≡ true
    → is_asking other_bound ≡ true → IsBracket q zero bound initial asked lower upper rounds true
    → IsBracket q zero other_bound other_initial other_asked other_lower other other_rounds true → upper ≡ other
settled-upper-agree q zero bound other_bound initial other_initial asked other_asked lower upper other_lower other
    rounds other_rounds asks other_asks one two =
    let first = one.ended.swapped_least refl in
    let second = two.ended.swapped_least refl in
    let lowers : lower ≡ other_lower = settled-agree q zero zero bound other_bound initial other_initial asked
    other_asked lower upper other_lower other rounds other_rounds one two in
    let guesses : one.made.least_upper.guess ≡ two.made.least_upper.guess =
    one-first-guess q zero (slice_index other_lower) one.made.least_upper.guess two.made.least_upper.guess
    (subst (λ (l : List ℕ). IsFirstGuess q zero (slice_index l) one.made.least_upper.guess) lowers
    one.made.least_upper.first) two.made.least_upper.first in
    same_lists upper other (one.made.least_upper.table.many ∙ sym two.made.least_upper.table.many) (λ s d inside.
    let within : s < states q = subst (λ n. s < n) one.made.least_upper.table.many inside in
    let there : s < length other = subst (λ n. s < n) (sym two.made.least_upper.table.many) within in
    let alone : slice_index upper s
    ≡ upper_from (slice_index one.made.swapped_values) (slice_index one.made.least_upper.guess) s =
    subst (λ k. slice_index upper s
    ≡ upper_from (slice_index one.made.swapped_values) (with_kept k (slice_index one.made.least_upper.guess)) s)
    (one.made.none_kept asks) (one.made.least_upper.each s within) in
    let other_alone : slice_index other s
    ≡ upper_from (slice_index two.made.swapped_values) (slice_index two.made.least_upper.guess) s =
    subst (λ k. slice_index other s
    ≡ upper_from (slice_index two.made.swapped_values) (with_kept k (slice_index two.made.least_upper.guess)) s)
    (two.made.none_kept other_asks) (two.made.least_upper.each s within) in
    let guess : slice_index one.made.least_upper.guess s ≡ slice_index two.made.least_upper.guess s =
    ap (λ (l : List ℕ). slice_index l s) guesses in
    let over = first.least (slice_index two.made.swapped_values) second.opens second.settled s within in
    let under = second.least (slice_index one.made.swapped_values) first.opens first.settled s within in
    omega (
      arith,
      get_or_default upper s d 0 inside,
      get_or_default other s d 0 there,
      alone,
      other_alone,
      guess,
      over,
      under,
    ))
