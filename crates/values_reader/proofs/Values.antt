-- Values that are all 0.
use Rattle.std.proofs.Common.{◌≡◌, ◌<◌, ◌∙◌, ℕ, List, length, replicate, get_or, ap, subst, sym}
use Rattle.std.proofs.lemmas.List.{get_or-replicate, length-replicate}
use Rattle.std.specs.Float.{Float, float_zero}
use Rattle.values_reader.specs.Values.{AreProbabilities, IsProbability}

-- 0 is from 0 to 1
pub zero_is_probability : IsProbability float_zero
unfolding lib.Ieee.le lib.Ieee.lt lib.Ieee.is_nan
zero_is_probability = (tt, tt)

-- so many zeros are numbers from 0 to 1
pub zeros_are_probabilities : (n : ℕ) (xs : List Float) → xs ≡ replicate n float_zero → AreProbabilities xs
zeros_are_probabilities n xs same i inside =
    let few = subst (λ (k : ℕ). i < k) (ap length same ∙ length-replicate n float_zero) inside in
    let zero = ap (λ (list : List Float). get_or list i float_zero) same
    ∙ get_or-replicate n i float_zero float_zero few in
    subst IsProbability (sym zero) zero_is_probability
