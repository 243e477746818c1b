-- An infinite number is above 0.
use Rattle.local_values.proofs.vectors.greater.Goals as goal

pub returns-then-is_nan : goal.returns-then-is_nan
unfolding lib.Ieee.of_bits lib.Ieee.le lib.Ieee.lt
returns-then-is_nan c = λ low. tt
