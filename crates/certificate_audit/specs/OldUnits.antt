-- In the units of certificates of the first version, probability 1 is ten to the twelfth.
use Rattle.std.specs.Prelude.{ℕ, ◌*◌, List, map}

-- This many units of the first version are probability 1: twelve decimal places of a probability are whole numbers.
abbrev pub old_unit : ℕ
old_unit = 1000000000000

-- A table of old units is read in units: each value becomes a thousandfold.
abbrev pub thousandfold : List ℕ → List ℕ
thousandfold table = map (λ value. 1000 * value) table
