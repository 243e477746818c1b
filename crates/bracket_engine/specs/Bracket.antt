-- A run of rounds gives a sound lower table, the base, and a sound upper table. These definitions say how near the
-- tables are to the r-step values and to the values of not being lost after r steps. The swapped values are lower
-- bounds of the swapped question.
use Rattle.std.specs.Prelude.{◌≡◌, ℕ, ◌+◌, ◌-◌, ◌*◌, ◌^◌, ◌<◌, ◌≤◌, ◌↔◌, ◌⊎◌, Bool, true, List, length, All, map, min}
use Rattle.std.specs.Prelude.{slice_index, Option, None, IfSome}
use Rattle.game_model.specs.Query.{Query, states}
use Rattle.game_model.specs.Values.{denominator, numerator}
use Rattle.game_model.specs.Limits.{unit}
use Rattle.game_model.specs.Rounded.{down_steps, opening, IsBelow, IsSettled}
use Rattle.game_model.specs.Dual.{open_numerator, swapped}
use Rattle.game_model.specs.Bounds.{IsLow, IsHigh}
use Rattle.formula_reader.specs.declared.formula.Bound.{Bound}
use Rattle.verdicts.specs.Verdict.{is_asking}
use Rattle.bracket_engine.specs.declared.stopping.SettlingGuess.{SettlingGuess}
use Rattle.bracket_engine.specs.Stop.{AreSettledAt, EndsWhereSettled, IsSettlingGuess, IsUpperFrom}

-- Each entry is at most r units below the r-step value.
abbrev pub IsCloseBelow : Query → ℕ → (ℕ → ℕ) → Type 0
IsCloseBelow q r table = (s : ℕ) → s < states q → unit * numerator q r s ≤ (table s + r) * denominator q.game ^ r

-- Each entry is the unit less the value.
abbrev pub complements_of : List ℕ → List ℕ
complements_of values = map (λ value. unit - value) values

-- A table is the lesser of two tables: each entry is the lesser of their entries.
pub record AreLesser (one other table : List ℕ) : Type 0 where
  pub many : length table ≡ length one
  pub each : (s : ℕ) → s < length one → slice_index table s ≡ min (slice_index one s) (slice_index other s)

-- Each entry is at most the unit less the r-fold down step of the swapped question.
abbrev pub IsSweptAbove : Query → List Bool → ℕ → (ℕ → ℕ) → Type 0
IsSweptAbove q zero r table = (s : ℕ) → s < states q → down_steps (swapped q zero) r s + table s ≤ unit

-- Each entry is at most r units above the value of not being lost after r steps.
abbrev pub IsCloseAbove : Query → List Bool → ℕ → (ℕ → ℕ) → Type 0
IsCloseAbove q zero r table = (s : ℕ) → s < states q
    → table s * denominator q.game ^ r ≤ unit * open_numerator q zero r s + r * denominator q.game ^ r

-- The table is the least one that is settled and nowhere below the opening table: none of its down values is above its
-- entry.
pub record IsLeastSettled (q : Query) (table : ℕ → ℕ) : Type 0 where
  pub opens : IsBelow q (opening q) table
  pub settled : IsSettled q table
  pub least : (other : ℕ → ℕ) → IsBelow q (opening q) other → IsSettled q other → IsBelow q table other

-- The lower table is near the r-step values and nowhere below r down steps. The upper table is near the values of not
-- being lost after r steps, and nowhere above the unit less r down steps of the swapped question.
pub record IsNarrow (q : Query) (zero : List Bool) (r : ℕ) (lower upper : ℕ → ℕ) : Type 0 where
  pub swept : IsBelow q (down_steps q r) lower
  pub near : IsCloseBelow q r lower
  pub swept_above : IsSweptAbove q zero r upper
  pub near_above : IsCloseAbove q zero r upper

-- The values are sound lower bounds of the swapped question. They lie between the down steps of the completed rounds
-- and the down steps of all their updates, one for each state and round.
pub record AreSwappedValues (q : Query) (zero : List Bool) (rounds : ℕ) (values : List ℕ) : Type 0 where
  pub units : (s : ℕ) → s < states q → slice_index values s ≤ unit
  pub low : IsLow (swapped q zero) (slice_index values)
  pub swept : IsBelow (swapped q zero) (down_steps (swapped q zero) rounds) (slice_index values)
  pub within : IsBelow (swapped q zero) (slice_index values) (down_steps (swapped q zero) (rounds * states q))

-- The base has a count of units for each state and is low, and the upper table is high.
pub record AreSoundBounds (q : Query) (base upper : List ℕ) : Type 0 where
  pub base_length : length base ≡ states q
  pub base_units : All (λ v. v ≤ unit) base
  pub low : IsLow q (slice_index base)
  pub high : IsHigh q (slice_index upper)

-- The upper table is inductive. It is the least of the unit less the swapped values, of the first guess over the base,
-- and of a guess that was kept, if any. A kept guess settles the threshold at each initial state, with the base and the
-- swapped values. No guess is kept if the bound asks for a value.
pub record IsMadeFrom (q : Query) (zero : List Bool) (bound : Bound) (initial : List ℕ) (rounds : ℕ)
    (base upper : List ℕ) : Type 0 where
  pub swapped_values : List ℕ
  pub swapped_bounds : AreSwappedValues q zero rounds swapped_values
  pub kept : Option SettlingGuess
  pub least_upper : IsUpperFrom q zero (slice_index base) (slice_index swapped_values) kept upper
  pub kept_over : IfSome kept (IsSettlingGuess q zero bound initial (slice_index base) (slice_index swapped_values))
  pub none_kept : is_asking bound ≡ true → kept ≡ None

-- The tables are as near to the values as the completed rounds make them. Unless each initial state is settled, they
-- are also as near as the asked rounds make them. The base is nowhere above the down steps of all updates of the
-- completed rounds, one for each state and round.
pub record AreNear (q : Query) (zero : List Bool) (bound : Bound) (initial : List ℕ) (asked : ℕ) (base upper : List ℕ)
    (rounds : ℕ) : Type 0 where
  pub few : rounds ≤ asked
  pub within : IsBelow q (slice_index base) (down_steps q (rounds * states q))
  pub narrow : IsNarrow q zero rounds (slice_index base) (slice_index upper)
  pub narrow_asked : AreSettledAt bound initial (slice_index base) (slice_index upper)
      ⊎ IsNarrow q zero asked (slice_index base) (slice_index upper)

-- The run ends early only if the base and the swapped values are settled, or if each initial state is settled. It ends
-- in time, as `EndsWhereSettled` says. Settled tables are the least settled ones.
pub record HasEnded (q : Query) (zero : List Bool) (bound : Bound) (initial : List ℕ) (asked : ℕ)
    (base swapped_values upper : List ℕ) (rounds : ℕ) (stable : Bool) : Type 0 where
  pub early : rounds < asked → (stable ≡ true) ⊎ AreSettledAt bound initial (slice_index base) (slice_index upper)
  pub in_time : EndsWhereSettled q (swapped q zero) bound initial rounds
  pub settled : (stable ≡ true) ↔ (IsSettled q (slice_index base)
      × IsSettled (swapped q zero) (slice_index swapped_values))
  pub least : stable ≡ true → IsLeastSettled q (slice_index base)
  pub swapped_least : stable ≡ true → IsLeastSettled (swapped q zero) (slice_index swapped_values)

-- A bracket of a question with this zero set has sound tables. It says what the upper table is made from, how near the
-- tables are after this many of the asked rounds, and how the run ended.
pub record IsBracket (q : Query) (zero : List Bool) (bound : Bound) (initial : List ℕ) (asked : ℕ) (base upper : List ℕ)
    (rounds : ℕ) (stable : Bool) : Type 0 where
  pub sound : AreSoundBounds q base upper
  pub made : IsMadeFrom q zero bound initial rounds base upper
  pub near : AreNear q zero bound initial asked base upper rounds
  pub ended : HasEnded q zero bound initial asked base made.swapped_values upper rounds stable
