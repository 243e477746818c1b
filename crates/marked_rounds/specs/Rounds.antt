-- These definitions say what holds during a race, and what it leaves.
use Rattle.std.specs.Prelude.{◌≡◌, ℕ, ◌*◌, ◌≤◌, List}
use Rattle.game_model.specs.Query.{Query, states}
use Rattle.game_model.specs.Rounded.{down_steps, IsBelow, IsSettled}
use Rattle.step_core.specs.Word.{value_at}
use Rattle.step_core.specs.Sound.{AreSoundWords}
use Rattle.value_words.specs.declared.pass.Pass.{Pass}
use Rattle.value_words.specs.Passes.{PassSeat}
use Rattle.value_words.specs.Rule.{all_parts}
use Rattle.marked_rounds.specs.declared.dirty.DirtySet.{DirtySet}
use Rattle.marked_rounds.specs.DirtySet.{read_of}

-- After this many rounds the pass is the only one, and has won at most one exchange for each state and round. What was
-- read is nowhere below the down steps of the rounds.
pub record IsRacingSeat (q : Query) (rounds : ℕ) (seat : PassSeat) (dirty : DirtySet) : Type 0 where
  pub whole : seat.me.0.parts ≡ all_parts
  pub won : seat.me.0.won ≤ rounds * states q
  pub swept : IsBelow q (down_steps q rounds) (read_of dirty)

-- The pass and the dirty set are those after this many rounds.
abbrev pub IsRacing : {P : Type 0} {h : _} → Query → ℕ → Pass P h → DirtySet → Type 0
IsRacing q rounds pass dirty = IsRacingSeat q rounds pass.seat dirty

-- These are the closed words after this many completed rounds, whatever the schedule.
pub record IsRaced (q : Query) (words : List ℕ) (rounds : ℕ) : Type 0 where
  pub sound : AreSoundWords q words
  pub within : IsBelow q (value_at words) (down_steps q (rounds * states q))
  pub swept : IsBelow q (down_steps q rounds) (value_at words)

-- The closed words are nowhere below what was read, and they are settled if it was.
pub record IsClosed (q : Query) (words : List ℕ) (rounds : ℕ) (read : ℕ → ℕ) : Type 0 where
  pub raced : IsRaced q words rounds
  pub below : IsBelow q read (value_at words)
  pub settled : IsSettled q read → IsSettled q (value_at words)
