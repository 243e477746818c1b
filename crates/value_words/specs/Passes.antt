-- Contracts say these things about a table and about a pass.
use Rattle.std.specs.Prelude.{◌≡◌, ℕ, ◌<◌, ◌≤◌, List}
use Rattle.atomic_table.specs.declared.shared.Seat.{Seat}
use Rattle.game_model.specs.Game.{choice_of}
use Rattle.game_model.specs.Query.{Query}
use Rattle.game_model.specs.Rounded.{down_value}
use Rattle.step_core.specs.Word.{value_in, choice_in, value_at}
use Rattle.value_words.specs.declared.rule.Sight.{Sight}
use Rattle.value_words.specs.declared.pass.Pass.{Pass}
use Rattle.value_words.specs.declared.table.Ruled.{Ruled}

-- The pass is of this table.
abbrev pub IsOf : {Q P : Type 0} {g h : _} → Ruled Q P g → Pass P h → Type 0
IsOf table pass = pass.seat.table_id ≡ table.table.shared.table_id

-- These are the words that a pass has seen.
abbrev pub words_seen : {P : Type 0} {h : _} → Pass P h → List ℕ
words_seen pass = pass.seat.me.0.seen

-- This is the value in the word that a pass has seen of a state, in units.
abbrev pub seen_by : {P : Type 0} {h : _} → Pass P h → ℕ → ℕ
seen_by pass = value_at pass.seat.me.0.seen

-- A pass has won this many exchanges, with those of the passes that it met.
abbrev pub won_by : {P : Type 0} {h : _} → Pass P h → ℕ
won_by pass = pass.seat.me.0.won

-- A pass has this many of all parts.
abbrev pub parts_of : {P : Type 0} {h : _} → Pass P h → ℕ
parts_of pass = pass.seat.me.0.parts

-- The seat of a pass says of which table it is, and what it has seen of the words.
abbrev pub PassSeat : Type 0
PassSeat = Seat (Unit {0}) Sight

-- Each choice before the one that the word of a state names gives less than its value over what was seen.
abbrev pub NamesFirst : Query → (ℕ → ℕ) → ℕ → ℕ → Type 0
NamesFirst q seen s word = (c : ℕ) → c < choice_in word → down_value seen (choice_of q.game s c) < value_in word

-- The pass is of the same table, and has seen no less anywhere.
pub record GrewSeat (old new : PassSeat) : Type 0 where
  pub table : new.table_id ≡ old.table_id
  pub up : (s : ℕ) → value_at old.me.0.seen s ≤ value_at new.me.0.seen s

-- The pass has only looked at words: it has seen no less anywhere, has won nothing and has kept its parts.
pub record LookedSeat (old new : PassSeat) : Type 0 where
  pub grew : GrewSeat old new
  pub won : new.me.0.won ≡ old.me.0.won
  pub parts : new.me.0.parts ≡ old.me.0.parts

-- The pass has only looked at words.
abbrev pub Looked : {P : Type 0} {h : _} → Pass P h → Pass P h → Type 0
Looked old new = LookedSeat old.seat new.seat

-- The pass is of the same table, and has seen no less anywhere.
abbrev pub Grew : {P : Type 0} {h : _} → Pass P h → Pass P h → Type 0
Grew old new = GrewSeat old.seat new.seat
