-- These definitions are the rule of the words, and what each step tells its pass.
use Rattle.std.specs.Prelude.{◌≡◌, ◌≢◌, ◌⊎◌, ℕ, ◌+◌, ◌-◌, ◌/◌, ◌<◌, ◌≤◌, true, false, List, [], slice_index, slice_set}
use Rattle.std.specs.Prelude.{if◌then◌else◌, nat_lt}
use Rattle.std.specs.List.{sum_by}
use mathlib.Core.Option.{some}
use lib.ListN.{get_elem?}
use Rattle.atomic_table.specs.Table.{Step}
use Rattle.game_model.specs.Query.{Query}
use Rattle.game_model.specs.Limits.{unit}
use Rattle.game_model.specs.Rounded.{down_steps, IsBelow}
use Rattle.step_core.specs.Word.{value_in, value_at, opening_words, greater_words}
use Rattle.step_core.specs.Configuration.{IsWorld}
use Rattle.value_words.specs.declared.rule.Sight.{Sight}
use Rattle.value_words.specs.Shown.{Shared, Seated, shown, all_won}

-- This question has no states. It is used if no call has named the question of a table.
abbrev pub no_question : Query
no_question = record { game = []; sides = []; goals = []; deads = [] }

-- The passes of a table have this many parts together, unless some are lost.
abbrev pub all_parts : ℕ
all_parts = 1024

-- The opening words were seen, and nothing was won.
abbrev pub opening_sight : Query → Sight
opening_sight q = record { live = true; seen = opening_words q; won = 0; parts = all_parts }

-- At a split a pass keeps half of its parts, rounded down.
abbrev pub halved : Sight → Sight
halved v = record v { parts = v.parts / 2 }

-- The other half is rounded up. A single part is lost.
abbrev pub other_half : ℕ → ℕ
other_half parts = if nat_lt parts 2 then 0 else parts - parts / 2

-- The new pass of a split has seen the same, and has won nothing.
abbrev pub copied : Sight → Sight
copied v = record { live = v.live; seen = v.seen; won = 0; parts = other_half v.parts }

-- A join takes for each state the seen word of greater value, and the sums of what was won and of the parts.
abbrev pub joined : Sight → Sight → Sight
joined v w = record {
  live = v.live;
  seen = greater_words v.seen w.seen;
  won = v.won + w.won;
  parts = v.parts + w.parts;
}

-- This is left of a pass that another one took in.
abbrev pub spent : Sight
spent = record { live = false; seen = []; won = 0; parts = 0 }

-- The passes have at most all parts. If they have all of them, a pass with no part is spent, so a pass with all parts
-- is the only one.
pub record AreParts (views : List Sight) : Type 0 where
  pub most : sum_by (λ v. v.parts) views ≤ all_parts
  pub idle : sum_by (λ v. v.parts) views ≡ all_parts → (id : ℕ) (v : Sight) → get_elem? views id ≡ some v → v.parts ≡ 0
      → v ≡ spent

-- The table shows a configuration that meets the invariant of the core, and its words are nowhere above as many down
-- steps as exchanges were won.
pub record MeetsRule (q : Query) (s : Shared) : Type 0 where
  pub world : IsWorld (shown q s)
  pub within : IsBelow q (value_at s.words) (down_steps q (all_won s))
  pub parts : AreParts s.views

-- The pass has seen this word at a state, and has won this many exchanges.
abbrev pub saw : Seated → ℕ → ℕ → ℕ → Seated
saw m state word won = (record m.0 { seen = slice_set m.0.seen state word; won = won }, m.1)

-- In a load the pass sees the word found, which is the one that it saw or has a greater value.
abbrev pub Loaded : Step (Unit {0}) → Seated → ℕ → Seated → Type 0
Loaded step m found n =
    (n ≡ saw m step.word found m.0.won)
    × ((found ≡ slice_index m.0.seen step.word) ⊎ (value_in (slice_index m.0.seen step.word) < value_in found))
    × (value_in found ≤ unit)

-- An exchange is won if the word found is the one expected, and then the pass sees its own word. Else it is lost, and
-- the pass sees the word found, whose value is greater.
abbrev pub WonOrLost : Step (Unit {0}) → Seated → ℕ → Seated → Type 0
WonOrLost step m found n =
    (found ≡ step.first → n ≡ saw m step.word step.second (m.0.won + 1))
    × (found ≢ step.first → (n ≡ saw m step.word found m.0.won)
    × (value_in (slice_index m.0.seen step.word) < value_in found))
    × ((word : ℕ) × (won : ℕ) × (n ≡ saw m step.word word won)
    × (value_in (slice_index m.0.seen step.word) ≤ value_in word) × (value_in word ≤ unit))
