-- A table is shown as a configuration of the core, whose views are the passes in the order in which they were made.
use Rattle.std.specs.Prelude.{◌≡◌, ℕ, ◌+◌, true, List, map, Option, Some, None, if◌then◌else◌}
use Rattle.std.specs.List.{sum_by}
use mathlib.Core.Option.{some}
use lib.ListN.{get_elem?}
use Rattle.atomic_table.specs.Table.{State, Me}
use Rattle.game_model.specs.Query.{Query}
use Rattle.step_core.specs.declared.event.Event.{Event}
use Rattle.step_core.specs.Configuration.{Configuration}
use Rattle.step_core.specs.Events.{Lawful, after, wins}
use Rattle.value_words.specs.declared.rule.Sight.{Sight}

-- These are the words of a table, and what every pass has seen.
abbrev pub Shared : Type 0
Shared = State (Unit {0}) Sight

-- This is what one pass has seen, and the slots that it holds: none.
abbrev pub Seated : Type 0
Seated = Me (Unit {0}) Sight

-- These are the words that a pass has seen: none if it is spent.
abbrev pub view_shown : Sight → Option (List ℕ)
view_shown v = if v.live then Some v.seen else None

-- The configuration has the same words, and for each live pass a view that has seen the same.
abbrev pub shown : Query → Shared → Configuration
shown q s = record { question = q; words = s.words; views = map view_shown s.views }

-- The pass of this number is live and has seen this.
pub record IsPassOf (s : Shared) (id : ℕ) (v : Sight) : Type 0 where
  pub there : get_elem? s.views id ≡ some v
  pub live : v.live ≡ true

-- The passes have won this many exchanges together.
abbrev pub all_won : Shared → ℕ
all_won s = sum_by (λ v. v.won) s.views

-- This event of the core leads from one table to the other: it is lawful there, this is its effect, and what it wins is
-- counted.
pub record IsEvent (q : Query) (before later : Shared) (event : Event) : Type 0 where
  pub lawful : Lawful (shown q before) event
  pub effect : shown q later ≡ after (shown q before) event
  pub won : all_won later ≡ all_won before + wins event
