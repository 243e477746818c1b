-- The line of a state is read.
use Rattle.std.specs.Prelude.{ℕ, List, Result}
use Rattle.plan_text.specs.declared.fault.PlanFault.{PlanFault}
use Rattle.plan_text.specs.declared.version.Version.{Version}
use Rattle.plan_text.specs.Entries.{Entry}
use Rattle.plan_text.specs.Said.{line_said}
use Rattle.plan_text.specs.Parts.{first_said_by}

-- The first of these lines says an entry of this state, and the other lines follow.
abbrev pub first_said : Version → ℕ → ℕ → List (List ℕ) → Result (Entry × List (List ℕ)) PlanFault
first_said version = first_said_by (line_said version)
