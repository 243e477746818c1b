-- This module states the definitions for the internal choices of given parts.
use Rattle.std.specs.Prelude.{ℕ}
use Rattle.game_model.specs.Query.{states}
use Rattle.trap_sets.specs.declared.internal.Internal.{Internal}
use Rattle.trap_sets.specs.Moves.{Leads}
use Rattle.trap_sets.specs.inside.Parts.{IsInternal, IsStep}

-- This is the number of states of the MDP of the replies.
abbrev pub states_of : Internal → ℕ
states_of internal = states internal.mdp.question.now

-- Choice c of state s leads to state t.
abbrev pub LeadsOf : Internal → ℕ → ℕ → ℕ → Type 0
LeadsOf internal = Leads internal.mdp.question.now

-- A choice of the MDP of the replies at a state with a part has all its successors in that part.
abbrev pub IsInternalOf : Internal → ℕ → ℕ → Type 0
IsInternalOf internal = IsInternal internal.mdp.question.now internal.mdp.replies.now internal.part.now

-- An internal choice of the first state leads to the second.
abbrev pub IsStepOf : Internal → ℕ → ℕ → Type 0
IsStepOf internal = IsStep internal.mdp.question.now internal.mdp.replies.now internal.part.now
