-- This module states the definitions for an MDP of the replies.
use Rattle.std.specs.Prelude.{ℕ, List, Bool}
use Rattle.game_model.specs.Query.{states}
use Rattle.trap_sets.specs.declared.reply_mdp.ReplyMdp.{ReplyMdp}
use Rattle.trap_sets.specs.inside.Parts.{IsInternal}
use Rattle.trap_sets.specs.inside.Settled.{KeepsEnds, AreJoined, AreSettled, IsKept}
use Rattle.trap_sets.specs.inside.Breaking.{IsBreak}

-- This is the number of states of an MDP of the replies.
abbrev pub states_in : ReplyMdp → ℕ
states_in mdp = states mdp.question.now

-- A choice of the MDP of the replies at a state with a part has all its successors in that part.
abbrev pub IsInternalIn : ReplyMdp → List ℕ → ℕ → ℕ → Type 0
IsInternalIn mdp = IsInternal mdp.question.now mdp.replies.now

-- The states with a part are neither goal nor dead, and each end component of the MDP of the replies lies in one part.
abbrev pub KeepsEndsOf : ReplyMdp → List ℕ → Type 0
KeepsEndsOf mdp = KeepsEnds mdp.question.now mdp.replies.now

-- The states of each part reach each other by internal choices.
abbrev pub AreJoinedIn : ReplyMdp → List ℕ → Type 0
AreJoinedIn mdp = AreJoined mdp.question.now mdp.replies.now

-- Each part is an end component of the MDP of the replies, and each end component lies in one part.
abbrev pub AreSettledOf : ReplyMdp → List ℕ → Type 0
AreSettledOf mdp = AreSettled mdp.question.now mdp.replies.now

-- Marks can break up the part of a state.
abbrev pub IsBreakOf : ReplyMdp → List ℕ → List Bool → ℕ → Type 0
IsBreakOf mdp = IsBreak mdp.question.now mdp.replies.now

-- A state with an internal choice keeps its number, and any other has none.
abbrev pub IsKeptIn : ReplyMdp → List ℕ → ℕ → ℕ → Type 0
IsKeptIn mdp = IsKept mdp.question.now mdp.replies.now
