-- The engine finds a bracket and its strategies.
use Rattle.std.specs.Prelude.{ℕ, Bool, List, slice_index}
use Rattle.game_model.specs.Query.{Query, states}
use Rattle.game_model.specs.Ranks.{ReachesUnder}
use Rattle.inductive_check.specs.Replies.{AreFirstReplies, HoldsUnder}
use Rattle.rank_certificate.specs.Layers.{AreLayered}
use Rattle.formula_reader.specs.declared.formula.Bound.{Bound}
use Rattle.plan_text.specs.Entries.{HasStates}
use Rattle.certificate_audit.specs.Accepted.{Passes}
use Rattle.bracket_engine.specs.declared.bounds.Bracket.{Bracket}
use Rattle.bracket_engine.specs.Bracket.{IsBracket}
use Rattle.bracket_engine.specs.Lower.{IsLowerTable}
use Rattle.bracket_engine.specs.Choices.{AreChoices}

-- The result is a bracket of a question with this zero set, after at most the asked rounds. Its plan passes the checks
-- of an audit.
pub record IsBracketOfRun (q : Query) (zero : List Bool) (bound : Bound) (initial : List ℕ) (asked : ℕ)
    (found : Bracket) : Type 0 where
  pub bounds : IsBracket q zero bound initial asked found.base.items found.plan.upper.items found.rounds found.stable
  pub lists : HasStates found.plan (states q)
  pub passes : Passes q found.plan
  pub lower : IsLowerTable q zero found.base.items found.plan.lower.items found.plan.choices.items
      found.plan.ranks.items
  pub choices : AreChoices q found.plan.lower.items found.plan.choices.items
  -- The ranks are the least that prove the lower table with these choices.
  pub layered : AreLayered q found.plan.lower.items found.plan.choices.items found.plan.ranks.items
  -- The maximiser who plays the choices reaches the lower table, less any 1/m of the unit, within some horizon.
  pub reached : ReachesUnder q found.plan.choices.items (slice_index found.plan.lower.items)
  -- Each reply is the first choice that is held to the upper table, or none if no reply is needed.
  pub replies : AreFirstReplies q (slice_index found.plan.upper.items) found.plan.replies.items
  -- The minimiser who plays the replies holds every opponent to the upper table.
  pub holds : HoldsUnder q found.plan.replies.items (slice_index found.plan.upper.items)
