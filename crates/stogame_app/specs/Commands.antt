-- These definitions say what a command asks of its texts: the limits of its numbers, its first refusal, that a text is
-- not held, or that all is accepted.
use Rattle.std.specs.Prelude.{◌≡◌, ◌⊎◌, ◌||◌, Option, Some, None, is_some, if◌then◌else◌}
use Rattle.game_outside.specs.Outside.{Holding}
use Rattle.formula_sets.specs.Posing.{Posing}
use Rattle.plan_text.specs.declared.plan.Plan.{Plan}
use Rattle.certificate_audit.specs.Accepted.{IsAccepted}
use Rattle.command_words.specs.Words.{Check, Audit, Solve, Command, OfCheck, OfAudit, OfSolve, OfMake, OfSure}
use Rattle.command_words.specs.Words.{AreInRange, IsMakeInRange}
use Rattle.output.specs.declared.refusal.Refusal.{Refusal}
use Rattle.inputs.specs.declared.problem.Paths.{Paths}
use Rattle.inputs.specs.declared.problem.Paths.TheVariants.{Any, Unbounded, Reaching}
use Rattle.inputs.specs.Problems.{Problem, posing_in, states_of}
use Rattle.inputs.specs.Said.{NotHeld}
use Rattle.inputs.specs.Sources.{SourceWith, sources_of}
use Rattle.inputs.specs.Posed.{reading_said}
use Rattle.inputs.specs.Asks.{GivenTextWith, Asks}
use Rattle.inputs.specs.Questions.{PosesIt, RefusesQuestion, RefusesCertificate, GivesValues, RefusesValues}
use Rattle.inputs.specs.Questions.{LacksValues}

-- The numbers of the command are within their limits.
abbrev pub IsInRange : Command → Type 0
IsInRange (OfCheck check) = AreInRange check
IsInRange (OfAudit audit) = Unit {0}
IsInRange (OfSolve solve) = Unit {0}
IsInRange (OfMake make) = IsMakeInRange make
IsInRange (OfSure asked) = Unit {0}

-- The command reads files.
abbrev pub ReadsFiles : Command → Type 0
ReadsFiles (OfCheck check) = Unit {0}
ReadsFiles (OfAudit audit) = Unit {0}
ReadsFiles (OfSolve solve) = Unit {0}
ReadsFiles (OfMake make) = ⊥
ReadsFiles (OfSure asked) = Unit {0}

-- `check` takes only formulas with no bound on the steps and no formula inside if it is asked for a certificate or for
-- upper bounds lowered at traps.
abbrev pub check_paths : Check → Paths
check_paths check = if check.plan || check.traps then Unbounded else Any

-- `solve` takes only such formulas if it is asked for a certificate or is given values to begin with.
abbrev pub solve_paths : Solve → Paths
solve_paths solve = if solve.plan || is_some solve.values then Unbounded else Any

-- 1. Refusals.

-- The problem is posed, and this is the first refusal of the text under the name of the certificate.
pub record RefusesBehind (holding : Option Holding) (audit : Audit) (refusal : Refusal) : Type 0 where
  pub problem : Problem
  pub posed : PosesIt holding audit.asked Unbounded problem
  pub posing : Posing
  pub reached : posing_in problem ≡ Some posing
  pub certificate : SourceWith holding audit.certificate (λ source. RefusesCertificate posing.question source refusal)

-- The problem is posed, and this is the first refusal of the text under the name of the values to begin with.
pub record RefusesHints (holding : Option Holding) (solve : Solve) (refusal : Refusal) : Type 0 where
  pub problem : Problem
  pub posed : PosesIt holding solve.asked (solve_paths solve) problem
  pub values : RefusesValues holding solve.values (states_of problem) refusal

-- This is the first refusal of a command: that of the problem, or else that of the certificate for an `audit`, or of
-- the values to begin with for a `solve`.
abbrev pub RefusesIt : Option Holding → Command → Refusal → Type 0
RefusesIt holding (OfCheck check) refusal = RefusesQuestion holding check.asked (check_paths check) refusal
RefusesIt holding (OfAudit audit) refusal =
    RefusesQuestion holding audit.asked Unbounded refusal ⊎ RefusesBehind holding audit refusal
RefusesIt holding (OfSolve solve) refusal =
    RefusesQuestion holding solve.asked (solve_paths solve) refusal ⊎ RefusesHints holding solve refusal
RefusesIt holding (OfMake make) refusal = ⊥
RefusesIt holding (OfSure asked) refusal = RefusesQuestion holding asked Reaching refusal

-- 2. Texts that are held.

-- A text that the command needs is not held, and the texts before it are accepted.
abbrev pub IsMissing : Holding → Command → Type 0
IsMissing held (OfCheck check) = reading_said (sources_of held check.asked) check.asked ≡ NotHeld
IsMissing held (OfAudit audit) = (reading_said (sources_of held audit.asked) audit.asked ≡ NotHeld)
    ⊎ (((problem : Problem) × Asks Unbounded (sources_of held audit.asked) audit.asked problem)
    × (held audit.certificate ≡ None))
IsMissing held (OfSolve solve) = (reading_said (sources_of held solve.asked) solve.asked ≡ NotHeld)
    ⊎ (((problem : Problem) × Asks (solve_paths solve) (sources_of held solve.asked) solve.asked problem)
    × LacksValues (Some held) solve.values)
IsMissing held (OfMake make) = ⊥
IsMissing held (OfSure asked) = reading_said (sources_of held asked) asked ≡ NotHeld

-- All that the command needs is held and accepted.
abbrev pub IsAcceptedOf : Holding → Command → Type 0
IsAcceptedOf held (OfCheck check) = (problem : Problem)
    × Asks (check_paths check) (sources_of held check.asked) check.asked problem
IsAcceptedOf held (OfAudit audit) = (problem : Problem) × (posing : Posing) × (plan : Plan)
    × Asks Unbounded (sources_of held audit.asked) audit.asked problem × (posing_in problem ≡ Some posing)
    × GivenTextWith (held audit.certificate) (λ text. IsAccepted posing.question text plan)
IsAcceptedOf held (OfSolve solve) = (problem : Problem)
    × Asks (solve_paths solve) (sources_of held solve.asked) solve.asked problem
    × GivesValues (Some held) solve.values (states_of problem)
IsAcceptedOf held (OfMake make) = Unit {0}
IsAcceptedOf held (OfSure asked) = (problem : Problem) × Asks Reaching (sources_of held asked) asked problem

-- If the command reads files, then the holding is known, and all that the command needs is held and accepted.
abbrev pub IsAcceptedFrom : Option Holding → Command → Type 0
IsAcceptedFrom holding command = ReadsFiles command
    → (held : Holding) × (holding ≡ Some held) × IsAcceptedOf held command
