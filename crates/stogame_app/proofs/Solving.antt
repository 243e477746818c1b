-- What `solve` writes is no longer than a text may be that is read, and an audit of the same question accepts it.
use Rattle.std.proofs.Common.{◌≡◌, ◌∙◌, ◌≤◌, ℕ, true, List, length, Option, Some, None, refl, sym, ap, subst}
use Rattle.std.specs.Prelude.{◌||◌, is_some, if◌then◌else◌}
use Rattle.text_lines.specs.Limits.{most_bytes}
use Rattle.game_outside.specs.Outside.{Holding}
use Rattle.formula_reader.specs.Formula.{Tree}
use Rattle.formula_sets.specs.Posing.{Posing}
use Rattle.command_words.specs.Words.{Asked, Solve, Audit, Command, OfAudit, OfSolve}
use Rattle.command_words.specs.Words.{AreCommand}
use Rattle.output.specs.declared.status.Status.{Status}
use Rattle.inputs.specs.Asks.{Asks}
use Rattle.inputs.specs.declared.problem.Paths.{Paths}
use Rattle.inputs.specs.declared.problem.Paths.TheVariants.{Any, Unbounded}
use Rattle.inputs.specs.Problems.{Problem, OfReach, OfWithin, OfNext, OfNested, posing_in}
use Rattle.inputs.specs.Sources.{Sources, sources_of}
use Rattle.formula_truth.specs.declared.way.Way.TheVariants.{BySolver}
use Rattle.stogame_app.specs.Commands.{IsAcceptedOf, solve_paths}
use Rattle.stogame_app.specs.Reports.{Solves, IsReportOfWords}
use Rattle.stogame_app.specs.Reports.{of_solve, of_solve_within, of_solve_next, of_solve_nested}
use Rattle.stogame_app.proofs.Complete.{AreOneCommand}
use Rattle.output.proofs.Passing.{AreReadBack}
use Rattle.output.proofs.PlainParts.{spellable-plain, answered-plain}
use Rattle.output.proofs.ShortSpellings.{spelling-short}
use Rattle.reports.specs.Solved.{IsSolved}
use Rattle.reports.proofs.ShortReports.{nested-text-short, solved-text-short, sweep-text-short}
use Rattle.reports.proofs.Accepting.{AreCertificates, solved-accepted}
use Rattle.stogame_app.proofs.Saving.{AreFew, AreSpellable, asked-posing, initial-few, reported_by}

-- words that denote a `solve` denote no other command
abbrev OneSolve : Solve → Command → Type 0
OneSolve solve (OfSolve other) = other ≡ solve
OneSolve solve command = ⊥

same_solve : AreOneCommand → (words : List (List ℕ)) (solve : Solve) (command : Command)
    → AreCommand words (OfSolve solve) → AreCommand words command → OneSolve solve command
same_solve one words solve command denoted also =
    subst (OneSolve solve) (one words (OfSolve solve) command denoted also) refl

module _ (one : AreOneCommand) (spellable : AreSpellable) (words : List (List ℕ)) (holding : Option Holding) (taken : ℕ)
    (solve : Solve) (text : List ℕ) (status : Status) (denoted : AreCommand words (OfSolve solve)) where
  solve-few : (other : Solve) (problem : Problem) (f : Tree) → Solves words holding taken other problem f
      → AreFew problem f
  solve-few other problem f asks = record {
    states = initial-few (solve_paths other) asks.posed.sources other.asked problem asks.posed.asks;
    spelled = spelling-short other.asked.formula f asks.spelled
        (spellable-plain f (spellable other.asked.formula f asks.spelled));
  }

  pub solve-short : IsReportOfWords words holding taken text status → length text ≤ most_bytes
  solve-short (of_solve other p f asks given solved) =
      let few = solve-few other (OfReach p) f asks in
      solved-text-short p.question p.initial f other.plan text status few.states few.spelled solved
  solve-short (of_solve_within other steps p f asks report) =
      sweep-text-short _ _ _ _ p.initial f text status (solve-few other (OfWithin steps p) f asks).states report.report
  solve-short (of_solve_next other p f asks report) =
      sweep-text-short _ _ _ _ p.initial f text status (solve-few other (OfNext p) f asks).states report.report
  solve-short (of_solve_nested other model initial f asks report) =
      nested-text-short model initial f BySolver text status (solve-few other (OfNested model initial) f asks).states
      report
  solve-short report =
      let by = reported_by report in
      absurd (same_solve one words solve by.0 denoted by.1)

module _ (read_back : AreReadBack) (certificates : AreCertificates) (one : AreOneCommand) (spellable : AreSpellable)
    (words : List (List ℕ)) (held later : Holding) (taken : ℕ) (solve : Solve) (audit : Audit)
    (text : List ℕ) (status : Status)
    (denoted : AreCommand words (OfSolve solve)) (planned : solve.plan ≡ true)
    (same : audit.asked ≡ solve.asked) (alike : sources_of later solve.asked ≡ sources_of held solve.asked)
    (given : later audit.certificate ≡ Some text) where
  -- the paths are those of an audit
  later_asks : (problem : Problem) (f : Tree) → Solves words (Some held) taken solve problem f
      → Asks Unbounded (sources_of later solve.asked) solve.asked problem
  later_asks problem f asks =
      subst (λ (paths : Paths). Asks paths (sources_of later solve.asked) solve.asked problem)
      (ap (λ b. if b || is_some solve.values then Unbounded else Any) planned)
      (subst (λ (sources : Sources). Asks (solve_paths solve) sources solve.asked problem)
      (asks.posed.told ∙ sym alike) asks.posed.asks)

  of_this : (p : Posing) (f : Tree) → Solves words (Some held) taken solve (OfReach p) f
      → IsSolved p.question p.initial f solve.plan text status → length text ≤ most_bytes
      → IsAcceptedOf later (OfAudit audit)
  of_this p f asks solved short = (
    OfReach p,
    p,
    solved.plan,
    subst (λ (asked : Asked). Asks Unbounded (sources_of later asked) asked (OfReach p)) (sym same)
        (later_asks (OfReach p) f asks),
    refl,
    record {
      text = text;
      given = given;
      short = short;
      is_so = solved-accepted read_back certificates p.question p.initial f solve.plan text status planned
          (answered-plain f (spellable-plain f (spellable solve.asked.formula f asks.spelled))) solved;
    },
  )

  -- words denote one `solve`; other problems have no certificate
  no-plan : (other : Solve) (problem : Problem) (f : Tree) → Solves words (Some held) taken other problem f
      → posing_in problem ≡ None → ⊥
  no-plan other problem f asks none =
      let is : other ≡ solve = same_solve one words solve (OfSolve other) denoted asks.denoted in
      asked-posing (sources_of later solve.asked) solve.asked problem
      (later_asks problem f (subst (λ (s : Solve). Solves words (Some held) taken s problem f) is asks)) none

  pub solve-accepted : IsReportOfWords words (Some held) taken text status → IsAcceptedOf later (OfAudit audit)
  solve-accepted (of_solve other p f asks hints solved) =
      let is : other ≡ solve = same_solve one words solve (OfSolve other) denoted asks.denoted in
      let short : length text ≤ most_bytes = solve-short one spellable words (Some held) taken solve text status denoted
      (of_solve other p f asks hints solved) in
      of_this p f (subst (λ (s : Solve). Solves words (Some held) taken s (OfReach p) f) is asks)
      (subst (λ (s : Solve). IsSolved p.question p.initial f s.plan text status) is solved) short
  solve-accepted (of_solve_within other steps p f asks report) = absurd (no-plan other (OfWithin steps p) f asks refl)
  solve-accepted (of_solve_next other p f asks report) = absurd (no-plan other (OfNext p) f asks refl)
  solve-accepted (of_solve_nested other model initial f asks report) =
      absurd (no-plan other (OfNested model initial) f asks refl)
  solve-accepted report =
      let by = reported_by report in
      absurd (same_solve one words solve by.0 denoted by.1)
