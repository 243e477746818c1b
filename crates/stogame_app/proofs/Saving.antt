-- What `check` writes is no longer than a text may be that is read, so an audit of the same question accepts it.
use Rattle.std.proofs.Common.{◌≡◌, ◌∙◌, ◌≤◌, ◌+◌, ℕ, Bool, true, false, List, [], ◌∷◌, length, bytes_eq, Option, Some}
use Rattle.std.proofs.Common.{None, if◌then◌else◌, refl, sym, ap, subst, arith}
use Rattle.std.specs.Prelude.{◌||◌, IsSome}
use Rattle.text_lines.specs.Limits.{most_bytes}
use Rattle.game_outside.specs.Outside.{Holding}
use Rattle.game_model.specs.Game.{Distribution}
use Rattle.game_model.specs.Limits.{most_states}
use Rattle.transition_lines.specs.Text.{DenotesGame}
use Rattle.label_lines.specs.Header.{Item}
use Rattle.label_lines.specs.Lines.{StateLine}
use Rattle.label_lines.specs.Labels.{Label, marks_of, marked_from, states_with, Labelling}
use Rattle.label_lines.specs.Denotes.{AreLabels, DenotesLabels}
use Rattle.label_lines.specs.Owners.{Ownership}
use Rattle.formula_reader.specs.Formula.{Tree}
use Rattle.formula_reader.specs.Rules.{DenotesFormula}
use Rattle.rpatl_syntax.specs.Spellable.{IsSpellable}
use Rattle.rpatl_syntax.specs.Spelling.{spelling}
use Rattle.formula_sets.specs.Posing.{Posing, init}
use Rattle.command_words.specs.Words.{Asked, Check, Audit, Command, OfCheck, OfAudit, OfSolve, OfMake, OfSure}
use Rattle.command_words.specs.Words.{AreCommand, DenoteCommand}
use Rattle.output.specs.declared.status.Status.{Status}
use Rattle.formula_truth.specs.declared.way.Way.TheVariants.{ByRounds}
use Rattle.inputs.specs.Asks.{Asks}
use Rattle.inputs.specs.declared.problem.Paths.{Paths}
use Rattle.inputs.specs.declared.problem.Paths.TheVariants.{Any, Unbounded}
use Rattle.inputs.specs.Problems.{Problem, OfReach, OfWithin, OfNext, OfNested, PosesProblem, initial_of}
use Rattle.inputs.specs.Problems.{posing_in}
use Rattle.rpatl_syntax.specs.Dual.{answered}
use Rattle.inputs.specs.Sources.{Sources, sources_of}
use Rattle.stogame_app.specs.Commands.{IsAcceptedOf, check_paths}
use Rattle.stogame_app.specs.Reports.{Checks, IsReportOfWords, of_reach, of_within, of_next, of_nested, of_audit}
use Rattle.stogame_app.specs.Reports.{of_solve, of_solve_within, of_solve_next, of_solve_nested, of_sure, of_make}
use Rattle.stogame_app.proofs.Complete.{AreOneCommand}
use Rattle.output.proofs.Passing.{AreReadBack}
use Rattle.output.proofs.PlainParts.{spellable-plain, answered-plain}
use Rattle.output.proofs.ShortSpellings.{most_spelled, spelling-short}
use Rattle.reports.specs.Reports.{IsBracketReport}
use Rattle.reports.proofs.ShortReports.{report-text-short, sweep-text-short, nested-text-short}
use Rattle.reports.proofs.Accepting.{AreCertificates, has-posing, report-accepted}

-- 1. There are no more initial states than a game has states.

marked-few : (k : ℕ) (marks : List Bool) → length (marked_from k marks) ≤ length marks
marked-few k [] = omega arith
marked-few k (true ∷ marks) = omega (arith, marked-few (k + 1) marks)
marked-few k (false ∷ marks) = omega (arith, marked-few (k + 1) marks)

marks-few : (n : ℕ) (lines : List StateLine) (items : List Item) (labels : List Label) (name : List ℕ)
    → AreLabels n lines items labels → length (marks_of labels name) ≤ n
marks-few n lines [] [] name are = omega arith
marks-few n lines [] (label ∷ labels) name are = absurd are
marks-few n lines (item ∷ items) [] name are = absurd are
marks-few n lines (item ∷ items) (label ∷ labels) name are =
    elim (bytes_eq name label.name) as (λ b. length (if b then label.marks else marks_of labels name) ≤ n) [
      | true ↦ omega (arith, are.0.marks)
      | false ↦ marks-few n lines items labels name are.1
    ]

labelled-few : (text : List ℕ) (n : ℕ) (l : Labelling) (name : List ℕ) → DenotesLabels text n l
    → length (states_with l name) ≤ n
labelled-few text n l name denotes = omega
    (arith, marked-few 0 (marks_of l.labels name), marks-few n denotes.lines denotes.items l.labels name denotes.labels)

game-few : (text : List ℕ) (game : List (List Distribution)) → DenotesGame text game → length game ≤ most_states
game-few text game denotes = omega (arith, denotes.states, denotes.is_header.few)

-- the initial states of a problem are those with the label
problem-starts : (game : List (List Distribution)) (labels : Labelling) (owners : Ownership) (f : Tree)
    (problem : Problem) → PosesProblem game labels owners f problem → initial_of problem ≡ states_with labels init
problem-starts game labels owners f (OfReach p) (flat, of, poses) = poses.set_up.begins.starts
problem-starts game labels owners f (OfWithin k p) (flat, of, poses) = poses.set_up.begins.starts
problem-starts game labels owners f (OfNext p) (flat, of, poses) = poses.set_up.begins.starts
problem-starts game labels owners f (OfNested m initial) (nested, of, begins) = begins.starts

pub initial-few : (paths : Paths) (sources : Sources) (asked : Asked) (problem : Problem)
    → Asks paths sources asked problem → length (initial_of problem) ≤ most_states
initial-few paths sources asked problem asks =
    omega (
      arith,
      ap (λ (states : List ℕ). length states)
          (problem-starts asks.game asks.labels asks.owners asks.formula problem asks.poses),
      labelled-few asks.lab.text (length asks.game) asks.labels init asks.lab.is_so,
      game-few asks.tra.text asks.game asks.tra.is_so,
    )

-- a report is that of a command that the words denote
abbrev pub reported_by : {words : List (List ℕ)} {holding : Option Holding} {taken : ℕ} {text : List ℕ}
    {status : Status} → IsReportOfWords words holding taken text status → DenoteCommand words
reported_by (of_reach check p f asks report) = (OfCheck check, asks.denoted)
reported_by (of_within check steps p f asks report) = (OfCheck check, asks.denoted)
reported_by (of_next check p f asks report) = (OfCheck check, asks.denoted)
reported_by (of_nested check model initial f asks report) = (OfCheck check, asks.denoted)
reported_by (of_audit audit problem p f asks reached audited) = (OfAudit audit, asks.denoted)
reported_by (of_solve solve p f asks given solved) = (OfSolve solve, asks.denoted)
reported_by (of_solve_within solve steps p f asks report) = (OfSolve solve, asks.denoted)
reported_by (of_solve_next solve p f asks report) = (OfSolve solve, asks.denoted)
reported_by (of_solve_nested solve model initial f asks report) = (OfSolve solve, asks.denoted)
reported_by (of_sure asked problem p f all asks reached sure ends) = (OfSure asked, asks.denoted)
reported_by (of_make make denoted made) = (OfMake make, denoted)

-- words that denote a `check` denote no other command
abbrev IsCheck : Command → Type 0
IsCheck (OfCheck check) = Unit {0}
IsCheck command = ⊥

same_check : AreOneCommand → (words : List (List ℕ)) (check : Check) (command : Command)
    → AreCommand words (OfCheck check) → AreCommand words command → IsCheck command
same_check one words check command denoted also =
    subst (λ (k : Command). IsCheck k) (one words (OfCheck check) command denoted also) tt

-- 2. A report is short.

-- every formula that a text denotes can be spelled
abbrev pub AreSpellable : Type 0
AreSpellable = (text : List ℕ) (formula : Tree) → DenotesFormula text formula → IsSpellable formula

-- there are few initial states, and the formula is short
pub record AreFew (problem : Problem) (f : Tree) : Type 0 where
  pub states : length (initial_of problem) ≤ most_states
  pub spelled : length (spelling (answered f)) ≤ most_spelled

check-few : AreSpellable → {words : List (List ℕ)} {holding : Option Holding} {taken : ℕ} (check : Check)
    (problem : Problem) (f : Tree) → Checks words holding taken check problem f → AreFew problem f
check-few spellable check problem f asks = record {
  states = initial-few (check_paths check) asks.posed.sources check.asked problem asks.posed.asks;
  spelled = spelling-short check.asked.formula f asks.spelled
      (spellable-plain f (spellable check.asked.formula f asks.spelled));
}

pub printed-short : AreOneCommand → AreSpellable
    → (words : List (List ℕ)) (holding : Option Holding) (taken : ℕ) (check : Check) (text : List ℕ) (status : Status)
    → AreCommand words (OfCheck check) → IsReportOfWords words holding taken text status → length text ≤ most_bytes
printed-short one spellable words holding taken check text status denoted (of_reach other p f asks report) =
    let few = check-few spellable other (OfReach p) f asks in
    report-text-short p.question p.initial f other text status few.states few.spelled report
printed-short one spellable words holding taken check text status denoted (of_within other steps p f asks report) =
    let few = check-few spellable other (OfWithin steps p) f asks in
    sweep-text-short _ _ _ _ p.initial f text status few.states report.report
printed-short one spellable words holding taken check text status denoted (of_next other p f asks report) =
    let few = check-few spellable other (OfNext p) f asks in
    sweep-text-short _ _ _ _ p.initial f text status few.states report.report
printed-short one spellable words holding taken check text status denoted
    (of_nested other model initial f asks report) =
    let few = check-few spellable other (OfNested model initial) f asks in
    nested-text-short model initial f (ByRounds other.rounds) text status few.states report
printed-short one spellable words holding taken check text status denoted report =
    let by = reported_by report in
    absurd (same_check one words check by.0 denoted by.1)

-- 3. What was written is accepted.

-- a certificate is asked for of paths without a bound on the steps alone
planned-paths : (check : Check) → check.plan ≡ true → check_paths check ≡ Unbounded
planned-paths check planned = ap (λ b. if b || check.traps then Unbounded else Any) planned

-- a later shelf holds what was written with a certificate, and the same texts for the problem of an audit
record IsSaved (held later : Holding) (check : Check) (audit : Audit) (text : List ℕ) : Type 0 where
  planned : check.plan ≡ true
  same : audit.asked ≡ check.asked
  alike : sources_of later check.asked ≡ sources_of held check.asked
  given : later audit.certificate ≡ Some text

pub not_some : (p : Option Posing) → p ≡ None → IsSome p → ⊥
not_some p none some = let is : IsSome {T = Posing} None = subst (λ (o : Option Posing). IsSome o) none some in cc (is)

-- a problem that is asked for paths without a bound on the steps alone has a question
pub asked-posing : (sources : Sources) (asked : Asked) (problem : Problem) → Asks Unbounded sources asked problem
    → posing_in problem ≡ None → ⊥
asked-posing sources asked problem a none =
    not_some (posing_in problem) none (has-posing a.game a.labels a.owners a.formula problem a.poses a.taken)

module _ (read_back : AreReadBack) (certificates : AreCertificates) (one : AreOneCommand) (spellable : AreSpellable)
    (words : List (List ℕ)) (held later : Holding) (taken : ℕ) (audit : Audit) (text : List ℕ) (status : Status) where
  -- the paths are those of an audit
  later_asks : (check : Check) (problem : Problem) (f : Tree)
      → IsSaved held later check audit text → Checks words (Some held) taken check problem f
      → Asks Unbounded (sources_of later check.asked) check.asked problem
  later_asks check problem f saved asks =
      subst (λ (paths : Paths). Asks paths (sources_of later check.asked) check.asked problem)
      (planned-paths check saved.planned)
      (subst (λ (sources : Sources). Asks (check_paths check) sources check.asked problem)
      (asks.posed.told ∙ sym saved.alike) asks.posed.asks)

  -- a certificate of a question whose goals are reached
  reached-accepted : (check : Check) (problem : Problem) (p : Posing) (f : Tree)
      → posing_in problem ≡ Some p → initial_of problem ≡ p.initial → IsSaved held later check audit text
      → Checks words (Some held) taken check problem f → IsBracketReport p.question p.initial f check text status
      → IsAcceptedOf later (OfAudit audit)
  reached-accepted check problem p f reached same saved asks report =
      let few = check-few spellable check problem f asks in
      let states : length p.initial ≤ most_states = subst (λ (xs : List ℕ). length xs ≤ most_states) same few.states in
      let parts = answered-plain f (spellable-plain f (spellable check.asked.formula f asks.spelled)) in (
        problem,
        p,
        report.plan,
        subst (λ (asked : Asked). Asks Unbounded (sources_of later asked) asked problem) (sym saved.same)
            (later_asks check problem f saved asks),
        reached,
        record {
          text = text;
          given = saved.given;
          short = report-text-short p.question p.initial f check text status states few.spelled report;
          is_so = report-accepted read_back certificates p.question p.initial f check text status
              saved.planned parts report;
        },
      )

  -- other problems have no certificate
  no-certificate : (check : Check) (problem : Problem) (f : Tree) → posing_in problem ≡ None
      → IsSaved held later check audit text → Checks words (Some held) taken check problem f → ⊥
  no-certificate check problem f none saved asks =
      asked-posing (sources_of later check.asked) check.asked problem (later_asks check problem f saved asks) none

  -- words denote one `check`
  of_other : (check other : Check) → AreCommand words (OfCheck check) → AreCommand words (OfCheck other)
      → IsSaved held later check audit text → IsSaved held later other audit text
  of_other check other denoted also saved =
      let commands = one words (OfCheck check) (OfCheck other) denoted also in
      let same : check ≡ other = cc (commands) in subst (λ (k : Check). IsSaved held later k audit text) same saved

  by_report : (check : Check) → AreCommand words (OfCheck check) → IsSaved held later check audit text
      → IsReportOfWords words (Some held) taken text status → IsAcceptedOf later (OfAudit audit)
  by_report check denoted saved (of_reach other p f asks report) =
      reached-accepted other (OfReach p) p f refl refl (of_other check other denoted asks.denoted saved) asks report
  by_report check denoted saved (of_within other steps p f asks report) =
      absurd (no-certificate other (OfWithin steps p) f refl (of_other check other denoted asks.denoted saved) asks)
  by_report check denoted saved (of_next other p f asks report) =
      absurd (no-certificate other (OfNext p) f refl (of_other check other denoted asks.denoted saved) asks)
  by_report check denoted saved (of_nested other model initial f asks report) = absurd
      (no-certificate other (OfNested model initial) f refl (of_other check other denoted asks.denoted saved) asks)
  by_report check denoted saved report =
      let by = reported_by report in
      absurd (same_check one words check by.0 denoted by.1)

pub saved-accepted : AreReadBack → AreCertificates → AreOneCommand → AreSpellable → (words : List (List ℕ))
    (held later : Holding) (taken : ℕ) (check : Check) (audit : Audit) (text : List ℕ) (status : Status)
    → AreCommand words (OfCheck check) → IsReportOfWords words (Some held) taken text status
    → check.plan ≡ true → audit.asked ≡ check.asked → sources_of later check.asked ≡ sources_of held check.asked
    → later audit.certificate ≡ Some text → IsAcceptedOf later (OfAudit audit)
saved-accepted read_back certificates one spellable words held later taken check audit text status denoted report
    planned same alike given =
    by_report read_back certificates one spellable words held later taken audit text status check denoted
    (record { planned = planned; same = same; alike = alike; given = given }) report
