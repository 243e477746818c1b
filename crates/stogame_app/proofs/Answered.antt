-- The answer to a command that asks a question, from what its parts answered.
use Rattle.std.proofs.Common.{◌≡◌, ◌<◌, ◌≤◌, ◌∙◌, All, inl, inr, ℕ, Bool, true, List, Option, Some, None, Result, Ok}
use Rattle.std.proofs.Common.{Err, ap, subst}
use Rattle.std.specs.Prelude.{IfOk, IsErrOf}
use Rattle.text_lines.specs.Limits.{most_bytes}
use Rattle.game_outside.specs.Outside.{Holding}
use Rattle.game_model.specs.Query.{states}
use Rattle.command_words.specs.Words.{Asked, Check, Audit, Solve, Command, OfCheck, OfAudit, OfSolve, OfSure}
use Rattle.command_words.specs.Words.{AreCommand}
use Rattle.output.specs.declared.refusal.Refusal.{Refusal}
use Rattle.output.specs.declared.refusal.Refusal.TheVariants.{TooLong}
use Rattle.inputs.specs.declared.load.End.{End}
use Rattle.inputs.specs.declared.load.End.TheVariants.{OutOfMemory, ReadFault, Refused}
use Rattle.inputs.specs.declared.problem.Paths.{Paths}
use Rattle.inputs.specs.declared.problem.Paths.TheVariants.{Unbounded, Reaching}
use Rattle.formula_sets.specs.Posing.{Posing}
use Rattle.inputs.specs.Problems.{Problem, OfReach, OfWithin, OfNext, OfNested, initial_of, posing_in, states_of}
use Rattle.inputs.specs.Said.{Said, NotHeld, Refuses, and_then}
use Rattle.inputs.specs.Sources.{Sources, SourceWith, IfKnown, sources_of}
use Rattle.inputs.specs.Loading.{IsTooLong, LoadingLeaves, Loads, ReadsNothing, EndsCaused}
use Rattle.inputs.specs.Posed.{Reading, posed, reading_said}
use Rattle.inputs.specs.Asks.{Asks}
use Rattle.inputs.proofs.Leaving.{answer_leaves, answer_small, both_leave, end_leaves, other_end}
use Rattle.inputs.specs.Questions.{LacksText, LacksValues, PosesIt, Reads, ReadsAs, RefusesCertificate}
use Rattle.inputs.specs.Questions.{RefusesQuestion, RefusesValues}
use Rattle.output.specs.declared.answer.Answer.{Answer}
use Rattle.output.specs.Status.{IsAnswer}
use Rattle.stogame_app.specs.Commands.{IsMissing, ReadsFiles, RefusesIt, check_paths, solve_paths}
use Rattle.stogame_app.specs.Reports.{IsReportOfWords}
use Rattle.stogame_app.specs.inside.Answers.{IsAnswered, IsMadeOf}

-- 1. A command that reads files, from what its loading does to a shelf.

same_caused : (X Y : Type 0) (end : End) → EndsCaused {X = X} (Err end) → EndsCaused {X = Y} (Err end)
same_caused X Y OutOfMemory is = tt
same_caused X Y ReadFault is = tt
same_caused X Y (Refused refusal) is = is

module _ {S : Type 0} {held : S → Option Holding} {steady : S → Bool} {faults took : S → ℕ} {old new : S}
    (command : Command) (reads : ReadsFiles command) where
  answers : {result : Result Answer End} → LoadingLeaves held steady faults took old new result
      → ((words : List (List ℕ)) → AreCommand words command
      → IfOk result (λ answer. IsReportOfWords words (held old) (took new) answer.text.items answer.status))
      → IfOk result (λ answer. IsAnswer answer.status)
      → ((refusal : Refusal) → result ≡ Err (Refused refusal) → RefusesIt (held old) command refusal)
      → EndsCaused result
      → (IsErrOf result ReadFault → steady old ≡ true → IfKnown (held old) (λ held. IsMissing held command))
      → IsAnswered held steady faults took command old new result
  answers leaves answered status refused caused steadily = record {
    answered = answered;
    status = status;
    refused = refused;
    caused = caused;
    read_fault = λ is. (leaves.read_fault is, reads);
    steadily = steadily;
    takes = λ also. leaves.takes;
    untouched = λ none. absurd (none reads);
    kept = leaves.kept;
  }

  -- where something was not loaded
  ends : {X : Type 0} {end : End} → LoadingLeaves {X = X} held steady faults took old new (Err end)
      → EndsCaused {X = X} (Err end) → ((refusal : Refusal)
      → ◌≡◌ {A = Result X End} (Err end) (Err (Refused refusal)) → RefusesIt (held old) command refusal)
      → (IsErrOf {T = X} (Err end) ReadFault → steady old ≡ true → IfKnown (held old) (λ held. IsMissing held command))
      → IsAnswered held steady faults took command old new (Err end)
  ends {X} {end} leaves caused refused steadily = answers (end_leaves end leaves) (λ words denoted. tt) tt
      (λ refusal is. refused refusal (other_end end (Refused refusal) is)) (same_caused X Answer end caused)
      (λ is. steadily (other_end end ReadFault is))

-- 2. A question, and what is held.

-- the first refusal of what is read is that of the question
reading_refuses : (holding : Option Holding) (asked : Asked) (paths : Paths) (refusal : Refusal)
    → ReadsAs holding asked (Refuses refusal) → RefusesQuestion holding asked paths refusal
reading_refuses holding asked paths refusal said = record {
  sources = said.sources;
  told = said.told;
  refuses = ap (λ s. and_then s (λ reading. posed paths reading)) said.says;
}

-- what is refused is said
is_refused : {X Y : Type 0} (view : X → Y) (said : Said Y) (end : End) (refusal : Refusal)
    → ◌≡◌ {A = Result X End} (Err end) (Err (Refused refusal)) → Loads view (Err end) said → said ≡ Refuses refusal
is_refused {X} view said end refusal is loads = subst (λ (r : Result X End). Loads view r said) is loads

where_told : (holding : Option Holding) (P Q : Holding → Type 0) → ((held : Holding) → P held → Q held)
    → IfKnown holding P → IfKnown holding Q
where_told None P Q weaker is = tt
where_told (Some held) P Q weaker is = weaker held is

-- the question that is posed is asked by the texts that are held, and the certificate is not held
lacks_certificate : (holding : Option Holding) (audit : Audit) (problem : Problem)
    → PosesIt holding audit.asked Unbounded problem → IfKnown holding (λ held. held audit.certificate ≡ None)
    → IfKnown holding (λ held. IsMissing held (OfAudit audit))
lacks_certificate None audit problem poses none = tt
lacks_certificate (Some held) audit problem poses none =
    inr ((problem, subst (λ (s : Sources). Asks Unbounded s audit.asked problem) poses.told poses.asks), none)

-- or values to begin with are not held
lacks_hints : (holding : Option Holding) (solve : Solve) (problem : Problem)
    → PosesIt holding solve.asked (solve_paths solve) problem → LacksValues holding solve.values
    → IfKnown holding (λ held. IsMissing held (OfSolve solve))
lacks_hints None solve problem poses none = tt
lacks_hints (Some held) solve problem poses none =
    inr ((problem, subst (λ (s : Sources). Asks (solve_paths solve) s solve.asked problem) poses.told poses.asks), none)

-- the initial states of the question that is reached are its states
pub reached-inside : (problem : Problem) (posing : Posing) → posing_in problem ≡ Some posing
    → All (λ s. s < states_of problem) (initial_of problem) → All (λ s. s < states posing.question) posing.initial
reached-inside (OfReach p) posing is inside =
    let same : p ≡ posing = cc (is) in
    subst (λ (q : Posing). All (λ s. s < states q.question) q.initial) same inside
reached-inside (OfWithin k p) posing is inside = cc (is)
reached-inside (OfNext p) posing is inside = cc (is)
reached-inside (OfNested m initial) posing is inside = cc (is)

-- 3. A command that takes such paths and asks the problem of these words:
-- a refusal of the problem is one of the command, and so is a text that is not held.
pub record AsksQuestion (command : Command) (asked : Asked) (paths : Paths) : Type 0 where
  pub reads : ReadsFiles command
  pub refuses : (holding : Option Holding) (refusal : Refusal) → RefusesQuestion holding asked paths refusal
      → RefusesIt holding command refusal
  pub lacks : (holding : Option Holding) → LacksText holding asked → IfKnown holding (λ held. IsMissing held command)

pub check_asks : (check : Check) → AsksQuestion (OfCheck check) check.asked (check_paths check)
check_asks check = record { reads = tt; refuses = λ holding refusal refused. refused; lacks = λ holding lacks. lacks }

pub sure_asks : (asked : Asked) → AsksQuestion (OfSure asked) asked Reaching
sure_asks asked = record { reads = tt; refuses = λ holding refusal refused. refused; lacks = λ holding lacks. lacks }

pub audit_asks : (audit : Audit) → AsksQuestion (OfAudit audit) audit.asked Unbounded
audit_asks audit = record {
  reads = tt;
  refuses = λ holding refusal refused. inl refused;
  lacks = λ holding lacks. where_told holding (λ held. reading_said (sources_of held audit.asked) audit.asked ≡ NotHeld)
      (λ held. IsMissing held (OfAudit audit)) (λ held missing. inl missing) lacks;
}

pub solve_asks : (solve : Solve) → AsksQuestion (OfSolve solve) solve.asked (solve_paths solve)
solve_asks solve = record {
  reads = tt;
  refuses = λ holding refusal refused. inl refused;
  lacks = λ holding lacks. where_told holding (λ held. reading_said (sources_of held solve.asked) solve.asked ≡ NotHeld)
      (λ held. IsMissing held (OfSolve solve)) (λ held missing. inl missing) lacks;
}

-- what is made of what was read
module _ {command : Command} {asked : Asked} {paths : Paths} {reading : Reading}
    (asks : AsksQuestion command asked paths) where
  -- where the problem was not posed
  pub unposed : {Y : Type 0} {end : End} (view : Y → Problem) → Loads view (Err end) (posed paths reading)
      → ReadsNothing {X = Y} (Err end) → IsMadeOf command asked reading (Err end)
  unposed {Y} {end} view loads nothing = record {
    answered = λ holding words taken reads denoted short. tt;
    status = tt;
    refused = λ holding refusal reads is. asks.refuses holding refusal (reads.refuses paths refusal
        (is_refused view (posed paths reading) end refusal (other_end end (Refused refusal) is) loads));
    nothing = record {
      read = λ is. nothing.read (other_end end ReadFault is);
      caused = same_caused Y Answer end nothing.caused;
      short = λ long. nothing.short (long.0, other_end end (Refused (TooLong long.0)) long.1);
    };
  }

-- where memory was wanting
pub want_made : {command : Command} {asked : Asked} {reading : Reading}
    → IsMadeOf command asked reading (Err OutOfMemory)
want_made = record {
  answered = λ holding words taken reads denoted short. tt;
  status = tt;
  refused = λ holding refusal reads is. absurd (cc (is));
  nothing = record { read = λ is. cc (is); caused = tt; short = λ long. cc (long.1) };
}

-- where there is a report
pub report_made : {command : Command} {asked : Asked} {reading : Reading} (answer : Answer)
    → ((holding : Option Holding) (words : List (List ℕ)) (taken : ℕ) → Reads holding asked reading → AreCommand words
    command → taken ≤ most_bytes → IsReportOfWords words holding taken answer.text.items answer.status)
    → IsAnswer answer.status → IsMadeOf command asked reading (Ok answer)
report_made answer report status = record {
  answered = report;
  status = status;
  refused = λ holding refusal reads is. absurd (cc (is));
  nothing = record { read = λ is. cc (is); caused = tt; short = λ long. cc (long.1) };
}

module _ {S : Type 0} {held : S → Option Holding} {steady : S → Bool} {faults took : S → ℕ} {command : Command}
    {asked : Asked} {paths : Paths} {old new : S} (asks : AsksQuestion command asked paths) where
  -- where a text was not loaded
  pub unloaded : {X : Type 0} {end : End} → ((refusal : Refusal)
      → ◌≡◌ {A = Result X End} (Err end) (Err (Refused refusal)) → ReadsAs (held old) asked (Refuses refusal))
      → (IsErrOf {T = X} (Err end) ReadFault → steady old ≡ true → LacksText (held old) asked)
      → LoadingLeaves {X = X} held steady faults took old new (Err end) → EndsCaused {X = X} (Err end)
      → IsAnswered held steady faults took command old new (Err end)
  unloaded refused steadily leaves caused = ends command asks.reads leaves caused
      (λ refusal is. asks.refuses (held old) refusal
      (reading_refuses (held old) asked paths refusal (refused refusal is)))
      (λ is calm. asks.lacks (held old) (steadily is calm))

  -- behind what was loaded nothing is asked of the shelf
  behind : {X : Type 0} {x : X} → LoadingLeaves held steady faults took old new (Ok x)
      → (result : Result Answer End) → ((words : List (List ℕ)) → AreCommand words command
      → IfOk result (λ answer. IsReportOfWords words (held old) (took new) answer.text.items answer.status))
      → IfOk result (λ answer. IsAnswer answer.status)
      → ((refusal : Refusal) → result ≡ Err (Refused refusal) → RefusesIt (held old) command refusal)
      → EndsCaused result → (IsErrOf result ReadFault → ⊥) → (IsTooLong result → ⊥)
      → IsAnswered held steady faults took command old new result
  behind {X} {x} leaves result answered status refused caused read short =
      answers command asks.reads (answer_leaves result x read short leaves) answered status refused caused
      (λ is. absurd (read is))

  -- so what is made of it is the answer
  pub answered_by : {X : Type 0} {x : X} {reading : Reading} {result : Result Answer End}
      → LoadingLeaves held steady faults took old new (Ok x) → Reads (held old) asked reading
      → IsMadeOf command asked reading result → IsAnswered held steady faults took command old new result
  answered_by {X} {x} {reading} {result} leaves reads made =
      behind leaves result (λ words denoted.
      made.answered (held old) words (took new) reads denoted (answer_small x (took new) leaves.takes)) made.status
      (λ refusal is. made.refused (held old) refusal reads is) made.nothing.caused made.nothing.read made.nothing.short

  -- where memory was wanting
  pub wanting : {X : Type 0} {x : X} → LoadingLeaves held steady faults took old new (Ok x)
      → IsAnswered held steady faults took command old new (Err OutOfMemory)
  wanting leaves = behind leaves (Err OutOfMemory) (λ words denoted. tt) tt (λ refusal is. absurd (cc (is))) tt
      (λ is. cc (is)) (λ long. cc (long.1))

  -- where there is a report
  pub reported : {X : Type 0} {x : X} → LoadingLeaves held steady faults took old new (Ok x)
      → (answer : Answer) → ((words : List (List ℕ)) → AreCommand words command → took new ≤ most_bytes
      → IsReportOfWords words (held old) (took new) answer.text.items answer.status) → IsAnswer answer.status
      → IsAnswered held steady faults took command old new (Ok answer)
  reported {X} {x} leaves answer report status =
      behind leaves (Ok answer) (λ words denoted. report words denoted (answer_small x (took new) leaves.takes)) status
      (λ refusal is. absurd (cc (is))) tt (λ is. cc (is)) (λ long. cc (long.1))

-- 4. A second file behind the question: a certificate, or values to begin with.

module _ {S X : Type 0} {held : S → Option Holding} {steady : S → Bool} {faults took : S → ℕ} {old middle new : S}
    {x : X} (leaves : LoadingLeaves held steady faults took old middle (Ok x)) where
  pub uncertified : {Y : Type 0} {end : End} (audit : Audit) (problem : Problem) (posing : Posing)
      → PosesIt (held old) audit.asked Unbounded problem → posing_in problem ≡ Some posing
      → ((refusal : Refusal) → ◌≡◌ {A = Result Y End} (Err end) (Err (Refused refusal))
      → SourceWith (held middle) audit.certificate (λ source. RefusesCertificate posing.question source refusal))
      → (IsErrOf {T = Y} (Err end) ReadFault → steady middle ≡ true
      → IfKnown (held middle) (λ held. held audit.certificate ≡ None))
      → LoadingLeaves {X = Y} held steady faults took middle new (Err end) → EndsCaused {X = Y} (Err end)
      → IsAnswered held steady faults took (OfAudit audit) old new (Err end)
  uncertified audit problem posing poses reached refused steadily rest caused =
      ends (OfAudit audit) tt (both_leave leaves rest) caused (λ refusal is. inr (record {
        problem = problem;
        posed = poses;
        posing = posing;
        reached = reached;
        certificate = subst (λ (h : Option Holding).
            SourceWith h audit.certificate (λ source. RefusesCertificate posing.question source refusal))
            leaves.kept.held (refused refusal is);
      }))
      (λ is calm. lacks_certificate (held old) audit problem poses
      (subst (λ (h : Option Holding). IfKnown h (λ held. held audit.certificate ≡ None)) leaves.kept.held
      (steadily is (leaves.kept.steady ∙ calm))))

  pub unhinted : {Y : Type 0} {end : End} (solve : Solve) (problem : Problem)
      → PosesIt (held old) solve.asked (solve_paths solve) problem → ((refusal : Refusal)
      → ◌≡◌ {A = Result Y End} (Err end) (Err (Refused refusal))
      → RefusesValues (held middle) solve.values (states_of problem) refusal)
      → (IsErrOf {T = Y} (Err end) ReadFault → steady middle ≡ true → LacksValues (held middle) solve.values)
      → LoadingLeaves {X = Y} held steady faults took middle new (Err end) → EndsCaused {X = Y} (Err end)
      → IsAnswered held steady faults took (OfSolve solve) old new (Err end)
  unhinted solve problem poses refused steadily rest caused =
      ends (OfSolve solve) tt (both_leave leaves rest) caused (λ refusal is. inr (record {
        problem = problem;
        posed = poses;
        values = subst (λ (h : Option Holding). RefusesValues h solve.values (states_of problem) refusal)
            leaves.kept.held (refused refusal is);
      }))
      (λ is calm. lacks_hints (held old) solve problem poses
      (subst (λ (h : Option Holding). LacksValues h solve.values) leaves.kept.held
      (steadily is (leaves.kept.steady ∙ calm))))
