-- What is accepted is answered.
use Rattle.std.proofs.Common.{◌≡◌, ◌<◌, ◌≤◌, ◌⊎◌, ◌↔◌, ◌∙◌, inl, inr, ℕ, Bool, List, length, Option, Some, None, ap}
use Rattle.std.proofs.Common.{refl, subst, sym, arith}
use Rattle.text_lines.specs.Limits.{most_bytes}
use Rattle.game_outside.specs.Outside.{Holding}
use Rattle.game_model.specs.Query.{Query}
use Rattle.values_reader.specs.Faults.{fault_of}
use Rattle.plan_text.specs.declared.plan.Plan.{Plan}
use Rattle.certificate_audit.specs.declared.fault.AuditFault.{AuditFault}
use Rattle.certificate_audit.specs.Accepted.{IsAccepted}
use Rattle.certificate_audit.specs.Refused.{IsRefused}
use Rattle.command_words.specs.Words.{Asked, Command, OfCheck, OfAudit, OfSolve, OfMake, OfSure, AreCommand}
use Rattle.output.specs.declared.refusal.Text.TheVariants.{Cert, Values}
use Rattle.output.specs.declared.refusal.Refusal.{Refusal}
use Rattle.output.specs.declared.refusal.Refusal.TheVariants.{OfCertificate, OfValues, TooLong}
use Rattle.inputs.specs.declared.problem.Paths.{Paths}
use Rattle.inputs.specs.declared.problem.Paths.TheVariants.{Unbounded, Reaching}
use Rattle.formula_sets.specs.Posing.{Posing}
use Rattle.inputs.specs.Problems.{Problem, posing_in, states_of}
use Rattle.inputs.specs.Said.{NotHeld, Denoted, and_then}
use Rattle.inputs.specs.Sources.{Sources, sources_of, IfKnown}
use Rattle.inputs.specs.Posed.{posed, problem_said, reading_said}
use Rattle.inputs.specs.Asks.{GivenTextWith, Asks}
use Rattle.inputs.specs.Questions.{PosesIt, RefusesQuestion, RefusesCertificate, GivesValues, RefusesValues}
use Rattle.inputs.specs.Questions.{RefusesValuesText, LacksValues}
use Rattle.output.specs.declared.status.Status.{Status}
use Rattle.output.specs.declared.status.Status.TheVariants.{Usage, ModelRefused}
use Rattle.output.specs.declared.status.Status.TheVariants.{ReadFault, WriteFault, OutOfMemory, CertificateRefused}
use Rattle.output.specs.Status.{IsAnswer}
use Rattle.stogame_app.specs.Commands.{IsAcceptedOf, IsAcceptedFrom, IsMissing, ReadsFiles, RefusesBehind, RefusesHints}
use Rattle.stogame_app.specs.Commands.{RefusesIt, check_paths, solve_paths}
use Rattle.stogame_app.specs.Run.{AsksShelf, IsAcceptedOfWords, IsEnding, IsMissingOfWords, IsReadable, RefusesWords}

-- 1. A question, and a certificate.

-- the problem that is said is the one that is asked
abbrev pub AreAsked : Type 0
AreAsked = (paths : Paths) (sources : Sources) (asked : Asked) (problem : Problem)
    → (problem_said paths sources asked ≡ Denoted problem) ↔ Asks paths sources asked problem

-- a problem that is asked is not refused
asked_not_refused : AreAsked → (holding : Option Holding) (held : Holding) (asked : Asked) (paths : Paths)
    (problem : Problem) (refusal : Refusal) → holding ≡ Some held → Asks paths (sources_of held asked) asked problem
    → RefusesQuestion holding asked paths refusal → ⊥
asked_not_refused are None held asked paths problem refusal told asks refused = cc (told)
asked_not_refused are (Some other) held asked paths problem refusal told asks refused =
    let same : other ≡ held = cc (told) in
    let said = (are paths (sources_of held asked) asked problem).1 asks in
    let alike : problem_said paths refused.sources asked ≡ problem_said paths (sources_of held asked) asked =
    ap (λ s. problem_said paths s asked) (refused.told ∙ ap (λ h. sources_of h asked) same) in
    let refuses = refused.refuses in
    cc (alike, said, refuses)

-- it is the only one
asked_once : AreAsked → (held : Holding) (asked : Asked) (paths : Paths) (problem other : Problem)
    → Asks paths (sources_of held asked) asked problem → PosesIt (Some held) asked paths other → other ≡ problem
asked_once are held asked paths problem other asks poses =
    let first = (are paths (sources_of held asked) asked problem).1 asks in
    let second = (are paths poses.sources asked other).1 poses.asks in
    let alike : problem_said paths poses.sources asked ≡ problem_said paths (sources_of held asked) asked =
    ap (λ s. problem_said paths s asked) poses.told in
    let said : Denoted other ≡ Denoted problem = sym second ∙ alike ∙ first in
    cc (said)

-- for a problem that is asked every text is held
asked_is_held : AreAsked → (held : Holding) (asked : Asked) (paths : Paths) (problem : Problem)
    → Asks paths (sources_of held asked) asked problem → reading_said (sources_of held asked) asked ≡ NotHeld → ⊥
asked_is_held are held asked paths problem asks missing =
    let said = (are paths (sources_of held asked) asked problem).1 asks in
    let none : problem_said paths (sources_of held asked) asked ≡ NotHeld =
    ap (λ s. and_then s (λ reading. posed paths reading)) missing in
    cc (said, none)

-- the text of a source is one
one_text : (source : Option (List ℕ)) (text other : List ℕ) → source ≡ Some text → source ≡ Some other → text ≡ other
one_text source text other is so = let said : Some text ≡ Some other = sym is ∙ so in cc (said)

-- no text is both accepted and refused
abbrev pub AreApart : Type 0
AreApart = (q : Query) (text : List ℕ) (plan : Plan) (fault : AuditFault) → IsAccepted q text plan
    → IsRefused q text fault → ⊥

accepted_not_refused : AreApart → (q : Query) (source : Option (List ℕ)) (plan : Plan) (refusal : Refusal)
    → GivenTextWith source (λ text. IsAccepted q text plan) → RefusesCertificate q source refusal → ⊥
accepted_not_refused apart q source plan (OfCertificate fault) accepted refused =
    let same = one_text source refused.text accepted.text refused.given accepted.given in
    apart q accepted.text plan fault accepted.is_so (subst (λ (t : List ℕ). IsRefused q t fault) same refused.is_so)
accepted_not_refused apart q source plan (TooLong Cert) accepted refused =
    let same = one_text source refused.0 accepted.text refused.1 accepted.given in
    let short : length accepted.text ≤ most_bytes = accepted.short in
    let long : most_bytes < length accepted.text = subst (λ (t : List ℕ). most_bytes < length t) same refused.2 in
    omega (arith, short, long)
accepted_not_refused apart q source plan refusal accepted refused = refused

-- no text of values both has a fault and has none
values_not_refused : (states : ℕ) (source : Option (List ℕ)) (refusal : Refusal)
    → GivenTextWith source (λ text. fault_of states text ≡ None) → RefusesValuesText states source refusal → ⊥
values_not_refused states source (OfValues fault) given refused =
    let same = one_text source refused.text given.text refused.given given.given in
    let none : fault_of states given.text ≡ None = given.is_so in
    let some : fault_of states given.text ≡ Some fault =
    subst (λ (t : List ℕ). fault_of states t ≡ Some fault) same refused.is_so in
    cc (none, some)
values_not_refused states source (TooLong Values) given refused =
    let same = one_text source refused.0 given.text refused.1 given.given in
    let short : length given.text ≤ most_bytes = given.short in
    let long : most_bytes < length given.text = subst (λ (t : List ℕ). most_bytes < length t) same refused.2 in
    omega (arith, short, long)
values_not_refused states source refusal given refused = refused

-- so of a file that is named
given_not_refused : (held : Holding) (name : Option (List ℕ)) (states : ℕ) (refusal : Refusal)
    → GivesValues (Some held) name states → RefusesValues (Some held) name states refusal → ⊥
given_not_refused held None states refusal given refused = refused
given_not_refused held (Some name) states refusal given refused =
    values_not_refused states given.source refusal given.is_so
    (subst (λ (source : Option (List ℕ)). RefusesValuesText states source refusal)
    (refused.told ∙ sym given.told) refused.is_so)

given_is_held : (held : Holding) (name : Option (List ℕ)) (states : ℕ) → GivesValues (Some held) name states
    → LacksValues (Some held) name → ⊥
given_is_held held None states given lacks = lacks
given_is_held held (Some name) states given lacks =
    let text = given.is_so.given in
    let told = given.told in
    cc (text, told, lacks)

question_not_refused : AreAsked → AreApart → (holding : Option Holding) (held : Holding) (command : Command)
    (refusal : Refusal) → holding ≡ Some held → IsAcceptedOf held command → RefusesIt holding command refusal → ⊥
question_not_refused are apart holding held (OfMake make) refusal _ accepted refused = absurd refused
question_not_refused are apart holding held (OfCheck check) refusal told accepted refused =
    asked_not_refused are holding held check.asked (check_paths check) accepted.0 refusal told accepted.1 refused
question_not_refused are apart holding held (OfSure asked) refusal told accepted refused =
    asked_not_refused are holding held asked Reaching accepted.0 refusal told accepted.1 refused
question_not_refused are apart holding held (OfSolve solve) refusal told accepted refused = elim refused [
  | inl question ↦
      asked_not_refused are holding held solve.asked (solve_paths solve) accepted.0 refusal told accepted.1 question
  | inr behind ↦ by_hints (subst (λ (h : Option Holding). RefusesHints h solve refusal) told behind)
]
  where
    by_hints : RefusesHints (Some held) solve refusal → ⊥
    by_hints behind =
        let same =
        asked_once are held solve.asked (solve_paths solve) accepted.0 behind.problem accepted.1 behind.posed in
        given_not_refused held solve.values (states_of accepted.0) refusal accepted.2
        (subst (λ (p : Problem). RefusesValues (Some held) solve.values (states_of p) refusal) same behind.values)
question_not_refused are apart holding held (OfAudit audit) refusal told accepted refused = elim refused [
  | inl question ↦ asked_not_refused are holding held audit.asked Unbounded accepted.0 refusal told accepted.3 question
  | inr behind ↦ by_behind (subst (λ (h : Option Holding). RefusesBehind h audit refusal) told behind)
]
  where
    by_behind : RefusesBehind (Some held) audit refusal → ⊥
    by_behind behind =
        let same = asked_once are held audit.asked Unbounded accepted.0 behind.problem accepted.3 behind.posed in
        let alike : Some behind.posing ≡ Some accepted.1 = sym behind.reached ∙ (ap posing_in same ∙ accepted.4) in
        let posing : behind.posing ≡ accepted.1 = cc (alike) in
        let c = behind.certificate in
        let question = (accepted.1).question in
        let P : Posing → Type 0 = λ p. RefusesCertificate p.question c.source refusal in
        let Q : Option (List ℕ) → Type 0 = λ source. RefusesCertificate question source refusal in
        let so : RefusesCertificate question (held audit.certificate) refusal =
        subst Q c.told (subst P posing c.is_so) in
        accepted_not_refused apart question (held audit.certificate) accepted.2 refusal accepted.5 so

-- a command is not refused that reads no file, or whose texts are held and accepted
command_not_refused : AreAsked → AreApart → (holding : Option Holding) (command : Command) (refusal : Refusal)
    → IsAcceptedFrom holding command → RefusesIt holding command refusal → ⊥
command_not_refused are apart holding (OfMake make) refusal accepted refused = absurd refused
command_not_refused are apart holding command refusal accepted refused =
    let a = accepted tt in
    question_not_refused are apart holding a.0 command refusal a.1 a.2 refused

command_is_held : AreAsked → (holding : Option Holding) (held : Holding) (command : Command) → holding ≡ Some held
    → IsAcceptedOf held command → IfKnown holding (λ h. IsMissing h command) → ⊥
command_is_held are None held command told accepted missing = cc (told)
command_is_held are (Some other) held command told accepted missing =
    of_held command accepted (subst (λ (h : Holding). IsMissing h command) same missing)
  where
    same : other ≡ held
    same = cc (told)

    of_held : (k : Command) → IsAcceptedOf held k → IsMissing held k → ⊥
    of_held (OfMake make) accepted missing = absurd missing
    of_held (OfCheck check) accepted missing =
        asked_is_held are held check.asked (check_paths check) accepted.0 accepted.1 missing
    of_held (OfSure asked) accepted missing = asked_is_held are held asked Reaching accepted.0 accepted.1 missing
    of_held (OfSolve solve) accepted missing = elim missing [
      | inl question ↦ asked_is_held are held solve.asked (solve_paths solve) accepted.0 accepted.1 question
      | inr behind ↦ given_is_held held solve.values (states_of accepted.0) accepted.2 behind.1
    ]
    of_held (OfAudit audit) accepted missing = elim missing [
      | inl question ↦ asked_is_held are held audit.asked Unbounded accepted.0 accepted.3 question
      | inr behind ↦
          let text = accepted.5 in
          let given = text.given in
          let certificate = behind.1 in
          cc (given, certificate)
    ]

-- 2. The words of a run.

-- words denote one command
abbrev pub AreOneCommand : Type 0
AreOneCommand = (words : List (List ℕ)) (command other : Command) → AreCommand words command
    → AreCommand words other → command ≡ other

module _ (are : AreAsked) (apart : AreApart) (one : AreOneCommand) {words : List (List ℕ)} {holding : Option Holding}
    (accepted : IsAcceptedOfWords words holding) where
  -- a command that other facts speak of is the one that is accepted
  is_accepted : (command : Command) → AreCommand words command → accepted.command ≡ command
  is_accepted command denoted = one words accepted.command command accepted.denoted denoted

  not_refused : {taken : ℕ} (refusal : Refusal) → RefusesWords words holding taken refusal → ⊥
  not_refused refusal refused =
      command_not_refused are apart holding accepted.command refusal accepted.accepted (subst
      (λ (k : Command). RefusesIt holding k refusal) (sym (is_accepted refused.command refused.denoted)) refused.said)

  not_missing : ReadsFiles accepted.command → IsMissingOfWords words holding → ⊥
  not_missing reads missing =
      let held = accepted.accepted reads in
      command_is_held are holding held.0 accepted.command held.1 held.2
      (subst (λ (k : Command). IfKnown holding (λ h. IsMissing h k))
      (sym (is_accepted missing.command missing.denoted)) missing.missing)

  -- what is left where the others are ruled out
  pub completed : (taken : ℕ) (old new : Option (List ℕ)) (status : Status)
      → IsEnding words holding taken old new status → (ReadsFiles accepted.command → status ≡ ReadFault → ⊥)
      → (status ≡ WriteFault → ⊥) → IsAnswer status ⊎ (status ≡ OutOfMemory)
  completed taken old new Usage ends read write = absurd (ends.is.no_command accepted.command accepted.denoted)
  completed taken old new ModelRefused ends read write = absurd (not_refused ends.is.refusal ends.is.refused)
  completed taken old new CertificateRefused ends read write = absurd (not_refused ends.is.refusal ends.is.refused)
  completed taken old new ReadFault ends read write =
      absurd (read (subst ReadsFiles (sym (is_accepted ends.0.command ends.0.denoted)) ends.0.reads) refl)
  completed taken old new WriteFault ends read write = absurd (write refl)
  completed taken old new OutOfMemory ends read write = inr refl
  completed taken old new status ends read write = inl tt

  -- a text that is held and accepted is read, unless the shelf fails
  pub is_read : {S : Type 0} {of : S → Option Holding} {steady : S → Bool} {faults took : S → ℕ} {old new : S}
      {status : Status} → AsksShelf of steady faults took words old new status → of old ≡ holding
      → IsReadable steady faults words old new → ReadsFiles accepted.command → status ≡ ReadFault → ⊥
  is_read shelf same calm reads is = elim calm [
    | inl none ↦ none accepted.command accepted.denoted reads
    | inr readable ↦ elim readable [
      | inl steady ↦ not_missing reads
          (subst (λ (h : Option Holding). IsMissingOfWords words h) same (shelf.steadily is steady))
      | inr still ↦ still (shelf.read_fault is)
    ]
  ]
