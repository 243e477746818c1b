-- For words on rewards, what is accepted is answered.
use Rattle.std.proofs.Common.{◌≡◌, ◌<◌, ◌≤◌, ◌⊎◌, ◌↔◌, ◌+◌, ◌∙◌, inl, inr, ℕ, Bool, List, length, Option, Some, None}
use Rattle.std.proofs.Common.{refl, ap, subst, sym, arith}
use Rattle.fractions.specs.Fraction.{Fraction}
use Rattle.text_lines.specs.Limits.{most_bytes}
use Rattle.game_outside.specs.Outside.{Holding}
use Rattle.game_model.specs.Game.{choices_of}
use Rattle.game_model.specs.Query.{Query, states}
use Rattle.reward_check.specs.declared.check.RewardFault.{RewardFault}
use Rattle.reward_check.specs.Certificates.{Certificate}
use Rattle.reward_text.specs.declared.plan.RewardPlan.{RewardPlan}
use Rattle.reward_units.specs.Exact.{ExactRewards, AreRounded}
use Rattle.reward_units.specs.Units.{units_below, units_above}
use Rattle.reward_audit.specs.declared.fault.RewardAuditFault.{RewardAuditFault}
use Rattle.reward_audit.specs.declared.fault.RewardAuditFault.TheVariants.{Text, Plan}
use Rattle.reward_audit.specs.Accepted.{IsAcceptedText, IsCertificateOf}
use Rattle.reward_audit.specs.Refused.{IsFaulty, IsRefused}
use Rattle.command_words.specs.Words.{Asked}
use Rattle.output.specs.declared.refusal.Text.TheVariants.{Cert}
use Rattle.output.specs.declared.refusal.Refusal.TheVariants.{TooLong}
use Rattle.output.specs.declared.status.Status.{Status}
use Rattle.output.specs.declared.status.Status.TheVariants.{Usage, ModelRefused}
use Rattle.output.specs.declared.status.Status.TheVariants.{ReadFault, WriteFault, OutOfMemory, CertificateRefused}
use Rattle.output.specs.Status.{IsAnswer}
use Rattle.inputs.specs.Asks.{GivenTextWith}
use Rattle.inputs.specs.Sources.{Sources, sources_of}
use Rattle.reward_words.specs.Words.{RewardCommand, OfAuditReward, OfSolveReward, AreRewardCommand}
use Rattle.reward_refusals.specs.declared.refusal.RewardRefusal.{RewardRefusal}
use Rattle.reward_refusals.specs.declared.refusal.RewardRefusal.TheVariants.{Shared, OfCertificateText, OfCertificate}
use Rattle.reward_inputs.specs.Asks.{AsksRewards}
use Rattle.reward_inputs.specs.Posed.{RewardQuestion, RewardReading, reward_question_said, rewards_posed, rewards_read}
use Rattle.reward_inputs.specs.Questions.{AsksIt, RefusesRewards, LacksRewards}
use Rattle.reward_inputs.specs.Said.{RewardSaid, NotHeld, Denoted, and_then}
use Rattle.reward_inputs.specs.Sources.{RewardSources, AreRewardSources}
use Rattle.reward_app.specs.Commands.{RefusesReward, IsRewardMissing, RefusesBehind}
use Rattle.reward_app.specs.Reports.{HasRewardsOf, RefusesOver, RefusesRewardCertificate, exact_by}
use Rattle.reward_app.specs.Run.{AcceptsRewardCertificate, AsksRewardShelf, IsAcceptedReward, IsAcceptedRewardWords}
use Rattle.reward_app.specs.Run.{IsRewardEnding, IsRewardMissingOfWords, IsRewardReadable, RefusesRewardWords}

-- 1. A question.

-- the question that is said is the one that is asked
abbrev pub AreAsked : Type 0
AreAsked = (sources : RewardSources) (asked : Asked) (question : RewardQuestion)
    → (reward_question_said sources asked ≡ Denoted question) ↔ AsksRewards sources asked question

-- the texts that are held
abbrev held_sources : Holding → Asked → List ℕ → RewardSources
held_sources held asked name = record { plain = sources_of held asked; rewards = held name }

are_held : (held : Holding) (asked : Asked) (name : List ℕ) (sources : RewardSources)
    → AreRewardSources (Some held) asked name sources → sources ≡ held_sources held asked name
are_held held asked name sources told =
    ap (λ (p : Sources). record { plain = p; rewards = sources.rewards }) told.plain
    ∙ ap (λ (r : Option (List ℕ)). record { plain = sources_of held asked; rewards = r }) told.rewards

asked_said : AreAsked → (held : Holding) (asked : Asked) (name : List ℕ) (question : RewardQuestion)
    → AsksIt (Some held) asked name question
    → reward_question_said (held_sources held asked name) asked ≡ Denoted question
asked_said are held asked name question asks =
    subst (λ (s : RewardSources). reward_question_said s asked ≡ Denoted question)
    (are_held held asked name asks.sources asks.told) ((are asks.sources asked question).1 asks.asks)

asked_not_refused : AreAsked → (held : Holding) (asked : Asked) (name : List ℕ) (question : RewardQuestion)
    (refusal : RewardRefusal) → AsksIt (Some held) asked name question
    → RefusesRewards (Some held) asked name refusal → ⊥
asked_not_refused are held asked name question refusal asks refused =
    let said = asked_said are held asked name question asks in
    let same = ap (λ (s : RewardSources). reward_question_said s asked)
    (are_held held asked name refused.sources refused.told) in
    let refuses = refused.refuses in
    cc (same, said, refuses)

asked_once : AreAsked → (held : Holding) (asked : Asked) (name : List ℕ) (question other : RewardQuestion)
    → AsksIt (Some held) asked name question → AsksIt (Some held) asked name other → other ≡ question
asked_once are held asked name question other asks also =
    let said : Denoted other ≡ Denoted question =
    sym (asked_said are held asked name other also) ∙ asked_said are held asked name question asks in
    cc (said)

asked_is_held : AreAsked → (held : Holding) (asked : Asked) (name : List ℕ) (question : RewardQuestion)
    → AsksIt (Some held) asked name question → LacksRewards (Some held) asked name → ⊥
asked_is_held are held asked name question asks missing =
    let said = asked_said are held asked name question asks in
    let unread : rewards_read (held_sources held asked name) asked ≡ NotHeld = missing in
    let none : reward_question_said (held_sources held asked name) asked ≡ NotHeld =
    ap (λ (s : RewardSaid RewardReading). and_then s (λ reading. rewards_posed reading)) unread in
    cc (said, none)

-- 2. A certificate.

-- rewards that agree in a game
pub record Agree (q : Query) (exact other : ExactRewards) : Type 0 where
  pub of_state : (s : ℕ) → s < states q → exact.of_state s ≡ other.of_state s
  pub of_choice : (s k : ℕ) → s < states q → k < length (choices_of q.game s)
      → exact.of_choice s k ≡ other.of_choice s k

-- all tables of a question have the same rewards
tables_agree : (question : RewardQuestion) (table other : List (Option Fraction)) → HasRewardsOf question table
    → HasRewardsOf question other → Agree question.posing.question (exact_by question table) (exact_by question other)
tables_agree question table other has also = record {
  of_state = λ s inside. has.each s None inside ∙ sym (also.each s None inside);
  of_choice = λ s k inside choice. has.each s (Some k) (inside, choice) ∙ sym (also.each s (Some k) (inside, choice));
}

-- sums of both
both : (units : Fraction → ℕ → ℕ) (places : ℕ) (f g h k : Fraction) → f ≡ g → h ≡ k
    → units f places + units h places ≡ units g places + units k places
both units places f g h k one two = ap (λ v. units v places + units h places) one
    ∙ ap (λ v. units g places + units v places) two

rounded_moved : (q : Query) (exact other : ExactRewards) (c : Certificate) (places : ℕ) → c.question ≡ q
    → Agree q exact other → AreRounded c exact places → AreRounded c other places
rounded_moved q exact other c places same agree rounded = record {
  low = λ s k inside choice. rounded.low s k inside choice
      ∙ both units_below places (exact.of_state s) (other.of_state s) (exact.of_choice s k) (other.of_choice s k)
      (agree.of_state s (within s inside)) (agree.of_choice s k (within s inside) (chosen s k choice));
  high = λ s k inside choice. rounded.high s k inside choice
      ∙ both units_above places (exact.of_state s) (other.of_state s) (exact.of_choice s k) (other.of_choice s k)
      (agree.of_state s (within s inside)) (agree.of_choice s k (within s inside) (chosen s k choice));
}
  where
    within : (s : ℕ) → s < states c.question → s < states q
    within s = subst (λ (p : Query). s < states p) same

    chosen : (s k : ℕ) → k < length (choices_of c.question.game s) → k < length (choices_of q.game s)
    chosen s k = subst (λ (p : Query). k < length (choices_of p.game s)) same

certificate_moved : (q : Query) (exact other : ExactRewards) (plan : RewardPlan) (c : Certificate)
    → Agree q exact other → IsCertificateOf q exact plan c → IsCertificateOf q other plan c
certificate_moved q exact other plan c agree is = record {
  question = is.question;
  rounded = rounded_moved q exact other c plan.places is.question agree is.rounded;
  finite = is.finite;
  bounded = is.bounded;
  lower = is.lower;
  upper = is.upper;
  choices = is.choices;
  replies = is.replies;
  ranks = is.ranks;
}

faulty_moved : (q : Query) (exact other : ExactRewards) (text : List ℕ) (fault : RewardFault) → Agree q exact other
    → IsFaulty q exact text fault → IsFaulty q other text fault
faulty_moved q exact other text fault agree is = record {
  plan = is.plan;
  read = is.read;
  certificate = is.certificate;
  of_plan = certificate_moved q exact other is.plan is.certificate agree is.of_plan;
  first = is.first;
}

-- no text is both accepted and refused
abbrev pub AreApart : Type 0
AreApart = (q : Query) (exact : ExactRewards) (text : List ℕ) (plan : RewardPlan) (c : Certificate)
    (fault : RewardAuditFault) → IsAcceptedText q exact text plan c → IsRefused q exact text fault → ⊥

-- the text of a source is one
one_text : (source : Option (List ℕ)) (text other : List ℕ) → source ≡ Some text → source ≡ Some other → text ≡ other
one_text source text other is so = let said : Some text ≡ Some other = sym is ∙ so in cc (said)

given_not_refused : AreApart → (q : Query) (exact other : ExactRewards) (source : Option (List ℕ)) (plan : RewardPlan)
    (c : Certificate) (refusal : RewardRefusal) → Agree q other exact
    → GivenTextWith source (λ text. IsAcceptedText q exact text plan c) → RefusesOver q other source refusal → ⊥
given_not_refused apart q exact other source plan c (OfCertificateText fault) agree accepted refused =
    let same = one_text source refused.text accepted.text refused.given accepted.given in
    apart q exact accepted.text plan c (Text fault) accepted.is_so
    (subst (λ (t : List ℕ). IsRefused q exact t (Text fault)) same refused.is_so)
given_not_refused apart q exact other source plan c (OfCertificate fault) agree accepted refused =
    let same = one_text source refused.text accepted.text refused.given accepted.given in
    apart q exact accepted.text plan c (Plan fault) accepted.is_so
    (faulty_moved q other exact accepted.text fault agree
    (subst (λ (t : List ℕ). IsFaulty q other t fault) same refused.is_so))
given_not_refused apart q exact other source plan c (Shared (TooLong Cert)) agree accepted refused =
    let same = one_text source refused.0 accepted.text refused.1 accepted.given in
    let short : length accepted.text ≤ most_bytes = accepted.short in
    let long : most_bytes < length accepted.text = subst (λ (t : List ℕ). most_bytes < length t) same refused.2 in
    omega (arith, short, long)
given_not_refused apart q exact other source plan c refusal agree accepted refused = refused

certificate_not_refused : AreApart → (question : RewardQuestion) (source : Option (List ℕ)) (refusal : RewardRefusal)
    → AcceptsRewardCertificate question source → RefusesRewardCertificate question source refusal → ⊥
certificate_not_refused apart question source refusal accepts refuses =
    given_not_refused apart question.posing.question (exact_by question accepts.table)
    (exact_by question refuses.table) source accepts.plan accepts.certificate refusal
    (tables_agree question refuses.table accepts.table refuses.has accepts.has) accepts.accepted refuses.refused

-- 3. A command.

command_not_refused : AreAsked → AreApart → (held : Holding) (command : RewardCommand) (refusal : RewardRefusal)
    → IsAcceptedReward held command → RefusesReward (Some held) command refusal → ⊥
command_not_refused are apart held (OfSolveReward solve) refusal accepted refused =
    asked_not_refused are held solve.asked solve.rewards accepted.0 refusal accepted.1 refused
command_not_refused are apart held (OfAuditReward audit) refusal accepted refused = elim refused [
  | inl question ↦ asked_not_refused are held audit.asked audit.rewards accepted.0 refusal accepted.1 question
  | inr behind ↦ by_behind behind
]
  where
    by_behind : RefusesBehind (Some held) audit refusal → ⊥
    by_behind behind =
        let same = asked_once are held audit.asked audit.rewards accepted.0 behind.question accepted.1 behind.asked in
        let c = behind.certificate in
        certificate_not_refused apart accepted.0 (held audit.certificate) refusal accepted.2
        (subst (λ (source : Option (List ℕ)). RefusesRewardCertificate accepted.0 source refusal) c.told
        (subst (λ (q : RewardQuestion). RefusesRewardCertificate q c.source refusal) same c.is_so))

command_is_held : AreAsked → (held : Holding) (command : RewardCommand) → IsAcceptedReward held command
    → IsRewardMissing (Some held) command → ⊥
command_is_held are held (OfSolveReward solve) accepted missing =
    asked_is_held are held solve.asked solve.rewards accepted.0 accepted.1 missing
command_is_held are held (OfAuditReward audit) accepted missing = elim missing [
  | inl question ↦ asked_is_held are held audit.asked audit.rewards accepted.0 accepted.1 question
  | inr behind ↦
      let given = accepted.2.accepted.given in
      let none = behind.lacks in
      cc (given, none)
]

-- 4. The words of a run.

-- words denote one command
abbrev pub AreOneCommand : Type 0
AreOneCommand = (words : List (List ℕ)) (command other : RewardCommand) → AreRewardCommand words command
    → AreRewardCommand words other → command ≡ other

module _ (are : AreAsked) (apart : AreApart) (one : AreOneCommand) {words : List (List ℕ)} {holding : Option Holding}
    (accepted : IsAcceptedRewardWords words holding) where
  is_accepted : (command : RewardCommand) → AreRewardCommand words command → command ≡ accepted.command
  is_accepted command denoted = one words command accepted.command denoted accepted.denoted

  not_refused : {taken : ℕ} (refusal : RewardRefusal) → RefusesRewardWords words holding taken refusal → ⊥
  not_refused refusal refused =
      command_not_refused are apart accepted.held accepted.command refusal accepted.accepted
      (subst (λ (h : Option Holding). RefusesReward h accepted.command refusal) accepted.known
      (subst (λ (k : RewardCommand). RefusesReward holding k refusal) (is_accepted refused.command refused.denoted)
      refused.said))

  not_missing : IsRewardMissingOfWords words holding → ⊥
  not_missing missing =
      command_is_held are accepted.held accepted.command accepted.accepted
      (subst (λ (h : Option Holding). IsRewardMissing h accepted.command) accepted.known
      (subst (λ (k : RewardCommand). IsRewardMissing holding k) (is_accepted missing.command missing.denoted)
      missing.missing))

  -- what is left where the others are ruled out
  pub completed : (taken : ℕ) (old new : Option (List ℕ)) (status : Status)
      → IsRewardEnding words holding taken old new status → (status ≡ ReadFault → ⊥)
      → (status ≡ WriteFault → ⊥) → IsAnswer status ⊎ (status ≡ OutOfMemory)
  completed taken old new Usage ends read write = absurd ends
  completed taken old new ModelRefused ends read write = absurd (not_refused ends.is.refusal ends.is.refused)
  completed taken old new CertificateRefused ends read write = absurd (not_refused ends.is.refusal ends.is.refused)
  completed taken old new ReadFault ends read write = absurd (read refl)
  completed taken old new WriteFault ends read write = absurd (write refl)
  completed taken old new OutOfMemory ends read write = inr refl
  completed taken old new status ends read write = inl tt

  -- a text that is held and accepted is read, unless the shelf fails
  pub is_read : {S : Type 0} {of : S → Option Holding} {steady : S → Bool} {faults took : S → ℕ} {old new : S}
      {status : Status} → AsksRewardShelf of steady faults took words old new status → of old ≡ holding
      → IsRewardReadable steady faults old new → status ≡ ReadFault → ⊥
  is_read shelf same calm is = elim calm [
    | inl steady ↦ not_missing
        (subst (λ (h : Option Holding). IsRewardMissingOfWords words h) same (shelf.steadily is steady))
    | inr still ↦ still (shelf.read_fault is)
  ]
