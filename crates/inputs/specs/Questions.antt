-- This module says what becomes of the texts under the names of a command, of the text of a certificate, and of that of
-- values to begin with.
use Rattle.std.specs.Prelude.{◌≡◌, ◌<◌, ℕ, List, length, Option, Some, None}
use Rattle.text_lines.specs.Limits.{most_bytes}
use Rattle.game_outside.specs.Outside.{Holding}
use Rattle.game_model.specs.Query.{Query}
use Rattle.formula_reader.specs.Rules.{DenotesFormula}
use Rattle.certificate_audit.specs.Refused.{IsRefused}
use Rattle.values_reader.specs.Faults.{fault_of}
use Rattle.command_words.specs.Words.{Asked}
use Rattle.output.specs.declared.refusal.Refusal.{Refusal}
use Rattle.output.specs.declared.refusal.Refusal.TheVariants.{OfCertificate, OfValues, TooLong}
use Rattle.output.specs.declared.refusal.Text.TheVariants.{Cert, Values}
use Rattle.inputs.specs.declared.problem.Paths.{Paths}
use Rattle.inputs.specs.Problems.{Problem}
use Rattle.inputs.specs.Said.{Said, NotHeld, Refuses, Denoted}
use Rattle.inputs.specs.Sources.{Sources, SourceWith, IfKnown, AreSources, sources_of}
use Rattle.inputs.specs.Posed.{Reading, reading_said, posed, problem_said}
use Rattle.inputs.specs.Asks.{GivenTextWith, Asks}

-- 1. The problem.

-- Some texts, with the words, ask this problem of a command that takes such paths. If the holding is known, they are
-- the held ones.
pub record PosesIt (holding : Option Holding) (asked : Asked) (paths : Paths) (problem : Problem) : Type 0 where
  pub sources : Sources
  pub told : AreSources holding asked sources
  pub asks : Asks paths sources asked problem

-- This is the first refusal of some texts with the words. If the holding is known, they are the held ones.
pub record RefusesQuestion (holding : Option Holding) (asked : Asked) (paths : Paths) (refusal : Refusal) : Type 0 where
  pub sources : Sources
  pub told : AreSources holding asked sources
  pub refuses : problem_said paths sources asked ≡ Refuses refusal

-- If the holding is known, it lacks a text that is needed, and the texts before that are accepted.
abbrev pub LacksText : Option Holding → Asked → Type 0
LacksText holding asked = IfKnown holding (λ held. reading_said (sources_of held asked) asked ≡ NotHeld)

-- 2. What is read before the problem is posed.

-- Some texts, with the words, say this of a game, labels, owners and a formula. If the holding is known, they are the
-- held ones.
pub record ReadsAs (holding : Option Holding) (asked : Asked) (said : Said Reading) : Type 0 where
  pub sources : Sources
  pub told : AreSources holding asked sources
  pub says : reading_said sources asked ≡ said

-- The texts and words say this reading. Its formula is the one that the words spell. The problem that it poses to a
-- command is the one that is asked, and if it poses none, its refusal is that of the question.
pub record Reads (holding : Option Holding) (asked : Asked) (reading : Reading) : Type 0 where
  pub said : ReadsAs holding asked (Denoted reading)
  pub spelled : DenotesFormula asked.formula reading.formula
  pub asks : (paths : Paths) (problem : Problem) → posed paths reading ≡ Denoted problem
      → PosesIt holding asked paths problem
  pub refuses : (paths : Paths) (refusal : Refusal) → posed paths reading ≡ Refuses refusal
      → RefusesQuestion holding asked paths refusal

-- 3. The certificate of an audit.

-- There is a text, and it is too long.
abbrev pub IsLonger : Option (List ℕ) → Type 0
IsLonger source = (text : List ℕ) × (source ≡ Some text) × (most_bytes < length text)

-- A text is refused as the certificate of a question because it is too long, or because this is its first fault.
abbrev pub RefusesCertificate : Query → Option (List ℕ) → Refusal → Type 0
RefusesCertificate q source (OfCertificate fault) = GivenTextWith source (λ text. IsRefused q text fault)
RefusesCertificate q source (TooLong Cert) = IsLonger source
RefusesCertificate q source refusal = ⊥

-- 4. Values to begin with.

-- If a file of values is named, there is a text that has no fault for this many states. If the holding is known, it is
-- the held one.
abbrev pub GivesValues : Option Holding → Option (List ℕ) → ℕ → Type 0
GivesValues holding None states = Unit {0}
GivesValues holding (Some name) states =
    SourceWith holding name (λ source. GivenTextWith source (λ text. fault_of states text ≡ None))

-- A text is refused as values of this many states because it is too long, or because this is its first fault.
abbrev pub RefusesValuesText : ℕ → Option (List ℕ) → Refusal → Type 0
RefusesValuesText states source (OfValues fault) = GivenTextWith source (λ text. fault_of states text ≡ Some fault)
RefusesValuesText states source (TooLong Values) = IsLonger source
RefusesValuesText states source refusal = ⊥

-- A file of values is named, and its text is refused for this.
abbrev pub RefusesValues : Option Holding → Option (List ℕ) → ℕ → Refusal → Type 0
RefusesValues holding None states refusal = ⊥
RefusesValues holding (Some name) states refusal =
    SourceWith holding name (λ source. RefusesValuesText states source refusal)

-- A file of values is named, and if the holding is known, it lacks its text.
abbrev pub LacksValues : Option Holding → Option (List ℕ) → Type 0
LacksValues holding None = ⊥
LacksValues holding (Some name) = IfKnown holding (λ held. held name ≡ None)
