-- The text under a name, of which a reader behind it judges: what loading it answers.
use Rattle.std.proofs.Common.{◌≡◌, ◌<◌, ℕ, Bool, true, false, cond, List, length, Option, Some, None, Ok, Err, refl}
use Rattle.std.proofs.Common.{sym, subst, ◌∙◌, arith}
use Rattle.std.specs.Prelude.{nat_lt}
use Rattle.std.proofs.lemmas.Bool.Decides.{nat_tests}
use Rattle.text_lines.specs.Limits.{most_bytes}
use Rattle.game_outside.specs.Outside.{Holding}
use Rattle.inputs.specs.declared.load.End.{End}
use Rattle.inputs.specs.declared.load.End.TheVariants.{Refused, ReadFault}
use Rattle.output.specs.declared.refusal.Text.{Text}
use Rattle.output.specs.declared.refusal.Refusal.{Refusal}
use Rattle.output.specs.declared.refusal.Refusal.TheVariants.{TooLong}
use Rattle.inputs.specs.Said.{NotHeld, Refuses, Denoted}
use Rattle.inputs.specs.Sources.{IfKnown, SourceWith}
use Rattle.inputs.specs.Texts.{text_said}
use Rattle.inputs.specs.Loading.{LoadsText}
use Rattle.inputs.specs.Asks.{GivenTextWith}
use Rattle.inputs.specs.Questions.{IsLonger}
use Rattle.inputs.proofs.Lengths.{says_short}
use Rattle.inputs.proofs.Loading.{text_read, text_refused, text_missed}

-- 1. A text that is too long, and one that is not held.

-- what holds of a source and of the refusal that its text is too long
abbrev WhereLonger : Text → (Option (List ℕ) → Refusal → Type 0) → Type 0
WhereLonger text P = (source : Option (List ℕ)) → IsLonger source → P source (TooLong text)

long_text : (text : Text) (P : Option (List ℕ) → Refusal → Type 0) → WhereLonger text P
    → (source : Option (List ℕ)) (refusal : Refusal) → text_said text source ≡ Refuses refusal → P source refusal
long_text text P longer None refusal is = cc (is)
long_text text P longer (Some bytes) refusal is = by_test (nat_lt most_bytes (length bytes)) refl is
  where
    by_test : (b : Bool) → nat_lt most_bytes (length bytes) ≡ b
        → cond b (Refuses (TooLong text)) (Denoted bytes) ≡ Refuses refusal → P (Some bytes) refusal
    by_test false test is = cc (is)
    by_test true test is =
        let same : TooLong text ≡ refusal = cc (is) in
        let long : most_bytes < length bytes = grind (arith, test, nat_tests) in
        subst (λ (r : Refusal). P (Some bytes) r) same (longer (Some bytes) (bytes, refl, long))

no_text : (text : Text) (source : Option (List ℕ)) → text_said text source ≡ NotHeld → source ≡ None
no_text text None is = refl
no_text text (Some bytes) is = by_test (nat_lt most_bytes (length bytes)) is
  where
    by_test : (b : Bool) → cond b (Refuses (TooLong text)) (Denoted bytes) ≡ NotHeld → Some bytes ≡ None
    by_test true is = cc (is)
    by_test false is = cc (is)

-- 2. The text under a name.

module _ {X : Type 0} {holding : Option Holding} {steady : Bool} (text : Text) (name : List ℕ) (view : X → List ℕ) where
  pub text_too_long : (P : Option (List ℕ) → Refusal → Type 0) → WhereLonger text P → {end : End} {refusal : Refusal}
      → LoadsText holding steady (λ held. held name) view (Err end) (text_said text) → end ≡ Refused refusal
      → SourceWith holding name (λ source. P source refusal)
  text_too_long P longer {end} {refusal} loads is =
      let says = text_refused loads is in
      record { source = says.source; told = says.told; is_so = long_text text P longer says.source refusal says.says }

  pub text_not_held : {end : End} → LoadsText holding steady (λ held. held name) view (Err end) (text_said text)
      → end ≡ ReadFault → steady ≡ true → IfKnown holding (λ held. held name ≡ None)
  text_not_held loads is calm =
      let says = text_missed loads is calm in
      of_holding holding says.source says.told (no_text text says.source says.says)
    where
      of_holding : (h : Option Holding) (source : Option (List ℕ)) → IfKnown h (λ held. source ≡ held name)
          → source ≡ None → IfKnown h (λ held. held name ≡ None)
      of_holding None source told none = tt
      of_holding (Some held) source told none = sym told ∙ none

  -- what is true of the bytes is true of the text
  pub text_is_so : {x : X} (IsSo : List ℕ → Type 0)
      → LoadsText holding steady (λ held. held name) view (Ok x) (text_said text) → IsSo (view x)
      → SourceWith holding name (λ source. GivenTextWith source IsSo)
  text_is_so {x} IsSo loads so =
      let says = text_read loads in
      let short = says_short text says.source (view x) says.says in
      record {
        source = says.source;
        told = says.told;
        is_so = record { text = view x; given = short.0; short = short.1; is_so = so };
      }

-- a source of which a text is true, and it is no longer than the limit, so this is true of the source
pub of_text : (holding : Option Holding) (name : List ℕ) (IsSo : List ℕ → Type 0) (P : Option (List ℕ) → Type 0)
    → ((source : Option (List ℕ)) → GivenTextWith source IsSo → P source)
    → SourceWith holding name (λ source. GivenTextWith source IsSo) → SourceWith holding name P
of_text holding name IsSo P weaker has =
    record { source = has.source; told = has.told; is_so = weaker has.source has.is_so }
