-- What loading one text answers, and what that says of the text.
use Rattle.std.proofs.Common.{◌≡◌, ◌≤◌, ℕ, Bool, true, List, length, Option, Some, None, Result, Ok, Err, refl, sym}
use Rattle.std.proofs.Common.{subst}
use Rattle.text_lines.specs.Limits.{most_bytes}
use Rattle.game_outside.specs.Outside.{Holding, IsHeldAs, IsHeldLonger}
use Rattle.output.specs.declared.refusal.Text.{Text}
use Rattle.output.specs.declared.refusal.Refusal.{Refusal}
use Rattle.output.specs.declared.refusal.Refusal.TheVariants.{TooLong}
use Rattle.inputs.specs.declared.load.End.{End}
use Rattle.inputs.specs.declared.load.End.TheVariants.{Refused, ReadFault, OutOfMemory}
use Rattle.inputs.specs.Said.{Said, NotHeld, Refuses, Denoted}
use Rattle.inputs.specs.Sources.{IfKnown}
use Rattle.inputs.specs.Loading.{Loads, LoadsText}
use Rattle.inputs.specs.Texts.{text_said}
use Rattle.inputs.proofs.Lengths.{short_says, long_refuses, longer}

-- 1. Reading a text.

-- the answer of one text, which is as told
pub read_as_told : {X Y : Type 0} (holding : Option Holding) (steady : Bool) (place : Holding → Option (List ℕ))
    (view : X → Y) (result : Result X End) (said : Option (List ℕ) → Said Y) (source : Option (List ℕ))
    → IfKnown holding (λ held. source ≡ place held) → Loads view result (said source)
    → LoadsText holding steady place view result said
read_as_told None steady place view result said source told loads =
    record { source = source; told = λ _. tt; steadily = λ _. tt; loads = loads }
read_as_told (Some held) steady place view result said source told loads =
    record { source = source; told = λ _. told; steadily = λ _. told; loads = loads }

-- where memory was wanting
pub wanting : {X Y : Type 0} (holding : Option Holding) (steady : Bool) (place : Holding → Option (List ℕ))
    (view : X → Y) (said : Option (List ℕ) → Said Y) → LoadsText holding steady place view (Err OutOfMemory) said
wanting None steady place view said = read_as_told None steady place view (Err OutOfMemory) said None tt tt
wanting (Some held) steady place view said =
    read_as_told (Some held) steady place view (Err OutOfMemory) said (place held) refl tt

-- where the text was read
pub read_whole : {X : Type 0} (text : Text) (holding : Option Holding) (steady : Bool) (name : List ℕ)
    (view : X → List ℕ) (result : Result X End) (x : X) → result ≡ Ok x → IsHeldAs holding name (view x)
    → length (view x) ≤ most_bytes → LoadsText holding steady (λ held. held name) view result (text_said text)
read_whole text holding steady name view result x is held short =
    let P : Result _ End → Type 0 = λ r. LoadsText holding steady (λ (h : Holding). h name) view r (text_said text) in
    subst P (sym is) (read_as_told holding steady (λ h. h name) view (Ok x) (text_said text) (Some (view x))
    (same holding held) (short_says text (view x) short))
  where
    same : (h : Option Holding) → IsHeldAs h name (view x) → IfKnown h (λ held. Some (view x) ≡ held name)
    same None is = tt
    same (Some told) is = sym is

-- where it was too long
pub read_long : {X : Type 0} (text : Text) (holding : Option Holding) (steady : Bool)
    (name : List ℕ) (view : X → List ℕ) → IsHeldLonger holding name most_bytes
    → LoadsText holding steady (λ held. held name) view (Err (Refused (TooLong text))) (text_said text)
read_long text None steady name view held =
    let some = longer most_bytes in
    read_as_told None steady (λ h. h name) view (Err (Refused (TooLong text))) (text_said text) (Some some.0) tt
    (long_refuses text some.0 some.1)
read_long text (Some told) steady name view held =
    read_as_told (Some told) steady (λ h. h name) view (Err (Refused (TooLong text))) (text_said text) (Some held.0)
    (sym held.1) (long_refuses text held.0 held.2)

-- 2. What an answer says of its text.

-- there is a source, which is the one that is held at the place where this is told, and this is said of it
pub record TextSays {Y : Type 0} (holding : Option Holding) (place : Holding → Option (List ℕ))
    (said : Option (List ℕ) → Said Y) (it : Said Y) : Type 0 where
  pub source : Option (List ℕ)
  pub told : IfKnown holding (λ held. source ≡ place held)
  pub says : said source ≡ it

module _ {X Y : Type 0} {holding : Option Holding} {steady : Bool} {place : Holding → Option (List ℕ)} {view : X → Y}
    {said : Option (List ℕ) → Said Y} where
  pub text_read : {x : X} → LoadsText holding steady place view (Ok x) said
      → TextSays holding place said (Denoted (view x))
  text_read loads = record { source = loads.source; told = loads.told (λ fault. cc (fault)); says = loads.loads }

  pub text_refused : {end : End} {refusal : Refusal} → LoadsText holding steady place view (Err end) said
      → end ≡ Refused refusal → TextSays holding place said (Refuses refusal)
  text_refused loads is = record {
    source = loads.source;
    told = loads.told (λ fault. cc (is, fault));
    says = let P : End → Type 0 = λ e. Loads view (Err e) (said loads.source) in subst P is loads.loads;
  }

  pub text_missed : {end : End} → LoadsText holding steady place view (Err end) said → end ≡ ReadFault → steady ≡ true
      → TextSays holding place said NotHeld
  text_missed loads is calm = record {
    source = loads.source;
    told = loads.steadily calm;
    says = let P : End → Type 0 = λ e. Loads view (Err e) (said loads.source) in subst P is loads.loads;
  }

-- the same of what a shelf held before, and of another number of states that is the same
pub text_kept : {Y : Type 0} {now before : Option Holding} {place : Holding → Option (List ℕ)}
    {it : Said Y} {states number : ℕ} (said : ℕ → Option (List ℕ) → Said Y) → now ≡ before → states ≡ number
    → TextSays now place (said states) it → TextSays before place (said number) it
text_kept {Y} {now} {before} {place} {it} {states} {number} said kept same says =
    subst (λ (n : ℕ). TextSays before place (said n) it) same
    (subst (λ (h : Option Holding). TextSays h place (said states) it) kept says)
