-- What the texts of a command say together, from what each says.
use Rattle.std.proofs.Common.{◌≡◌, ◌∙◌, ℕ, List, length, Option, Some, None, Err, refl, ap, subst}
use Rattle.game_outside.specs.Outside.{Holding}
use Rattle.game_model.specs.Game.{Distribution}
use Rattle.label_lines.specs.Labels.{Labelling}
use Rattle.label_lines.specs.Owners.{Ownership}
use Rattle.formula_reader.specs.Formula.{Tree, tree_of}
use Rattle.formula_reader.specs.Rules.{DenotesFormula}
use Rattle.command_words.specs.Words.{Asked}
use Rattle.output.specs.declared.refusal.Refusal.{Refusal}
use Rattle.inputs.specs.declared.load.End.{End}
use Rattle.inputs.specs.declared.load.End.TheVariants.{Refused}
use Rattle.inputs.specs.Loading.{Loads}
use Rattle.inputs.specs.Said.{Said, NotHeld, Refuses, Denoted, and_then}
use Rattle.inputs.specs.Sources.{Sources, held_own, IfKnown, AreSources}
use Rattle.inputs.specs.Texts.{game_said, labels_said, owners_said}
use Rattle.inputs.specs.Posed.{Reading, formula_read, reading_with, behind_owners, behind_labels, behind_game}
use Rattle.inputs.specs.Posed.{reading_said, posed}
use Rattle.inputs.specs.Questions.{LacksText, Reads, ReadsAs}
use Rattle.inputs.proofs.Asking.{said_asks}
use Rattle.inputs.proofs.Loading.{TextSays, text_kept}

-- 1. Sources as they are told.

-- a source for a text that plays no part
pub as_told : (holding : Option Holding) (place : Holding → Option (List ℕ))
    → (source : Option (List ℕ)) × IfKnown holding (λ held. source ≡ place held)
as_told None place = (None, tt)
as_told (Some held) place = (place held, refl)

pub all_told : (holding : Option Holding) (asked : Asked) (tra lab own : Option (List ℕ))
    → IfKnown holding (λ held. tra ≡ held asked.tra) → IfKnown holding (λ held. lab ≡ held asked.lab)
    → IfKnown holding (λ held. own ≡ held_own asked.own held)
    → AreSources holding asked (record { tra = tra; lab = lab; own = own })
all_told None asked tra lab own of_tra of_lab of_own = tt
all_told (Some held) asked tra lab own of_tra of_lab of_own = cc (of_tra, of_lab, of_own)

-- 2. Where reading ends, and that it comes to its end.

-- reading ends where a text is refused or not held
abbrev pub ends : {X : Type 0} → Option Refusal → Said X
ends None = NotHeld
ends (Some refusal) = Refuses refusal

pub ends-behind : {X Y : Type 0} (end : Option Refusal) (next : X → Said Y) → and_then (ends end) next ≡ ends end
ends-behind None next = refl
ends-behind (Some refusal) next = refl

-- what the transition text, the label text and the owner text say
abbrev pub SaysGame : Option Holding → Asked → Said (List (List Distribution)) → Type 0
SaysGame holding asked said = TextSays holding (λ held. held asked.tra) game_said said

abbrev pub SaysLabels : Option Holding → Asked → ℕ → Said Labelling → Type 0
SaysLabels holding asked states said =
    TextSays holding (λ held. held asked.lab) (λ source. labels_said source states) said

abbrev pub SaysOwners : Option Holding → Asked → ℕ → Said Ownership → Type 0
SaysOwners holding asked states said =
    TextSays holding (held_own asked.own) (λ source. owners_said asked.own source states) said

module _ {holding : Option Holding} (asked : Asked) where
  -- the shelf was read before, with this many states
  pub labels_kept : {now : Option Holding} {states number : ℕ} {it : Said Labelling} → now ≡ holding → states ≡ number
      → TextSays now (λ held. held asked.lab) (λ source. labels_said source states) it
      → SaysLabels holding asked number it
  labels_kept kept same says = text_kept (λ n source. labels_said source n) kept same says

  pub owners_kept : {now : Option Holding} {states number : ℕ} {it : Said Ownership} → now ≡ holding → states ≡ number
      → TextSays now (held_own asked.own) (λ source. owners_said asked.own source states) it
      → SaysOwners holding asked number it
  owners_kept kept same says = text_kept (λ n source. owners_said asked.own source n) kept same says

  pub game_ends : (end : Option Refusal) → SaysGame holding asked (ends end) → ReadsAs holding asked (ends end)
  game_ends end tra =
      let lab = as_told holding (λ held. held asked.lab) in
      let own = as_told holding (held_own asked.own) in
      let sources : Sources = record { tra = tra.source; lab = lab.0; own = own.0 } in
      record {
        sources = sources;
        told = all_told holding asked tra.source lab.0 own.0 tra.told lab.1 own.1;
        says = ap (λ s. and_then s (λ game. behind_game sources asked game)) tra.says
            ∙ ends-behind end (λ game. behind_game sources asked game);
      }

  module _ {game : List (List Distribution)} (tra : SaysGame holding asked (Denoted game)) where
    pub labels_end : (end : Option Refusal) → SaysLabels holding asked (length game) (ends end)
        → ReadsAs holding asked (ends end)
    labels_end end lab =
        let own = as_told holding (held_own asked.own) in
        let sources : Sources = record { tra = tra.source; lab = lab.source; own = own.0 } in
        record {
          sources = sources;
          told = all_told holding asked tra.source lab.source own.0 tra.told lab.told own.1;
          says = ap (λ s. and_then s (λ game. behind_game sources asked game)) tra.says
              ∙ ap (λ s. and_then s (λ labels. behind_labels sources asked game labels)) lab.says
              ∙ ends-behind end (λ labels. behind_labels sources asked game labels);
        }

    module _ {labels : Labelling} (lab : SaysLabels holding asked (length game) (Denoted labels)) where
      -- what the owner text says is what is said of the reading behind it
      behind : (said : Said Ownership) → SaysOwners holding asked (length game) said
          → ReadsAs holding asked (and_then said (λ owners. behind_owners asked game labels owners))
      behind said own =
          let sources : Sources = record { tra = tra.source; lab = lab.source; own = own.source } in
          record {
            sources = sources;
            told = all_told holding asked tra.source lab.source own.source tra.told lab.told own.told;
            says = ap (λ s. and_then s (λ game. behind_game sources asked game)) tra.says
                ∙ ap (λ s. and_then s (λ labels. behind_labels sources asked game labels)) lab.says
                ∙ ap (λ s. and_then s (λ owners. behind_owners asked game labels owners)) own.says;
          }

      pub owners_end : (end : Option Refusal) → SaysOwners holding asked (length game) (ends end)
          → ReadsAs holding asked (ends end)
      owners_end end own = subst (λ (s : Said Reading). ReadsAs holding asked s)
          (ends-behind end (λ owners. behind_owners asked game labels owners)) (behind (ends end) own)

      pub formula_ends : {owners : Ownership} → SaysOwners holding asked (length game) (Denoted owners)
          → (end : Option Refusal)
          → formula_read asked.formula ≡ ends end → ReadsAs holding asked (ends end)
      formula_ends {owners} own end is =
          let next = λ (formula : Tree). Denoted (reading_with game labels owners formula) in
          subst (λ (s : Said Reading). ReadsAs holding asked s) (ap (λ s. and_then s next) is ∙ ends-behind end next)
          (behind (Denoted owners) own)

      pub all_read : {owners : Ownership} → SaysOwners holding asked (length game) (Denoted owners) → (formula : Tree)
          → formula_read asked.formula ≡ Denoted formula
          → ReadsAs holding asked (Denoted (reading_with game labels owners formula))
      all_read {owners} own formula is =
          let next = λ (formula : Tree). Denoted (reading_with game labels owners formula) in
          subst (λ (s : Said Reading). ReadsAs holding asked s) (ap (λ s. and_then s next) is)
          (behind (Denoted owners) own)

-- a formula that is refused
pub formula_refused : (text : List ℕ) {end : End} {refusal : Refusal} → Loads tree_of (Err end) (formula_read text)
    → end ≡ Refused refusal → formula_read text ≡ Refuses refusal
formula_refused text loads is = subst (λ (e : End). Loads tree_of (Err e) (formula_read text)) is loads

-- 3. What is read of the texts is asked.

pub reads : (holding : Option Holding) (asked : Asked) (reading : Reading) → ReadsAs holding asked (Denoted reading)
    → DenotesFormula asked.formula reading.formula → Reads holding asked reading
reads holding asked reading said spelled = record {
  said = said;
  spelled = spelled;
  asks = λ paths problem is. record {
    sources = said.sources;
    told = said.told;
    asks = said_asks paths said.sources asked problem (ap (λ s. and_then s (λ r. posed paths r)) said.says ∙ is);
  };
  refuses = λ paths refusal is. record {
    sources = said.sources;
    told = said.told;
    refuses = ap (λ s. and_then s (λ r. posed paths r)) said.says ∙ is;
  };
}

-- where the holding is told, it lacks a text that is not held
pub lacks : (holding : Option Holding) (asked : Asked) → ReadsAs holding asked NotHeld → LacksText holding asked
lacks None asked said = tt
lacks (Some held) asked said = subst (λ (s : Sources). reading_said s asked ≡ NotHeld) said.told said.says
