-- Labels by cases are those that the relation describes.
use Rattle.std.proofs.Common.{◌≡◌, ◌∙◌, ℕ, List, Ok, ap, sym, subst, refl}
use Rattle.label_lines.specs.declared.kind.FileKind.TheVariants.{LabelFile}
use Rattle.label_lines.specs.Labels.{Label, Labelling}
use Rattle.label_lines.specs.Texts.{labels_of, labelling}
use Rattle.label_lines.specs.Denotes.{DenotesLabels}
use Rattle.label_lines.proofs.TextLaws.{said_by-found, said_by-again}
use Rattle.label_lines.proofs.SetLaws.{AreLabels-made, AreLabels-are}

pub labels_of-found : (text : List ℕ) (n : ℕ) (l : Labelling) → labels_of text n ≡ Ok l → DenotesLabels text n l
labels_of-found text n l h =
    let read = said_by-found LabelFile n (labelling n) text l h in
    let P : Labelling → Type 0 = λ x. DenotesLabels text n x in
    subst P read.made (record {
      items = read.items;
      lines = read.lines;
      text_is = read.text_is;
      states = refl;
      labels = AreLabels-made n read.lines read.items;
    })

abbrev with_labels : ℕ → List Label → Labelling
with_labels n labels = record { states = n; labels = labels }

pub labels_of-again : (text : List ℕ) (n : ℕ) (l : Labelling) → DenotesLabels text n l → labels_of text n ≡ Ok l
labels_of-again text n l is =
    said_by-again LabelFile n (labelling n) text is.items is.lines is.text_is tt
    ∙ ap (λ x. Ok x) (ap (λ (labels : List Label). with_labels n labels)
    (AreLabels-are n is.lines is.items l.labels is.labels) ∙ ap (λ m. with_labels m l.labels) (sym is.states))
