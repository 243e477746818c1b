-- Sets and owners by cases are those that the relation describes.
use Rattle.std.proofs.Common.{◌≡◌, ◌<◌, ◌⊎◌, inl, inr, ℕ, Bool, true, false, cond, List, [], ◌∷◌, ◌++◌, length, map}
use Rattle.std.proofs.Common.{get_or, sym, ap, ◌∙◌, refl, arith, eqb}
use Rattle.std.proofs.lemmas.Bool.{eqb-true, eq-eqb, or_cases, or_left, or_right, cases_Bool}
use Rattle.std.specs.List.{list_any, range_with_len}
use Rattle.std.proofs.lemmas.List.{ext_get_or}
use Rattle.std.proofs.lemmas.List.Folds.{list_any-append}
use Rattle.std.proofs.lemmas.List.FromFn.{get_or-map-range_with_len, length-map-range_with_len}
use Rattle.label_lines.specs.Header.{Item}
use Rattle.label_lines.specs.Labels.{Label}
use Rattle.label_lines.specs.Lines.{StateLine, said_of}
use Rattle.label_lines.specs.Texts.{is_said, label_from}
use Rattle.label_lines.specs.Denotes.{IsOneOf, LineNames, IsLabel, AreLabels}

-- one of some numbers
one_of : (numbers : List ℕ) (number : ℕ) → list_any (λ other. eqb other number) numbers ≡ true → IsOneOf numbers number
one_of [] number h = cc
one_of (other ∷ numbers) number h = elim (or_cases (eqb other number) (list_any (λ o. eqb o number) numbers) h) [
  | inl e ↦ inl (eqb-true other number e)
  | inr e ↦ inr (one_of numbers number e)
]

any_of : (numbers : List ℕ) (number : ℕ) → IsOneOf numbers number → list_any (λ other. eqb other number) numbers ≡ true
any_of [] number h = absurd h
any_of (other ∷ numbers) number (inl e) =
    or_left (eqb other number) (list_any (λ o. eqb o number) numbers) (eq-eqb other number e)
any_of (other ∷ numbers) number (inr e) =
    or_right (eqb other number) (list_any (λ o. eqb o number) numbers) (any_of numbers number e)

-- what the lines say
abbrev pub among : List ℕ → ℕ → Bool
among numbers number = list_any (λ other. eqb other number) numbers

pub is_said-LineNames : (lines : List StateLine) (number s : ℕ) → is_said lines number s ≡ true
    → LineNames lines number s
is_said-LineNames [] number s h = cc
is_said-LineNames (line ∷ lines) number s h =
    by (cases_Bool (eqb line.state s)) (λ e. is_said-LineNames lines number s e)
  where
    by : (eqb line.state s ≡ true) ⊎ (eqb line.state s ≡ false)
        → (is_said lines number s ≡ true → LineNames lines number s) → LineNames (line ∷ lines) number s
    by (inl e) rest =
        let both = sym (list_any-append (λ other. eqb other number) line.numbers (said_of lines s))
        ∙ sym (ap (λ v. among (cond v (line.numbers ++ said_of lines s) (said_of lines s)) number) e) ∙ h in
        elim (or_cases (among line.numbers number) (among (said_of lines s) number) both) [
          | inl a ↦ inl (eqb-true line.state s e, one_of line.numbers number a)
          | inr a ↦ inr (rest a)
        ]
    by (inr e) rest =
        inr (rest (sym (ap (λ v. among (cond v (line.numbers ++ said_of lines s) (said_of lines s)) number) e) ∙ h))

pub LineNames-is_said : (lines : List StateLine) (number s : ℕ) → LineNames lines number s
    → is_said lines number s ≡ true
LineNames-is_said [] number s h = absurd h
LineNames-is_said (line ∷ lines) number s (inl h) =
    ap (λ v. among (cond v (line.numbers ++ said_of lines s) (said_of lines s)) number) (eq-eqb line.state s h.0)
    ∙ list_any-append (λ other. eqb other number) line.numbers (said_of lines s)
    ∙ or_left (among line.numbers number) (among (said_of lines s) number) (any_of line.numbers number h.1)
LineNames-is_said (line ∷ lines) number s (inr h) = by (eqb line.state s) (LineNames-is_said lines number s h)
  where
    by : (v : Bool) → is_said lines number s ≡ true
        → among (cond v (line.numbers ++ said_of lines s) (said_of lines s)) number ≡ true
    by true e = list_any-append (λ other. eqb other number) line.numbers (said_of lines s)
        ∙ or_right (among line.numbers number) (among (said_of lines s) number) e
    by false e = e

-- labels
row_at : (n : ℕ) (lines : List StateLine) (index s : ℕ) → s < n
    → get_or (map (is_said lines index) (range_with_len 0 n)) s false ≡ is_said lines index s
row_at n lines index s small = get_or-map-range_with_len (is_said lines index) 0 n s s false small (omega arith)

pub AreLabels-made : (n : ℕ) (lines : List StateLine) (items : List Item)
    → AreLabels n lines items (map (label_from n lines) items)
AreLabels-made n lines [] = tt
AreLabels-made n lines (item ∷ items) = (
  record {
    name = refl;
    marks = length-map-range_with_len (is_said lines item.index) 0 n;
    holds = λ s small. (
      λ h. is_said-LineNames lines item.index s (sym (row_at n lines item.index s small) ∙ h),
      λ h. row_at n lines item.index s small ∙ LineNames-is_said lines item.index s h,
    );
  },
  AreLabels-made n lines items,
)

same_truth : (a b : Bool) → (a ≡ true → b ≡ true) → (b ≡ true → a ≡ true) → a ≡ b
same_truth true b f g = sym (f refl)
same_truth false true f g = g refl
same_truth false false f g = refl

abbrev labelled : List ℕ → List Bool → Label
labelled name marks = record { name = name; marks = marks }

label_is : (n : ℕ) (lines : List StateLine) (item : Item) (label : Label) → IsLabel n lines item label
    → label_from n lines item ≡ label
label_is n lines item label is =
    ap (λ (marks : List Bool). labelled item.name marks)
    (ext_get_or false (map (is_said lines item.index) (range_with_len 0 n)) label.marks
    (length-map-range_with_len (is_said lines item.index) 0 n ∙ sym is.marks) each)
    ∙ ap (λ (name : List ℕ). labelled name label.marks) (sym is.name)
  where
    each : (s : ℕ) → s < length (map (is_said lines item.index) (range_with_len 0 n))
        → get_or (map (is_said lines item.index) (range_with_len 0 n)) s false ≡ get_or label.marks s false
    each s h =
        let small : s < n = omega (arith, h, length-map-range_with_len (is_said lines item.index) 0 n) in
        row_at n lines item.index s small
        ∙ same_truth (is_said lines item.index s) (get_or label.marks s false)
        (λ e. (is.holds s small).1 (is_said-LineNames lines item.index s e))
        (λ e. LineNames-is_said lines item.index s ((is.holds s small).0 e))

pub AreLabels-are : (n : ℕ) (lines : List StateLine) (items : List Item) (labels : List Label)
    → AreLabels n lines items labels → map (label_from n lines) items ≡ labels
AreLabels-are n lines [] [] h = refl
AreLabels-are n lines [] (label ∷ labels) h = absurd h
AreLabels-are n lines (item ∷ items) [] h = absurd h
AreLabels-are n lines (item ∷ items) (label ∷ labels) h =
    ap (λ (l : Label). l ∷ map (label_from n lines) items) (label_is n lines item label h.0)
    ∙ ap (λ (ls : List Label). label ∷ ls) (AreLabels-are n lines items labels h.1)
