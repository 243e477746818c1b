-- A whole text by cases is the text that the relation describes.
use Rattle.std.proofs.Common.{◌≡◌, ◌+◌, ℕ, Bool, true, false, cond, List, [], ◌∷◌, ◌++◌, Ok, Err, Result, sym, ap, ◌∙◌}
use Rattle.std.proofs.Common.{refl, subst, arith, eqb, append_assoc, inl, inr}
use Rattle.std.proofs.lemmas.Bool.{and_parts, cases_Bool}
use Rattle.std.specs.List.{list_all}
use Rattle.std.proofs.lemmas.Bool.Decides.{nat_tests}
use Rattle.std.proofs.lemmas.List.{append-nil}
use Rattle.std.proofs.lemmas.List.Folds.{list_all-append}
use Rattle.text_lines.specs.Text.{lines_of, fields_of, significant}
use Rattle.label_lines.specs.declared.kind.FileKind.{FileKind}
use Rattle.label_lines.specs.declared.kind.FileKind.TheVariants.{LabelFile, OwnerFile}
use Rattle.label_lines.specs.declared.faults.LabCause.{LabCause}
use Rattle.label_lines.specs.declared.faults.LabCause.TheVariants.{TwoOwners}
use Rattle.label_lines.specs.declared.faults.LabFault.{LabFault}
use Rattle.label_lines.specs.Header.{Item, and_then, header_of}
use Rattle.label_lines.specs.Lines.{StateLine, state_line, known_line, said_of, all_same, with_line, add_line}
use Rattle.label_lines.specs.Texts.{then_at, lines_from, made_of, said_by_lines, said_by}
use Rattle.label_lines.specs.Denotes.{AreStateLines, IsText}
use Rattle.label_lines.proofs.SaidOf.{said_of-push}
use Rattle.label_lines.proofs.ItemLaws.{header_of-found, header_of-again}
use Rattle.label_lines.proofs.StateLineLaws.{known_line-found, known_line-again}

-- in an owner file all that is said of a state is one number
abbrev pub Agrees : FileKind → List StateLine → Type 0
Agrees LabelFile lines = Unit {0}
Agrees OwnerFile lines = (s : ℕ) → all_same (said_of lines s) ≡ true

said_of-append : (front back : List StateLine) (s : ℕ) → said_of (front ++ back) s ≡ said_of front s ++ said_of back s
said_of-append [] back s = refl
said_of-append (line ∷ front) back s = by (eqb line.state s) (said_of-append front back s)
  where
    by : (v : Bool) → said_of (front ++ back) s ≡ said_of front s ++ said_of back s
        → cond v (line.numbers ++ said_of (front ++ back) s) (said_of (front ++ back) s)
        ≡ cond v (line.numbers ++ said_of front s) (said_of front s) ++ said_of back s
    by true h = ap (λ (t : List ℕ). line.numbers ++ t) h
        ∙ sym (append_assoc line.numbers (said_of front s) (said_of back s))
    by false h = h

all_same-front : (front back : List ℕ) → all_same (front ++ back) ≡ true → all_same front ≡ true
all_same-front [] back h = refl
all_same-front (number ∷ front) back h = (and_parts (list_all (λ other. eqb other number) front)
    (list_all (λ other. eqb other number) back) (sym (list_all-append (λ other. eqb other number) front back) ∙ h)).0

Agrees-front : (front back : List StateLine) → Agrees OwnerFile (front ++ back) → Agrees OwnerFile front
Agrees-front front back h =
    λ s. all_same-front (said_of front s) (said_of back s) (sym (ap all_same (said_of-append front back s)) ∙ h s)

abbrev okay : List StateLine → Result (List StateLine) LabCause
okay lines = Ok lines

ok_is : (a b : List StateLine) → okay a ≡ okay b → a ≡ b
ok_is a b h = cc

abbrev right : List StateLine → Result (List StateLine) LabFault
right lines = Ok lines

right_is : (a b : List StateLine) → right a ≡ right b → a ≡ b
right_is a b h = cc

-- one line more
pub record IsWith (kind : FileKind) (before : List StateLine) (line : StateLine) (more : List StateLine) : Type 0 where
  pub is : more ≡ before ++ line ∷ []
  pub agrees : Agrees kind before → Agrees kind more

owners_with : (before : List StateLine) (line : StateLine) (more : List StateLine) (v : Bool)
    → v ≡ all_same (said_of (before ++ line ∷ []) line.state)
    → cond v (okay (before ++ line ∷ [])) (Err (TwoOwners line.state)) ≡ Ok more → IsWith OwnerFile before line more
owners_with before line more false e h = cc
owners_with before line more true e h = record {
  is = sym (ok_is _ _ h);
  agrees = λ agrees s.
      let P : List StateLine → Type 0 = λ ls. all_same (said_of ls s) ≡ true in
      subst P (ok_is _ _ h) (elim (cases_Bool (eqb line.state s)) [
        | inl here ↦ ap (λ t. all_same (said_of (before ++ line ∷ []) t)) (sym (equal line.state s here)) ∙ sym e
        | inr there ↦ ap all_same (said_of-push before line s
            ∙ ap (λ v. said_of before s ++ cond v line.numbers []) there ∙ append-nil (said_of before s)) ∙ agrees s
      ]);
}
  where
    equal : (a b : ℕ) → eqb a b ≡ true → a ≡ b
    equal a b h = grind (arith, nat_tests)

with_line-found : (kind : FileKind) (before : List StateLine) (line : StateLine) (more : List StateLine)
    → with_line kind before line ≡ Ok more → IsWith kind before line more
with_line-found LabelFile before line more h = record { is = sym (ok_is _ _ h); agrees = λ _. tt }
with_line-found OwnerFile before line more h =
    owners_with before line more (all_same (said_of (before ++ line ∷ []) line.state)) refl h

with_line-again : (kind : FileKind) (before : List StateLine) (line : StateLine) (rest : List StateLine)
    → Agrees kind (before ++ line ∷ rest) → with_line kind before line ≡ Ok (before ++ line ∷ [])
with_line-again LabelFile before line rest h = refl
with_line-again OwnerFile before line rest h =
    let P : List StateLine → Type 0 = λ ls. Agrees OwnerFile ls in
    ap (λ v. cond v (okay (before ++ line ∷ [])) (Err (TwoOwners line.state)))
    (Agrees-front (before ++ line ∷ []) rest (subst P (sym (append_assoc before (line ∷ []) rest)) h) line.state)

-- lines in turn
pub record AreFound (kind : FileKind) (n : ℕ) (items : List Item) (before : List StateLine) (lines : List (List ℕ))
    (all : List StateLine) : Type 0 where
  pub new : List StateLine
  pub is : all ≡ before ++ new
  pub states : AreStateLines n items lines new
  pub agrees : Agrees kind before → Agrees kind all

found_by : (kind : FileKind) (n : ℕ) (items : List Item) (before : List StateLine) (number : ℕ)
    (line : List ℕ) (lines : List (List ℕ)) (all : List StateLine) (known : Result StateLine LabCause)
    (read : Result (List StateLine) LabCause) → ((more : List StateLine)
    → lines_from kind n items more (number + 1) lines ≡ Ok all → AreFound kind n items more lines all)
    → known ≡ known_line n items (state_line line) → read ≡ and_then known (with_line kind before)
    → then_at number read (λ more. lines_from kind n items more (number + 1) lines) ≡ Ok all
    → AreFound kind n items before (line ∷ lines) all
found_by kind n items before number line lines all (Err cause) (Err other) rest k e h = cc
found_by kind n items before number line lines all (Err cause) (Ok more) rest k e h = cc
found_by kind n items before number line lines all (Ok state) (Err other) rest k e h = cc
found_by kind n items before number line lines all (Ok state) (Ok more) rest k e h =
    let one = with_line-found kind before state more (sym e) in
    let behind = rest more h in
    record {
      new = state ∷ behind.new;
      is = behind.is ∙ ap (λ (t : List StateLine). t ++ behind.new) one.is
          ∙ append_assoc before (state ∷ []) behind.new;
      states = (known_line-found n items line state (sym k), behind.states);
      agrees = λ a. behind.agrees (one.agrees a);
    }

pub lines_from-found : (kind : FileKind) (n : ℕ) (items : List Item) (before : List StateLine) (number : ℕ)
    (lines : List (List ℕ)) (all : List StateLine) → lines_from kind n items before number lines ≡ Ok all
    → AreFound kind n items before lines all
lines_from-found kind n items before number [] all h =
    let same : before ≡ all = right_is before all h in
    let P : List StateLine → Type 0 = λ ls. Agrees kind ls in
    record { new = []; is = sym same ∙ sym (append-nil before); states = tt; agrees = λ a. subst P same a }
lines_from-found kind n items before number (line ∷ lines) all h =
    found_by kind n items before number line lines all
    (known_line n items (state_line line)) (add_line kind n items before line)
    (λ more e. lines_from-found kind n items more (number + 1) lines all e) refl refl h

pub lines_from-again : (kind : FileKind) (n : ℕ) (items : List Item) (before : List StateLine) (number : ℕ)
    (lines : List (List ℕ)) (new : List StateLine) → AreStateLines n items lines new → Agrees kind (before ++ new)
    → lines_from kind n items before number lines ≡ Ok (before ++ new)
lines_from-again kind n items before number [] [] states agrees =
    ap (λ (t : List StateLine). Ok t) (sym (append-nil before))
lines_from-again kind n items before number [] (state ∷ new) states agrees = absurd states
lines_from-again kind n items before number (line ∷ lines) [] states agrees = absurd states
lines_from-again kind n items before number (line ∷ lines) (state ∷ new) states agrees =
    let group : (before ++ state ∷ []) ++ new ≡ before ++ state ∷ new = append_assoc before (state ∷ []) new in
    let P : List StateLine → Type 0 = λ ls. Agrees kind ls in
    ap (λ r. then_at number (and_then r (with_line kind before))
    (λ more. lines_from kind n items more (number + 1) lines)) (known_line-again n items line state states.0)
    ∙ ap (λ r. then_at number r (λ more. lines_from kind n items more (number + 1) lines))
    (with_line-again kind before state new agrees)
    ∙ lines_from-again kind n items (before ++ state ∷ []) (number + 1) lines new states.1 (subst P (sym group) agrees)
    ∙ ap (λ (t : List StateLine). Ok t) group

-- a whole text
pub record Reads {Y : Type 0} (kind : FileKind) (n : ℕ) (make : List Item → List StateLine → Y) (text : List ℕ)
    (value : Y) : Type 0 where
  pub items : List Item
  pub lines : List StateLine
  pub text_is : IsText kind n text items lines
  pub agrees : Agrees kind lines
  pub made : make items lines ≡ value

no_lines : (kind : FileKind) → Agrees kind []
no_lines LabelFile = tt
no_lines OwnerFile = λ s. refl

abbrev fine : {Y : Type 0} → Y → Result Y LabFault
fine y = Ok y

value_is : {Y : Type 0} (a b : Y) → fine a ≡ fine b → a ≡ b
value_is a b h = cc

module _ {Y : Type 0} (kind : FileKind) (n : ℕ) (make : List Item → List StateLine → Y) where
  body_by : (text : List ℕ) (value : Y) (header : List ℕ) (lines : List (List ℕ)) (items : List Item)
      (read : Result (List StateLine) LabFault) → significant (lines_of text) ≡ header ∷ lines
      → header_of kind (fields_of header) ≡ Ok items → read ≡ lines_from kind n items [] 2 lines
      → made_of (make items) read ≡ Ok value → Reads kind n make text value
  body_by text value header lines items (Err fault) parts head e h = cc
  body_by text value header lines items (Ok all) parts head e h =
      let found = lines_from-found kind n items [] 2 lines all (sym e) in
      let P : List StateLine → Type 0 = λ ls. AreStateLines n items lines ls in
      record {
        items = items;
        lines = all;
        text_is = record {
          header = header;
          body = lines;
          parts = parts;
          head = header_of-found kind header items head;
          states = subst P (sym found.is) found.states;
        };
        agrees = found.agrees (no_lines kind);
        made = value_is (make items all) value h;
      }

  header_by : (text : List ℕ) (value : Y) (header : List ℕ)
      (lines : List (List ℕ)) (items : Result (List Item) LabCause)
      → significant (lines_of text) ≡ header ∷ lines → items ≡ header_of kind (fields_of header)
      → then_at 1 items (λ is. made_of (make is) (lines_from kind n is [] 2 lines)) ≡ Ok value
      → Reads kind n make text value
  header_by text value header lines (Err cause) parts e h = cc
  header_by text value header lines (Ok items) parts e h =
      body_by text value header lines items (lines_from kind n items [] 2 lines) parts (sym e) refl h

  lines_by : (text : List ℕ) (value : Y) (lines : List (List ℕ)) → lines ≡ significant (lines_of text)
      → said_by_lines kind n make lines ≡ Ok value → Reads kind n make text value
  lines_by text value [] e h = cc
  lines_by text value (header ∷ lines) e h =
      header_by text value header lines (header_of kind (fields_of header)) (sym e) refl h

  pub said_by-found : (text : List ℕ) (value : Y) → said_by kind n make text ≡ Ok value → Reads kind n make text value
  said_by-found text value h = lines_by text value (significant (lines_of text)) refl h

  pub said_by-again : (text : List ℕ) (items : List Item) (lines : List StateLine) → IsText kind n text items lines
      → Agrees kind lines → said_by kind n make text ≡ Ok (make items lines)
  said_by-again text items lines is agrees =
      ap (λ ls. said_by_lines kind n make ls) is.parts
      ∙ ap (λ h. then_at 1 h (λ its. made_of (make its) (lines_from kind n its [] 2 is.body)))
      (header_of-again kind is.header items is.head)
      ∙ ap (λ r. made_of (make items) r) (lines_from-again kind n items [] 2 is.body lines is.states agrees)
