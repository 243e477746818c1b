-- Texts denote labels and owners by their lines and fields. The order of the lines behind the header does not matter.
use Rattle.std.specs.Prelude.{◌≡◌, ◌≢◌, ◌<◌, ◌≤◌, ◌↔◌, ◌⊎◌, ℕ, true, false, List, [], ◌∷◌, ◌++◌, length, map}
use Rattle.std.specs.Prelude.{slice_index, slice_index_or, Some}
use Rattle.text_lines.specs.Text.{lines_of, fields_of, number_of, significant}
use Rattle.text_lines.specs.Laws.{HasNo}
use Rattle.label_lines.specs.declared.kind.FileKind.{FileKind}
use Rattle.label_lines.specs.declared.kind.FileKind.TheVariants.{LabelFile, OwnerFile}
use Rattle.label_lines.specs.Limits.{greatest_index}
use Rattle.label_lines.specs.Header.{Item, is_name, most_items, place_of}
use Rattle.label_lines.specs.Lines.{StateLine}
use Rattle.label_lines.specs.Labels.{Label, Labelling}
use Rattle.label_lines.specs.Owners.{Ownership}

-- The field is the whole number n, in digits.
abbrev pub Spells : List ℕ → ℕ → Type 0
Spells field n = number_of field ≡ Some n

-- The field is an item: digits, `=`, and the name in quotes.
pub record IsItem (kind : FileKind) (field : List ℕ) (item : Item) : Type 0 where
  pub digits : List ℕ
  pub form : field ≡ digits ++ 61 ∷ 34 ∷ (item.name ++ 34 ∷ [])
  pub index : Spells digits item.index
  pub name : is_name kind item.name ≡ true
  pub small : item.index ≤ greatest_index

-- Each field is the item in its place.
abbrev pub AreItems : FileKind → List (List ℕ) → List Item → Type 0
AreItems kind [] [] = Unit {0}
AreItems kind [] (item ∷ items) = ⊥
AreItems kind (field ∷ fields) [] = ⊥
AreItems kind (field ∷ fields) (item ∷ items) = IsItem kind field item × AreItems kind fields items

-- None of the items has the index or the name of this one.
abbrev pub IsNew : Item → List Item → Type 0
IsNew item [] = Unit {0}
IsNew item (other ∷ items) = (item.index ≢ other.index) × (item.name ≢ other.name) × IsNew item items

-- No two items have one index or one name.
abbrev pub AreApart : List Item → Type 0
AreApart [] = Unit {0}
AreApart (item ∷ items) = IsNew item items × AreApart items

-- The line is a header of these items: at least one, no more than files of this kind have, and no two with one index or
-- one name.
pub record IsHeader (kind : FileKind) (line : List ℕ) (items : List Item) : Type 0 where
  pub fields : AreItems kind (fields_of line) items
  pub some : 0 < length items
  pub few : length items ≤ most_items kind
  pub apart : AreApart items

-- The fields spell these numbers.
abbrev pub AreNumbers : List (List ℕ) → List ℕ → Type 0
AreNumbers [] [] = Unit {0}
AreNumbers [] (number ∷ numbers) = ⊥
AreNumbers (field ∷ fields) [] = ⊥
AreNumbers (field ∷ fields) (number ∷ numbers) = Spells field number × AreNumbers fields numbers

-- Some item has this index.
abbrev pub IsIndex : List Item → ℕ → Type 0
IsIndex [] number = ⊥
IsIndex (item ∷ items) number = (item.index ≡ number) ⊎ IsIndex items number

-- Each number is the index of some item.
abbrev pub AreIndices : List Item → List ℕ → Type 0
AreIndices items [] = Unit {0}
AreIndices items (number ∷ numbers) = IsIndex items number × AreIndices items numbers

-- The bytes are a line: a state below n, a colon, and indices of the header.
pub record IsStateLine (n : ℕ) (items : List Item) (bytes : List ℕ) (line : StateLine) : Type 0 where
  pub front : List ℕ
  pub field : List ℕ
  pub back : List ℕ
  pub form : bytes ≡ front ++ 58 ∷ back
  -- The colon is the first of the line.
  pub first : HasNo 58 front
  pub alone : fields_of front ≡ field ∷ []
  pub state : Spells field line.state
  pub numbers : AreNumbers (fields_of back) line.numbers
  pub in_range : line.state < n
  pub known : AreIndices items line.numbers

-- Each line says what is in its place: a state below n, and indices of the header.
abbrev pub AreStateLines : ℕ → List Item → List (List ℕ) → List StateLine → Type 0
AreStateLines n items [] [] = Unit {0}
AreStateLines n items [] (line ∷ lines) = ⊥
AreStateLines n items (bytes ∷ more) [] = ⊥
AreStateLines n items (bytes ∷ more) (line ∷ lines) = IsStateLine n items bytes line × AreStateLines n items more lines

-- The text has such a header, and such lines behind it.
pub record IsText (kind : FileKind) (n : ℕ) (text : List ℕ) (items : List Item) (lines : List StateLine) : Type 0 where
  pub header : List ℕ
  pub body : List (List ℕ)
  pub parts : significant (lines_of text) ≡ header ∷ body
  pub head : IsHeader kind header items
  pub states : AreStateLines n items body lines

-- The number is one of these.
abbrev pub IsOneOf : List ℕ → ℕ → Type 0
IsOneOf [] number = ⊥
IsOneOf (other ∷ numbers) number = (other ≡ number) ⊎ IsOneOf numbers number

-- Some line says the number of the state.
abbrev pub LineNames : List StateLine → ℕ → ℕ → Type 0
LineNames [] number state = ⊥
LineNames (line ∷ lines) number state = ((line.state ≡ state) × IsOneOf line.numbers number)
    ⊎ LineNames lines number state

-- The label has the name of the item, and holds at the states of which some line says its index.
pub record IsLabel (n : ℕ) (lines : List StateLine) (item : Item) (label : Label) : Type 0 where
  pub name : label.name ≡ item.name
  pub marks : length label.marks ≡ n
  pub holds : (state : ℕ) → state < n → (slice_index_or label.marks state false
      ≡ true) ↔ LineNames lines item.index state

-- Each label is that of the item in its place: it holds at the states of which the lines say its index.
abbrev pub AreLabels : ℕ → List StateLine → List Item → List Label → Type 0
AreLabels n lines [] [] = Unit {0}
AreLabels n lines [] (label ∷ labels) = ⊥
AreLabels n lines (item ∷ items) [] = ⊥
AreLabels n lines (item ∷ items) (label ∷ labels) = IsLabel n lines item label × AreLabels n lines items labels

-- A text denotes these labels of n states.
pub record DenotesLabels (text : List ℕ) (n : ℕ) (l : Labelling) : Type 0 where
  pub items : List Item
  pub lines : List StateLine
  pub text_is : IsText LabelFile n text items lines
  pub states : l.states ≡ n
  pub labels : AreLabels n lines items l.labels

-- A text denotes these owners of n states: each state has the owner that is said, or the first player if none is said.
pub record DenotesOwners (text : List ℕ) (n : ℕ) (o : Ownership) : Type 0 where
  pub items : List Item
  pub lines : List StateLine
  pub text_is : IsText OwnerFile n text items lines
  -- No state has two owners.
  pub one : (state first second : ℕ) → LineNames lines first state → LineNames lines second state → first ≡ second
  pub players : o.players ≡ map (λ item. item.name) items
  pub owners : length o.owners ≡ n
  pub owned : (state number : ℕ) → state < n → LineNames lines number state
      → place_of items number ≡ Some (slice_index o.owners state)
  pub others : (state : ℕ) → state < n → ((number : ℕ) → LineNames lines number state → ⊥)
      → slice_index o.owners state ≡ 0
