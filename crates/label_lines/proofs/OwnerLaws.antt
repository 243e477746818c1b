-- Owners by cases are those that the relation describes.
use Rattle.std.proofs.Common.{◌≡◌, ◌<◌, inl, inr, ℕ, Bool, true, false, List, [], ◌∷◌, length, map, get_or, Option}
use Rattle.std.proofs.Common.{Some, None, Ok, sym, ap, ◌∙◌, refl, subst, arith, eqb, is_some, ◌&&◌, ◌||◌}
use Rattle.std.proofs.lemmas.Bool.{and_parts, eqb-true, eq-eqb, or_cases}
use Rattle.std.specs.Option.{unwrap_or}
use Rattle.std.specs.List.{list_all, range_with_len}
use Rattle.std.proofs.lemmas.List.{ext_get_or}
use Rattle.std.proofs.lemmas.List.FromFn.{get_or-map-range_with_len, length-map-range_with_len}
use Rattle.label_lines.specs.declared.kind.FileKind.TheVariants.{OwnerFile}
use Rattle.label_lines.specs.Header.{Item, place_of, has_index}
use Rattle.label_lines.specs.Lines.{StateLine, said_of, all_same}
use Rattle.label_lines.specs.Owners.{Ownership}
use Rattle.label_lines.specs.Texts.{owners_of, owner_place, ownership}
use Rattle.label_lines.specs.Denotes.{IsOneOf, LineNames, AreIndices, AreStateLines, DenotesOwners}
use Rattle.label_lines.proofs.StateLineLaws.{IsIndex-has}
use Rattle.label_lines.proofs.SetLaws.{among, is_said-LineNames, LineNames-is_said}
use Rattle.label_lines.proofs.TextLaws.{Agrees, Reads, said_by-found, said_by-again}

-- all that is said is one number
all_are : (x : ℕ) (numbers : List ℕ) (a : ℕ) → list_all (λ other. eqb other x) numbers ≡ true
    → among numbers a ≡ true → a ≡ x
all_are x [] a all h = cc
all_are x (number ∷ numbers) a all h =
    let parts = and_parts (eqb number x) (list_all (λ other. eqb other x) numbers) all in
    elim (or_cases (eqb number a) (among numbers a) h) [
      | inl e ↦ sym (eqb-true number a e) ∙ eqb-true number x parts.0
      | inr e ↦ all_are x numbers a parts.1 e
    ]

first_is : (x : ℕ) (numbers : List ℕ) (a : ℕ) → all_same (x ∷ numbers) ≡ true → among (x ∷ numbers) a ≡ true → a ≡ x
first_is x numbers a all h = elim (or_cases (eqb x a) (among numbers a) h) [
  | inl e ↦ sym (eqb-true x a e)
  | inr e ↦ all_are x numbers a all e
]

one_is : (numbers : List ℕ) (a b : ℕ) → all_same numbers ≡ true → among numbers a ≡ true
    → among numbers b ≡ true → a ≡ b
one_is [] a b all h g = cc
one_is (x ∷ numbers) a b all h g = first_is x numbers a all h ∙ sym (first_is x numbers b all g)

all_from : (x : ℕ) (numbers : List ℕ) → ((a : ℕ) → among numbers a ≡ true → a ≡ x)
    → list_all (λ other. eqb other x) numbers ≡ true
all_from x [] h = refl
all_from x (number ∷ numbers) h =
    ap (λ v. v && list_all (λ other. eqb other x) numbers)
    (eq-eqb number x (h number (ap (λ v. v || among numbers number) (eq-eqb number number refl))))
    ∙ all_from x numbers (λ a e. h a (ap (λ v. eqb number a || v) e ∙ or_true (eqb number a)))
  where
    or_true : (v : Bool) → (v || true) ≡ true
    or_true true = refl
    or_true false = refl

same_from : (numbers : List ℕ) → ((a b : ℕ) → among numbers a ≡ true → among numbers b ≡ true → a ≡ b)
    → all_same numbers ≡ true
same_from [] h = refl
same_from (x ∷ numbers) h = all_from x numbers
    (λ a e. h a x (ap (λ v. eqb x a || v) e ∙ or_true (eqb x a)) (ap (λ v. v || among numbers x) (eq-eqb x x refl)))
  where
    or_true : (v : Bool) → (v || true) ≡ true
    or_true true = refl
    or_true false = refl

-- what is said is known
known_of : (items : List Item) (numbers : List ℕ) (number : ℕ) → AreIndices items numbers → IsOneOf numbers number
    → has_index items number ≡ true
known_of items [] number are one = absurd one
known_of items (other ∷ numbers) number are (inl e) =
    ap (λ x. has_index items x) (sym e) ∙ IsIndex-has items other are.0
known_of items (other ∷ numbers) number are (inr e) = known_of items numbers number are.1 e

says_known : (n : ℕ) (items : List Item) (body : List (List ℕ)) (lines : List StateLine) (number s : ℕ)
    → AreStateLines n items body lines → LineNames lines number s → has_index items number ≡ true
says_known n items [] [] number s are says = absurd says
says_known n items [] (line ∷ lines) number s are says = absurd are
says_known n items (bytes ∷ body) [] number s are says = absurd are
says_known n items (bytes ∷ body) (line ∷ lines) number s are (inl says) =
    known_of items line.numbers number are.0.known says.1
says_known n items (bytes ∷ body) (line ∷ lines) number s are (inr says) =
    says_known n items body lines number s are.1 says

some_place : (p : Option ℕ) → is_some p ≡ true → p ≡ Some (unwrap_or p 0)
some_place None h = cc
some_place (Some k) h = refl

owner_at : (n : ℕ) (items : List Item) (lines : List StateLine) (s : ℕ) → s < n
    → get_or (map (λ t. owner_place items (said_of lines t)) (range_with_len 0 n)) s 0
    ≡ owner_place items (said_of lines s)
owner_at n items lines s small =
    get_or-map-range_with_len (λ t. owner_place items (said_of lines t)) 0 n s s 0 small (omega arith)

owned_by : (items : List Item) (said : List ℕ) (number : ℕ) → all_same said ≡ true → among said number ≡ true
    → has_index items number ≡ true → place_of items number ≡ Some (owner_place items said)
owned_by items [] number all h known = cc
owned_by items (x ∷ said) number all h known = some_place (place_of items number) known
    ∙ ap (λ i. Some (unwrap_or (place_of items i) 0)) (first_is x said number all h)

nobody_by : (items : List Item) (said : List ℕ) → ((number : ℕ) → among said number ≡ true → ⊥)
    → owner_place items said ≡ 0
nobody_by items [] h = refl
nobody_by items (x ∷ said) h = absurd (h x (ap (λ v. v || among said x) (eq-eqb x x refl)))

ownership-denoted : (text : List ℕ) (n : ℕ) (o : Ownership) → Reads OwnerFile n (ownership n) text o
    → DenotesOwners text n o
ownership-denoted text n o read =
    let items = read.items in
    let lines = read.lines in
    let P : Ownership → Type 0 = λ x. DenotesOwners text n x in
    subst P read.made (record {
      items = items;
      lines = lines;
      text_is = read.text_is;
      one = λ s first second a b. one_is (said_of lines s) first second (read.agrees s)
          (LineNames-is_said lines first s a) (LineNames-is_said lines second s b);
      players = refl;
      owners = length-map-range_with_len (λ t. owner_place items (said_of lines t)) 0 n;
      owned = λ s number small says.
          owned_by items (said_of lines s) number (read.agrees s) (LineNames-is_said lines number s says)
          (says_known n items read.text_is.body lines number s read.text_is.states says)
          ∙ ap (λ k. Some k) (sym (owner_at n items lines s small));
      others = λ s small none. owner_at n items lines s small
          ∙ nobody_by items (said_of lines s) (λ number h. none number (is_said-LineNames lines number s h));
    })

denoted-agrees : (text : List ℕ) (n : ℕ) (o : Ownership) (is : DenotesOwners text n o) → Agrees OwnerFile is.lines
denoted-agrees text n o is = λ s. same_from (said_of is.lines s)
    (λ a b h g. is.one s a b (is_said-LineNames is.lines a s h) (is_said-LineNames is.lines b s g))

owner_is : (items : List Item) (lines : List StateLine) (s place : ℕ) (said : List ℕ)
    → said ≡ said_of lines s → ((number : ℕ) → LineNames lines number s → place_of items number ≡ Some place)
    → (((number : ℕ) → LineNames lines number s → ⊥) → place ≡ 0) → owner_place items said ≡ place
owner_is items lines s place [] e owned others =
    sym (others (λ number says. let h = ap (λ t. among t number) e ∙ LineNames-is_said lines number s says in cc))
owner_is items lines s place (x ∷ said) e owned others = ap (λ p. unwrap_or p 0) (owned x
    (is_said-LineNames lines x s (sym (ap (λ t. among t x) e) ∙ ap (λ v. v || among said x) (eq-eqb x x refl))))

abbrev owned_as : List (List ℕ) → List ℕ → Ownership
owned_as players owners = record { players = players; owners = owners }

ownership-is : (text : List ℕ) (n : ℕ) (o : Ownership) (is : DenotesOwners text n o) → ownership n is.items is.lines ≡ o
ownership-is text n o is =
    let owners = map (λ t. owner_place is.items (said_of is.lines t)) (range_with_len 0 n) in
    let long : length owners ≡ n = length-map-range_with_len (λ t. owner_place is.items (said_of is.lines t)) 0 n in
    ap (λ (os : List ℕ). owned_as (map (λ (item : Item). item.name) is.items) os)
    (ext_get_or 0 owners o.owners (long ∙ sym is.owners) (λ s h.
    owner_at n is.items is.lines s (omega (arith, h, long))
    ∙ owner_is is.items is.lines s (get_or o.owners s 0) (said_of is.lines s) refl (λ number says.
    is.owned s number (omega (arith, h, long)) says) (λ none. is.others s (omega (arith, h, long)) none)))
    ∙ ap (λ (players : List (List ℕ)). owned_as players o.owners) (sym is.players)

pub owners_of-found : (text : List ℕ) (n : ℕ) (o : Ownership) → owners_of text n ≡ Ok o → DenotesOwners text n o
owners_of-found text n o h = ownership-denoted text n o (said_by-found OwnerFile n (ownership n) text o h)

pub owners_of-again : (text : List ℕ) (n : ℕ) (o : Ownership) → DenotesOwners text n o → owners_of text n ≡ Ok o
owners_of-again text n o is =
    said_by-again OwnerFile n (ownership n) text is.items is.lines is.text_is (denoted-agrees text n o is)
    ∙ ap (λ x. Ok x) (ownership-is text n o is)
