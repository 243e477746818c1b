-- Transition lines in another order.
use Rattle.std.proofs.Common.{◌≡◌, ◌∙◌, ◌<◌, ℕ, zero, suc, Bool, true, false, cond, List, [], ◌∷◌, length, map, get_or}
use Rattle.std.proofs.Common.{set, Result, Ok, Err, refl, sym, ap, ap₂, subst, arith}
use Rattle.std.specs.List.{filter, All, swap}
use Rattle.std.specs.List.Sorted.{IsPermutation}
use Rattle.std.proofs.lemmas.List.{nil_from_length}
use Rattle.std.proofs.lemmas.List.Sorted.{IsPermutation-refl, IsPermutation-trans, IsPermutation-cons}
use Rattle.std.proofs.lemmas.List.Sorted.{IsPermutation-middle, IsPermutation-keeps, IsPermutation-map, All-permutation}
use Rattle.std.proofs.lemmas.List.Sorted.{length_permutation}
use Rattle.text_lines.specs.Text.{lines_of, fields_of, significant}
use Rattle.game_model.specs.Game.{Distribution, choices_of}
use Rattle.distributions.specs.declared.choice.Part.{Part}
use Rattle.distributions.specs.Parts.{DenotesChoice}
use Rattle.transition_lines.specs.declared.header.Header.{Header}
use Rattle.transition_lines.specs.declared.line.Transition.{Transition}
use Rattle.transition_lines.specs.declared.fault.TraCause.{TraCause}
use Rattle.transition_lines.specs.Lines.{Row, AreRows, HasAction, is_of, row_said}
use Rattle.transition_lines.specs.Choices.{transitions_of, part_of, parts_of, IsState}
use Rattle.transition_lines.specs.Text.{DenotesGame, transitions}
use Rattle.transition_lines.proofs.RowLaws.{NumbersFound, NumbersAgain, row_found, row_again}

module _ {X : Type 0} (p : X → Bool) where
  two_kept : (b c : Bool) (x y : X) (rest : List X)
      → IsPermutation (cond b (x ∷ cond c (y ∷ rest) rest) (cond c (y ∷ rest) rest))
      (cond c (y ∷ cond b (x ∷ rest) rest) (cond b (x ∷ rest) rest))
  two_kept true true x y rest = IsPermutation-middle (x ∷ []) y rest
  two_kept true false x y rest = IsPermutation-refl (x ∷ rest)
  two_kept false true x y rest = IsPermutation-refl (y ∷ rest)
  two_kept false false x y rest = IsPermutation-refl rest

  one_kept : (b : Bool) (x : X) (xs ys : List X) → IsPermutation xs ys
      → IsPermutation (cond b (x ∷ xs) xs) (cond b (x ∷ ys) ys)
  one_kept true x xs ys moved = IsPermutation-cons x xs ys moved
  one_kept false x xs ys moved = moved

  front_moved : (x d : X) (xs : List X) (j : ℕ) → j < length xs
      → IsPermutation (filter p (x ∷ xs)) (filter p (get_or xs j d ∷ set xs j x))
  front_moved x d [] j h = absurd (omega (arith, h))
  front_moved x d (y ∷ xs) zero h = two_kept (p x) (p y) x y (filter p xs)
  front_moved x d (y ∷ xs) (suc j) h =
      IsPermutation-trans _ _ _ (two_kept (p x) (p y) x y (filter p xs))
      (IsPermutation-trans _ _ _ (one_kept (p y) y (filter p (x ∷ xs)) (filter p (get_or xs j d ∷ set xs j x))
      (front_moved x d xs j (omega (arith, h))))
      (two_kept (p y) (p (get_or xs j d)) y (get_or xs j d) (filter p (set xs j x))))

  exchanged : (d : X) (xs : List X) (i j : ℕ) → i < length xs → j < length xs
      → IsPermutation (filter p xs) (filter p (set (set xs i (get_or xs j d)) j (get_or xs i d)))
  exchanged d [] i j g h = absurd (omega (arith, h))
  exchanged d (x ∷ xs) zero zero g h = IsPermutation-refl (filter p (x ∷ xs))
  exchanged d (x ∷ xs) zero (suc j) g h = front_moved x d xs j (omega (arith, h))
  exchanged d (x ∷ xs) (suc i) zero g h = front_moved x d xs i (omega (arith, g))
  exchanged d (x ∷ xs) (suc i) (suc j) g h =
      one_kept (p x) x (filter p xs) (filter p (set (set xs i (get_or xs j d)) j (get_or xs i d)))
      (exchanged d xs i j (omega (arith, g)) (omega (arith, h)))

  swapped : (xs : List X) (i j : ℕ) → i < length xs → j < length xs
      → IsPermutation (filter p xs) (filter p (swap xs i j))
  swapped [] i j g h = absurd (omega (arith, h))
  swapped (d ∷ xs) i j g h = exchanged d (d ∷ xs) i j g h

  -- what passes a test, in another order
  filter_moved : (xs ys : List X) → IsPermutation xs ys → IsPermutation (filter p xs) (filter p ys)
  filter_moved xs ys moved =
      IsPermutation-keeps xs (λ l. IsPermutation (filter p xs) (filter p l)) (IsPermutation-refl (filter p xs))
      (λ l i j g h so_far. IsPermutation-trans _ _ _ so_far (swapped l i j g h)) ys moved

-- the order of the parts of a choice plays no part
abbrev pub PartsInAnyOrder : Type 0
PartsInAnyOrder = (parts others : List Part) (d : Distribution) → IsPermutation parts others → DenotesChoice parts d
    → DenotesChoice others d

nil_moved : {X : Type 0} (xs ys : List X) → IsPermutation xs ys → xs ≡ [] → ys ≡ []
nil_moved xs ys moved none = nil_from_length ys (length_permutation xs ys moved ∙ ap length none)

state_moved : PartsInAnyOrder → (ts us : List Transition) (s count : ℕ) (choices : List Distribution)
    → IsPermutation ts us → IsState ts s count choices → IsState us s count choices
state_moved any ts us s count choices moved is =
    let of : (k : ℕ) → IsPermutation (transitions_of ts s k) (transitions_of us s k) =
    λ k. filter_moved (is_of s k) ts us moved in
    record {
      has = record {
        there = λ k h.
            omega (arith, length_permutation (transitions_of ts s k) (transitions_of us s k) (of k), is.has.there k h);
        no_more = λ k h. nil_moved (transitions_of ts s k) (transitions_of us s k) (of k) (is.has.no_more k h);
      };
      few = is.few;
      alone = is.alone;
      as_many = is.as_many;
      made = λ k h. any (parts_of ts s k) (parts_of us s k) _
          (IsPermutation-map part_of (transitions_of ts s k) (transitions_of us s k) (of k)) (is.made k h);
    }

no_row : Row
no_row = record {
  transition = record { source = 0; choice = 0; destination = 0; share = record { num = 0; den = 1 } };
  action = [];
}

abbrev row_in : Result Row TraCause → Row
row_in (Ok row) = row
row_in (Err cause) = no_row

abbrev said_of : Header → List ℕ → Result Row TraCause
said_of header line = row_said header (fields_of line)

rows_said_of : NumbersAgain → (header : Header) (lines : List (List ℕ)) (rows : List Row) → AreRows header lines rows
    → map (said_of header) lines ≡ map (λ (row : Row). Ok row) rows
rows_said_of again header [] [] are = refl
rows_said_of again header [] (row ∷ rows) are = absurd are
rows_said_of again header (line ∷ lines) [] are = absurd are
rows_said_of again header (line ∷ lines) (row ∷ rows) are =
    ap₂ (λ x xs. x ∷ xs) (row_again again header line row are.0) (rows_said_of again header lines rows are.1)

all_read : (rows : List Row) → All (λ said. said ≡ Ok (row_in said)) (map (λ (row : Row). Ok row) rows)
all_read [] k d h = absurd (omega (arith, h))
all_read (row ∷ rows) zero d h = refl
all_read (row ∷ rows) (suc k) d h = all_read rows k d (omega (arith, h))

rows_in : (rows : List Row) → map row_in (map (λ (row : Row). Ok row) rows) ≡ rows
rows_in [] = refl
rows_in (row ∷ rows) = ap (λ rs. row ∷ rs) (rows_in rows)

rows_from : NumbersFound → (header : Header) (lines : List (List ℕ))
    → All (λ said. said ≡ Ok (row_in said)) (map (said_of header) lines)
    → AreRows header lines (map row_in (map (said_of header) lines))
rows_from found header [] all = tt
rows_from found header (line ∷ lines) all = (
  row_found found header line (row_in (said_of header line)) (all zero (said_of header line) (omega arith)),
  rows_from found header lines (λ k d h. all (suc k) d (omega (arith, h))),
)

-- The order of the transition lines plays no part in which game a text denotes.
pub text_moved : NumbersFound → NumbersAgain → PartsInAnyOrder
    → (text other first : List ℕ) (lines others : List (List ℕ)) (game : List (List Distribution))
    → significant (lines_of text) ≡ first ∷ lines → significant (lines_of other) ≡ first ∷ others
    → IsPermutation lines others → DenotesGame text game → DenotesGame other game
text_moved found again any text other first lines others game is_text is_other moved is =
    let same : is.first ∷ is.others ≡ first ∷ lines = sym is.lines ∙ is_text in
    let same_first : is.first ≡ first = cc in
    let same_lines : is.others ≡ lines = cc in
    let P : List (List ℕ) → Type 0 = λ ls. AreRows is.header ls is.rows in
    let are : AreRows is.header lines is.rows = subst P same_lines is.are_rows in
    let said : map (said_of is.header) lines ≡ map (λ (row : Row). Ok row) is.rows =
    rows_said_of again is.header lines is.rows are in
    let said_moved : IsPermutation (map (said_of is.header) lines) (map (said_of is.header) others) =
    IsPermutation-map (said_of is.header) lines others moved in
    let Q : List (Result Row TraCause) → Type 0 = λ rs. All (λ r. r ≡ Ok (row_in r)) rs in
    let read : All (λ r. r ≡ Ok (row_in r)) (map (said_of is.header) others) =
    All-permutation (λ r. r ≡ Ok (row_in r)) _ _ said_moved (subst Q (sym said) (all_read is.rows)) in
    let rows : List Row = map row_in (map (said_of is.header) others) in
    let R : List Row → Type 0 = λ rs. IsPermutation rs rows in
    let rows_moved : IsPermutation is.rows rows =
    subst R (ap (λ (rs : List (Result Row TraCause)). map row_in rs) said ∙ rows_in is.rows)
    (IsPermutation-map row_in _ _ said_moved) in
    record {
      first = is.first;
      others = others;
      lines = is_other ∙ ap (λ line. line ∷ others) (sym same_first);
      header = is.header;
      is_header = is.is_header;
      states = is.states;
      as_stated = length_permutation lines others moved ∙ ap length (sym same_lines) ∙ is.as_stated;
      rows = rows;
      are_rows = rows_from found is.header others read;
      action_of = is.action_of;
      actions = All-permutation (HasAction is.action_of) is.rows rows rows_moved is.actions;
      choice_count = is.choice_count;
      made = λ s h. state_moved any (transitions is.rows) (transitions rows) s (is.choice_count s) (choices_of game s)
          (IsPermutation-map (λ (row : Row). row.transition) is.rows rows rows_moved) (is.made s h);
      all_choices = is.all_choices;
    }
