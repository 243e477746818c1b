-- No row clashes exactly where each choice has one action.
use Rattle.std.proofs.Common.{◌≡◌, ◌∙◌, inl, inr, ℕ, ◌==◌, ◌&&◌, not, Bool, true, false, cond, List, [], ◌∷◌, ◌++◌}
use Rattle.std.proofs.Common.{Option, Some, None, option_map, slice_get, refl, sym, ap, ap₂, subst, append_assoc}
use Rattle.std.proofs.lemmas.Bool.{cases_Bool, eqb-true, eq-eqb}
use Rattle.std.specs.List.{filter}
use Rattle.std.specs.Option.{option_map_or, option_or}
use Rattle.std.specs.Str.{bytes_eq}
use Rattle.std.proofs.lemmas.Slice.Eq.{bytes_eq-Decides}
use Rattle.std.proofs.lemmas.List.Elements.{All-nil, All-cons, All-head, All-tail, All-push}
use Rattle.transition_lines.specs.Lines.{Row, is_of, first_action, clashes, HasAction, HaveActions}
use Rattle.transition_lines.proofs.RowLaws.{NoClash}

abbrev first_of : List Row → Option (List ℕ)
first_of rows = option_map (λ (row : Row). row.action) (slice_get rows 0)

abbrev of_choice : ℕ → ℕ → List Row → List Row
of_choice s k rows = filter (λ (row : Row). is_of s k row.transition) rows

first_append : (before rows : List Row) (s k : ℕ)
    → first_action (before ++ rows) s k ≡ option_or (first_action before s k) (first_action rows s k)
first_append [] rows s k = refl
first_append (b ∷ before) rows s k = elim (cases_Bool (is_of s k b.transition)) [
  | inl e ↦ ap (λ v. first_of (cond v (b ∷ of_choice s k (before ++ rows)) (of_choice s k (before ++ rows)))) e
      ∙ sym (ap
      (λ v. option_or (first_of (cond v (b ∷ of_choice s k before) (of_choice s k before))) (first_action rows s k)) e)
  | inr e ↦ ap (λ v. first_of (cond v (b ∷ of_choice s k (before ++ rows)) (of_choice s k (before ++ rows)))) e
      ∙ first_append before rows s k
      ∙ sym (ap
      (λ v. option_or (first_of (cond v (b ∷ of_choice s k before) (of_choice s k before))) (first_action rows s k)) e)
]

own_choice : (row : Row) → is_of row.transition.source row.transition.choice row.transition ≡ true
own_choice row = ap₂ (λ a b. a && b) (eq-eqb row.transition.source row.transition.source refl)
    (eq-eqb row.transition.choice row.transition.choice refl)

-- the first action of the choice of the row at the front
front_action : (row : Row) (rows : List Row)
    → first_action (row ∷ rows) row.transition.source row.transition.choice ≡ Some row.action
front_action row rows = ap (λ v. first_of (cond v (row ∷ of_choice row.transition.source row.transition.choice rows)
    (of_choice row.transition.source row.transition.choice rows))) (own_choice row)

abbrev some_action : Option (List ℕ) → List ℕ
some_action None = []
some_action (Some a) = a

-- the action of each choice: that of its first row
abbrev pub action_in : List Row → ℕ → ℕ → List ℕ
action_in rows s k = some_action (first_action rows s k)

-- a row that does not clash has the action of its choice
here_has : (before rows : List Row) (row : Row) → clashes before row ≡ false
    → row.action ≡ action_in (before ++ row ∷ rows) row.transition.source row.transition.choice
here_has before rows row fine =
    sym (ap some_action (first_append before (row ∷ rows) row.transition.source row.transition.choice
    ∙ ap (λ o. option_or (first_action before row.transition.source row.transition.choice) o) (front_action row rows))
    ∙ by_first (first_action before row.transition.source row.transition.choice) fine)
  where
    by_first : (o : Option (List ℕ)) → option_map_or (λ action. not (bytes_eq action row.action)) o false ≡ false
        → some_action (option_or o (Some row.action)) ≡ row.action
    by_first None e = refl
    by_first (Some a) e = (bytes_eq-Decides a row.action).0 (not_false (bytes_eq a row.action) e)
      where
        not_false : (b : Bool) → not b ≡ false → b ≡ true
        not_false true e = refl
        not_false false e = cc

actions_behind : (before rows : List Row) → NoClash before rows → HaveActions rows (action_in (before ++ rows))
actions_behind before [] fine = All-nil (HasAction (action_in (before ++ [])))
actions_behind before (row ∷ rows) fine =
    let P : List Row → Type 0 = λ all. HaveActions rows (action_in all) in
    All-cons (HasAction (action_in (before ++ row ∷ rows))) row rows (here_has before rows row fine.0)
    (subst P (append_assoc before (row ∷ []) rows) (actions_behind (before ++ row ∷ []) rows fine.1))

pub actions_found : (rows : List Row) → NoClash [] rows → HaveActions rows (action_in rows)
actions_found rows fine = actions_behind [] rows fine

-- the first action of a choice is the choice's
first_has : (rows : List Row) (action_of : ℕ → ℕ → List ℕ) (s k : ℕ) (a : List ℕ) → HaveActions rows action_of
    → first_action rows s k ≡ Some a → a ≡ action_of s k
first_has [] action_of s k a have e = cc
first_has (row ∷ rows) action_of s k a have e = elim (cases_Bool (is_of s k row.transition)) [
  | inr other ↦ first_has rows action_of s k a (All-tail (HasAction action_of) row rows have)
      (sym (ap (λ v. first_of (cond v (row ∷ of_choice s k rows) (of_choice s k rows))) other) ∙ e)
  | inl this ↦
      let is : Some row.action ≡ Some a =
      sym (ap (λ v. first_of (cond v (row ∷ of_choice s k rows) (of_choice s k rows))) this) ∙ e in
      let same : row.action ≡ a = cc in
      let both = both_true (row.transition.source == s) (row.transition.choice == k) this in
      sym same ∙ All-head (HasAction action_of) row rows have
      ∙ ap₂ (λ i j. action_of i j) (is_equal row.transition.source s both.0) (is_equal row.transition.choice k both.1)
]
  where
    both_true : (b c : Bool) → (b && c) ≡ true → (b ≡ true) × (c ≡ true)
    both_true true c e = (refl, e)
    both_true false c e = cc

    is_equal : (i j : ℕ) → (i == j) ≡ true → i ≡ j
    is_equal i j e = eqb-true i j e

fine_here : (before : List Row) (row : Row) (action_of : ℕ → ℕ → List ℕ) → HaveActions before action_of
    → row.action ≡ action_of row.transition.source row.transition.choice → clashes before row ≡ false
fine_here before row action_of have is = by_first (first_action before row.transition.source row.transition.choice) refl
  where
    by_first : (o : Option (List ℕ)) → first_action before row.transition.source row.transition.choice ≡ o
        → clashes before row ≡ false
    by_first None e = ap (λ o. option_map_or (λ action. not (bytes_eq action row.action)) o false) e
    by_first (Some a) e =
        ap (λ o. option_map_or (λ action. not (bytes_eq action row.action)) o false) e
        ∙ ap (λ b. not b) ((bytes_eq-Decides a row.action).1
        (first_has before action_of row.transition.source row.transition.choice a have e ∙ sym is))

fine_behind : (before rows : List Row) (action_of : ℕ → ℕ → List ℕ) → HaveActions before action_of
    → HaveActions rows action_of → NoClash before rows
fine_behind before [] action_of have more = tt
fine_behind before (row ∷ rows) action_of have more = (
  fine_here before row action_of have (All-head (HasAction action_of) row rows more),
  fine_behind (before ++ row ∷ []) rows action_of
      (All-push (HasAction action_of) before row have (All-head (HasAction action_of) row rows more))
      (All-tail (HasAction action_of) row rows more),
)

pub actions_again : (rows : List Row) (action_of : ℕ → ℕ → List ℕ) → HaveActions rows action_of → NoClash [] rows
actions_again rows action_of have = fine_behind [] rows action_of (All-nil (HasAction action_of)) have
