-- Marks that are written one after another, and marks of so many states.
use Rattle.std.proofs.Common.{◌≡◌, ◌∙◌, ◌<◌, ◌≤◌, ◌-◌, ◌++◌, ◌&&◌, ◌||◌, ℕ, Bool, true, false, not, inl, inr, List}
use Rattle.std.proofs.Common.{length, get_or, take, if◌then◌else◌, refl, sym, ap, arith}
use Rattle.std.proofs.Math.ListN.{replicate, get_or-eq_default}
use Rattle.std.proofs.lemmas.Bool.{cases_lt}
use Rattle.std.proofs.lemmas.List.{length-append, length-replicate, get_or-replicate, get_or_append_left}
use Rattle.std.proofs.lemmas.List.{get_or-append_right, take_all}
use Rattle.std.proofs.lemmas.List.FromFn.{fill_by_all}
use Rattle.game_model.specs.Limits.{unit}
use Rattle.label_lines.specs.Labels.{Labelling}
use Rattle.formula_reader.specs.Formula.{Tree}
use Rattle.formula_sets.specs.Truth.{holds}
use Rattle.formula_sets.specs.Posing.{at_states, opening_at}
use Rattle.formula_sets.proofs.Asking.{at_states-at, length-at_states}

-- below a place they are those that are wanted, and from there on the old ones
pub record AreWritten (wanted : ℕ → Bool) (place : ℕ) (old new : List Bool) : Type 0 where
  pub below : (k : ℕ) → k < place → get_or new k false ≡ wanted k
  pub behind : (k : ℕ) → place ≤ k → get_or new k false ≡ get_or old k false

-- the same mark at each state, in one piece
pub filled : (mark : Bool) (n : ℕ) → replicate n mark ≡ at_states (λ s. mark) n
filled mark n = fill_by_all (λ s. mark) (replicate n mark) n false (length-replicate n mark)
    (λ s h. get_or-replicate n s mark false h)

-- marks of the states, of which each is made of the one before
pub changed : (step : Bool → Bool) (value : ℕ → Bool) (n : ℕ) (old new : List Bool) → old ≡ at_states value n
    → length new ≡ length old → ((s : ℕ) → s < length old → get_or new s false ≡ step (get_or old s false))
    → new ≡ at_states (λ s. step (value s)) n
changed step value n old new is many each =
    let count : length old ≡ n = ap (λ (xs : List Bool). length xs) is ∙ length-at_states value n in
    fill_by_all (λ s. step (value s)) new n false (many ∙ count)
    (λ s h. each s (omega (arith, h, count)) ∙ ap (λ (xs : List Bool). step (get_or xs s false)) is
    ∙ ap step (at_states-at value n s false h))

-- marks of the states, of which each is made of two
pub joined : (step : Bool → Bool → Bool) (value other : ℕ → Bool) (n : ℕ) (old others new : List Bool)
    → old ≡ at_states value n → others ≡ at_states other n → length new ≡ length old
    → ((s : ℕ) → s < length old → get_or new s false ≡ step (get_or old s false) (get_or others s false))
    → new ≡ at_states (λ s. step (value s) (other s)) n
joined step value other n old others new is others_are many each =
    let count : length old ≡ n = ap (λ (xs : List Bool). length xs) is ∙ length-at_states value n in
    fill_by_all (λ s. step (value s) (other s)) new n false (many ∙ count)
    (λ s h. each s (omega (arith, h, count))
    ∙ ap (λ (xs : List Bool). step (get_or xs s false) (get_or others s false)) is
    ∙ ap (λ b. step b (get_or others s false)) (at_states-at value n s false h)
    ∙ ap (λ (xs : List Bool). step (value s) (get_or xs s false)) others_are
    ∙ ap (step (value s)) (at_states-at other n s false h))

-- marks, so many of them, and none behind their end, are the marks of so many states
pub padded : (marks held new : List Bool) (n count : ℕ) → held ≡ marks → count ≡ length marks → length marks ≤ n
    → new ≡ take n held ++ replicate (n - count) false → new ≡ at_states (λ s. get_or marks s false) n
padded marks held new n count held_is count_is short is = fill_by_all (λ s. get_or marks s false) new n false many by
  where
    whole : new ≡ marks ++ replicate (n - length marks) false
    whole =
        is
        ∙ ap (λ (xs : List Bool). take n xs ++ replicate (n - count) false) held_is
        ∙ ap (λ k. take n marks ++ replicate (n - k) false) count_is
        ∙ ap (λ (xs : List Bool). xs ++ replicate (n - length marks) false) (take_all n marks short)

    many : length new ≡ n
    many = omega (
      arith,
      short,
      ap (λ (xs : List Bool). length xs) whole,
      length-append marks (replicate (n - length marks) false),
      length-replicate (n - length marks) false,
    )

    by : (s : ℕ) → s < n → get_or new s false ≡ get_or marks s false
    by s h = ap (λ (xs : List Bool). get_or xs s false) whole ∙ elim (cases_lt s (length marks)) [
      | inl within ↦ get_or_append_left marks (replicate (n - length marks) false) false s within
      | inr past ↦
          get_or-append_right marks (replicate (n - length marks) false) (length marks) s false refl past
          ∙ get_or-replicate (n - length marks) (s - length marks) false false (omega (arith, h, past))
          ∙ sym (get_or-eq_default marks false past)
    ]

neither_one : (a b : Bool) → not (a || b) ≡ (not b && not a)
neither_one true true = refl
neither_one true false = refl
neither_one false true = refl
neither_one false false = refl

-- where not one of two holds, neither does
pub neither : (left right : ℕ → Bool) (n : ℕ)
    → at_states (λ s. not (left s || right s)) n ≡ at_states (λ s. not (right s) && not (left s)) n
neither left right n =
    fill_by_all (λ s. not (right s) && not (left s)) (at_states (λ s. not (left s || right s)) n) n false
    (length-at_states (λ s. not (left s || right s)) n)
    (λ s h. at_states-at (λ s. not (left s || right s)) n s false h ∙ neither_one (left s) (right s))

-- probability 1 at each mark is the opening, where the right side holds at the marks
pub opened : (l : Labelling) (f : Tree) (n : ℕ) (marks : List Bool) (table : List ℕ)
    → marks ≡ at_states (holds l f.right) n
    → table ≡ at_states (λ s. if get_or marks s false then unit else 0) (length marks)
    → table ≡ at_states (opening_at l f) n
opened l f n marks table marks_are is =
    let count : length marks ≡ n =
    ap (λ (xs : List Bool). length xs) marks_are ∙ length-at_states (holds l f.right) n in
    fill_by_all (opening_at l f) table n 0 (ap (λ (xs : List ℕ). length xs) is
    ∙ length-at_states (λ s. if get_or marks s false then unit else 0) (length marks) ∙ count)
    (λ s h. ap (λ (xs : List ℕ). get_or xs s 0) is
    ∙ at_states-at (λ s. if get_or marks s false then unit else 0) (length marks) s 0 (omega (arith, h, count))
    ∙ ap (λ (xs : List Bool). if get_or xs s false then unit else 0) marks_are
    ∙ ap (λ b. if b then unit else 0) (at_states-at (holds l f.right) n s false h))
