-- Predecessors are marked, one after another.
use Rattle.std.proofs.Common.{◌≡◌, ℕ, ◌<◌, ◌⊎◌, Bool, true, List, [], length, refl, sym, ◌∙◌, subst, inl, inr}
use Rattle.std.proofs.Common.{slice_index_or, get_or-set_other, get_or-set_same}
use Rattle.std.specs.Prelude.{Contains, slice_set}
use Rattle.std.proofs.lemmas.Bool.{cases_eq}
use Rattle.std.proofs.lemmas.List.{get_or_default}
use Rattle.std.proofs.lemmas.List.Elements.{Contains-get_or}
use Rattle.game_model.specs.Game.{Distribution}
use Rattle.predecessors.specs.declared.lists.Move.{Move}
use Rattle.predecessors.specs.Lists.{ArePredecessors}
use Rattle.predecessors.specs.Marks.{IsMarked}
use Rattle.predecessors.specs.Moves.{move, LeadsTo}
use Rattle.predecessors.proofs.Listed.{listed-exactly}

-- each move of the list leads to the state
pub predecessor-leads : (game : List (List Distribution)) (lists : List (List Move)) (items : List Move) (t k : ℕ)
    → ArePredecessors game lists → t < length game → items ≡ slice_index_or lists t [] → k < length items
    → LeadsTo game (slice_index_or items k (move 0 0)).state (slice_index_or items k (move 0 0)).choice t
predecessor-leads game lists items t k are inside is within =
    let m : Move = slice_index_or items k (move 0 0) in
    let found : Contains (slice_index_or lists t []) m =
    subst (λ (l : List Move). Contains l m) is (Contains-get_or items k (move 0 0) within) in
    (listed-exactly are m.state m.choice t inside).0 found

-- each predecessor is a state
pub predecessor-inside : (game : List (List Distribution)) (lists : List (List Move)) (items : List Move) (t k : ℕ)
    → ArePredecessors game lists → t < length game → items ≡ slice_index_or lists t [] → k < length items
    → (slice_index_or items k (move 0 0)).state < length game
predecessor-inside game lists items t k are inside is within =
    (predecessor-leads game lists items t k are inside is within).state

-- all predecessors are marked once all of the list are
pub all-marked : (game : List (List Distribution)) (lists : List (List Move)) (items : List Move) (marks : List Bool)
    (t s c : ℕ) → ArePredecessors game lists → t < length game → items ≡ slice_index_or lists t []
    → ((k : ℕ) → k < length items → IsMarked marks (slice_index_or items k (move 0 0)).state)
    → LeadsTo game s c t → IsMarked marks s
all-marked game lists items marks t s c are inside is each leads =
    let found : Contains items (move s c) =
    subst (λ (l : List Move). Contains l (move s c)) (sym is) ((listed-exactly are s c t inside).1 leads) in
    let same : slice_index_or items found.0 (move 0 0) ≡ move s c =
    get_or_default items found.0 (move 0 0) (move s c) found.1 ∙ found.2 in
    subst (λ (m : Move). IsMarked marks m.state) same (each found.0 found.1)

-- a mark is set
pub mark-kept : (marks : List Bool) (i s : ℕ) → i < length marks → IsMarked marks s
    → IsMarked (slice_set marks i true) s
mark-kept marks i s inside marked = elim (cases_eq s i) [
  | inl same ↦ subst (λ t. IsMarked (slice_set marks i true) t) (sym same) (rw get_or-set_same)
  | inr other ↦ rw get_or-set_other marked
]

pub mark-set : (marks : List Bool) (i : ℕ) → i < length marks → IsMarked (slice_set marks i true) i
mark-set marks i inside = rw get_or-set_same

-- and no other mark
pub mark-only : (marks : List Bool) (i s : ℕ) → IsMarked (slice_set marks i true) s → (s ≡ i) ⊎ IsMarked marks s
mark-only marks i s marked = elim (cases_eq s i) [
  | inl same ↦ inl same
  | inr other ↦ inr (sym (rw get_or-set_other refl) ∙ marked)
]
