-- States that are carried into others.
use Rattle.std.proofs.Common.{◌≡◌, ℕ, zero, suc, ◌+◌, ◌-◌, ◌<◌, ◌≤◌, List, length, arith, subst, sym, inl, inr}
use Rattle.std.proofs.Common.{Option, Some, None, add-one}
use Rattle.std.specs.Prelude.{slice_index_or}
use Rattle.game_model.specs.declared.game.Side.{Side}
use Rattle.game_model.specs.declared.game.Side.TheVariants.{Max, Min}
use Rattle.game_model.specs.Game.{Distribution, choices_of, choice_of, no_edge}
use Rattle.game_model.specs.Query.{Query, side_at}
use Rattle.rank_certificate.specs.Ranking.{NeedsRank}
use Rattle.rank_certificate.specs.Layers.{LeadsInto}
use Rattle.rank_certificate.specs.Carrying.{Carries, IsCarriedBy, IsCarried, IsFirstCarrying, IsChosen, IsChosenAt}

-- where it leads into some states of its value it leads into more
pub LeadsInto-more : (value : ℕ → ℕ) (among more : ℕ → Type 0) (s : ℕ) (m : Distribution)
    → ((p : ℕ) → p < length m.edges → value (slice_index_or m.edges p no_edge).to ≡ value s
    → among (slice_index_or m.edges p no_edge).to → more (slice_index_or m.edges p no_edge).to)
    → LeadsInto value among s m → LeadsInto value more s m
LeadsInto-more value among more s m larger h = record {
  place = h.place;
  inside = h.inside;
  onward = elim h.onward [
    | inl greater ↦ inl greater
    | inr equal ↦ inr (equal.0, larger h.place h.inside equal.0 equal.1)
  ];
}

-- and what is carried into them is carried into more
pub Carries-more : (q : Query) (value : ℕ → ℕ) (only : Option (List (Option ℕ))) (among more : ℕ → Type 0) (s c : ℕ)
    → ((p : ℕ) → p < length (choice_of q.game s c).edges
    → value (slice_index_or (choice_of q.game s c).edges p no_edge).to ≡ value s
    → among (slice_index_or (choice_of q.game s c).edges p no_edge).to
    → more (slice_index_or (choice_of q.game s c).edges p no_edge).to) → Carries q value only among s c
    → Carries q value only more s c
Carries-more q value only among more s c larger h =
    record { may = h.may; leads = LeadsInto-more value among more s (choice_of q.game s c) larger h.leads }

pub IsCarriedBy-more : (side : Side) (q : Query) (value : ℕ → ℕ) (only : Option (List (Option ℕ)))
    (among more : ℕ → Type 0) (s : ℕ)
    → ((c p : ℕ) → c < length (choices_of q.game s) → p < length (choice_of q.game s c).edges
    → value (slice_index_or (choice_of q.game s c).edges p no_edge).to ≡ value s
    → among (slice_index_or (choice_of q.game s c).edges p no_edge).to
    → more (slice_index_or (choice_of q.game s c).edges p no_edge).to)
    → IsCarriedBy side q value only among s → IsCarriedBy side q value only more s
IsCarriedBy-more Max q value only among more s larger (c, inside, h) =
    (c, inside, Carries-more q value only among more s c (λ p l. larger c p inside l) h)
IsCarriedBy-more Min q value only among more s larger h =
    λ c inside. Carries-more q value only among more s c (λ p l. larger c p inside l) (h c inside)

-- the first choice is the same where the states are
module _ (q : Query) (value : ℕ → ℕ) (only : Option (List (Option ℕ))) (among more : ℕ → Type 0) (s : ℕ)
    (larger : (c p : ℕ) → c < length (choices_of q.game s) → p < length (choice_of q.game s c).edges
    → among (slice_index_or (choice_of q.game s c).edges p no_edge).to
    → more (slice_index_or (choice_of q.game s c).edges p no_edge).to)
    (smaller : (c p : ℕ) → c < length (choices_of q.game s) → p < length (choice_of q.game s c).edges
    → more (slice_index_or (choice_of q.game s c).edges p no_edge).to
    → among (slice_index_or (choice_of q.game s c).edges p no_edge).to) where
  IsFirstCarrying-same : (choice : ℕ) → IsFirstCarrying q value only among s choice
      → IsFirstCarrying q value only more s choice
  IsFirstCarrying-same choice h = record {
    inside = h.inside;
    carries = Carries-more q value only among more s choice (λ p l equal. larger choice p h.inside l) h.carries;
    before = λ c less carried.
        let inside : c < length (choices_of q.game s) = omega (arith, less, h.inside) in
        h.before c less (Carries-more q value only more among s c (λ p l equal. smaller c p inside l) carried);
  }

  pub IsChosen-same : (side : Side) (choice : Option ℕ) → IsChosen side q value only among s choice
      → IsChosen side q value only more s choice
  IsChosen-same Max None h = absurd h
  IsChosen-same Max (Some c) h = IsFirstCarrying-same c h
  IsChosen-same Min choice h = h

IsCarried-next : (q : Query) (value : ℕ → ℕ) (only : Option (List (Option ℕ))) (r s : ℕ) → IsCarried q value only r s
    → IsCarried q value only (suc r) s
unfolding IsCarried
IsCarried-next q value only zero s h = inl h
IsCarried-next q value only (suc r) s (inl none) = inl none
IsCarried-next q value only (suc r) s (inr by) =
    inr (IsCarriedBy-more (side_at q s) q value only (IsCarried q value only r)
    (IsCarried q value only (suc r)) s (λ c p lc lp equal within.
    IsCarried-next q value only r (slice_index_or (choice_of q.game s c).edges p no_edge).to within) by)

IsCarried-later : (q : Query) (value : ℕ → ℕ) (only : Option (List (Option ℕ))) (r s d : ℕ) → IsCarried q value only r s
    → (k : ℕ) → d + r ≡ k → IsCarried q value only k s
IsCarried-later q value only r s zero h k is =
    subst (λ n. IsCarried q value only n s) (let same : r ≡ k = omega (arith, is) in same) h
IsCarried-later q value only r s (suc d) h zero is = absurd (omega (arith, is))
IsCarried-later q value only r s (suc d) h (suc k) is =
    IsCarried-next q value only k s (IsCarried-later q value only r s d h k (omega (arith, is)))

-- a layer has the states of each one before
pub IsCarried-more : (q : Query) (value : ℕ → ℕ) (only : Option (List (Option ℕ))) (r k s : ℕ) → r ≤ k
    → IsCarried q value only r s → IsCarried q value only k s
IsCarried-more q value only r k s h within = IsCarried-later q value only r s (k - r) within k (omega (arith, h))

pub carried-free : (q : Query) (value : ℕ → ℕ) (only : Option (List (Option ℕ))) (s : ℕ) → IsCarried q value only 0 s
    → ¬ NeedsRank q value s
unfolding IsCarried
carried-free q value only s within = within

pub free-carried : (q : Query) (value : ℕ → ℕ) (only : Option (List (Option ℕ))) (s : ℕ) → ¬ NeedsRank q value s
    → IsCarried q value only 0 s
unfolding IsCarried
free-carried q value only s free = free

-- a state of a later layer is carried into the one before
pub suc-parts : (q : Query) (value : ℕ → ℕ) (only : Option (List (Option ℕ))) (r s : ℕ) → NeedsRank q value s
    → IsCarried q value only (suc r) s → IsCarriedBy (side_at q s) q value only (IsCarried q value only r) s
unfolding IsCarried
suc-parts q value only r s needs (inl none) = absurd (none needs)
suc-parts q value only r s needs (inr by) = by

pub suc-whole : (q : Query) (value : ℕ → ℕ) (only : Option (List (Option ℕ))) (r s : ℕ)
    → IsCarriedBy (side_at q s) q value only (IsCarried q value only r) s → IsCarried q value only (suc r) s
unfolding IsCarried
suc-whole q value only r s by = inr by

pub next-parts : (q : Query) (value : ℕ → ℕ) (only : Option (List (Option ℕ))) (r s : ℕ) → NeedsRank q value s
    → IsCarried q value only (r + 1) s → IsCarriedBy (side_at q s) q value only (IsCarried q value only r) s
next-parts q value only r s needs within =
    suc-parts q value only r s needs (subst (λ n. IsCarried q value only n s) (add-one r) within)

pub next-whole : (q : Query) (value : ℕ → ℕ) (only : Option (List (Option ℕ))) (r s : ℕ)
    → IsCarriedBy (side_at q s) q value only (IsCarried q value only r) s → IsCarried q value only (r + 1) s
next-whole q value only r s by =
    subst (λ n. IsCarried q value only n s) (sym (add-one r)) (suc-whole q value only r s by)

pub next-chosen : (q : Query) (value : ℕ → ℕ) (only : Option (List (Option ℕ))) (r s : ℕ) (choice : Option ℕ)
    → IsChosen (side_at q s) q value only (IsCarried q value only r) s choice → IsChosenAt q value only s (r + 1) choice
next-chosen q value only r s choice h = subst (λ (n : ℕ). IsChosenAt q value only s n choice) (sym (add-one r)) h
