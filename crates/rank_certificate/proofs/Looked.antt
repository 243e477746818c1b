-- A state that is looked at joins the next layer or stays, and what was found stays as it must be.
use Rattle.std.proofs.Common.{◌≡◌, ℕ, ◌+◌, ◌<◌, ◌⊎◌, cond, List, [], ◌∷◌, ◌++◌, length, set, append_assoc, arith, refl}
use Rattle.std.proofs.Common.{sym, ap, ◌∙◌, subst, inl, inr, Option, Some, None}
use Rattle.std.specs.Prelude.{slice_index_or, is_some}
use Rattle.std.proofs.lemmas.Bool.{cases_lt, cases_eq}
use Rattle.std.proofs.lemmas.List.{length-set, get_or-set_same, get_or-set_other, get_or_append_left, get_or_push}
use Rattle.std.proofs.lemmas.List.{length_push}
use Rattle.std.proofs.lemmas.List.Sums.{sum_by-set}
use Rattle.game_model.specs.Game.{choices_of, choice_of, no_edge}
use Rattle.game_model.specs.Query.{Query, IsQuery, states, side_at}
use Rattle.game_model.proofs.Longer.{longer-length}
use Rattle.rank_certificate.specs.Carrying.{IsCarriedBy, IsCarried, IsCarriedAt, IsChosen, IsChosenAt}
use Rattle.rank_certificate.specs.inside.RankLayers.{HasRankWithin, AreRankLayers, IsApart, Looks}
use Rattle.rank_certificate.proofs.States.{Some-one}
use Rattle.rank_certificate.proofs.Found.{low-rank, rank-low, Some-none, none-counts}
use Rattle.rank_certificate.proofs.Carried.{IsCarriedBy-more, IsChosen-same, IsCarried-more, next-parts, next-whole}
use Rattle.rank_certificate.proofs.Carried.{next-chosen}

-- what a state that is looked at leaves as it was
pub Looks-many : (q : Query) (value : ℕ → ℕ) (only : Option (List (Option ℕ))) (level s : ℕ)
    (ranks choices : List (Option ℕ)) (order : List ℕ) (ranks' choices' : List (Option ℕ)) (order' : List ℕ)
    → Looks q value only level s ranks choices order ranks' choices' order'
    → (length ranks' ≡ length ranks) × (length choices' ≡ length choices)
Looks-many q value only level s ranks choices order ranks' choices' order' (inl w) =
    (ap length w.new_ranks, ap length w.new_choices)
Looks-many q value only level s ranks choices order ranks' choices' order' (inr j) = (
  ap length j.new_ranks ∙ length-set ranks s (Some (level + 1)),
  ap length j.new_choices ∙ length-set choices s j.choice,
)

pub Looks-kept : (q : Query) (value : ℕ → ℕ) (only : Option (List (Option ℕ))) (level s : ℕ)
    (ranks choices : List (Option ℕ)) (order : List ℕ) (ranks' choices' : List (Option ℕ)) (order' : List ℕ)
    → Looks q value only level s ranks choices order ranks' choices' order' → (t : ℕ)
    → slice_index_or ranks' t None ≡ None → slice_index_or ranks t None ≡ None
Looks-kept q value only level s ranks choices order ranks' choices' order' (inl w) t left =
    ap (λ list. slice_index_or list t None) (sym w.new_ranks) ∙ left
Looks-kept q value only level s ranks choices order ranks' choices' order' (inr j) t left = elim (cases_eq t s) [
  | inl same ↦ ap (λ u. slice_index_or ranks u None) same ∙ j.none
  | inr other ↦ sym (get_or-set_other ranks s t (Some (level + 1)) None other)
      ∙ ap (λ list. slice_index_or list t None) (sym j.new_ranks) ∙ left
]

module _ (q : Query) (value : ℕ → ℕ) (only : Option (List (Option ℕ))) (level begin : ℕ)
    (old : List ℕ) (ranks choices : List (Option ℕ)) (order : List ℕ) (posed : IsQuery q)
    (h : AreRankLayers q value only level begin old ranks choices order) where
  -- low states are of the layer
  low-carried : (t : ℕ) → HasRankWithin ranks level t → IsCarried q value only level t
  low-carried t low =
      let found = low-rank ranks level t low in
      IsCarried-more q value only found.0 level t found.2 (h.layer t found.0 found.1).within

  module _ (s : ℕ) (inside : s < states q) where
    edge-inside : (c p : ℕ) → c < length (choices_of q.game s) → p < length (choice_of q.game s c).edges
        → (slice_index_or (choice_of q.game s c).edges p no_edge).to < states q
    edge-inside c p lc lp = posed.game.inside s c inside lc p no_edge lp

    by-layer : IsCarriedBy (side_at q s) q value only (HasRankWithin ranks level) s
        → IsCarriedBy (side_at q s) q value only (IsCarried q value only level) s
    by-layer = IsCarriedBy-more (side_at q s) q value only (HasRankWithin ranks level) (IsCarried q value only level) s
        (λ c p lc lp equal low. low-carried (slice_index_or (choice_of q.game s c).edges p no_edge).to low)

    by-low : IsCarriedBy (side_at q s) q value only (IsCarried q value only level) s
        → IsCarriedBy (side_at q s) q value only (HasRankWithin ranks level) s
    by-low = IsCarriedBy-more (side_at q s) q value only (IsCarried q value only level)
        (HasRankWithin ranks level) s (λ c p lc lp equal within.
        h.full (slice_index_or (choice_of q.game s c).edges p no_edge).to (edge-inside c p lc lp) within)

    here : slice_index_or (set ranks s (Some (level + 1))) s None ≡ Some (level + 1)
    here = get_or-set_same ranks s (Some (level + 1)) None (omega (arith, inside, h.many))

    -- after it was looked at it is apart, or has a rank
    pub Looks-apart : (ranks' choices' : List (Option ℕ)) (order' : List ℕ)
        → Looks q value only level s ranks choices order ranks' choices' order' → IsApart q value only level ranks' s
    Looks-apart ranks' choices' order' (inl w) left within =
        let none : slice_index_or ranks s None ≡ None =
        ap (λ list. slice_index_or list s None) (sym w.new_ranks) ∙ left in
        w.left none (by-low (next-parts q value only level s (h.needs s inside none) within))
    Looks-apart ranks' choices' order' (inr j) left within = Some-none (slice_index_or ranks' s None) (level + 1)
        (ap (λ list. slice_index_or list s None) j.new_ranks ∙ here) left

    -- a rank is the new one or an old one
    rank-cases : (t r : ℕ) → slice_index_or (set ranks s (Some (level + 1))) t None ≡ Some r
        → ((t ≡ s) × (r ≡ level + 1)) ⊎ (slice_index_or ranks t None ≡ Some r)
    rank-cases t r given = elim (cases_eq t s) [
      | inl same ↦ inl (
        same,
        Some-one (slice_index_or (set ranks s (Some (level + 1))) s None) r (level + 1)
            (sym (ap (λ u. slice_index_or (set ranks s (Some (level + 1))) u None) same) ∙ given) here,
      )
      | inr other ↦ inr (sym (get_or-set_other ranks s t (Some (level + 1)) None other) ∙ given)
    ]

    module _ (none : slice_index_or ranks s None ≡ None)
        (by : IsCarriedBy (side_at q s) q value only (HasRankWithin ranks level) s) (choice : Option ℕ)
        (chosen : IsChosen (side_at q s) q value only (HasRankWithin ranks level) s choice) where
      new-layer : IsCarriedAt q value only s (level + 1)
      new-layer = record {
        within = next-whole q value only level s (by-layer by);
        least = λ k within. elim (cases_lt level k) [
          | inl more ↦ omega (arith, more)
          | inr less ↦
              let found =
              low-rank ranks level s (h.full s inside (IsCarried-more q value only k level s less within)) in
              absurd (Some-none (slice_index_or ranks s None) found.0 found.1 none)
        ];
      }

      new-chosen : IsChosenAt q value only s (level + 1) (slice_index_or (set choices s choice) s None)
      new-chosen =
          subst (IsChosenAt q value only s (level + 1))
          (sym (get_or-set_same choices s choice None (omega (arith, inside, h.as_many))))
          (next-chosen q value only level s choice
          (IsChosen-same q value only (HasRankWithin ranks level) (IsCarried q value only level) s
          (λ c p lc lp low. low-carried (slice_index_or (choice_of q.game s c).edges p no_edge).to low)
          (λ c p lc lp within. h.full (slice_index_or (choice_of q.game s c).edges p no_edge).to
          (edge-inside c p lc lp) within) (side_at q s) choice chosen))

      -- a state with an old rank is another one
      old-other : (t r : ℕ) → slice_index_or ranks t None ≡ Some r → t ≡ s → ⊥
      old-other t r known same =
          Some-none (slice_index_or ranks t None) r known (ap (λ u. slice_index_or ranks u None) same ∙ none)

      old-chosen : (t r : ℕ) → slice_index_or ranks t None ≡ Some r
          → IsChosenAt q value only t r (slice_index_or (set choices s choice) t None)
      old-chosen t r known = subst (IsChosenAt q value only t r)
          (sym (get_or-set_other choices s t choice None (old-other t r known))) (h.chosen t r known)

      old-rank : (t r : ℕ) → slice_index_or ranks t None ≡ Some r
          → slice_index_or (set ranks s (Some (level + 1))) t None ≡ Some r
      old-rank t r known = get_or-set_other ranks s t (Some (level + 1)) None (old-other t r known) ∙ known

      still-left : (t : ℕ) → slice_index_or (set ranks s (Some (level + 1))) t None ≡ None
          → slice_index_or ranks t None ≡ None
      still-left t left = elim (cases_eq t s) [
        | inl same ↦ absurd (Some-none (slice_index_or (set ranks s (Some (level + 1))) t None) (level + 1)
            (ap (λ u. slice_index_or (set ranks s (Some (level + 1))) u None) same ∙ here) left)
        | inr other ↦ sym (get_or-set_other ranks s t (Some (level + 1)) None other) ∙ left
      ]

      still-low : (t : ℕ) → HasRankWithin ranks level t → HasRankWithin (set ranks s (Some (level + 1))) level t
      still-low t low =
          let found = low-rank ranks level t low in
          rank-low (set ranks s (Some (level + 1))) level t found.0 (old-rank t found.0 found.1) found.2

      joined : AreRankLayers q value only level begin old (set ranks s (Some (level + 1)))
          (set choices s choice) (order ++ s ∷ [])
      joined = record {
        many = length-set ranks s (Some (level + 1)) ∙ h.many;
        as_many = length-set choices s choice ∙ h.as_many;
        few = omega (
          arith,
          h.few,
          length_push order s,
          sum_by-set (λ (o : Option ℕ). cond (is_some o) 1 0) ranks s (Some (level + 1)) None
              (omega (arith, inside, h.many)),
          none-counts (slice_index_or ranks s None) none,
        );
        longer =
            let more = h.longer in
            (more.0 ++ s ∷ [], ap (λ list. list ++ s ∷ []) more.1 ∙ append_assoc old more.0 (s ∷ []));
        inside = λ k l. elim (cases_lt k (length order)) [
          | inl below ↦ omega (arith, get_or_append_left order (s ∷ []) 0 k below, h.inside k below)
          | inr last ↦
              let at : length order ≡ k = omega (arith, l, last, length_push order s) in
              omega (arith, get_or_push order s 0 k at, inside)
        ];
        most = λ t r given. elim (rank-cases t r given) [
          | inl new ↦ omega (arith, new.1)
          | inr known ↦ h.most t r known
        ];
        now = λ t given. elim (rank-cases t level given) [
          | inl new ↦ absurd (omega (arith, new.1))
          | inr known ↦ h.now t known
        ];
        next = λ t given. elim (rank-cases t (level + 1) given) [
          | inl new ↦ (
            length order,
            longer-length old order h.longer,
            omega (arith, length_push order s),
            get_or_push order s 0 (length order) refl ∙ sym new.0,
          )
          | inr known ↦
              let at = h.next t known in (
                at.0,
                at.1,
                omega (arith, at.2, length_push order s),
                get_or_append_left order (s ∷ []) 0 at.0 at.2 ∙ at.3,
              )
        ];
        layer = λ t r given. elim (rank-cases t r given) [
          | inl new ↦ subst (λ u. IsCarriedAt q value only u r) (sym new.0)
              (subst (λ n. IsCarriedAt q value only s n) (sym new.1) new-layer)
          | inr known ↦ h.layer t r known
        ];
        chosen = λ t r given. elim (rank-cases t r given) [
          | inl new ↦ subst (λ u. IsChosenAt q value only u r (slice_index_or (set choices s choice) u None))
              (sym new.0) (subst (λ n. IsChosenAt q value only s n (slice_index_or (set choices s choice) s None))
              (sym new.1) new-chosen)
          | inr known ↦ old-chosen t r known
        ];
        full = λ t l within. still-low t (h.full t l within);
        needs = λ t l left. h.needs t l (still-left t left);
      }

    pub Looks-grown : (ranks' choices' : List (Option ℕ)) (order' : List ℕ)
        → Looks q value only level s ranks choices order ranks' choices' order'
        → AreRankLayers q value only level begin old ranks' choices' order'
    Looks-grown ranks' choices' order' (inl w) =
        subst (λ list. AreRankLayers q value only level begin old list choices' order') (sym w.new_ranks)
        (subst (λ list. AreRankLayers q value only level begin old ranks list order') (sym w.new_choices)
        (subst (λ list. AreRankLayers q value only level begin old ranks choices list) (sym w.new_order) h))
    Looks-grown ranks' choices' order' (inr j) =
        subst (λ list. AreRankLayers q value only level begin old list choices' order') (sym j.new_ranks)
        (subst (λ list. AreRankLayers q value only level begin old (set ranks s (Some (level + 1))) list order')
        (sym j.new_choices)
        (subst (λ list. AreRankLayers q value only level begin old (set ranks s (Some (level + 1)))
        (set choices s j.choice) list) (sym j.new_order) (joined j.none j.carried j.choice j.chosen)))
