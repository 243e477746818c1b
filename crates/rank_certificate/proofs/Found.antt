-- Ranks that were found, and the first of them: those of the states that need none.
use Rattle.std.proofs.Common.{◌≡◌, ℕ, zero, suc, ◌+◌, ◌<◌, ◌≤◌, ◌⊎◌, cond, List, [], ◌∷◌, ◌++◌, length, arith, refl}
use Rattle.std.proofs.Common.{sym, ap, ◌∙◌, subst, inl, inr, Option, Some, None}
use Rattle.std.specs.Prelude.{slice_index, slice_index_or, Contains, IsSomeAnd, is_some}
use Rattle.std.proofs.lemmas.Bool.{cases_lt}
use Rattle.std.proofs.lemmas.List.{get_or_append_left, get_or_push, length_push, get_or_past}
use Rattle.std.proofs.lemmas.List.Sums.{sum_by-append}
use Rattle.std.proofs.lemmas.List.Elements.{Contains-append_left, Contains-push}
use Rattle.game_model.specs.Query.{Query}
use Rattle.rank_certificate.specs.Ranking.{NeedsRank}
use Rattle.rank_certificate.specs.inside.RankLayers.{HasRankWithin, IsOpened}
use Rattle.rank_certificate.proofs.States.{Some-one}

low-rank-of : (o : Option ℕ) (level : ℕ) → IsSomeAnd o (λ r. r ≤ level) → (r : ℕ) × (o ≡ Some r) × (r ≤ level)
low-rank-of None level h = absurd h
low-rank-of (Some r) level h = (r, refl, h)

-- a low state has a rank
pub low-rank : (ranks : List (Option ℕ)) (level s : ℕ) → HasRankWithin ranks level s
    → (r : ℕ) × (slice_index_or ranks s None ≡ Some r) × (r ≤ level)
low-rank ranks level s h = low-rank-of (slice_index_or ranks s None) level h

pub rank-low : (ranks : List (Option ℕ)) (level s r : ℕ) → slice_index_or ranks s None ≡ Some r → r ≤ level
    → HasRankWithin ranks level s
rank-low ranks level s r given h = rw given h

pub Some-none : (o : Option ℕ) (a : ℕ) → o ≡ Some a → o ≡ None → ⊥
Some-none o a h k = let same : Some a ≡ None = sym h ∙ k in cc

pub none-counts : (o : Option ℕ) → o ≡ None → ◌≡◌ {A = ℕ} (cond (is_some o) 1 0) 0
none-counts o h = rw h refl

some-counts : (o : Option ℕ) (r : ℕ) → o ≡ Some r → ◌≡◌ {A = ℕ} (cond (is_some o) 1 0) 1
some-counts o r h = rw h refl

-- a state of a rank is one of the game
pub low-inside : (ranks : List (Option ℕ)) (level s : ℕ) → HasRankWithin ranks level s → s < length ranks
low-inside ranks level s low = elim (cases_lt s (length ranks)) [
  | inl inside ↦ inside
  | inr past ↦
      let found = low-rank ranks level s low in
      let none : slice_index_or ranks s None ≡ None = get_or_past ranks s None past in
      let no : None ≡ Some found.0 = sym none ∙ found.1 in absurd (cc)
]

-- an entry, whatever stands for one that is missing
pub same-entry : (xs : List ℕ) (k d : ℕ) → k < length xs → slice_index xs k ≡ slice_index_or xs k d
same-entry [] k d l = absurd (omega arith)
same-entry (x ∷ xs) zero d l = refl
same-entry (x ∷ xs) (suc k) d l = same-entry xs k d (omega arith)

module _ (q : Query) (value : ℕ → ℕ) (count : ℕ) (ranks : List (Option ℕ)) (order : List ℕ)
    (h : IsOpened q value count ranks order) where
  pushed-cases : (o : Option ℕ) (s r : ℕ) → slice_index_or (ranks ++ o ∷ []) s None ≡ Some r
      → (slice_index_or ranks s None ≡ Some r) ⊎ ((s ≡ count) × (o ≡ Some r))
  pushed-cases o s r given = elim (cases_lt s (length ranks)) [
    | inl below ↦ inl (sym (get_or_append_left ranks (o ∷ []) None s below) ∙ given)
    | inr above ↦ elim (cases_lt (length ranks) s) [
      | inl past ↦
          let none : slice_index_or (ranks ++ o ∷ []) s None ≡ None =
          get_or_past (ranks ++ o ∷ []) s None (omega (arith, past, length_push ranks o)) in
          absurd (Some-none (slice_index_or (ranks ++ o ∷ []) s None) r given none)
      | inr last ↦
          let at : length ranks ≡ s = omega (arith, above, last) in
          inr (omega (arith, at, h.many), sym (get_or_push ranks o None s at) ∙ given)
    ]
  ]

  in-ranks : (k : ℕ) → k < length order → slice_index order k < length ranks
  in-ranks k l = elim (cases_lt (slice_index order k) (length ranks)) [
    | inl inside ↦ inside
    | inr past ↦ absurd (Some-none (slice_index_or ranks (slice_index order k) None) 0 (h.listed k l)
        (get_or_past ranks (slice_index order k) None past))
  ]

  -- one state more, which needs a rank
  Opened-needs : NeedsRank q value count → IsOpened q value (count + 1) (ranks ++ None ∷ []) order
  Opened-needs needs = record {
    many = omega (arith, h.many, length_push ranks None);
    few = omega
        (arith, h.few, sum_by-append (λ (o : Option ℕ). cond (is_some o) 1 0) ranks (None ∷ []), none-counts None refl);
    found = λ s r given. elim (pushed-cases None s r given) [
      | inl known ↦ h.found s r known
      | inr new ↦ absurd (Some-none None r new.1 refl)
    ];
    needs = λ s l left. elim (cases_lt s count) [
      | inl below ↦ h.needs s below
          (sym (get_or_append_left ranks (None ∷ []) None s (omega (arith, below, h.many))) ∙ left)
      | inr last ↦ let same : s ≡ count = omega (arith, l, last) in subst (NeedsRank q value) (sym same) needs
    ];
    listed = λ k l.
        let known = h.listed k l in
        get_or_append_left ranks (None ∷ []) None (slice_index order k) (in-ranks k l) ∙ known;
  }

  -- one that needs none
  Opened-free : ¬ NeedsRank q value count → IsOpened q value (count + 1) (ranks ++ Some 0 ∷ []) (order ++ count ∷ [])
  Opened-free free = record {
    many = omega (arith, h.many, length_push ranks (Some 0));
    few = omega (
      arith,
      h.few,
      length_push order count,
      sum_by-append (λ (o : Option ℕ). cond (is_some o) 1 0) ranks (Some 0 ∷ []),
      some-counts (Some 0) 0 refl,
    );
    found = λ s r given. elim (pushed-cases (Some 0) s r given) [
      | inl known ↦ let old = h.found s r known in (old.0, old.1, Contains-append_left order (count ∷ []) s old.2)
      | inr new ↦ (
        sym (Some-one (Some 0) 0 r refl new.1),
        subst (λ u. ¬ NeedsRank q value u) (sym new.0) free,
        subst (λ u. Contains (order ++ count ∷ []) u) (sym new.0) (Contains-push order count),
      )
    ];
    needs = λ s l left. elim (cases_lt s count) [
      | inl below ↦ h.needs s below
          (sym (get_or_append_left ranks (Some 0 ∷ []) None s (omega (arith, below, h.many))) ∙ left)
      | inr last ↦ absurd (Some-none (slice_index_or (ranks ++ Some 0 ∷ []) s None) 0
          (get_or_push ranks (Some 0) None s (omega (arith, l, last, h.many))) left)
    ];
    listed = λ k l. elim (cases_lt k (length order)) [
      | inl below ↦
          ap (λ u. slice_index_or (ranks ++ Some 0 ∷ []) u None) (get_or_append_left order (count ∷ []) 0 k below)
          ∙ get_or_append_left ranks (Some 0 ∷ []) None (slice_index order k) (in-ranks k below) ∙ h.listed k below
      | inr last ↦
          ap (λ u. slice_index_or (ranks ++ Some 0 ∷ []) u None)
          (get_or_push order count 0 k (omega (arith, l, last, length_push order count)))
          ∙ get_or_push ranks (Some 0) None count h.many
    ];
  }

  -- the same over lists that were pushed to
  pub Opened-needs-in : (ranks' : List (Option ℕ)) (order' : List ℕ) → NeedsRank q value count
      → ranks' ≡ ranks ++ None ∷ [] → order' ≡ order → IsOpened q value (count + 1) ranks' order'
  Opened-needs-in ranks' order' needs is_ranks is_order =
      subst (λ list. IsOpened q value (count + 1) list order') (sym is_ranks)
      (subst (λ list. IsOpened q value (count + 1) (ranks ++ None ∷ []) list) (sym is_order) (Opened-needs needs))

  pub Opened-free-in : (ranks' : List (Option ℕ)) (order' : List ℕ) → ¬ NeedsRank q value count
      → ranks' ≡ ranks ++ Some 0 ∷ [] → order' ≡ order ++ count ∷ [] → IsOpened q value (count + 1) ranks' order'
  Opened-free-in ranks' order' free is_ranks is_order =
      subst (λ list. IsOpened q value (count + 1) list order') (sym is_ranks)
      (subst (λ list. IsOpened q value (count + 1) (ranks ++ Some 0 ∷ []) list) (sym is_order) (Opened-free free))
