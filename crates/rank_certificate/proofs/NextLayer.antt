-- Layer 0, and a layer that is done: it begins the next one.
use Rattle.std.proofs.Common.{◌≡◌, ℕ, zero, suc, ◌+◌, ◌<◌, ◌≤◌, List, [], length, append-nil, arith, refl, sym, ap, ◌∙◌}
use Rattle.std.proofs.Common.{subst, inl, inr, Option, Some, None}
use Rattle.std.specs.Prelude.{slice_index, slice_index_or}
use Rattle.std.proofs.lemmas.Bool.{cases_lt}
use Rattle.game_model.specs.declared.game.Side.{Side}
use Rattle.game_model.specs.declared.game.Side.TheVariants.{Max, Min}
use Rattle.game_model.specs.Game.{choices_of, choice_of, no_edge}
use Rattle.game_model.specs.Query.{Query, IsQuery, states, side_at}
use Rattle.predecessors.specs.Moves.{LeadsTo}
use Rattle.rank_certificate.specs.Ranking.{NeedsRank}
use Rattle.rank_certificate.specs.Carrying.{Carries, IsCarriedBy, IsCarried, IsCarriedAt, IsChosenAt}
use Rattle.rank_certificate.specs.inside.RankLayers.{HasRankWithin, IsOpened, AreRankLayers, IsApart, AreFollowed}
use Rattle.rank_certificate.proofs.Found.{low-rank, rank-low, Some-none, low-inside, same-entry}
use Rattle.predecessors.proofs.Successors.{edge-leads}
use Rattle.rank_certificate.proofs.Carried.{Carries-more, IsCarried-more, carried-free, free-carried, suc-whole}
use Rattle.rank_certificate.proofs.Carried.{next-parts}

-- where each state is apart or has a rank, the next layer begins
module _ (q : Query) (value : ℕ → ℕ) (only : Option (List (Option ℕ))) (level begin : ℕ) (old : List ℕ)
    (ranks choices : List (Option ℕ)) (order : List ℕ)
    (h : AreRankLayers q value only level begin old ranks choices order)
    (apart : (s : ℕ) → s < states q → IsApart q value only level ranks s) where
  next-full : (s : ℕ) → s < states q → IsCarried q value only (level + 1) s → (o : Option ℕ)
      → slice_index_or ranks s None ≡ o → HasRankWithin ranks (level + 1) s
  next-full s inside within None left = absurd (apart s inside left within)
  next-full s inside within (Some r) given =
      rank-low ranks (level + 1) s r given ((h.layer s r given).least (level + 1) within)

  pub RankLayers-step : AreRankLayers q value only (level + 1) (length old) order ranks choices order
  RankLayers-step = record {
    many = h.many;
    as_many = h.as_many;
    few = h.few;
    longer = ([], sym (append-nil order));
    inside = h.inside;
    most = λ s r given. omega (arith, h.most s r given);
    now = h.next;
    next = λ s given. absurd (omega (arith, h.most s (level + 1 + 1) given));
    layer = h.layer;
    chosen = h.chosen;
    full = λ s l within. next-full s l within (slice_index_or ranks s None) refl;
    needs = h.needs;
  }

-- where all moves were followed to the states of a layer, each state is apart or has a rank
module _ (q : Query) (value : ℕ → ℕ) (only : Option (List (Option ℕ))) (l begin : ℕ)
    (old : List ℕ) (ranks choices : List (Option ℕ)) (order : List ℕ) (posed : IsQuery q)
    (h : AreRankLayers q value only (suc l) begin old ranks choices order)
    (followed : AreFollowed q value only (suc l) old begin (length old) ranks) (s : ℕ) (inside : s < states q)
    (left : slice_index_or ranks s None ≡ None) (within : IsCarried q value only (suc l + 1) s) where
  earlier : IsCarriedBy (side_at q s) q value only (IsCarried q value only (suc l)) s
      → (c p : ℕ) → c < length (choices_of q.game s)
      → Carries q value only (IsCarried q value only (suc l)) s c → p < length (choice_of q.game s c).edges
      → value (slice_index_or (choice_of q.game s c).edges p no_edge).to ≡ value s
      → IsCarried q value only (suc l) (slice_index_or (choice_of q.game s c).edges p no_edge).to
      → IsCarried q value only l (slice_index_or (choice_of q.game s c).edges p no_edge).to
  earlier by c p lc carried lp equal there =
      let t : ℕ = (slice_index_or (choice_of q.game s c).edges p no_edge).to in
      let found = low-rank ranks (suc l) t (h.full t (posed.game.inside s c inside lc p no_edge lp) there) in
      elim (cases_lt found.0 (suc l)) [
        | inl less ↦ IsCarried-more q value only found.0 l t (omega (arith, less)) (h.layer t found.0 found.1).within
        | inr last ↦
            let is : found.0 ≡ suc l = omega (arith, last, found.2) in
            let at = h.now t (found.1 ∙ ap (λ (r : ℕ). Some r) is) in
            absurd (followed at.0 s c at.1 at.2 (subst (λ u. LeadsTo q.game s c u) (sym at.3)
            (edge-leads q.game s c p inside lc lp)) (ap value at.3 ∙ equal) left carried by)
      ]

  by-earlier : IsCarriedBy (side_at q s) q value only (IsCarried q value only (suc l)) s
      → (side : Side) → IsCarriedBy side q value only (IsCarried q value only (suc l)) s
      → IsCarriedBy side q value only (IsCarried q value only l) s
  by-earlier by Max (c, lc, carried) = (
    c,
    lc,
    Carries-more q value only (IsCarried q value only (suc l)) (IsCarried q value only l) s c
        (λ p lp. earlier by c p lc carried lp) carried,
  )
  by-earlier by Min all = λ c lc. Carries-more q value only (IsCarried q value only (suc l))
      (IsCarried q value only l) s c (λ p lp. earlier by c p lc (all c lc) lp) (all c lc)

  not-followed : ⊥
  not-followed =
      let by : IsCarriedBy (side_at q s) q value only (IsCarried q value only (suc l)) s =
      next-parts q value only (suc l) s (h.needs s inside left) within in
      let found =
      low-rank ranks (suc l) s (h.full s inside (suc-whole q value only l s (by-earlier by (side_at q s) by))) in
      Some-none (slice_index_or ranks s None) found.0 found.1 left

pub followed-apart : (q : Query) (value : ℕ → ℕ) (only : Option (List (Option ℕ)))
    (level begin : ℕ) (old : List ℕ) (ranks choices : List (Option ℕ)) (order : List ℕ)
    → IsQuery q → 1 ≤ level → AreRankLayers q value only level begin old ranks choices order
    → AreFollowed q value only level old begin (length old) ranks → (s : ℕ) → s < states q
    → IsApart q value only level ranks s
followed-apart q value only zero begin old ranks choices order posed some h followed s inside left within =
    absurd (omega (arith, some))
followed-apart q value only (suc l) begin old ranks choices order posed some h followed s inside left within =
    not-followed q value only l begin old ranks choices order posed h followed s inside left within

-- the states that need no rank are layer 0
module _ (q : Query) (value : ℕ → ℕ) (only : Option (List (Option ℕ))) (ranks choices : List (Option ℕ))
    (order : List ℕ) (h : IsOpened q value (states q) ranks order) where
  opened-at : (s r : ℕ) → r ≡ 0 → ¬ NeedsRank q value s → IsCarriedAt q value only s r
  opened-at s r is free = subst (IsCarriedAt q value only s) (sym is)
      (record { within = free-carried q value only s free; least = λ k within. omega arith })

  opened-low : (s : ℕ) → s < states q → ¬ NeedsRank q value s → (o : Option ℕ) → slice_index_or ranks s None ≡ o
      → HasRankWithin ranks 0 s
  opened-low s inside free None left = absurd (free (h.needs s inside left))
  opened-low s inside free (Some r) given = rank-low ranks 0 s r given (omega (arith, (h.found s r given).0))

  opened-chosen : ((s : ℕ) → slice_index_or choices s None ≡ None) → (s r : ℕ) → r ≡ 0
      → IsChosenAt q value only s r (slice_index_or choices s None)
  opened-chosen none s r is =
      subst (λ (n : ℕ). IsChosenAt q value only s n (slice_index_or choices s None)) (sym is) (none s)

  pub Opened-layers : length choices ≡ states q → ((s : ℕ) → slice_index_or choices s None ≡ None)
      → AreRankLayers q value only 0 0 order ranks choices order
  Opened-layers as_many none = record {
    many = h.many;
    as_many = as_many;
    few = h.few;
    longer = ([], sym (append-nil order));
    inside = λ k l. omega (
      arith,
      h.many,
      low-inside ranks 0 (slice_index order k) (rank-low ranks 0 (slice_index order k) 0 (h.listed k l) (omega arith)),
    );
    most = λ s r given. omega (arith, (h.found s r given).0);
    now = λ s given. let at = (h.found s 0 given).2 in (at.0, omega arith, at.1, same-entry order at.0 s at.1 ∙ at.2);
    next = λ s given. absurd (omega (arith, (h.found s 1 given).0));
    layer = λ s r given. opened-at s r (h.found s r given).0 (h.found s r given).1;
    chosen = λ s r given. opened-chosen none s r (h.found s r given).0;
    full = λ s l within. opened-low s l (carried-free q value only s within) (slice_index_or ranks s None) refl;
    needs = h.needs;
  }
