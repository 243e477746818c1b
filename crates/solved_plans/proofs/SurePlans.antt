-- The almost-sure states have a plan: choices by ranks, with the unit at each of them.
use Rattle.std.proofs.Common.{◌≡◌, ℕ, ◌*◌, ◌^◌, ◌<◌, ◌≤◌, Bool, true, false, List, [], ◌∷◌, length, map, get_or, arith}
use Rattle.std.proofs.Common.{refl, sym, ap, ◌∙◌, inl, inr, sum_by, Option, Some, None}
use Rattle.std.specs.Prelude.{slice_index, slice_index_or, if◌then◌else◌}
use Rattle.std.specs.List.{All, range_with_len}
use Rattle.std.proofs.lemmas.Bool.{cases_Bool, cases_lt}
use Rattle.std.proofs.lemmas.List.Elements.{All-head, All-tail}
use Rattle.std.proofs.lemmas.List.FromFn.{get_or-map-range_with_len}
use Rattle.std.proofs.lemmas.List.Sums.{sum_by-cons}
use Rattle.game_model.specs.declared.game.Edge.{Edge}
use Rattle.game_model.specs.declared.game.Side.TheVariants.{Max, Min}
use Rattle.game_model.specs.Game.{Distribution, no_edge, choices_of, choice_of}
use Rattle.game_model.specs.Limits.{unit}
use Rattle.game_model.specs.Query.{Query, IsQuery, states, is_goal, is_dead, side_at}
use Rattle.game_model.specs.Values.{weighted_sum, denominator, numerator}
use Rattle.game_model.specs.Ranks.{Ranked, IsRankedChoice}
use Rattle.game_model.specs.Tables.{IsTable}
use Rattle.game_model.proofs.Choices.{IsChoiceOf, IsChoiceOf-choice_of}
use Rattle.game_model.proofs.Rises.{numerator_of-goal}
use Rattle.rank_certificate.specs.Carrying.{CanBeRanked}
use Rattle.almost_sure.specs.Values.{IsAlmostSure, AreAlmostSure}
use Rattle.almost_sure.proofs.Away.{IsAway-dead}
use Rattle.almost_sure.proofs.Reaching.{IsAway-not_sure}
use Rattle.solved_plans.specs.Bounds.{sure_value}
use Rattle.solved_plans.proofs.Tests.{no-goal, cases_side}
use Rattle.solved_plans.proofs.Layers.{Nears, AreNearing, sure-ranks}

value-true : (b : Bool) → b ≡ true → (if b then unit else 0) ≡ unit
value-true b h = rw h refl

value-false : (b : Bool) → b ≡ false → ◌≡◌ {A = ℕ} (if b then unit else 0) 0
value-false b h = rw h refl

value-some : (b : Bool) → 0 < (if b then unit else 0) → b ≡ true
value-some true h = refl
value-some false h = absurd (omega (arith, h))

value-most : (b : Bool) → (if b then unit else 0) ≤ unit
value-most true = let at : unit ≤ unit = omega arith in at
value-most false = let at : 0 ≤ unit = omega arith in at

-- a sum over successors that all have one value
sum-whole : (v : ℕ → ℕ) (c : ℕ) (edges : List Edge) → All (λ e. v e.to ≡ c) edges
    → sum_by (λ e. e.weight) edges * c ≤ weighted_sum v edges
sum-whole v c [] h = omega arith
sum-whole v c (e ∷ es) h =
    rw (sum_by-cons (λ (d : Edge). d.weight * v d.to) e es, sum_by-cons (λ (d : Edge). d.weight) e es)
    (omega (
      arith,
      sum-whole v c es (All-tail (λ (d : Edge). v d.to ≡ c) e es h),
      ap (λ x. e.weight * x) (All-head (λ (d : Edge). v d.to ≡ c) e es h),
    ))

whole-enough : (v t x w u : ℕ) → w ≡ t → v ≡ u → w * u ≤ x → v * t ≤ x
whole-enough v t x w u same value h = rw (value, ← same) (omega (arith, h))

-- a goal is almost sure
sure-goal : (q : Query) (s : ℕ) → is_goal q s ≡ true → IsAlmostSure q s
sure-goal q s goal = λ m some. (
  0,
  (let same : numerator q 0 s ≡ denominator q.game ^ 0 = numerator_of-goal q (choices_of q.game) 0 s goal in
      rw same (omega arith)),
)

module _ (q : Query) (posed : IsQuery q) (marks : List Bool) (sure : AreAlmostSure q marks) (values : List ℕ)
    (table : IsTable q (sure_value marks) values) (rank : ℕ → ℕ) (near : AreNearing q marks rank) where
  abbrev ranks : List ℕ
  ranks = map rank (range_with_len 0 (states q))

  rank-at : (s : ℕ) → s < states q → slice_index (map rank (range_with_len 0 (states q))) s ≡ rank s
  rank-at s inside = get_or-map-range_with_len rank 0 (states q) s s 0 inside (omega arith)

  sure-value : (s : ℕ) → s < states q → slice_index_or marks s false ≡ true → slice_index values s ≡ unit
  sure-value s inside marked = table.each s inside ∙ value-true _ marked

  -- a choice that nears the goals is ranked
  ranked : (s : ℕ) → s < states q → slice_index_or marks s false ≡ true
      → (m : Distribution) → IsChoiceOf q.game m → Nears q marks rank s m
      → IsRankedChoice (slice_index values) (slice_index (map rank (range_with_len 0 (states q)))) s m
  ranked s inside marked m fits h =
      let one = h.stays h.place no_edge h.within in
      record {
        enough = whole-enough (slice_index values s) m.total (weighted_sum (slice_index values) m.edges)
            (sum_by (λ e. e.weight) m.edges) unit fits.sums (sure-value s inside marked)
            (sum-whole (slice_index values) unit m.edges
            (λ i d l. let both = h.stays i d l in sure-value _ both.0 both.1));
        place = h.place;
        inside = h.within;
        onward = inr (
          sure-value _ one.0 one.1 ∙ sym (sure-value s inside marked),
          omega (arith, rank-at (get_or m.edges h.place no_edge).to one.0, rank-at s inside, h.nearer),
        );
      }

  positive-sure : (s : ℕ) → s < states q → 0 < slice_index values s → slice_index_or marks s false ≡ true
  positive-sure s inside some = value-some _ (omega (arith, some, table.each s inside))

  dead-unsure : (s : ℕ) → s < states q → is_dead q s ≡ true → slice_index_or marks s false ≡ false
  dead-unsure s inside dead = elim (cases_Bool (slice_index_or marks s false)) [
    | inl marked ↦ absurd (IsAway-not_sure q (states q) s posed (IsAway-dead q (states q) s posed
        (no-goal (is_goal q s) (is_dead q s) (posed.apart s) dead) dead) ((sure.exact s inside).0 marked))
    | inr unmarked ↦ unmarked
  ]

  -- the choice of a state of the maximiser
  choosing : (s : ℕ) → (c : ℕ) × (s < states q → slice_index_or marks s false ≡ true → is_goal q s ≡ false
      → side_at q s ≡ Max → (c < length (choices_of q.game s)) × Nears q marks rank s (choice_of q.game s c))
  choosing s = elim (cases_lt s (states q)) [
    | inr past ↦ (0, λ inside. absurd (omega (arith, inside, past)))
    | inl inside ↦ elim (cases_Bool (slice_index_or marks s false)) [
      | inr unmarked ↦ (0, λ _ marked. absurd (cc))
      | inl marked ↦ elim (cases_Bool (is_goal q s)) [
        | inl goal ↦ (0, λ _ _ other. absurd (cc))
        | inr other ↦ elim (cases_side (side_at q s)) [
          | inr minimiser ↦ (0, λ _ _ _ maximiser. absurd (let no : Max ≡ Min = sym maximiser ∙ minimiser in cc))
          | inl maximiser ↦
              let one = near.greatest s inside marked other maximiser in
              (one.0, λ _ _ _ _. (one.1, one.2))
        ]
      ]
    ]
  ]

  abbrev choices : List (Option ℕ)
  choices = map (λ s. Some (choosing s).0) (range_with_len 0 (states q))

  choice-at : (s : ℕ) → s < states q
      → slice_index_or (map (λ s. Some (choosing s).0) (range_with_len 0 (states q))) s None ≡ Some (choosing s).0
  choice-at s inside = get_or-map-range_with_len (λ t. Some (choosing t).0) 0 (states q) s s None inside (omega arith)

  sure-ranked : Ranked q values choices ranks
  sure-ranked = record {
    units = λ s inside. omega (arith, table.each s inside, value-most (slice_index_or marks s false));
    goals = λ s inside goal. sure-value s inside ((sure.exact s inside).1 (sure-goal q s goal));
    deads = λ s inside dead. table.each s inside ∙ value-false _ (dead-unsure s inside dead);
    greatest = λ s inside other alive some maximiser.
        let marked : slice_index_or marks s false ≡ true = positive-sure s inside some in
        let at = (choosing s).1 inside marked other maximiser in
        record {
          choice = (choosing s).0;
          given = choice-at s inside;
          inside = at.0;
          ranked = ranked s inside marked (choice_of q.game s (choosing s).0)
              (IsChoiceOf-choice_of q.game s (choosing s).0 posed.game inside at.0) at.1;
        };
    least = λ s inside other alive some minimiser c within.
        let marked : slice_index_or marks s false ≡ true = positive-sure s inside some in
        ranked s inside marked (choice_of q.game s c) (IsChoiceOf-choice_of q.game s c posed.game inside within)
        (near.least s inside marked other minimiser c within);
  }

  can-be-ranked : CanBeRanked q values
  can-be-ranked = (choices, ranks, sure-ranked)

pub sure-plan : (q : Query) (marks : List Bool) (values : List ℕ) → IsQuery q → AreAlmostSure q marks
    → IsTable q (sure_value marks) values → CanBeRanked q values
sure-plan q marks values posed sure table =
    let near = sure-ranks q marks posed sure in
    can-be-ranked q posed marks sure values table near.0 near.1
