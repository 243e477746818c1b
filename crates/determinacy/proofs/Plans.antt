-- The plans of exact values.
use Rattle.std.proofs.Common.{◌≡◌, ℕ, ◌+◌, ◌*◌, ◌^◌, ◌<◌, ◌≤◌, Bool, true, false, List, [], length, map}
use Rattle.std.proofs.Common.{take, drop, sum, get_or, arith, refl, sym, subst, inl, inr, ◌∙◌, Option, Some, None}
use Rattle.std.specs.Prelude.{slice_index, slice_index_or}
use Rattle.std.specs.List.{All, range_with_len}
use Rattle.std.specs.Bool.{if◌then◌else◌}
use Rattle.std.proofs.lemmas.Bool.{cases_lt}
use Rattle.std.proofs.lemmas.List.Elements.{All-from_get_or}
use Rattle.std.proofs.lemmas.List.FromFn.{get_or-map-range_with_len}
use Rattle.std.proofs.Math.Nat.{mul-le-mul_left}
use Rattle.game_model.specs.declared.game.Side.{Side}
use Rattle.game_model.specs.declared.game.Side.TheVariants.{Max, Min}
use Rattle.game_model.specs.Game.{Distribution, no_distribution, no_edge, choices_of, choice_of}
use Rattle.game_model.specs.Query.{Query, IsQuery, states, is_goal, is_dead, side_at}
use Rattle.game_model.specs.Values.{denominator}
use Rattle.game_model.specs.Plans.{planned, planned_place, same_side, numerator_under}
use Rattle.game_model.specs.Ranks.{IsRankedChoice}
use Rattle.game_model.proofs.Choices.{IsChoiceOf, IsChoiceOf-choice_of, AreChoicesOf-planned}
use Rattle.game_model.proofs.Choices.{denominator-pos}
use Rattle.game_laws.proofs.Planned.{one-at, planned_place-given, rank-most}
use Rattle.game_laws.proofs.Horizon.{Certified, certified-reached}
use Rattle.strategies.specs.Strategies.{Strategy, IsStrategyOf, reach, by_plan}
use Rattle.strategies.proofs.Turns.{pow-product}
use Rattle.strategies.proofs.Plans.{plan-least}
use Rattle.determinacy.proofs.Descent.{Fits, Held, Enough, Onward}
use Rattle.determinacy.proofs.Arena.{Free, Some-place, SolvedAt, FitAll, Needs, RankedAt, Exact}
use Rattle.determinacy.proofs.Decided.{dec-free}
use Rattle.determinacy.proofs.Layers.{dec-needs}
use Rattle.determinacy.proofs.Values.{exact-values}

fits-of : (game : List (List Distribution)) (m : Distribution) → IsChoiceOf game m → Fits (length game) m
fits-of game m h = record {
  positive = h.positive;
  weights = h.weights;
  few = omega (arith, h.sums);
  inside = h.inside;
}

fit-choices : (q : Query) → IsQuery q → FitAll q (choices_of q.game)
fit-choices q posed s inside = All-from_get_or (Fits (states q)) (choices_of q.game s) no_distribution
    (λ c within. fits-of q.game (choice_of q.game s c) (IsChoiceOf-choice_of q.game s c posed.game inside within))

-- every question has them
pub exact-of : (q : Query) → IsQuery q → Exact q (choices_of q.game)
exact-of q posed = exact-values q (choices_of q.game) (fit-choices q posed) posed.game.chosen

module _ (q : Query) (posed : IsQuery q) (a : Exact q (choices_of q.game)) where
  abbrev pub ranks : List ℕ
  ranks = map (λ s. a.rank s) (range_with_len 0 (states q))

  rank-at : (s : ℕ) → s < states q → slice_index ranks s ≡ a.rank s
  rank-at s inside = get_or-map-range_with_len (λ t. a.rank t) 0 (states q) s s 0 inside (omega arith)

  -- a choice that is enough and goes onward is ranked
  as-ranked : (s : ℕ) → s < states q → (m : Distribution) → Fits (states q) m → Enough a.value s m
      → Onward a.value a.rank s m → IsRankedChoice a.value (slice_index ranks) s m
  as-ranked s inside m fits enough onward = record {
    enough = enough;
    place = onward.place;
    inside = onward.within;
    onward = elim onward.further [
      | inl greater ↦ inl greater
      | inr equal ↦ inr (
        equal.0,
        omega (
          arith,
          equal.1,
          rank-at s inside,
          rank-at (get_or m.edges onward.place no_edge).to (fits.inside onward.place no_edge onward.within),
        ),
      )
    ];
  }

  -- the choice of a state of the maximiser, and of one of the minimiser
  pub picking : (s : ℕ) (side : Side) → side_at q s ≡ side → (c : ℕ) × (Needs q a.value s → side_at q s ≡ Max
      → (c < length (choices_of q.game s)) × IsRankedChoice a.value (slice_index ranks) s (choice_of q.game s c))
  picking s Min is = (0, λ needs max. absurd (let no : Max ≡ Min = sym max ∙ is in cc))
  picking s Max is = elim (dec-needs q (choices_of q.game) a.value s) [
    | inr none ↦ (0, λ needs max. absurd (none needs))
    | inl needs ↦
        let ranked : RankedAt Max a.value a.rank s (choices_of q.game s) =
        subst (λ side. RankedAt side a.value a.rank s (choices_of q.game s)) is (a.ranks s needs) in
        let at =
        Some-place (λ m. Enough a.value s m × Onward a.value a.rank s m)
        (choices_of q.game s) no_distribution ranked in (
          at.0,
          λ _ _. (
            at.1.0,
            as-ranked s needs.inside (choice_of q.game s at.0)
                (fit-choices q posed s needs.inside at.0 no_distribution at.1.0) at.1.1.0 at.1.1.1,
          ),
        )
  ]

  abbrev pub plan : List (Option ℕ)
  plan = map (λ s. Some (picking s (side_at q s) refl).0) (range_with_len 0 (states q))

  plan-at : (s : ℕ) → s < states q → slice_index_or plan s None ≡ Some (picking s (side_at q s) refl).0
  plan-at s inside = get_or-map-range_with_len (λ t. Some (picking t (side_at q t) refl).0) 0
      (states q) s s None inside (omega arith)

  pub answering : (s : ℕ) (side : Side) → side_at q s ≡ side → (c : ℕ) × (s < states q → Free q s → side_at q s ≡ Min
      → (c < length (choices_of q.game s)) × Held a.value s (choice_of q.game s c))
  answering s Max is = (0, λ inside free min. absurd (let no : Max ≡ Min = sym is ∙ min in cc))
  answering s Min is = elim (cases_lt s (states q)) [
    | inr past ↦ (0, λ inside free min. absurd (omega (arith, inside, past)))
    | inl inside ↦ elim (dec-free q s) [
      | inr over ↦ (0, λ _ free min. absurd (over free))
      | inl free ↦
          let solved : SolvedAt Min a.value s (choices_of q.game s) =
          subst (λ side. SolvedAt side a.value s (choices_of q.game s)) is (a.solves.solved s inside free) in
          let at = Some-place (Held a.value s) (choices_of q.game s) no_distribution solved.1 in
          (at.0, λ _ _ _. at.1)
    ]
  ]

  abbrev pub replies : List (Option ℕ)
  replies = map (λ s. Some (answering s (side_at q s) refl).0) (range_with_len 0 (states q))

  pub reply-at : (s : ℕ) → s < states q → slice_index_or replies s None ≡ Some (answering s (side_at q s) refl).0
  reply-at s inside = get_or-map-range_with_len (λ t. Some (answering t (side_at q t) refl).0) 0
      (states q) s s None inside (omega arith)

  -- 1. What the maximiser reaches.
  all-ranked : (s : ℕ) → s < states q → (needs : Needs q a.value s) → (side : Side) → side_at q s ≡ side
      → All (IsRankedChoice a.value (slice_index ranks) s) (if same_side side Max then take 1
      (drop (planned_place plan s (length (choices_of q.game s))) (choices_of q.game s)) else choices_of q.game s)
  all-ranked s inside needs Max is =
      let pick = (picking s (side_at q s) refl).1 needs is in
      let place : planned_place plan s (length (choices_of q.game s)) ≡ (picking s (side_at q s) refl).0 =
      planned_place-given plan s (length (choices_of q.game s)) (picking s (side_at q s) refl).0
      (plan-at s inside) pick.0 in
      subst (λ p. All (IsRankedChoice a.value (slice_index ranks) s) (take 1 (drop p (choices_of q.game s))))
      (sym place)
      (one-at (IsRankedChoice a.value (slice_index ranks) s) (choices_of q.game s)
      (picking s (side_at q s) refl).0 no_distribution pick.0 pick.1)
  all-ranked s inside needs Min is =
      let solved : SolvedAt Min a.value s (choices_of q.game s) =
      subst (λ side. SolvedAt side a.value s (choices_of q.game s)) is (a.solves.solved s inside needs.free) in
      let ranked : RankedAt Min a.value a.rank s (choices_of q.game s) =
      subst (λ side. RankedAt side a.value a.rank s (choices_of q.game s)) is (a.ranks s needs) in
      λ c m l. as-ranked s inside _ (fit-choices q posed s inside c m l) (solved.0 c m l) (ranked c m l)

  dead-none : (s : ℕ) → s < states q → is_dead q s ≡ true → a.value s ≡ 0
  dead-none s inside dead = a.solves.deads s inside (no-goal (is_goal q s) (is_dead q s) (posed.apart s) dead) dead
    where
      no-goal : (goal dead : Bool) → (goal ≡ true → dead ≡ false) → dead ≡ true → goal ≡ false
      no-goal true dead h is = let no : dead ≡ false = h refl in absurd (cc)
      no-goal false dead h is = refl

  pub certified : Certified a.top q (planned q Max plan) a.value (slice_index ranks) (sum ranks)
  certified = record {
    chosen = AreChoicesOf-planned q Max plan posed.game;
    positive = denominator-pos q.game posed.game;
    units = a.solves.most;
    deads = dead-none;
    ranks = rank-most ranks;
    ranked = λ s inside other alive some.
        all-ranked s inside (record { inside = inside; free = (other, alive); some = some }) (side_at q s) refl;
  }

  reached-factors : (top r f n m v d : ℕ) → f * n ≤ r → m * v * d ≤ top * (m * n + d)
      → m * v * (f * d) ≤ top * (m * r + f * d)
  reached-factors top r f n m v d h k = omega (arith, mul-le-mul_left (top * m) h, mul-le-mul_left f k)

  pub reached : (m : ℕ) → 1 ≤ m
      → (k : ℕ) × ((faces s : ℕ) (opponent : Strategy) → IsStrategyOf q Min opponent → s < states q →
      m * a.value s * (faces * denominator q.game) ^ k
      ≤ a.top * (m * reach q faces (by_plan q plan) opponent k [] s + (faces * denominator q.game) ^ k))
  reached m some =
      let at = certified-reached a.top q (planned q Max plan) a.value (slice_index ranks) (sum ranks) certified m in (
        at.0,
        λ faces s opponent down inside.
            rw (pow-product faces (denominator q.game) at.0)
            (reached-factors a.top (reach q faces (by_plan q plan) opponent at.0 [] s) (faces ^ at.0)
            (numerator_under q Max plan at.0 s) m (a.value s) (denominator q.game ^ at.0)
            (plan-least q posed plan faces opponent down at.0 [] s inside) (at.1 s inside)),
      )
