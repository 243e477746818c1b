-- A question in which a state has two sets of choices together is solved by the better of the two.
use Rattle.std.proofs.Common.{◌≡◌, ℕ, suc, ◌+◌, ◌-◌, ◌*◌, ◌<◌, ◌≤◌, List, [], ◌∷◌, length, get_or, arith, sym, ap}
use Rattle.std.proofs.Common.{subst, inl, inr, ◌⊎◌, ◌∙◌}
use Rattle.std.specs.List.{All}
use Rattle.std.proofs.lemmas.Bool.{cases_lt, cases_eq, cases_Bool}
use Rattle.std.proofs.lemmas.List.Sums.{sum_by-cons}
use Rattle.std.proofs.Math.Nat.{mul-le-mul_left, mul-le-mul_right, le_of_mul-le-mul_left, mul-pos}
use Rattle.game_model.specs.declared.game.Edge.{Edge}
use Rattle.game_model.specs.declared.game.Side.{Side}
use Rattle.game_model.specs.declared.game.Side.TheVariants.{Max, Min}
use Rattle.game_model.specs.Game.{Distribution, no_edge, no_distribution}
use Rattle.game_model.specs.Query.{Query, states, is_goal, is_dead, side_at}
use Rattle.game_model.specs.Values.{weighted_sum}
use Rattle.strategies.proofs.Sums.{weighted-constant}
use Rattle.determinacy.proofs.Sums.{weight, sums-in_order, sum-affine, sum-multiple, factor-pos}
use Rattle.determinacy.proofs.Descent.{Fits, Held, Enough, Further, Onward, Meets, nowhere, compared, same-difference}
use Rattle.determinacy.proofs.Arena.{Some, Some-place, Some-both, Free, SolvedAt, FitAll, Solves, Needs, RankedAt}
use Rattle.determinacy.proofs.Arena.{Ranks, Exact, Stays, CaughtAt, Trap}
use Rattle.determinacy.proofs.Layers.{ranks-of}

-- some successor is greater where the average is
some-greater : (v : ℕ → ℕ) (c : ℕ) (edges : List Edge) → weight edges * c < weighted_sum v edges
    → (i : ℕ) × (i < length edges) × (c < v (get_or edges i no_edge).to)
some-greater v c [] h = absurd (omega (arith, h))
some-greater v c (e ∷ es) h =
    let first : weighted_sum v (e ∷ es) ≡ e.weight * v e.to + weighted_sum v es =
    sum_by-cons (λ (d : Edge). d.weight * v d.to) e es in
    let second : weight (e ∷ es) ≡ e.weight + weight es = sum_by-cons (λ (d : Edge). d.weight) e es in
    elim (cases_lt c (v e.to)) [
      | inl more ↦ (0, omega arith, more)
      | inr few ↦
          let whole : weight (e ∷ es) * c ≡ e.weight * c + weight es * c = ap (λ x. x * c) second ∙ omega arith in
          let rest = some-greater v c es (omega (arith, h, first, whole, mul-le-mul_left e.weight few)) in
          (suc rest.0, omega (arith, rest.1), rest.2)
    ]

-- one choice that serves both tables, where the state has the same choices for both
meet : (n : ℕ) (v rank v' : ℕ → ℕ) (y : ℕ) (side : Side) (ms : List Distribution) → All (Fits n) ms
    → RankedAt side v rank y ms → SolvedAt side v y ms → SolvedAt side v' y ms → Meets n v rank v' y
meet n v rank v' y Max ms fits ranked lower upper =
    let one = Some-place (λ m. Enough v y m × Onward v rank y m) ms no_distribution ranked in
    record {
      choice = get_or ms one.0 no_distribution;
      fits = fits one.0 no_distribution one.1.0;
      enough = one.1.1.0;
      onward = one.1.1.1;
      held = upper.0 one.0 no_distribution one.1.0;
    }
meet n v rank v' y Min ms fits ranked lower upper =
    let one = Some-place (Held v' y) ms no_distribution upper.1 in
    record {
      choice = get_or ms one.0 no_distribution;
      fits = fits one.0 no_distribution one.1.0;
      enough = lower.0 one.0 no_distribution one.1.0;
      onward = ranked one.0 no_distribution one.1.0;
      held = one.1.1;
    }

-- a solution and ranks over one set of choices, and a solution over another, which differ at one state alone
module _ (q : Query) (j : ℕ) (one two : ℕ → List Distribution) (fit : FitAll q one)
    (off : (s : ℕ) → (s ≡ j → ⊥) → one s ≡ two s)
    (t t' : ℕ) (v rank v' : ℕ → ℕ) (lower : Solves q one t v) (ranks : Ranks q one v rank)
    (upper : Solves q two t' v') where
  needs-more : (d y : ℕ) → y < states q → v' y * t + d < v y * t' → Needs q v y
  needs-more d y inside more = elim (cases_Bool (is_goal q y)) [
    | inl goal ↦ absurd
        (omega (arith, more, ap (λ x. x * t') (lower.goals y inside goal), ap (λ x. x * t) (upper.goals y inside goal)))
    | inr other ↦ elim (cases_Bool (is_dead q y)) [
      | inl dead ↦ absurd (omega (arith, more, ap (λ x. x * t') (lower.deads y inside other dead)))
      | inr alive ↦ record {
        inside = inside;
        free = (other, alive);
        some = factor-pos (v y) t' (v' y * t + d) more;
      }
    ]
  ]

  pub compare-off : (d : ℕ) → (v' j * t + d < v j * t' → Meets (states q) v rank v' j) → (x : ℕ) → x < states q
      → v x * t' ≤ v' x * t + d
  compare-off d at_j = compared (states q) v rank v' t t' d lower.most (λ y inside more. elim (cases_eq y j) [
    | inl same ↦ subst (Meets (states q) v rank v') (sym same) (at_j (subst (λ z. v' z * t + d < v z * t') same more))
    | inr other ↦
        let needs : Needs q v y = needs-more d y inside more in
        meet (states q) v rank v' y (side_at q y) (one y) (fit y inside) (ranks y needs)
        (lower.solved y inside needs.free)
        (subst (λ ms. SolvedAt (side_at q y) v' y ms) (sym (off y other)) (upper.solved y inside needs.free))
  ])

module _ (q : Query) (j : ℕ) (inside_j : j < states q) (free_j : Free q j) (both one two : ℕ → List Distribution)
    (fit_both : FitAll q both) (fit_one : FitAll q one) (fit_two : FitAll q two)
    (off_one : (s : ℕ) → (s ≡ j → ⊥) → one s ≡ both s) (off_two : (s : ℕ) → (s ≡ j → ⊥) → two s ≡ both s)
    (all_at : (P : Distribution → Type 0) → All P (one j) → All P (two j) → All P (both j))
    (some_at : (P : Distribution → Type 0) → Some P (one j) → Some P (both j))
    (which : (P : Distribution → Type 0) → Some P (both j) → Some P (one j) ⊎ Some P (two j))
    (a : Exact q one) (b : Exact q two) where
  off : (s : ℕ) → (s ≡ j → ⊥) → one s ≡ two s
  off s other = off_one s other ∙ sym (off_two s other)

  -- the solution of the one is one of both, if it is at the state
  solves-both : SolvedAt (side_at q j) a.value j (both j) → Solves q both a.top a.value
  solves-both here = record {
    positive = a.solves.positive;
    most = a.solves.most;
    goals = a.solves.goals;
    deads = a.solves.deads;
    solved = λ s inside free. elim (cases_eq s j) [
      | inl same ↦ subst (λ x. SolvedAt (side_at q x) a.value x (both x)) (sym same) here
      | inr other ↦ subst (λ ms. SolvedAt (side_at q s) a.value s ms) (off_one s other) (a.solves.solved s inside free)
    ];
  }

  sums-le : (x x' v v' t t' tot : ℕ) → 0 < t' → x * t' ≤ x' * t → x' ≤ v' * tot → v' * t ≤ v * t' → x ≤ v * tot
  sums-le x x' v v' t t' tot positive h held less =
      let whole : t' * x ≤ t' * (v * tot) = omega (arith, h, mul-le-mul_right t held, mul-le-mul_right tot less) in
      le_of_mul-le-mul_left whole positive

  -- 1. A state of the maximiser.
  module _ (maximiser : side_at q j ≡ Max) (better : b.value j * a.top ≤ a.value j * b.top) where
    at_one : SolvedAt Max a.value j (one j)
    at_one = subst (λ side. SolvedAt side a.value j (one j)) maximiser (a.solves.solved j inside_j free_j)

    at_two : SolvedAt Max b.value j (two j)
    at_two = subst (λ side. SolvedAt side b.value j (two j)) maximiser (b.solves.solved j inside_j free_j)

    held-two : (m : Distribution) → Fits (states q) m → Held b.value j m → Held a.value j m
    held-two m fits held = elim (cases_lt (a.value j * m.total) (weighted_sum a.value m.edges)) [
      | inr few ↦ few
      | inl more ↦
          let place =
          some-greater a.value (a.value j) m.edges (omega (arith, more, mul-le-mul_right (a.value j) fits.few)) in
          let all : (x : ℕ) → x < states q → a.value x * b.top ≤ b.value x * a.top + 0 =
          compare-off q j one two fit_one off a.top b.top a.value a.rank b.value a.solves a.ranks b.solves 0
          (λ _. record {
            choice = m;
            fits = fits;
            enough = omega (arith, more);
            onward = record { place = place.0; within = place.1; further = inl place.2 };
            held = held;
          }) in
          let sums : weighted_sum a.value m.edges * b.top ≤ weighted_sum b.value m.edges * a.top =
          omega (
            arith,
            sum-multiple a.value b.top m.edges,
            sum-multiple b.value a.top m.edges,
            sums-in_order (λ s. a.value s * b.top) (λ s. b.value s * a.top) m.edges
                (λ i e l. omega (arith, all _ (fits.inside i e l))),
          ) in
          sums-le (weighted_sum a.value m.edges) (weighted_sum b.value m.edges) (a.value j)
          (b.value j) a.top b.top m.total b.solves.positive sums held better
    ]

    pub max-both : Exact q both
    max-both = record {
      top = a.top;
      value = a.value;
      rank = a.rank;
      solves = solves-both (subst (λ side. SolvedAt side a.value j (both j)) (sym maximiser) (
        all_at (Held a.value j) at_one.0 (λ i m l. held-two _ (fit_two j inside_j i m l) (at_two.0 i m l)),
        some_at (Enough a.value j) at_one.1,
      ));
      ranks = λ s needs. elim (cases_eq s j) [
        | inl same ↦
            let here : Needs q a.value j = subst (Needs q a.value) same needs in
            let old : RankedAt Max a.value a.rank j (one j) =
            subst (λ side. RankedAt side a.value a.rank j (one j)) maximiser (a.ranks j here) in
            subst (λ x. RankedAt (side_at q x) a.value a.rank x (both x)) (sym same)
            (subst (λ side. RankedAt side a.value a.rank j (both j)) (sym maximiser)
            (some_at (λ m. Enough a.value j m × Onward a.value a.rank j m) old))
        | inr other ↦ subst (λ ms. RankedAt (side_at q s) a.value a.rank s ms) (off_one s other) (a.ranks s needs)
      ];
    }

  -- 2. A state of the minimiser.
  module _ (minimiser : side_at q j ≡ Min) (better : a.value j * b.top ≤ b.value j * a.top) where
    least_one : SolvedAt Min a.value j (one j)
    least_one = subst (λ side. SolvedAt side a.value j (one j)) minimiser (a.solves.solved j inside_j free_j)

    least_two : SolvedAt Min b.value j (two j)
    least_two = subst (λ side. SolvedAt side b.value j (two j)) minimiser (b.solves.solved j inside_j free_j)

    ranked_one : Needs q a.value j → All (Onward a.value a.rank j) (one j)
    ranked_one needs = subst (λ side. RankedAt side a.value a.rank j (one j)) minimiser (a.ranks j needs)

    ranked_two : Needs q b.value j → All (Onward b.value b.rank j) (two j)
    ranked_two needs = subst (λ side. RankedAt side b.value b.rank j (two j)) minimiser (b.ranks j needs)

    less-strict : (x x' v v' t t' tot : ℕ) → 0 < t → x' * t ≤ x * t' → v' * tot ≤ x' → v * t' ≤ v' * t
        → x < v * tot → 0 < t' → ⊥
    less-strict x x' v v' t t' tot positive h enough less strict positive' =
        let whole : t' * (v * tot) ≤ t' * x = omega (arith, h, mul-le-mul_right t enough, mul-le-mul_right tot less) in
        let no_less : v * tot ≤ x = le_of_mul-le-mul_left whole positive' in
        omega (arith, strict, no_less)

    -- the state of the second game needs a rank where it is more
    needs-two : a.value j * b.top < b.value j * a.top → Needs q b.value j
    needs-two more = record {
      inside = inside_j;
      free = free_j;
      some = factor-pos (b.value j) a.top (a.value j * b.top) more;
    }

    -- each choice of the second is enough for the first
    enough-two : (m : Distribution) → Fits (states q) m → Enough b.value j m
        → (Needs q b.value j → Onward b.value b.rank j m) → Enough a.value j m
    enough-two m fits enough onward = elim (cases_lt (weighted_sum a.value m.edges) (a.value j * m.total)) [
      | inr few ↦ few
      | inl less ↦
          let all : (x : ℕ) → x < states q → b.value x * a.top ≤ a.value x * b.top + 0 =
          compare-off q j two one fit_two
          (λ s other. sym (off s other)) b.top a.top b.value b.rank a.value b.solves b.ranks a.solves 0
          (λ more. record {
            choice = m;
            fits = fits;
            enough = enough;
            onward = onward (needs-two (omega (arith, more)));
            held = omega (arith, less);
          }) in
          let sums : weighted_sum b.value m.edges * a.top ≤ weighted_sum a.value m.edges * b.top =
          omega (
            arith,
            sum-multiple b.value a.top m.edges,
            sum-multiple a.value b.top m.edges,
            sums-in_order (λ s. b.value s * a.top) (λ s. a.value s * b.top) m.edges
                (λ i e l. omega (arith, all _ (fits.inside i e l))),
          ) in
          absurd (less-strict (weighted_sum a.value m.edges) (weighted_sum b.value m.edges) (a.value j)
          (b.value j) a.top b.top m.total a.solves.positive sums enough better less b.solves.positive)
    ]

    all-enough : All (Enough a.value j) (two j)
    all-enough i m l =
        enough-two _ (fit_two j inside_j i m l) (least_two.0 i m l) (λ needs. ranked_two needs i m l)

    min-solves : Solves q both a.top a.value
    min-solves = solves-both (subst (λ side. SolvedAt side a.value j (both j)) (sym minimiser)
        (all_at (Enough a.value j) least_one.0 all-enough, some_at (Held a.value j) least_one.1))

    -- the second game's values are above by as much as at the state, at most
    abbrev ahead : ℕ
    ahead = b.value j * a.top - a.value j * b.top

    all-ahead : (x : ℕ) → x < states q → b.value x * a.top ≤ a.value x * b.top + ahead
    all-ahead = compare-off q j two one fit_two (λ s other. sym (off s other)) b.top a.top b.value b.rank a.value
        b.solves b.ranks a.solves ahead (λ more. absurd (omega (arith, more)))

    module _ (X : ℕ → Type 0) (trap : Trap q both a.value X) where
      -- a choice along which the second game goes on, in the trap
      record Walks (y : ℕ) : Type 0 where
        choice : Distribution
        fits : Fits (states q) choice
        enough : Enough b.value y choice
        onward : Onward b.value b.rank y choice
        held : Held a.value y choice
        stays : Stays X a.value y choice

      enough-first : (sa sb va vb ta tb d w tot : ℕ) → 0 < tb → vb * ta ≡ va * tb + d → vb * tot ≤ sb
          → sb * ta ≤ sa * tb + w * d → w ≤ tot → va * tot ≤ sa
      enough-first sa sb va vb ta tb d w tot positive same enough most few =
          let whole : tb * (va * tot) ≤ tb * sa =
          omega (arith, ap (λ x. x * tot) same, mul-le-mul_right ta enough, most, mul-le-mul_right d few) in
          le_of_mul-le-mul_left whole positive

      sums-ahead : (m : Distribution) → Fits (states q) m → weighted_sum b.value m.edges * a.top
          ≤ weighted_sum a.value m.edges * b.top + weight m.edges * ahead
      sums-ahead m fits =
          rw (← sum-multiple b.value a.top m.edges, ← sum-affine a.value b.top _ m.edges)
          (sums-in_order (λ s. b.value s * a.top) (λ s. a.value s * b.top + ahead) m.edges
          (λ i e l. all-ahead _ (fits.inside i e l)))

      stays-held : (y : ℕ) (m : Distribution) → Fits (states q) m → Stays X a.value y m → Held a.value y m
      stays-held y m fits stays =
          let sums : weighted_sum a.value m.edges ≤ weighted_sum (λ s. a.value y) m.edges =
          sums-in_order a.value (λ s. a.value y) m.edges (λ i e l. omega (arith, (stays i e l).1)) in
          omega (arith, sums, weighted-constant (a.value y) m.edges, mul-le-mul_right (a.value y) fits.few)

      enough-here : (y : ℕ) → b.value y * a.top ≡ a.value y * b.top + ahead
          → (m : Distribution) → Fits (states q) m → Enough b.value y m → Enough a.value y m
      enough-here y same m fits enough =
          enough-first (weighted_sum a.value m.edges) (weighted_sum b.value m.edges) (a.value y) (b.value y) a.top b.top
          ahead (weight m.edges) m.total b.solves.positive same enough (sums-ahead m fits) fits.few

      walk : (y : ℕ) → b.value y * a.top ≡ a.value y * b.top + ahead
          → (side : Side) (ms : List Distribution) → All (Fits (states q)) ms → SolvedAt side a.value y ms
          → SolvedAt side b.value y ms → RankedAt side b.value b.rank y ms → CaughtAt side X a.value y ms → Walks y
      walk y same Max ms fits first second ranked caught =
          let one = Some-place (λ m. Enough b.value y m × Onward b.value b.rank y m) ms no_distribution ranked in
          let fit = fits one.0 no_distribution one.1.0 in
          record {
            choice = get_or ms one.0 no_distribution;
            fits = fit;
            enough = one.1.1.0;
            onward = one.1.1.1;
            held = first.0 one.0 no_distribution one.1.0;
            stays = caught one.0 no_distribution one.1.0 (enough-here y same _ fit one.1.1.0);
          }
      walk y same Min ms fits first second ranked caught =
          let one = Some-place (Stays X a.value y) ms no_distribution caught in
          let fit = fits one.0 no_distribution one.1.0 in
          record {
            choice = get_or ms one.0 no_distribution;
            fits = fit;
            enough = second.0 one.0 no_distribution one.1.0;
            onward = ranked one.0 no_distribution one.1.0;
            held = stays-held y _ fit one.1.1;
            stays = one.1.1;
          }

      -- it does not hold a choice of the second game
      two-free : X j → Some (Stays X a.value j) (two j) → ⊥
      two-free here stay =
          nowhere b.value b.rank b.top (λ y. X y × (b.value y * a.top ≡ a.value y * b.top + ahead))
          (λ y h. b.solves.most y (trap.needs y h.0).inside)
          (λ y h.
          let needs : Needs q a.value y = trap.needs y h.0 in
          let needs' : Needs q b.value y = record {
            inside = needs.inside;
            free = needs.free;
            some = factor-pos (b.value y) a.top 0 (omega (arith, h.1, mul-pos needs.some b.solves.positive));
          } in
          let m : Walks y = elim (cases_eq y j) [
            | inl same ↦ subst Walks (sym same)
                (walk j (subst (λ z. b.value z * a.top ≡ a.value z * b.top + ahead) same h.1) Min (two j)
                (fit_two j inside_j) (
                  all-enough,
                  Some-both (Fits (states q)) (Stays X a.value j) (Held a.value j) (stays-held j) (two j)
                      (fit_two j inside_j) stay,
                ) least_two (ranked_two (subst (Needs q b.value) same needs')) stay)
            | inr other ↦
                walk y h.1 (side_at q y) (two y) (fit_two y needs.inside) (subst
                (λ ms. SolvedAt (side_at q y) a.value y ms) (off y other) (a.solves.solved y needs.inside needs.free))
                (b.solves.solved y needs.inside needs.free) (b.ranks y needs')
                (subst (λ ms. CaughtAt (side_at q y) X a.value y ms) (sym (off_two y other)) (trap.caught y h.0))
          ] in
          let equal =
          same-difference (states q) b.value a.value b.top a.top ahead all-ahead
          y m.choice m.fits h.1 m.enough m.held in
          let stays_at = m.stays m.onward.place no_edge m.onward.within in (
            (get_or m.choice.edges m.onward.place no_edge).to,
            ((stays_at.0, equal m.onward.place no_edge m.onward.within), m.onward.further),
          ))
          j (here, omega (arith, better))

      onward-in : (y : ℕ) (m : Distribution) → Onward a.value a.rank y m → Stays X a.value y m
          → (t : ℕ) × (X t × Further a.value a.rank y t)
      onward-in y m onward stays = (
        (get_or m.edges onward.place no_edge).to,
        ((stays onward.place no_edge onward.within).0, onward.further),
      )

      step-in : (y : ℕ) (side : Side) (ms : List Distribution) → RankedAt side a.value a.rank y ms
          → CaughtAt side X a.value y ms → (t : ℕ) × (X t × Further a.value a.rank y t)
      step-in y Max ms ranked caught =
          let one = Some-place (λ m. Enough a.value y m × Onward a.value a.rank y m) ms no_distribution ranked in
          onward-in y _ one.1.1.1 (caught one.0 no_distribution one.1.0 one.1.1.0)
      step-in y Min ms ranked caught =
          let one = Some-place (Stays X a.value y) ms no_distribution caught in
          onward-in y _ (ranked one.0 no_distribution one.1.0) one.1.1

      -- nor any state
      no-trap : (s : ℕ) → X s → ⊥
      no-trap s h =
          nowhere a.value a.rank a.top X (λ y x. a.solves.most y (trap.needs y x).inside)
          (λ y x.
          let needs : Needs q a.value y = trap.needs y x in
          elim (cases_eq y j) [
            | inl same ↦
                let here : X j = subst X same x in
                let stay : Some (Stays X a.value j) (both j) =
                subst (λ side. CaughtAt side X a.value j (both j)) minimiser (trap.caught j here) in
                elim (which (Stays X a.value j) stay) [
                  | inr second ↦ absurd (two-free here second)
                  | inl first ↦ subst (λ z. (t : ℕ) × (X t × Further a.value a.rank z t)) (sym same)
                      (step-in j Min (one j) (ranked_one (trap.needs j here)) first)
                ]
            | inr other ↦ step-in y (side_at q y) (one y) (a.ranks y needs)
                (subst (λ ms. CaughtAt (side_at q y) X a.value y ms) (sym (off_one y other)) (trap.caught y x))
          ])
          s h

    pub min-both : Exact q both
    min-both =
        let made = ranks-of q both fit_both a.top a.value min-solves no-trap in
        record { top = a.top; value = a.value; rank = made.0; solves = min-solves; ranks = made.1 }
