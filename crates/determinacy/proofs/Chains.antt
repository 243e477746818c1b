-- Where each state has one choice: one state after another is eliminated.
use Rattle.std.proofs.Common.{◌≡◌, ℕ, zero, suc, ◌+◌, ◌-◌, ◌*◌, ◌<◌, ◌≤◌, Bool, true, false, List, [], ◌∷◌, ◌++◌, map}
use Rattle.std.proofs.Common.{arith, refl, sym, ap, subst, inl, inr, ◌∙◌}
use Rattle.std.specs.List.{All, filter, sum_by}
use Rattle.std.specs.Prelude.{◌==◌, not}
use Rattle.std.specs.Bool.{if◌then◌else◌}
use Rattle.std.proofs.lemmas.Bool.{cases_lt, cases_eq, eqb-true, eq-eqb}
use Rattle.std.proofs.lemmas.List.Elements.{All-nil, All-append, All-map, All-filter, filter_passes}
use Rattle.std.proofs.lemmas.List.Filters.{sum_by-filter_both}
use Rattle.std.proofs.lemmas.List.Sums.{sum_by-append}
use Rattle.std.proofs.Math.Nat.{mul-le-mul_left, mul-le-mul_right, le_of_mul-le-mul_left, mul-pos, one-le-mul}
use Rattle.game_model.specs.declared.game.Edge.{Edge}
use Rattle.game_model.specs.Game.{Distribution}
use Rattle.game_model.specs.Query.{Query, states, is_goal, is_dead}
use Rattle.game_model.specs.Values.{weighted_sum}
use Rattle.strategies.proofs.Sums.{sum-map, weighted-constant}
use Rattle.determinacy.proofs.Sums.{weight, sums-in_order, sums-same, sum-multiple, factor-pos}
use Rattle.determinacy.proofs.Descent.{Fits}
use Rattle.determinacy.proofs.Arena.{Free, Needs, Stays, with_at, at-here, at-off}
use Rattle.determinacy.proofs.Decided.{dec-both, dec-free, dec-lt}

-- the edges that do not lead to a state, and the weight of those that do
without : ℕ → List Edge → List Edge
without j es = filter (λ e. not (e.to == j)) es

onto : ℕ → List Edge → ℕ
onto j es = weight (filter (λ e. e.to == j) es)

-- so many times each weight
abbrev times : ℕ → Edge → Edge
times k e = record { to = e.to; weight = k * e.weight }

scaled : ℕ → List Edge → List Edge
scaled zero es = []
scaled (suc k) es = map (times (suc k)) es

split-sum : (v : ℕ → ℕ) (j : ℕ) (es : List Edge) → weighted_sum v es ≡ weighted_sum v (without j es) + onto j es * v j
unfolding without onto
split-sum v j es = omega (
  arith,
  sum_by-filter_both (λ (e : Edge). e.to == j) (λ e. not (e.to == j)) (λ e. refl) (λ e. e.weight * v e.to) es,
  sums-same v (λ s. v j) (filter (λ (e : Edge). e.to == j) es)
      (λ i e l. ap v (eqb-true _ _ (filter_passes (λ (e : Edge). e.to == j) es i e l))),
  weighted-constant (v j) (filter (λ (e : Edge). e.to == j) es),
)

split-weight : (j : ℕ) (es : List Edge) → weight es ≡ weight (without j es) + onto j es
unfolding without onto
split-weight j es = omega (
  arith,
  sum_by-filter_both (λ (e : Edge). e.to == j) (λ e. not (e.to == j)) (λ e. refl) (λ e. e.weight) es,
)

without-all : (P : Edge → Type 0) (j : ℕ) (es : List Edge) → All P es
    → All (λ e. P e × (e.to ≡ j → ⊥)) (without j es)
unfolding without
without-all P j es h i e l = (
  All-filter (λ (e : Edge). not (e.to == j)) P es h i e l,
  off _ (filter_passes (λ (e : Edge). not (e.to == j)) es i e l),
)
  where
    off : (s : ℕ) → not (s == j) ≡ true → s ≡ j → ⊥
    off s test same =
        let no : false ≡ true = subst (λ b. not b ≡ true) (eq-eqb s j same) test in
        absurd (cc)

onto-some : (P : ℕ → Type 0) (j : ℕ) (es : List Edge) → All (λ (e : Edge). P e.to) es → 0 < onto j es → P j
unfolding onto
onto-some P j es h = first (filter (λ (e : Edge). e.to == j) es)
    (All-filter (λ (e : Edge). e.to == j) (λ (e : Edge). P e.to) es h) (filter_passes (λ (e : Edge). e.to == j) es)
  where
    first : (es : List Edge) → All (λ (e : Edge). P e.to) es → All (λ e. (e.to == j) ≡ true) es → 0 < weight es → P j
    first [] h same some = absurd (omega (arith, some))
    first (e ∷ es) h same some = subst P (eqb-true e.to j (same 0 e (omega arith))) (h 0 e (omega arith))

scaled-all : (P : ℕ → Type 0) (k : ℕ) (es : List Edge) → (0 < k → All (λ (e : Edge). P e.to) es)
    → All (λ (e : Edge). P e.to) (scaled k es)
unfolding scaled
scaled-all P zero es h = All-nil (λ (e : Edge). P e.to)
scaled-all P (suc k) es h = All-map (λ (e : Edge). P e.to) (times (suc k)) es (h (omega arith))

scaled-weights : (k : ℕ) (es : List Edge) → All (λ (e : Edge). 1 ≤ e.weight) es
    → All (λ (e : Edge). 1 ≤ e.weight) (scaled k es)
unfolding scaled
scaled-weights zero es h = All-nil (λ (e : Edge). 1 ≤ e.weight)
scaled-weights (suc k) es h = All-map (λ (e : Edge). 1 ≤ e.weight) (times (suc k)) es
    (λ i e l. one-le-mul (let at : 1 ≤ suc k = omega arith in at) (h i e l))

-- a sum of what grows with the weight
scaled-sum : (f : Edge → ℕ) → ((k : ℕ) (e : Edge) → f (times k e) ≡ k * f e) → (k : ℕ) (es : List Edge)
    → sum_by f (scaled k es) ≡ k * sum_by f es
unfolding scaled
scaled-sum f grows zero es = let at : 0 ≡ 0 * sum_by f es = omega arith in at
scaled-sum f grows (suc k) es = sum-map f f (times (suc k)) (suc k) (grows (suc k)) es

-- one choice for each state below j: it leads to these, or to states that are over
pub record Chain (q : Query) (j : ℕ) (m : ℕ → Distribution) : Type 0 where
  pub fits : (s : ℕ) → s < states q → s < j → Free q s → Fits (states q) (m s)
  pub closed : (s : ℕ) → s < states q → s < j → Free q s → All (λ e. Free q e.to → e.to < j) (m s).edges

pub record Solution (q : Query) (j : ℕ) (m : ℕ → Distribution) : Type 1 where
  pub top : ℕ
  pub value : ℕ → ℕ
  pub positive : 0 < top
  pub most : (s : ℕ) → s < states q → value s ≤ top
  pub goals : (s : ℕ) → s < states q → is_goal q s ≡ true → value s ≡ top
  pub deads : (s : ℕ) → s < states q → is_goal q s ≡ false → is_dead q s ≡ true → value s ≡ 0
  pub harmonic : (s : ℕ) → s < states q → s < j → Free q s → weighted_sum value (m s).edges ≡ value s * (m s).total
  pub no_trap : (X : ℕ → Type 0)
      → ((s : ℕ) → X s → (s < j) × Needs q value s × Stays X value s (m s)) → (s : ℕ) → X s → ⊥

-- no state
no-states : (q : Query) (m : ℕ → Distribution) → Solution q 0 m
no-states q m = record {
  top = 1;
  value = λ s. if is_goal q s then 1 else 0;
  positive = omega arith;
  most = λ s inside. few (is_goal q s);
  goals = λ s inside goal. rw goal refl;
  deads = λ s inside other dead. rw other refl;
  harmonic = λ s inside below free. absurd (omega (arith, below));
  no_trap = λ X trap s h. absurd (let at = trap s h in omega (arith, at.0));
}
  where
    few : (goal : Bool) → (if goal then 1 else 0) ≤ 1
    few true = let at : 1 ≤ 1 = omega arith in at
    few false = let at : 0 ≤ 1 = omega arith in at

module _ (q : Query) (j : ℕ) (m : ℕ → Distribution) where
  -- a state that is over, or none
  module _ (over : j < states q → Free q j → ⊥) where
    below : (s : ℕ) → s < states q → s < suc j → Free q s → s < j
    below s inside less free = elim (cases_lt s j) [
      | inl h ↦ h
      | inr last ↦
          let at : s ≡ j = omega (arith, less, last) in
          absurd (over (subst (λ x. x < states q) at inside) (subst (Free q) at free))
    ]

    passed-chain : Chain q (suc j) m → Chain q j m
    passed-chain chain = record {
      fits = λ s inside less free. chain.fits s inside (omega (arith, less)) free;
      closed = λ s inside less free.
          λ i e l open_yet. below _ ((chain.fits s inside (omega (arith, less)) free).inside i e l)
          (chain.closed s inside (omega (arith, less)) free i e l open_yet) open_yet;
    }

    passed : Solution q j m → Solution q (suc j) m
    passed sol = record {
      top = sol.top;
      value = sol.value;
      positive = sol.positive;
      most = sol.most;
      goals = sol.goals;
      deads = sol.deads;
      harmonic = λ s inside less free. sol.harmonic s inside (below s inside less free) free;
      no_trap = λ X trap. sol.no_trap X (λ s h. let at = trap s h in (below s at.1.inside at.0 at.1.free, at.1, at.2));
    }

  -- a state that goes on
  module _ (inside_j : j < states q) (free_j : Free q j) (chain : Chain q (suc j) m) where
    before : (s : ℕ) → s < suc j → (s ≡ j → ⊥) → s < j
    before s less other = elim (cases_lt s j) [ inl l ↦ l | inr r ↦ absurd (other (omega (arith, less, r))) ]

    -- the edges of a state that do not lead to this one
    kept : (s : ℕ) → s < states q → s < suc j → Free q s
        → All (λ e. (e.to < states q) × (e.to ≡ j → ⊥)) (without j (m s).edges)
    kept s inside less free =
        without-all (λ (e : Edge). e.to < states q) j (m s).edges (chain.fits s inside less free).inside

    kept-closed : (s : ℕ) → s < states q → s < suc j → Free q s
        → All (λ e. Free q e.to → e.to < j) (without j (m s).edges)
    kept-closed s inside less free = λ i e l open_yet.
        let at =
        without-all (λ (e : Edge). Free q e.to → e.to < suc j) j (m s).edges (chain.closed s inside less free) i e l in
        before _ (at.0 open_yet) at.1

    kept-inside : (s : ℕ) → s < states q → s < suc j → Free q s → All (λ e. e.to < states q) (without j (m s).edges)
    kept-inside s inside less free = λ i e l. (kept s inside less free i e l).0

    kept-weights : (s : ℕ) → s < states q → s < suc j → Free q s → All (λ e. 1 ≤ e.weight) (without j (m s).edges)
    kept-weights s inside less free = λ i e l.
        (without-all (λ (e : Edge). 1 ≤ e.weight) j (m s).edges (chain.fits s inside less free).weights i e l).0

    kept-few : (s : ℕ) → s < states q → s < suc j → Free q s
        → weight (without j (m s).edges) + onto j (m s).edges ≤ (m s).total
    kept-few s inside less free = omega (arith, split-weight j (m s).edges, (chain.fits s inside less free).few)

    kept-sum : (v : ℕ → ℕ) (x s : ℕ) → s < states q → s < suc j → Free q s
        → weighted_sum (with_at v j x) (without j (m s).edges) ≡ weighted_sum v (without j (m s).edges)
    kept-sum v x s inside less free = sums-same (with_at v j x) v (without j (m s).edges)
        (λ i e l. at-off v j x _ (kept s inside less free i e l).1)

    whole-sum : (v : ℕ → ℕ) (x s : ℕ) → s < states q → s < suc j → Free q s
        → weighted_sum (with_at v j x) (m s).edges ≡ weighted_sum v (without j (m s).edges) + onto j (m s).edges * x
    whole-sum v x s inside less free =
        let split = split-sum (with_at v j x) j (m s).edges in
        omega (arith, split, kept-sum v x s inside less free, ap (λ y. onto j (m s).edges * y) (at-here v j x j refl))

    goal-off : (s : ℕ) → is_goal q s ≡ true → s ≡ j → ⊥
    goal-off s goal same = let no : is_goal q s ≡ false = ap (is_goal q) same ∙ free_j.0 in absurd (cc)

    dead-off : (s : ℕ) → is_dead q s ≡ true → s ≡ j → ⊥
    dead-off s dead same = let no : is_dead q s ≡ false = ap (is_dead q) same ∙ free_j.1 in absurd (cc)

    -- 1. It never leaves: its value is 0.
    module _ (never : (m j).total ≤ onto j (m j).edges) where
      cut-chain : Chain q j (λ s. record { total = (m s).total; edges = without j (m s).edges })
      cut-chain = record {
        fits = λ s inside less free.
            let old = chain.fits s inside (omega (arith, less)) free in
            record {
              positive = old.positive;
              weights = kept-weights s inside (omega (arith, less)) free;
              few = omega (arith, kept-few s inside (omega (arith, less)) free);
              inside = kept-inside s inside (omega (arith, less)) free;
            };
        closed = λ s inside less free. kept-closed s inside (omega (arith, less)) free;
      }

      zero-sum : (x w t : ℕ) → w ≡ 0 → x ≤ w * t → x ≡ 0
      zero-sum x w t none h = let at : w * t ≡ 0 * t = ap (λ y. y * t) none in omega (arith, h, at)

      cut-solution : Solution q j (λ s. record { total = (m s).total; edges = without j (m s).edges })
          → Solution q (suc j) m
      cut-solution sol = record {
        top = sol.top;
        value = with_at sol.value j 0;
        positive = sol.positive;
        most = λ s inside. elim (cases_eq s j) [
          | inl same ↦ omega (arith, at-here sol.value j 0 s same)
          | inr other ↦ omega (arith, at-off sol.value j 0 s other, sol.most s inside)
        ];
        goals = λ s inside goal. at-off sol.value j 0 s (goal-off s goal) ∙ sol.goals s inside goal;
        deads = λ s inside other dead. at-off sol.value j 0 s (dead-off s dead) ∙ sol.deads s inside other dead;
        harmonic = λ s inside less free. elim (cases_eq s j) [
          | inr other ↦
              omega (
                arith,
                whole-sum sol.value 0 s inside less free,
                sol.harmonic s inside (before s less other) free,
                ap (λ x. x * (m s).total) (at-off sol.value j 0 s other),
              )
          | inl same ↦
              let none : weight (without j (m s).edges) ≡ 0 = subst (λ x. weight (without j (m x).edges) ≡ 0) (sym same)
              (omega (arith, kept-few j inside_j (omega arith) free_j, never)) in
              let bound : weighted_sum sol.value (without j (m s).edges)
              ≤ weighted_sum (λ t. sol.top) (without j (m s).edges) =
              sums-in_order sol.value (λ t. sol.top) (without j (m s).edges)
              (λ i e l. sol.most _ (kept-inside s inside less free i e l)) in
              let small : weighted_sum sol.value (without j (m s).edges) ≡ 0 =
              zero-sum (weighted_sum sol.value (without j (m s).edges)) (weight (without j (m s).edges)) sol.top none
              (omega (arith, bound, weighted-constant sol.top (without j (m s).edges))) in
              omega (
                arith,
                whole-sum sol.value 0 s inside less free,
                small,
                ap (λ x. x * (m s).total) (at-here sol.value j 0 s same),
              )
        ];
        no_trap = λ X trap. sol.no_trap X (λ s h.
            let at = trap s h in
            let off : s ≡ j → ⊥ = λ same. absurd (omega (arith, at.1.some, at-here sol.value j 0 s same)) in (
              before s at.0 off,
              record {
                inside = at.1.inside;
                free = at.1.free;
                some = omega (arith, at.1.some, at-off sol.value j 0 s off);
              },
              λ i e l.
                  let k =
                  without-all (λ (e : Edge). X e.to × (with_at sol.value j 0 e.to ≡ with_at sol.value j 0 s))
                  j (m s).edges at.2 i e l in
                  (k.0.0, sym (at-off sol.value j 0 _ k.1) ∙ k.0.1 ∙ at-off sol.value j 0 s off),
            ));
      }

    -- 2. It leaves: each edge to it is replaced by its own edges.
    module _ (leaves : onto j (m j).edges < (m j).total) where
      abbrev rest : ℕ
      rest = (m j).total - onto j (m j).edges

      abbrev past : ℕ → Distribution
      past s = record {
        total = (m s).total * rest;
        edges = scaled rest (without j (m s).edges) ++ scaled (onto j (m s).edges) (without j (m j).edges);
      }

      own-few : weight (without j (m j).edges) ≤ rest
      own-few = omega (arith, kept-few j inside_j (omega arith) free_j)

      past-weight : (w u r x y tot : ℕ) → x + u ≤ tot → y ≤ r → w ≡ r * x + u * y → w ≤ tot * r
      past-weight w u r x y tot few own is = omega (arith, is, mul-le-mul_left u own, mul-le-mul_right r few)

      past-sum : (f : Edge → ℕ) → ((k : ℕ) (e : Edge) → f (times k e) ≡ k * f e) → (s : ℕ) → sum_by f (past s).edges
          ≡ rest * sum_by f (without j (m s).edges) + onto j (m s).edges * sum_by f (without j (m j).edges)
      past-sum f grows s =
          sum_by-append f (scaled rest (without j (m s).edges)) (scaled (onto j (m s).edges) (without j (m j).edges))
          ∙ rw (
            scaled-sum f grows rest (without j (m s).edges),
            scaled-sum f grows (onto j (m s).edges) (without j (m j).edges),
          ) refl

      past-all : (P : ℕ → Type 0) (s : ℕ) → All (λ e. P e.to) (without j (m s).edges)
          → (0 < onto j (m s).edges → All (λ e. P e.to) (without j (m j).edges)) → All (λ e. P e.to) (past s).edges
      past-all P s some own = All-append (λ (e : Edge). P e.to) (scaled rest (without j (m s).edges))
          (scaled (onto j (m s).edges) (without j (m j).edges)) (scaled-all P rest (without j (m s).edges) (λ _. some))
          (scaled-all P (onto j (m s).edges) (without j (m j).edges) own)

      past-chain : Chain q j past
      past-chain = record {
        fits = λ s inside less free.
            let old = chain.fits s inside (omega (arith, less)) free in
            record {
              positive = mul-pos old.positive (omega (arith, leaves));
              weights = All-append (λ (e : Edge). 1 ≤ e.weight) (scaled rest (without j (m s).edges))
                  (scaled (onto j (m s).edges) (without j (m j).edges))
                  (scaled-weights rest (without j (m s).edges) (kept-weights s inside (omega (arith, less)) free))
                  (scaled-weights (onto j (m s).edges) (without j (m j).edges)
                  (kept-weights j inside_j (omega arith) free_j));
              few = past-weight (weight (past s).edges) (onto j (m s).edges) rest (weight (without j (m s).edges))
                  (weight (without j (m j).edges)) (m s).total (kept-few s inside (omega (arith, less)) free) own-few
                  (past-sum (λ e. e.weight) (λ k e. refl) s);
              inside = past-all (λ t. t < states q) s (kept-inside s inside (omega (arith, less)) free)
                  (λ _. kept-inside j inside_j (omega arith) free_j);
            };
        closed = λ s inside less free.
            past-all (λ t. Free q t → t < j) s (kept-closed s inside (omega (arith, less)) free)
            (λ _. kept-closed j inside_j (omega arith) free_j);
      }

      own-share : (u r x tot : ℕ) → u + r ≡ tot → x * r + u * x ≡ x * tot
      own-share u r x tot whole = rw (← whole) (omega arith)

      other-share : (big small u r x y v tot : ℕ) → small ≡ r * x + u * y → small ≡ v * (tot * r)
          → big ≡ x * r + u * y → big ≡ v * r * tot
      other-share big small u r x y v tot one two three = omega (arith, one, two, three)

      module _ (sol : Solution q j past) where
        abbrev own : ℕ
        own = weighted_sum sol.value (without j (m j).edges)

        abbrev table : ℕ → ℕ
        table s = with_at (λ t. sol.value t * rest) j own s

        table-sum : (s : ℕ) → s < states q → s < suc j → Free q s → weighted_sum table (m s).edges
            ≡ weighted_sum sol.value (without j (m s).edges) * rest + onto j (m s).edges * own
        table-sum s inside less free =
            whole-sum (λ t. sol.value t * rest) own s inside less free
            ∙ rw (sum-multiple sol.value rest (without j (m s).edges)) refl

        own-most : own ≤ sol.top * rest
        own-most =
            let sums : own ≤ weighted_sum (λ t. sol.top) (without j (m j).edges) =
            sums-in_order sol.value (λ t. sol.top) (without j (m j).edges)
            (λ i e l. sol.most _ (kept-inside j inside_j (omega arith) free_j i e l)) in
            omega (arith, sums, weighted-constant sol.top (without j (m j).edges), mul-le-mul_right sol.top own-few)

        table-harmonic : (s : ℕ) → s < states q → s < suc j → Free q s
            → weighted_sum table (m s).edges ≡ table s * (m s).total
        table-harmonic s inside less free = elim (cases_eq s j) [
          | inr other ↦
              other-share (weighted_sum table (m s).edges) (weighted_sum sol.value (past s).edges)
              (onto j (m s).edges) rest (weighted_sum sol.value (without j (m s).edges)) own (sol.value s) (m s).total
              (past-sum (λ e. e.weight * sol.value e.to) (λ k e. omega arith) s)
              (sol.harmonic s inside (before s less other) free) (table-sum s inside less free)
              ∙ ap (λ x. x * (m s).total) (sym (at-off (λ t. sol.value t * rest) j own s other))
          | inl same ↦
              let here : weighted_sum table (m j).edges ≡ own * (m j).total =
              table-sum j inside_j (omega arith) free_j
              ∙ own-share (onto j (m j).edges) rest own (m j).total (omega (arith, leaves)) in
              subst (λ x. weighted_sum table (m x).edges ≡ own * (m x).total) (sym same) here
              ∙ ap (λ x. x * (m s).total) (sym (at-here (λ t. sol.value t * rest) j own s same))
        ]

        cancel-rest : (x y : ℕ) → x * rest ≡ y * rest → x ≡ y
        cancel-rest x y h =
            let positive : 0 < rest = omega (arith, leaves) in
            let one : x ≤ y = le_of_mul-le-mul_left (let at : rest * x ≤ rest * y = omega (arith, h) in at) positive in
            let two : y ≤ x = le_of_mul-le-mul_left (let at : rest * y ≤ rest * x = omega (arith, h) in at) positive in
            omega (arith, one, two)

        module _ (X : ℕ → Type 0) (trap : (s : ℕ) → X s → (s < suc j) × Needs q table s × Stays X table s (m s)) where
          -- what stays, but for edges to the state
          stays-kept : (y s : ℕ) → X s → table s ≡ sol.value y * rest → All
              (λ (e : Edge). (X e.to × (e.to < j)) × (sol.value e.to ≡ sol.value y)) (without j (m s).edges)
          stays-kept y s h same = λ i e l.
              let k = without-all (λ (e : Edge). X e.to × (table e.to ≡ table s)) j (m s).edges (trap s h).2 i e l in (
                (k.0.0, before _ (trap _ k.0.0).0 k.1),
                cancel-rest _ (sol.value y) (sym (at-off (λ t. sol.value t * rest) j own _ k.1) ∙ k.0.1 ∙ same),
              )

          none-below : (s : ℕ) → X s × (s < j) → ⊥
          none-below = sol.no_trap (λ s. X s × (s < j)) (λ y h.
              let at = trap y h.0 in
              let off : y ≡ j → ⊥ = λ same. omega (arith, h.1, same) in
              let same_y : table y ≡ sol.value y * rest = at-off (λ t. sol.value t * rest) j own y off in
              let some : 0 < sol.value y = factor-pos (sol.value y) rest 0 (omega (arith, at.1.some, same_y)) in (
                h.1,
                record { inside = at.1.inside; free = at.1.free; some = some },
                past-all (λ t. (X t × (t < j)) × (sol.value t ≡ sol.value y)) y (stays-kept y y h.0 same_y) (λ leads.
                    let here : X j × (table j ≡ table y) =
                    onto-some (λ t. X t × (table t ≡ table y)) j (m y).edges at.2 leads in
                    stays-kept y j here.0 (here.1 ∙ same_y)),
              ))

          none : (s : ℕ) → X s → ⊥
          none s h = elim (cases_lt s j) [
            | inl less ↦ none-below s (h, less)
            | inr last ↦
                let same : s ≡ j = omega (arith, last, (trap s h).0) in
                let here : X j = subst X same h in
                let some : 0 < table j = (trap j here).1.some in
                no-edges (without j (m j).edges) (λ i e l.
                let k =
                without-all (λ (e : Edge). X e.to × (table e.to ≡ table j)) j (m j).edges (trap j here).2 i e l in
                none-below _ (k.0.0, before _ (trap _ k.0.0).0 k.1))
                (subst (λ x. 0 < x) (at-here (λ t. sol.value t * rest) j own j refl) some)
          ]
            where
              no-edges : (es : List Edge) → All (λ (e : Edge). ⊥) es → 0 < weighted_sum sol.value es → ⊥
              no-edges [] all some = omega (arith, some)
              no-edges (e ∷ es) all some = all 0 e (omega arith)

        past-solution : Solution q (suc j) m
        past-solution = record {
          top = sol.top * rest;
          value = table;
          positive = mul-pos sol.positive (omega (arith, leaves));
          most = λ s inside. elim (cases_eq s j) [
            | inl same ↦ omega (arith, at-here (λ t. sol.value t * rest) j own s same, own-most)
            | inr other ↦ omega
                (arith, at-off (λ t. sol.value t * rest) j own s other, mul-le-mul_right rest (sol.most s inside))
          ];
          goals = λ s inside goal. at-off (λ t. sol.value t * rest) j own s (goal-off s goal)
              ∙ ap (λ x. x * rest) (sol.goals s inside goal);
          deads = λ s inside other dead. omega (
            arith,
            at-off (λ t. sol.value t * rest) j own s (dead-off s dead),
            ap (λ x. x * rest) (sol.deads s inside other dead),
          );
          harmonic = table-harmonic;
          no_trap = none;
        }

-- each chain has a solution
pub solution : (q : Query) (j : ℕ) (m : ℕ → Distribution) → Chain q j m → Solution q j m
solution q zero m chain = no-states q m
solution q (suc j) m chain = elim (dec-both _ _ (dec-lt j (states q)) (dec-free q j)) [
  | inr over ↦
      let past : j < states q → Free q j → ⊥ = λ inside free. over (inside, free) in
      passed q j m past (solution q j m (passed-chain q j m past chain))
  | inl at ↦ elim (cases_lt (onto j (m j).edges) (m j).total) [
    | inl leaves ↦
        past-solution q j m at.0 at.1 chain leaves (solution q j _ (past-chain q j m at.0 at.1 chain leaves))
    | inr never ↦ cut-solution q j m at.0 at.1 chain never (solution q j _ (cut-chain q j m at.0 at.1 chain never))
  ]
]
