-- Every question has exact values: state after state, its choices are split into single ones.
use Rattle.std.proofs.Common.{◌≡◌, ℕ, zero, suc, ◌*◌, ◌<◌, ◌≤◌, List, [], ◌∷◌, length, arith, refl, sym, ap}
use Rattle.std.proofs.Common.{subst, inl, inr, ◌⊎◌, ◌∙◌}
use Rattle.std.specs.List.{All}
use Rattle.std.proofs.lemmas.List.Elements.{All-cons, All-head, All-tail}
use Rattle.std.proofs.lemmas.Bool.{cases_lt, cases_eq}
use Rattle.game_model.specs.declared.game.Side.{Side}
use Rattle.game_model.specs.declared.game.Side.TheVariants.{Max, Min}
use Rattle.game_model.specs.Game.{Distribution, no_distribution}
use Rattle.game_model.specs.Query.{Query, states, side_at}
use Rattle.game_model.specs.Values.{weighted_sum}
use Rattle.determinacy.proofs.Descent.{Fits, Held, Enough}
use Rattle.determinacy.proofs.Arena.{Some, All-single, Free, SolvedAt, FitAll, Solves, RankedAt, Exact, Stays}
use Rattle.determinacy.proofs.Arena.{CaughtAt, with_at, at-here, at-off}
use Rattle.determinacy.proofs.Decided.{dec-free}
use Rattle.determinacy.proofs.Layers.{ranks-of}
use Rattle.determinacy.proofs.Splits.{max-both, min-both}
use Rattle.determinacy.proofs.Chains.{Chain, Solution, solution}

-- the same choices give the same
exact-same : (q : Query) (c c' : ℕ → List Distribution) → ((s : ℕ) → s < states q → Free q s → c s ≡ c' s)
    → Exact q c → Exact q c'
exact-same q c c' same a = record {
  top = a.top;
  value = a.value;
  rank = a.rank;
  solves = record {
    positive = a.solves.positive;
    most = a.solves.most;
    goals = a.solves.goals;
    deads = a.solves.deads;
    solved = λ s inside free.
        subst (λ ms. SolvedAt (side_at q s) a.value s ms) (same s inside free) (a.solves.solved s inside free);
  };
  ranks = λ s needs. subst (λ ms. RankedAt (side_at q s) a.value a.rank s ms)
      (same s needs.inside needs.free) (a.ranks s needs);
}

abbrev pub first : List Distribution → Distribution
first [] = no_distribution
first (m ∷ ms) = m

-- 1. One choice for each state.
module _ (q : Query) (m : ℕ → Distribution) (fit : FitAll q (λ s. m s ∷ [])) where
  one-fits : (s : ℕ) → s < states q → Fits (states q) (m s)
  one-fits s inside = All-head (Fits (states q)) (m s) [] (fit s inside)

  as-chain : Chain q (states q) m
  as-chain = record {
    fits = λ s inside less free. one-fits s inside;
    closed = λ s inside less free i e l open_yet. (one-fits s inside).inside i e l;
  }

  module _ (sol : Solution q (states q) m) where
    solved-one : (side : Side) (s : ℕ) → weighted_sum sol.value (m s).edges ≡ sol.value s * (m s).total
        → SolvedAt side sol.value s (m s ∷ [])
    solved-one Max s same = (All-single (Held sol.value s) (m s) (omega (arith, same)), inl (omega (arith, same)))
    solved-one Min s same = (All-single (Enough sol.value s) (m s) (omega (arith, same)), inl (omega (arith, same)))

    one-solves : Solves q (λ s. m s ∷ []) sol.top sol.value
    one-solves = record {
      positive = sol.positive;
      most = sol.most;
      goals = sol.goals;
      deads = sol.deads;
      solved = λ s inside free. solved-one (side_at q s) s (sol.harmonic s inside inside free);
    }

    stays-one : (X : ℕ → Type 0) (side : Side) (s : ℕ) → weighted_sum sol.value (m s).edges ≡ sol.value s * (m s).total
        → CaughtAt side X sol.value s (m s ∷ []) → Stays X sol.value s (m s)
    stays-one X Max s same caught = caught 0 (m s) (omega arith) (omega (arith, same))
    stays-one X Min s same (inl stays) = stays
    stays-one X Min s same (inr none) = absurd none

    one-exact : Exact q (λ s. m s ∷ [])
    one-exact =
        let made = ranks-of q (λ s. m s ∷ []) fit sol.top sol.value one-solves
        (λ X trap. sol.no_trap X (λ s h.
        let needs = trap.needs s h in (
          needs.inside,
          needs,
          stays-one X (side_at q s) s (sol.harmonic s needs.inside needs.inside needs.free) (trap.caught s h),
        ))) in
        record { top = sol.top; value = sol.value; rank = made.0; solves = one-solves; ranks = made.1 }

  pub single-exact : Exact q (λ s. m s ∷ [])
  single-exact = one-exact (solution q (states q) m as-chain)

-- 2. More choices at one state.
fit-at : (q : Query) (c : ℕ → List Distribution) (j : ℕ) (ms : List Distribution) → FitAll q c
    → All (Fits (states q)) ms → FitAll q (with_at c j ms)
fit-at q c j ms fit fits s inside = elim (cases_eq s j) [
  | inl same ↦ subst (All (Fits (states q))) (sym (at-here c j ms s same)) fits
  | inr other ↦ subst (All (Fits (states q))) (sym (at-off c j ms s other)) (fit s inside)
]

-- a choice more
module _ (q : Query) (c : ℕ → List Distribution) (fit : FitAll q c) (j : ℕ) (inside : j < states q)
    (free : Free q j) (m : Distribution) (ms : List Distribution) (fit_m : Fits (states q) m)
    (fit_ms : All (Fits (states q)) ms) where
  abbrev one : ℕ → List Distribution
  one = with_at c j (m ∷ [])

  abbrev rest : ℕ → List Distribution
  rest = with_at c j ms

  abbrev all : ℕ → List Distribution
  all = with_at c j (m ∷ ms)

  off : (xs ys : List Distribution) (s : ℕ) → (s ≡ j → ⊥) → with_at c j xs s ≡ with_at c j ys s
  off xs ys s other = at-off c j xs s other ∙ sym (at-off c j ys s other)

  all-first : (P : Distribution → Type 0) → All P (one j) → All P (rest j)
      → All P (all j)
  all-first P h k = subst (All P) (sym (at-here c j (m ∷ ms) j refl)) (All-cons P m ms
      (All-head P m [] (subst (All P) (at-here c j (m ∷ []) j refl) h)) (subst (All P) (at-here c j ms j refl) k))

  some-first : (P : Distribution → Type 0) → Some P (one j) → Some P (all j)
  some-first P h = subst (Some P) (sym (at-here c j (m ∷ ms) j refl))
      (elim (subst (Some P) (at-here c j (m ∷ []) j refl) h) [ inl here ↦ inl here | inr none ↦ absurd none ])

  some-rest : (P : Distribution → Type 0) → Some P (rest j) → Some P (all j)
  some-rest P h = subst (Some P) (sym (at-here c j (m ∷ ms) j refl)) (inr (subst (Some P) (at-here c j ms j refl) h))

  which-first : (P : Distribution → Type 0) → Some P (all j) → Some P (one j) ⊎ Some P (rest j)
  which-first P h = elim (subst (Some P) (at-here c j (m ∷ ms) j refl) h) [
    | inl here ↦ inl (subst (Some P) (sym (at-here c j (m ∷ []) j refl)) (inl here))
    | inr later ↦ inr (subst (Some P) (sym (at-here c j ms j refl)) later)
  ]

  which-rest : (P : Distribution → Type 0) → Some P (all j) → Some P (rest j) ⊎ Some P (one j)
  which-rest P h = elim (which-first P h) [ inl x ↦ inr x | inr y ↦ inl y ]

  fit_one : FitAll q one
  fit_one = fit-at q c j (m ∷ []) fit (All-single (Fits (states q)) m fit_m)

  fit_rest : FitAll q rest
  fit_rest = fit-at q c j ms fit fit_ms

  fit_all : FitAll q all
  fit_all = fit-at q c j (m ∷ ms) fit (All-cons (Fits (states q)) m ms fit_m fit_ms)

  by-side : (side : Side) → side_at q j ≡ side → Exact q one → Exact q rest → Exact q all
  by-side Max is a b = elim (cases_lt (a.value j * b.top) (b.value j * a.top)) [
    | inr first ↦ max-both q j inside free all one rest fit_all fit_one fit_rest (off _ _)
        (off _ _) all-first some-first which-first a b is first
    | inl second ↦ max-both q j inside free all rest one fit_all fit_rest fit_one (off _ _) (off _ _)
        (λ P h k. all-first P k h) some-rest which-rest b a is (omega (arith, second))
  ]
  by-side Min is a b = elim (cases_lt (b.value j * a.top) (a.value j * b.top)) [
    | inr first ↦ min-both q j inside free all one rest fit_all fit_one fit_rest (off _ _)
        (off _ _) all-first some-first which-first a b is first
    | inl second ↦ min-both q j inside free all rest one fit_all fit_rest fit_one (off _ _) (off _ _)
        (λ P h k. all-first P k h) some-rest which-rest b a is (omega (arith, second))
  ]

-- 3. All states.
abbrev SingleFrom : Query → ℕ → (ℕ → List Distribution) → Type 0
SingleFrom q j c = (s : ℕ) → s < states q → j ≤ s → c s ≡ first (c s) ∷ []

abbrev SomeAll : Query → (ℕ → List Distribution) → Type 0
SomeAll q c = (s : ℕ) → s < states q → 0 < length (c s)

single-at : (q : Query) (c : ℕ → List Distribution) (j : ℕ) (m : Distribution) → SingleFrom q (suc j) c
    → SingleFrom q j (with_at c j (m ∷ []))
single-at q c j m single s inside from = elim (cases_eq s j) [
  | inl same ↦
      let at : with_at c j (m ∷ []) s ≡ m ∷ [] = at-here c j (m ∷ []) s same in
      at ∙ sym (ap (λ ms. first ms ∷ []) at)
  | inr other ↦
      let at : with_at c j (m ∷ []) s ≡ c s = at-off c j (m ∷ []) s other in
      let later : suc j ≤ s =
      elim (cases_lt j s) [ inl l ↦ omega (arith, l) | inr r ↦ absurd (other (omega (arith, from, r))) ] in
      at ∙ single s inside later ∙ sym (ap (λ ms. first ms ∷ []) at)
]

some-at : (q : Query) (c : ℕ → List Distribution) (j : ℕ) (m : Distribution) → SomeAll q c
    → SomeAll q (with_at c j (m ∷ []))
some-at q c j m some s inside = elim (cases_eq s j) [
  | inl same ↦ subst (λ ms. 0 < length ms) (sym (at-here c j (m ∷ []) s same)) (omega arith)
  | inr other ↦ subst (λ ms. 0 < length ms) (sym (at-off c j (m ∷ []) s other)) (some s inside)
]

-- the choices of one state, one after another
grown : (q : Query) (c : ℕ → List Distribution) (j : ℕ) → FitAll q c → SomeAll q c → SingleFrom q (suc j) c
    → j < states q → Free q j → ((d : ℕ → List Distribution) → FitAll q d → SomeAll q d → SingleFrom q j d → Exact q d)
    → (m : Distribution) (ms : List Distribution) → Fits (states q) m → All (Fits (states q)) ms
    → Exact q (with_at c j (m ∷ ms))
grown q c j fit some single inside free before m [] fit_m fit_ms = before (with_at c j (m ∷ []))
    (fit-at q c j (m ∷ []) fit (All-single (Fits (states q)) m fit_m)) (some-at q c j m some) (single-at q c j m single)
grown q c j fit some single inside free before m (m' ∷ ms) fit_m fit_ms =
    by-side q c fit j inside free m (m' ∷ ms) fit_m fit_ms (side_at q j) refl
    (before (with_at c j (m ∷ [])) (fit-at q c j (m ∷ []) fit (All-single (Fits (states q)) m fit_m))
    (some-at q c j m some) (single-at q c j m single))
    (grown q c j fit some single inside free before m' ms (All-head (Fits (states q)) m' ms fit_ms)
    (All-tail (Fits (states q)) m' ms fit_ms))

-- a state with its choices
at-state : (q : Query) (c : ℕ → List Distribution) (j : ℕ) → FitAll q c → SomeAll q c → SingleFrom q (suc j) c
    → j < states q → Free q j → ((d : ℕ → List Distribution) → FitAll q d → SomeAll q d → SingleFrom q j d → Exact q d)
    → (ms : List Distribution) → c j ≡ ms → Exact q c
at-state q c j fit some single inside free before [] is =
    absurd (omega (arith, some j inside, ap (λ (xs : List Distribution). length xs) is))
at-state q c j fit some single inside free before (m ∷ ms) is =
    let fits : All (Fits (states q)) (m ∷ ms) = subst (All (Fits (states q))) is (fit j inside) in
    exact-same q (with_at c j (m ∷ ms)) c (λ s l f. elim (cases_eq s j) [
      | inl same ↦ at-here c j (m ∷ ms) s same ∙ sym is ∙ ap c (sym same)
      | inr other ↦ at-off c j (m ∷ ms) s other
    ]) (grown q c j fit some single inside free before m ms (All-head (Fits (states q)) m ms fits)
    (All-tail (Fits (states q)) m ms fits))

first-fits : (q : Query) (ms : List Distribution) → 0 < length ms → All (Fits (states q)) ms
    → Fits (states q) (first ms)
first-fits q [] some h = absurd (omega (arith, some))
first-fits q (m ∷ ms) some h = All-head (Fits (states q)) m ms h

-- a state that is over needs no choices: one will do
over-state : (q : Query) (c : ℕ → List Distribution) (j : ℕ) → FitAll q c
    → SomeAll q c → SingleFrom q (suc j) c → j < states q → (Free q j → ⊥)
    → ((d : ℕ → List Distribution) → FitAll q d → SomeAll q d → SingleFrom q j d → Exact q d) → Exact q c
over-state q c j fit some single inside over before =
    exact-same q (with_at c j (first (c j) ∷ [])) c
    (λ s l free. at-off c j (first (c j) ∷ []) s (λ same. over (subst (Free q) same free)))
    (before (with_at c j (first (c j) ∷ []))
    (fit-at q c j (first (c j) ∷ []) fit
    (All-single (Fits (states q)) (first (c j)) (first-fits q (c j) (some j inside) (fit j inside))))
    (some-at q c j (first (c j)) some) (single-at q c j (first (c j)) single))

pub exact-from : (q : Query) (j : ℕ) (c : ℕ → List Distribution) → FitAll q c → SomeAll q c
    → SingleFrom q j c → Exact q c
exact-from q zero c fit some single =
    exact-same q (λ s. first (c s) ∷ []) c (λ s inside free. sym (single s inside (omega arith)))
    (single-exact q (λ s. first (c s)) (λ s inside. All-single (Fits (states q)) (first (c s))
    (first-fits q (c s) (some s inside) (fit s inside))))
exact-from q (suc j) c fit some single = elim (cases_lt j (states q)) [
  | inr past ↦ exact-from q j c fit some (λ s inside from. absurd (omega (arith, inside, past, from)))
  | inl inside ↦ elim (dec-free q j) [
    | inr over ↦ over-state q c j fit some single inside over (exact-from q j)
    | inl free ↦ at-state q c j fit some single inside free (exact-from q j) (c j) refl
  ]
]

-- all of them
pub exact-values : (q : Query) (c : ℕ → List Distribution) → FitAll q c → SomeAll q c → Exact q c
exact-values q c fit some = exact-from q (states q) c fit some (λ s inside from. absurd (omega (arith, inside, from)))
