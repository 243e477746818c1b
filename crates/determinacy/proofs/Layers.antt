-- A table that solves the equations has ranks, or there is a trap.
use Rattle.std.proofs.Common.{◌≡◌, ℕ, zero, suc, ◌+◌, ◌-◌, ◌*◌, ◌<◌, ◌≤◌, List, get_or, arith, refl}
use Rattle.std.proofs.Common.{subst, inl, inr, ◌⊎◌}
use Rattle.std.specs.List.{All}
use Rattle.std.proofs.lemmas.Bool.{cases_lt}
use Rattle.std.proofs.Math.Nat.{mul-le-mul_right}
use Rattle.game_model.specs.declared.game.Edge.{Edge}
use Rattle.game_model.specs.declared.game.Side.{Side}
use Rattle.game_model.specs.declared.game.Side.TheVariants.{Max, Min}
use Rattle.game_model.specs.Game.{Distribution, no_edge}
use Rattle.game_model.specs.Query.{Query, states, side_at}
use Rattle.game_model.specs.Values.{weighted_sum}
use Rattle.strategies.proofs.Sums.{weighted-constant}
use Rattle.determinacy.proofs.Sums.{tight}
use Rattle.determinacy.proofs.Descent.{Fits, Enough, Onward}
use Rattle.determinacy.proofs.Arena.{Some, Some-weaker, Some-place, Some-both, SolvedAt, FitAll, Solves, Needs}
use Rattle.determinacy.proofs.Arena.{RankedAt, Ranks, Stays, CaughtAt, Trap}
use Rattle.determinacy.proofs.Decided.{Decided, dec-all, dec-both, dec-either, dec-eq, dec-free, dec-le, dec-lt}
use Rattle.determinacy.proofs.Decided.{dec-not, dec-some, not-all, none-all, tally, tally-more, tally-most}

module _ (q : Query) (choices : ℕ → List Distribution) (v : ℕ → ℕ) where
  -- an edge to a greater value, or to an equal one in a set
  abbrev Into : (ℕ → Type 0) → ℕ → Distribution → Type 0
  Into A s m = Some (λ e. (v s < v e.to) ⊎ ((v e.to ≡ v s) × A e.to)) m.edges

  abbrev Leads : Side → (ℕ → Type 0) → ℕ → List Distribution → Type 0
  Leads Max A s ms = Some (λ m. Enough v s m × Into A s m) ms
  Leads Min A s ms = All (Into A s) ms

  abbrev Layer : ℕ → ℕ → Type 0
  Layer zero s = Needs q v s → ⊥
  Layer (suc r) s = Layer r s ⊎ Leads (side_at q s) (Layer r) s (choices s)

  pub dec-needs : (s : ℕ) → Decided (Needs q v s)
  dec-needs s = elim (dec-both _ _ (dec-lt s (states q))
      (dec-both _ _ (dec-free q s) (dec-lt 0 (v s)))) [
        | inl h ↦ inl (record { inside = h.0; free = h.1.0; some = h.1.1 })
        | inr h ↦ inr (λ n. h (n.inside, (n.free, n.some)))
      ]

  dec-into : (A : ℕ → Type 0) → ((s : ℕ) → Decided (A s)) → (s : ℕ) (m : Distribution) → Decided (Into A s m)
  dec-into A d s m = dec-some (λ (e : Edge). (v s < v e.to) ⊎ ((v e.to ≡ v s) × A e.to))
      (λ e. dec-either _ _ (dec-lt (v s) (v e.to)) (dec-both _ _ (dec-eq (v e.to) (v s)) (d e.to))) m.edges

  dec-leads : (A : ℕ → Type 0) → ((s : ℕ) → Decided (A s)) → (side : Side) (s : ℕ) (ms : List Distribution)
      → Decided (Leads side A s ms)
  dec-leads A d Max s ms = dec-some (λ m. Enough v s m × Into A s m)
      (λ m. dec-both _ _ (dec-le (v s * m.total) (weighted_sum v m.edges)) (dec-into A d s m)) ms
  dec-leads A d Min s ms = dec-all (Into A s) (dec-into A d s) ms

  dec-layer : (r s : ℕ) → Decided (Layer r s)
  dec-layer zero s = dec-not _ (dec-needs s)
  dec-layer (suc r) s = dec-either _ _ (dec-layer r s) (dec-leads (Layer r) (dec-layer r) (side_at q s) s (choices s))

  -- after so many layers no more is added, or there are at least so many states
  search : (r : ℕ) → ((k : ℕ) × ((s : ℕ) → s < states q → Layer (suc k) s → Layer k s))
      ⊎ (r ≤ tally {A = Layer r} (dec-layer r) (states q))
  search zero = inr (omega arith)
  search (suc r) = elim (search r) [
    | inl found ↦ inl found
    | inr many ↦ elim (tally-more {A = Layer r} {B = Layer (suc r)} (dec-layer r) (dec-layer (suc r))
        (λ s h. inl h) (states q)).1 [
          | inl same ↦ inl (r, same)
          | inr more ↦ inr (omega (arith, many, more))
        ]
  ]

  settled : (k : ℕ) × ((s : ℕ) → s < states q → Layer (suc k) s → Layer k s)
  settled = elim (search (suc (states q))) [
    | inl found ↦ found
    | inr many ↦
        absurd (omega (arith, many, tally-most {A = Layer (suc (states q))} (dec-layer (suc (states q))) (states q)))
  ]

  later : (d r k s : ℕ) → d + r ≡ k → Layer r s → Layer k s
  later zero r k s is h = subst (λ n. Layer n s) (let at : r ≡ k = omega (arith, is) in at) h
  later (suc d) r zero s is h = absurd (omega (arith, is))
  later (suc d) r (suc k) s is h = inl (later d r k s (omega (arith, is)) h)

  least : (k s : ℕ) → Layer k s → (r : ℕ) × (Layer r s × ((j : ℕ) → Layer j s → r ≤ j))
  least zero s h = (0, (h, λ j there. omega arith))
  least (suc k) s h = elim (dec-layer k s) [
    | inl earlier ↦ least k s earlier
    | inr none ↦ (
      suc k,
      (
        h,
        λ j there. elim (cases_lt k j) [
          | inl more ↦ omega (arith, more)
          | inr few ↦ absurd (none (later (k - j) j k s (omega (arith, few)) there))
        ],
      ),
    )
  ]

  ranking : (k s : ℕ) → (r : ℕ) × ((Layer k s → Layer r s) × ((j : ℕ) → Layer j s → r ≤ j))
  ranking k s = elim (dec-layer k s) [
    | inl member ↦ let one = least k s member in (one.0, ((λ h. one.1.0), one.1.1))
    | inr none ↦ (0, ((λ h. absurd (none h)), λ j there. omega arith))
  ]

  into-onward : (A : ℕ → Type 0) (rank : ℕ → ℕ) (s : ℕ) (m : Distribution) → ((t : ℕ) → A t → rank t < rank s)
      → Into A s m → Onward v rank s m
  into-onward A rank s m lower h =
      let at = Some-place (λ (e : Edge). (v s < v e.to) ⊎ ((v e.to ≡ v s) × A e.to)) m.edges no_edge h in
      record {
        place = at.0;
        within = at.1.0;
        further = elim at.1.1 [ inl greater ↦ inl greater | inr equal ↦ inr (equal.0, lower _ equal.1) ];
      }

  leads-ranked : (A : ℕ → Type 0) (rank : ℕ → ℕ) (s : ℕ) (side : Side) (ms : List Distribution)
      → ((t : ℕ) → A t → rank t < rank s) → Leads side A s ms → RankedAt side v rank s ms
  leads-ranked A rank s Max ms lower h = Some-weaker _ _ (λ m both. (both.0, into-onward A rank s m lower both.1)) ms h
  leads-ranked A rank s Min ms lower h = λ i m l. into-onward A rank s _ lower (h i m l)

-- nothing is greater, and all are given: all have one value
all-equal : (n : ℕ) (v : ℕ → ℕ) (s : ℕ) (m : Distribution) → Fits n m → Enough v s m
    → All (λ e. v e.to ≤ v s) m.edges → All (λ e. v e.to ≡ v s) m.edges
all-equal n v s m fits enough most =
    tight v (λ t. v s) m.edges fits.weights most
    (rw (weighted-constant (v s) m.edges) (omega (arith, enough, mul-le-mul_right (v s) fits.few)))

module _ (q : Query) (choices : ℕ → List Distribution) (fit : FitAll q choices) (t : ℕ) (v : ℕ → ℕ)
    (solves : Solves q choices t v) where
  abbrev L : ℕ → ℕ → Type 0
  L r s = Layer q choices v r s

  abbrev last : ℕ
  last = (settled q choices v).0

  abbrev Left : ℕ → Type 0
  Left s = L last s → ⊥

  left-needs : (k s : ℕ) → (L k s → ⊥) → Needs q v s
  left-needs zero s h = elim (dec-needs q choices v s) [ inl needs ↦ needs | inr none ↦ absurd (h none) ]
  left-needs (suc k) s h = left-needs k s (λ there. h (inl there))

  -- a choice that is enough and leads nowhere stays among those that are left
  stays : (k s : ℕ) (m : Distribution) → Fits (states q) m → Enough v s m → (Into q choices v (L k) s m → ⊥)
      → Stays (λ x. L k x → ⊥) v s m
  stays k s m fits enough none =
      let nowhere : All (λ (e : Edge). ((v s < v e.to) ⊎ ((v e.to ≡ v s) × L k e.to)) → ⊥) m.edges =
      none-all (λ (e : Edge). (v s < v e.to) ⊎ ((v e.to ≡ v s) × L k e.to)) m.edges none in
      let equal : All (λ (e : Edge). v e.to ≡ v s) m.edges =
      all-equal (states q) v s m fits enough
      (λ i e l. elim (cases_lt (v s) (v (get_or m.edges i e).to)) [
        | inl more ↦ absurd (nowhere i e l (inl more))
        | inr few ↦ few
      ]) in
      λ i e l. ((λ there. nowhere i e l (inr (equal i e l, there))), equal i e l)

  caught : (k s : ℕ) (side : Side) (ms : List Distribution) → All (Fits (states q)) ms → SolvedAt side v s ms
      → (Leads q choices v side (L k) s ms → ⊥) → CaughtAt side (λ x. L k x → ⊥) v s ms
  caught k s Max ms fits solved none =
      λ i m l enough. stays k s _ (fits i m l) enough
      (λ into. none-all (λ m. Enough v s m × Into q choices v (L k) s m) ms none i m l (enough, into))
  caught k s Min ms fits solved none =
      Some-both (λ m. Fits (states q) m × Enough v s m) (λ m. Into q choices v (L k) s m → ⊥)
      (Stays (λ x. L k x → ⊥) v s) (λ m both. stays k s m both.0 both.1) ms (λ i m l. (fits i m l, solved.0 i m l))
      (not-all (Into q choices v (L k) s) (dec-into q choices v (L k) (dec-layer q choices v k) s) ms none)

  trap-left : Trap q choices v Left
  trap-left = record {
    needs = λ s h. left-needs last s h;
    caught = λ s h.
        let needs : Needs q v s = left-needs last s h in
        caught last s (side_at q s) (choices s) (fit s needs.inside) (solves.solved s needs.inside needs.free)
        (λ leads. h ((settled q choices v).1 s needs.inside (inr leads)));
  }

  ranked-by : ((s : ℕ) → s < states q → L last s) → Ranks q choices v (λ s. (ranking q choices v last s).0)
  ranked-by all s needs =
      by-layer (ranking q choices v last s).0 refl ((ranking q choices v last s).1.0 (all s needs.inside))
    where
      by-layer : (r : ℕ) → (ranking q choices v last s).0 ≡ r → L r s
          → RankedAt (side_at q s) v (λ x. (ranking q choices v last x).0) s (choices s)
      by-layer zero is none = absurd (none needs)
      by-layer (suc r) is (inl before) = absurd (omega (arith, is, (ranking q choices v last s).1.1 r before))
      by-layer (suc r) is (inr leads) =
          leads-ranked q choices v (L r) (λ x. (ranking q choices v last x).0) s (side_at q s) (choices s)
          (λ x there. omega (arith, is, (ranking q choices v last x).1.1 r there)) leads

  all-or-one : (k : ℕ) → ((s : ℕ) → s < k → L last s) ⊎ ((s : ℕ) × Left s)
  all-or-one zero = inl (λ s l. absurd (omega (arith, l)))
  all-or-one (suc k) = elim (dec-layer q choices v last k) [
    | inr out ↦ inr (k, out)
    | inl member ↦ elim (all-or-one k) [
      | inr one ↦ inr one
      | inl all ↦ inl (λ s l. elim (cases_lt s k) [
        | inl below ↦ all s below
        | inr end ↦ subst (λ x. L last x) (let at : k ≡ s = omega (arith, l, end) in at) member
      ])
    ]
  ]

  -- where no trap has a state there are ranks
  pub ranks-of : ((X : ℕ → Type 0) → Trap q choices v X → (s : ℕ) → X s → ⊥) → (rank : ℕ → ℕ) × Ranks q choices v rank
  ranks-of none = elim (all-or-one (states q)) [
    | inl all ↦ ((λ s. (ranking q choices v last s).0), ranked-by all)
    | inr one ↦ absurd (none Left trap-left one.0 one.1)
  ]
