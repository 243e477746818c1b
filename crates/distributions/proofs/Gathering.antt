-- Edges by rising destination, and the weights of their destinations.
use Rattle.std.proofs.Common.{◌≡◌, ◌≢◌, ◌∙◌, ◌<◌, ◌≤◌, ◌+◌, ◌*◌, ◌⊎◌, inl, inr, ℕ, zero, suc, List, [], ◌∷◌, refl, ap}
use Rattle.std.proofs.Common.{sym, subst, Bool, true, false, cond, length, get_or, arith, zero-add}
use Rattle.std.specs.List.Sorted.{IsNonDecreasingBy}
use Rattle.std.specs.Prelude.{◌==◌, All}
use Rattle.std.proofs.lemmas.Bool.{cases_Bool, cases_lt, eqb-true}
use Rattle.std.proofs.lemmas.Bool.Decides.{nat_tests}
use Rattle.std.proofs.lemmas.List.Sums.{sum_by-cons, sum_by-le}
use Rattle.game_model.specs.declared.game.Edge.{Edge}
use Rattle.game_model.specs.Game.{no_edge, weight_to, total_of}
use Rattle.game_model.specs.Rising.{RiseFrom}
use Rattle.game_model.proofs.RisingEdges.{RiseFrom-less}
use Rattle.distributions.specs.Parts.{keep_edge, edges_from, span, gathered}
use Rattle.distributions.specs.inside.Merging.{heavier, merged_from, StandFrom}

-- what an edge gives to a destination
abbrev pub gives : ℕ → Edge → ℕ
gives to e = cond (e.to == to) e.weight 0

pub weight_to-cons : (e : Edge) (edges : List Edge) (to : ℕ)
    → weight_to (e ∷ edges) to ≡ gives to e + weight_to edges to
weight_to-cons e edges to = sum_by-cons (gives to) e edges

gives-same : (e : Edge) (to : ℕ) → e.to ≡ to → gives to e ≡ e.weight
gives-same e to h = let t : (e.to == to) ≡ true = grind (arith, nat_tests) in ap (λ b. cond b e.weight 0) t

gives-other : (e : Edge) (to : ℕ) → e.to ≢ to → gives to e ≡ 0
gives-other e to h = let t : (e.to == to) ≡ false = grind (arith, nat_tests) in ap (λ b. cond b e.weight 0) t

-- 1. Rising edges.

-- destinations below the first have no weight
pub rising-below : (least : ℕ) (edges : List Edge) (to : ℕ) → RiseFrom least edges → to < least → weight_to edges to ≡ 0
rising-below least [] to rise h = refl
rising-below least (e ∷ edges) to rise h =
    let other : e.to ≢ to = λ same. omega (arith, rise.0, same) in
    omega (
      arith,
      weight_to-cons e edges to,
      gives-other e to other,
      rising-below (e.to + 1) edges to rise.2 (omega (arith, rise.0)),
    )

pub StandFrom-places : (least : ℕ) (edges : List Edge)
    → ((i : ℕ) (d : Edge) → i < length edges → least ≤ (get_or edges i d).to) → IsNonDecreasingBy (λ e. e.to) edges
    → StandFrom least edges
StandFrom-places least [] first up = tt
StandFrom-places least (e ∷ edges) first up = (
  first 0 e (omega arith),
  StandFrom-places e.to edges (λ i d h. up 0 (suc i) d (omega arith) (omega arith))
      (λ i j d le h. up (suc i) (suc j) d (omega arith) (omega arith)),
)

-- 2. The edges of given weights.

abbrev Below : ℕ → List Edge → Type 0
Below bound [] = Unit {0}
Below bound (e ∷ edges) = (e.to < bound) × Below bound edges

kept : (to weight : ℕ) (edges : List Edge) → 1 ≤ weight
    → keep_edge to weight edges ≡ record { to = to; weight = weight } ∷ edges
kept to weight edges h =
    let t : (weight == 0) ≡ false = grind (arith, nat_tests) in
    ap (λ b. cond b edges (record { to = to; weight = weight } ∷ edges)) t

left-out : (to weight : ℕ) (edges : List Edge) → weight ≡ 0 → keep_edge to weight edges ≡ edges
left-out to weight edges h =
    let t : (weight == 0) ≡ true = grind (arith, nat_tests) in
    ap (λ b. cond b edges (record { to = to; weight = weight } ∷ edges)) t

some-or-none : (n : ℕ) → (n ≡ 0) ⊎ (1 ≤ n)
some-or-none zero = inl refl
some-or-none (suc n) = inr (omega arith)

pub edges_from-rises : (weight : ℕ → ℕ) (first more : ℕ) → RiseFrom first (edges_from weight first more)
unfolding edges_from
edges_from-rises weight first zero = tt
edges_from-rises weight first (suc more) =
    let rest = edges_from-rises weight (first + 1) more in
    let P : List Edge → Type 0 = λ es. RiseFrom first es in
    elim (some-or-none (weight first)) [
      | inl e ↦ subst P (sym (left-out first (weight first) (edges_from weight (first + 1) more) e))
          (RiseFrom-less first (first + 1) (edges_from weight (first + 1) more) (omega arith) rest)
      | inr h ↦ subst P (sym (kept first (weight first) (edges_from weight (first + 1) more) h)) (omega arith, h, rest)
    ]

-- an edge that is kept or left out gives its weight either way
pub weight_to-keep : (first weight : ℕ) (edges : List Edge) (to : ℕ) → weight_to (keep_edge first weight edges) to
    ≡ gives to (record { to = first; weight = weight }) + weight_to edges to
weight_to-keep first weight edges to = elim (some-or-none weight) [
  | inl e ↦ ap (λ es. weight_to es to) (left-out first weight edges e) ∙ nothing first weight edges to e
  | inr h ↦ ap (λ es. weight_to es to) (kept first weight edges h)
      ∙ weight_to-cons (record { to = first; weight = weight }) edges to
]
  where
    nothing : (first weight : ℕ) (edges : List Edge) (to : ℕ) → weight ≡ 0
        → weight_to edges to ≡ gives to (record { to = first; weight = weight }) + weight_to edges to
    nothing first weight edges to e = elim (cases_Bool (first == to)) [
      | inl t ↦ rw t (omega (arith, e))
      | inr t ↦ rw t (omega arith)
    ]

pub edges_from-inside : (weight : ℕ → ℕ) (first more to : ℕ) → first ≤ to → to < first + more
    → weight_to (edges_from weight first more) to ≡ weight to
unfolding edges_from
edges_from-inside weight first zero to h l = absurd (omega arith)
edges_from-inside weight first (suc more) to h l =
    let rest = edges_from weight (first + 1) more in
    let this = weight_to-keep first (weight first) rest to in
    elim (cases_lt first to) [
      | inl less ↦
          omega (
            arith,
            this,
            gives-other (record { to = first; weight = weight first }) to (λ same. omega (arith, same)),
            edges_from-inside weight (first + 1) more to (omega arith) (omega arith),
          )
      | inr most ↦
          let same : first ≡ to = omega arith in
          omega (
            arith,
            this,
            gives-same (record { to = first; weight = weight first }) to same,
            ap weight same,
            rising-below (first + 1) rest to (edges_from-rises weight (first + 1) more) (omega arith),
          )
    ]

pub edges_from-beyond : (weight : ℕ → ℕ) (first more to : ℕ) → first + more ≤ to
    → weight_to (edges_from weight first more) to ≡ 0
unfolding edges_from
edges_from-beyond weight first zero to h = refl
edges_from-beyond weight first (suc more) to h =
    omega (
      arith,
      weight_to-keep first (weight first) (edges_from weight (first + 1) more) to,
      gives-other (record { to = first; weight = weight first }) to (λ same. omega (arith, same)),
      edges_from-beyond weight (first + 1) more to (omega arith),
    )

-- rising edges of these weights are those edges
pub edges_from-only : (weight : ℕ → ℕ) (first more : ℕ) (edges : List Edge) → RiseFrom first edges
    → Below (first + more) edges → ((to : ℕ) → first ≤ to → weight_to edges to ≡ weight to)
    → edges_from weight first more ≡ edges
unfolding edges_from
edges_from-only weight first zero [] rise below same = refl
edges_from-only weight first zero (e ∷ edges) rise below same = absurd (omega (arith, rise.0, below.0))
edges_from-only weight first (suc more) [] rise below same =
    left-out first (weight first) (edges_from weight (first + 1) more) (sym (same first (omega arith)))
    ∙ edges_from-only weight (first + 1) more [] tt tt (λ to h. same to (omega arith))
edges_from-only weight first (suc more) (e ∷ edges) rise below same = elim (cases_lt first e.to) [
  | inl later ↦
      left-out first (weight first) (edges_from weight (first + 1) more) (sym (same first (omega arith))
      ∙ rising-below (first + 1) (e ∷ edges) first (omega arith, rise.1, rise.2) (omega arith))
      ∙ edges_from-only weight (first + 1) more (e ∷ edges) (omega arith, rise.1, rise.2)
      (Below-same (first + suc more) (first + 1 + more) (e ∷ edges) (omega arith) below) (λ to h. same to (omega arith))
  | inr now ↦
      let here : e.to ≡ first = omega (arith, rise.0) in
      let value : weight first ≡ e.weight = omega (
        arith,
        same first (omega arith),
        weight_to-cons e edges first,
        gives-same e first here,
        rising-below (e.to + 1) edges first rise.2 (omega arith),
      ) in
      let edge : ℕ → ℕ → Edge = λ t w. record { to = t; weight = w } in
      let Q : ℕ → Type 0 = λ n. RiseFrom (n + 1) edges in
      kept first (weight first) (edges_from weight (first + 1) more) (omega (arith, rise.1))
      ∙ ap (λ es. edge first (weight first) ∷ es)
      (edges_from-only weight (first + 1) more edges (subst Q here rise.2)
      (Below-same (first + suc more) (first + 1 + more) edges (omega arith) below.1)
      (λ to h.
      omega (arith, same to (omega arith), weight_to-cons e edges to, gives-other e to (λ eq. omega (arith, eq)))))
      ∙ ap (λ t. edge t (weight first) ∷ edges) (sym here) ∙ ap (λ v. edge e.to v ∷ edges) value
]
  where
    Below-same : (a b : ℕ) (es : List Edge) → a ≡ b → Below a es → Below b es
    Below-same a b es h below = let P : ℕ → Type 0 = λ n. Below n es in subst P h below

-- 3. The edges that are gathered.

pub span-above : (edges : List Edge) (to : ℕ) → span edges ≤ to → weight_to edges to ≡ 0
unfolding span
span-above [] to h = refl
span-above (e ∷ edges) to h = omega (
  arith,
  weight_to-cons e edges to,
  gives-other e to (λ same. omega (arith, same)),
  span-above edges to (omega arith),
)

below-span : (least bound : ℕ) (edges : List Edge) (weight : ℕ → ℕ) → RiseFrom least edges
    → ((to : ℕ) → weight_to edges to ≤ weight to) → ((to : ℕ) → bound ≤ to → weight to ≡ 0) → Below bound edges
below-span least bound [] weight rise same none = tt
below-span least bound (e ∷ edges) weight rise same none = (
  (elim (cases_lt e.to bound) [
    | inl h ↦ h
    | inr h ↦
        absurd (omega (arith, rise.1, none e.to h, same e.to, weight_to-cons e edges e.to, gives-same e e.to refl))
  ]),
  below-span (e.to + 1) bound edges weight rise.2 (λ to. omega (arith, same to, weight_to-cons e edges to)) none,
)

pub gathered-rises : (edges : List Edge) → RiseFrom 0 (gathered edges)
unfolding gathered
gathered-rises edges = edges_from-rises (weight_to edges) 0 (span edges)

pub gathered-weights : (edges : List Edge) (to : ℕ) → weight_to (gathered edges) to ≡ weight_to edges to
unfolding gathered
gathered-weights edges to = elim (cases_lt to (span edges)) [
  | inl less ↦ edges_from-inside (weight_to edges) 0 (span edges) to (omega arith) (omega arith)
  | inr most ↦ edges_from-beyond (weight_to edges) 0 (span edges) to (omega arith) ∙ sym (span-above edges to most)
]

-- rising edges of the same weights are those that are gathered
pub gathered-only : (edges new : List Edge) → RiseFrom 0 new → ((to : ℕ) → weight_to new to ≡ weight_to edges to)
    → gathered edges ≡ new
unfolding gathered
gathered-only edges new rise same =
    edges_from-only (weight_to edges) 0 (span edges) new rise
    (let P : ℕ → Type 0 = λ n. Below n new in subst P (sym (zero-add (span edges)))
    (below-span 0 (span edges) new (weight_to edges) rise (λ to. omega (arith, same to)) (span-above edges)))
    (λ to h. same to)

-- 4. Neighbours added up.

gives-heavier : (sum e : Edge) (to : ℕ) → e.to ≡ sum.to → gives to (heavier sum e.weight) ≡ gives to sum + gives to e
gives-heavier sum e to h = elim (cases_Bool (sum.to == to)) [
  | inl t ↦
      let same : sum.to ≡ to = eqb-true sum.to to t in
      omega (arith, gives-same (heavier sum e.weight) to same, gives-same sum to same, gives-same e to (h ∙ same))
  | inr t ↦
      let other : sum.to ≢ to = λ eq. grind (arith, nat_tests) in
      omega (
        arith,
        gives-other (heavier sum e.weight) to other,
        gives-other sum to other,
        gives-other e to (λ eq. other (sym h ∙ eq)),
      )
]

pub merged-weights : (sum : Edge) (edges : List Edge) (to : ℕ)
    → weight_to (merged_from sum edges) to ≡ gives to sum + weight_to edges to
merged-weights sum [] to = weight_to-keep sum.to sum.weight [] to
merged-weights sum (e ∷ edges) to = elim (cases_Bool (e.to == sum.to)) [
  | inl t ↦
      ap (λ b. weight_to
      (cond b (merged_from (heavier sum e.weight) edges) (keep_edge sum.to sum.weight (merged_from e edges))) to) t
      ∙ merged-weights (heavier sum e.weight) edges to
      ∙ omega (arith, gives-heavier sum e to (eqb-true e.to sum.to t), weight_to-cons e edges to)
  | inr t ↦
      ap (λ b. weight_to
      (cond b (merged_from (heavier sum e.weight) edges) (keep_edge sum.to sum.weight (merged_from e edges))) to) t
      ∙ weight_to-keep sum.to sum.weight (merged_from e edges) to
      ∙ ap (λ n. gives to sum + n) (merged-weights e edges to ∙ sym (weight_to-cons e edges to))
]

total_of-cons : (e : Edge) (edges : List Edge) → total_of (e ∷ edges) ≡ e.weight + total_of edges
total_of-cons e edges = sum_by-cons (λ (x : Edge). x.weight) e edges

total_of-keep : (to weight : ℕ) (edges : List Edge) → total_of (keep_edge to weight edges) ≡ weight + total_of edges
total_of-keep to weight edges = elim (some-or-none weight) [
  | inl e ↦ ap (λ es. total_of es) (left-out to weight edges e) ∙ omega (arith, e)
  | inr h ↦ ap (λ es. total_of es) (kept to weight edges h) ∙ total_of-cons (record { to = to; weight = weight }) edges
]

pub merged-total : (sum : Edge) (edges : List Edge) → total_of (merged_from sum edges) ≡ sum.weight + total_of edges
merged-total sum [] = total_of-keep sum.to sum.weight []
merged-total sum (e ∷ edges) = elim (cases_Bool (e.to == sum.to)) [
  | inl t ↦
      ap (λ b. total_of
      (cond b (merged_from (heavier sum e.weight) edges) (keep_edge sum.to sum.weight (merged_from e edges)))) t
      ∙ merged-total (heavier sum e.weight) edges ∙ omega (arith, total_of-cons e edges)
  | inr t ↦
      ap (λ b. total_of
      (cond b (merged_from (heavier sum e.weight) edges) (keep_edge sum.to sum.weight (merged_from e edges)))) t
      ∙ total_of-keep sum.to sum.weight (merged_from e edges)
      ∙ omega (arith, merged-total e edges, total_of-cons e edges)
]

rises-kept : (least to weight : ℕ) (edges : List Edge) → least ≤ to → RiseFrom (to + 1) edges
    → RiseFrom least (keep_edge to weight edges)
rises-kept least to weight edges h rise =
    let P : List Edge → Type 0 = λ es. RiseFrom least es in
    elim (some-or-none weight) [
      | inl e ↦ subst P (sym (left-out to weight edges e)) (RiseFrom-less least (to + 1) edges (omega arith) rise)
      | inr some ↦ subst P (sym (kept to weight edges some)) (h, some, rise)
    ]

pub merged-rises : (least : ℕ) (sum : Edge) (edges : List Edge) → least ≤ sum.to → StandFrom sum.to edges
    → RiseFrom least (merged_from sum edges)
merged-rises least sum [] h stand = rises-kept least sum.to sum.weight [] h tt
merged-rises least sum (e ∷ edges) h stand =
    let P : Bool → Type 0 = λ b. RiseFrom least
    (cond b (merged_from (heavier sum e.weight) edges) (keep_edge sum.to sum.weight (merged_from e edges))) in
    elim (cases_Bool (e.to == sum.to)) [
      | inl t ↦
          let Q : ℕ → Type 0 = λ n. StandFrom n edges in
          subst P (sym t) (merged-rises least (heavier sum e.weight) edges h (subst Q (eqb-true e.to sum.to t) stand.1))
      | inr t ↦
          let other : e.to ≢ sum.to = λ eq. grind (arith, nat_tests) in
          subst P (sym t) (rises-kept least sum.to sum.weight (merged_from e edges) h
          (merged-rises (sum.to + 1) e edges (omega (arith, other, stand.0)) stand.1))
    ]

-- edges by destination, added up, are the gathered ones
pub merged-gathered : (edges standing : List Edge) → StandFrom 0 standing
    → ((to : ℕ) → weight_to standing to ≡ weight_to edges to) → gathered edges ≡ merged_from no_edge standing
merged-gathered edges standing stand same =
    gathered-only edges (merged_from no_edge standing) (merged-rises 0 no_edge standing (omega arith) stand)
    (λ to. merged-weights no_edge standing to ∙ nothing to ∙ same to)
  where
    nothing : (to : ℕ) → gives to no_edge + weight_to standing to ≡ weight_to standing to
    nothing to = elim (cases_Bool (0 == to)) [ inl t ↦ rw t (omega arith) | inr t ↦ rw t (omega arith) ]

-- what the edges give together is in bounds
pub total-le : (edges : List Edge) (most : ℕ) → All (λ e. e.weight ≤ most) edges → total_of edges ≤ length edges * most
total-le edges most h = sum_by-le (λ (e : Edge). e.weight) most edges h
