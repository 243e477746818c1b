-- States that are gone, and those that an inner set leaves: their values stay away from 1.
use Rattle.std.proofs.Common.{◌≡◌, ℕ, zero, suc, ◌+◌, ◌-◌, ◌*◌, ◌/◌, ◌^◌, ◌<◌, ◌≤◌, Bool, true, false, List, [], ◌∷◌}
use Rattle.std.proofs.Common.{length, get_or, arith, refl, sym, ap, ◌∙◌, subst, sum_by, inl, inr}
use Rattle.std.proofs.lemmas.Bool.{cases_Bool}
use Rattle.std.specs.List.{All, list_any}
use Rattle.std.specs.Prelude.{slice_index_or}
use Rattle.std.specs.Bool.{if◌then◌else◌}
use Rattle.std.proofs.lemmas.Nat.{pow-add}
use Rattle.std.proofs.lemmas.List.Elements.{All-head, All-tail, All-from_get_or}
use Rattle.std.proofs.lemmas.List.Sums.{sum_by-cons}
use Rattle.std.proofs.Math.Nat.{mul-le-mul_left, mul-le-mul_right, pow-suc}
use Rattle.game_model.specs.declared.game.Edge.{Edge}
use Rattle.game_model.specs.declared.game.Side.{Side}
use Rattle.game_model.specs.declared.game.Side.TheVariants.{Max, Min}
use Rattle.game_model.specs.Game.{Distribution, no_distribution, no_edge, choices_of, choice_of}
use Rattle.game_model.specs.Query.{Query, IsQuery, states, is_goal, is_dead, side_at}
use Rattle.game_model.specs.Values.{optimum, weighted_sum, denominator, numerator, numerator_of}
use Rattle.game_model.proofs.Choices.{IsChoiceOf, AreChoicesOf-choices_of, IsChoiceOf-choice_of, denominator-pos}
use Rattle.game_model.proofs.Best.{optimum-below}
use Rattle.game_model.proofs.Rises.{numerator_of-most}
use Rattle.game_laws.proofs.Positive.{optimum-affine, quotient-pos}
use Rattle.attractors.specs.Attractor.{meets, serves, attracts, is_attracted, IsAttractor}
use Rattle.attractors.proofs.Tests.{any-none, all-place}
use Rattle.attractors.proofs.Meeting.{meets-successor}
use Rattle.attractors.proofs.Serving.{serves-not}
use Rattle.attractors.proofs.Searching.{Grew-goals}
use Rattle.almost_sure.specs.Values.{IsAway}
use Rattle.almost_sure.specs.ExcludedSets.{gone_excluded}
use Rattle.almost_sure.proofs.Powers.{pow-suc_left, pow-suc_both, pow-more}

further : (n E p b d : ℕ) → 0 < d → n * E + p ≤ b → n * (E * d) + p ≤ b * d
further n E p b d positive h = omega (arith, mul-le-mul_right d h, mul-le-mul_left p positive)

-- what is away stays so at a greater power
IsAway-suc : (q : Query) (e s : ℕ) → IsQuery q → IsAway q e s → IsAway q (suc e) s
IsAway-suc q e s posed h = λ k.
    let D : ℕ = denominator q.game in
    rw (pow-suc_left D e k, pow-suc D e)
    (further (numerator q k s) (D ^ e) (D ^ k) (D ^ (e + k)) D (denominator-pos q.game posed.game) (h k))

IsAway-plus : (q : Query) (e d s : ℕ) → IsQuery q → IsAway q e s → IsAway q (d + e) s
IsAway-plus q e zero s posed h = let at : e ≡ zero + e = omega arith in subst (λ n. IsAway q n s) at h
IsAway-plus q e (suc d) s posed h =
    let at : suc (d + e) ≡ suc d + e = omega arith in
    subst (λ n. IsAway q n s) at (IsAway-suc q (d + e) s posed (IsAway-plus q e d s posed h))

pub IsAway-more : (q : Query) (e f s : ℕ) → IsQuery q → e ≤ f → IsAway q e s → IsAway q f s
IsAway-more q e f s posed l h =
    let at : (f - e) + e ≡ f = omega arith in
    subst (λ n. IsAway q n s) at (IsAway-plus q e (f - e) s posed h)

-- an edge to a value that is within a bound
abbrev IsWithin : (ℕ → ℕ) → ℕ → ℕ → Edge → Type 0
IsWithin v E b e = (1 ≤ e.weight) × (v e.to * E ≤ b)

-- a sum over such values, and over those that are within a smaller bound at one destination
weighted_sum-within : (v : ℕ → ℕ) (E b : ℕ) (edges : List Edge) → All (IsWithin v E b) edges
    → weighted_sum v edges * E ≤ sum_by (λ e. e.weight) edges * b
weighted_sum-within v E b [] each = omega arith
weighted_sum-within v E b (e ∷ es) each =
    rw (sum_by-cons (λ (d : Edge). d.weight * v d.to) e es, sum_by-cons (λ (d : Edge). d.weight) e es)
    (omega (
      arith,
      weighted_sum-within v E b es (All-tail (IsWithin v E b) e es each),
      mul-le-mul_left e.weight (All-head (IsWithin v E b) e es each).1,
    ))

weighted_sum-away : (v : ℕ → ℕ) (E b p : ℕ) (edges : List Edge) (i : ℕ)
    → All (IsWithin v E b) edges → i < length edges
    → v (get_or edges i no_edge).to * E + p ≤ b → weighted_sum v edges * E + p ≤ sum_by (λ e. e.weight) edges * b
weighted_sum-away v E b p [] i each l one = absurd (omega arith)
weighted_sum-away v E b p (e ∷ es) zero each l one =
    rw (sum_by-cons (λ (d : Edge). d.weight * v d.to) e es, sum_by-cons (λ (d : Edge). d.weight) e es)
    (omega (
      arith,
      weighted_sum-within v E b es (All-tail (IsWithin v E b) e es each),
      mul-le-mul_left e.weight one,
      mul-le-mul_right p (All-head (IsWithin v E b) e es each).0,
    ))
weighted_sum-away v E b p (e ∷ es) (suc i) each l one =
    rw (sum_by-cons (λ (d : Edge). d.weight * v d.to) e es, sum_by-cons (λ (d : Edge). d.weight) e es)
    (omega (
      arith,
      weighted_sum-away v E b p es i (All-tail (IsWithin v E b) e es each) (omega arith) one,
      mul-le-mul_left e.weight (All-head (IsWithin v E b) e es each).1,
    ))

-- a sum over values that are all away
weighted_sum-apart : (v : ℕ → ℕ) (E b p : ℕ) (edges : List Edge) → All (λ e. v e.to * E + p ≤ b) edges
    → weighted_sum v edges * E + sum_by (λ e. e.weight) edges * p ≤ sum_by (λ e. e.weight) edges * b
weighted_sum-apart v E b p [] each = omega arith
weighted_sum-apart v E b p (e ∷ es) each =
    rw (sum_by-cons (λ (d : Edge). d.weight * v d.to) e es, sum_by-cons (λ (d : Edge). d.weight) e es)
    (omega (
      arith,
      weighted_sum-apart v E b p es (All-tail (λ (d : Edge). v d.to * E + p ≤ b) e es each),
      mul-le-mul_left e.weight (All-head (λ (d : Edge). v d.to * E + p ≤ b) e es each),
    ))

scaled-away : (r w d x E p b : ℕ) → r * w ≡ d → 1 ≤ r → x * E + p ≤ w * b → r * x * E + p ≤ d * b
scaled-away r w d x E p b same some sums = rw (← same) (omega (arith, mul-le-mul_left r sums, mul-le-mul_right p some))

scaled-apart : (r w d x E p b : ℕ) → r * w ≡ d → x * E + w * p ≤ w * b → r * x * E + d * p ≤ d * b
scaled-apart r w d x E p b same sums = rw (← same) (omega (arith, mul-le-mul_left r sums))

-- a choice keeps its state away
abbrev pub IsFar : Query → ℕ → ℕ → Distribution → Type 0
IsFar q e k m = denominator q.game / m.total * weighted_sum (numerator q k) m.edges * denominator q.game ^ suc e
    + denominator q.game ^ suc k ≤ denominator q.game ^ (suc e + suc k)

-- by one successor that is away
pub far-by-one : (q : Query) (gone : List Bool) (e k : ℕ) (m : Distribution) → IsQuery q → IsChoiceOf q.game m
    → ((t : ℕ) → t < states q → slice_index_or gone t false ≡ true → IsAway q e t) → meets gone m ≡ true → IsFar q e k m
far-by-one q gone e k m posed fits away meet =
    let D : ℕ = denominator q.game in
    let positive : 0 < D = denominator-pos q.game posed.game in
    let one = meets-successor gone m meet in
    let u : ℕ = (get_or m.edges one.0 no_edge).to in
    let there : numerator q k u * D ^ e + D ^ k ≤ D ^ (e + k) =
    away u (fits.inside one.0 no_edge one.1) one.2 k in
    let each : (t : ℕ) → numerator q k t * D ^ e ≤ D ^ (e + k) = λ t.
    subst (λ x. numerator q k t * D ^ e ≤ x) (sym (pow-add D e k)) (omega (
      arith,
      mul-le-mul_right (D ^ e)
          (numerator_of-most q (choices_of q.game) (AreChoicesOf-choices_of q.game posed.game) k t),
    )) in
    let sums : weighted_sum (numerator q k) m.edges * D ^ e + D ^ k ≤ m.total * D ^ (e + k) =
    subst (λ w. weighted_sum (numerator q k) m.edges * D ^ e + D ^ k ≤ w * D ^ (e + k)) fits.sums
    (weighted_sum-away (numerator q k) (D ^ e) (D ^ (e + k)) (D ^ k) m.edges one.0
    (λ i d l. (fits.weights i d l, each (get_or m.edges i d).to)) one.1 there) in
    let whole : D / m.total * weighted_sum (numerator q k) m.edges * D ^ e + D ^ k ≤ D * D ^ (e + k) =
    scaled-away (D / m.total) m.total D (weighted_sum (numerator q k) m.edges) (D ^ e) (D ^ k)
    (D ^ (e + k)) fits.divides (quotient-pos D m.total fits.divides positive) sums in
    rw (pow-suc_both D e k, pow-suc D e, pow-suc D k) (omega (arith, mul-le-mul_right D whole))

-- or by all of them
pub far-by-all : (q : Query) (e k : ℕ) (m : Distribution) → IsChoiceOf q.game m → All
    (λ d. numerator q k d.to * denominator q.game ^ suc e + denominator q.game ^ k ≤ denominator q.game ^ (suc e + k))
    m.edges → IsFar q e k m
far-by-all q e k m fits each =
    let D : ℕ = denominator q.game in
    let sums : weighted_sum (numerator q k) m.edges * D ^ suc e + m.total * D ^ k ≤ m.total * D ^ (suc e + k) =
    subst (λ w. weighted_sum (numerator q k) m.edges * D ^ suc e + w * D ^ k ≤ w * D ^ (suc e + k)) fits.sums
    (weighted_sum-apart (numerator q k) (D ^ suc e) (D ^ (suc e + k)) (D ^ k) m.edges each) in
    let whole : D / m.total * weighted_sum (numerator q k) m.edges * D ^ suc e + D * D ^ k ≤ D * D ^ (suc e + k) =
    scaled-apart (D / m.total) m.total D (weighted_sum (numerator q k) m.edges) (D ^ suc e) (D ^ k)
    (D ^ (suc e + k)) fits.divides sums in
    let last : D ^ (suc e + suc k) ≡ D ^ (suc e + k) * D =
    pow-suc_both D e k ∙ ap (λ n. n * D) (sym (pow-suc_left D e k)) in
    rw (last, pow-suc D k) (omega (arith, whole))

-- each choice of the maximiser does, or one of the minimiser
pub record SideIsFar (q : Query) (e k s : ℕ) : Type 0 where
  pub greatest : side_at q s ≡ Max → (c : ℕ) → c < length (choices_of q.game s) → IsFar q e k (choice_of q.game s c)
  pub least : side_at q s ≡ Min → (c : ℕ) × (c < length (choices_of q.game s)) × IsFar q e k (choice_of q.game s c)

side-away : (q : Query) (e k s : ℕ) (side : Side) → side_at q s ≡ side → IsQuery q → s < states q → SideIsFar q e k s
    → optimum (side_at q s) (λ m. denominator q.game / m.total * weighted_sum (numerator q k) m.edges)
    (choices_of q.game s) * denominator q.game ^ suc e + denominator q.game ^ suc k
    ≤ denominator q.game ^ (suc e + suc k)
side-away q e k s Max is_side posed inside far =
    let D : ℕ = denominator q.game in
    let f : Distribution → ℕ = λ m. D / m.total * weighted_sum (numerator q k) m.edges in
    let each : All (IsFar q e k) (choices_of q.game s) =
    All-from_get_or (IsFar q e k) (choices_of q.game s) no_distribution (far.greatest is_side) in
    let all : D ^ suc k + D ^ suc e * optimum (side_at q s) f (choices_of q.game s)
    ≤ 0 * optimum (side_at q s) f (choices_of q.game s) + D ^ (suc e + suc k) =
    optimum-affine (side_at q s) f f (D ^ suc k) (D ^ suc e) 0
    (D ^ (suc e + suc k)) (choices_of q.game s) (posed.game.chosen s inside)
    (λ c d l. omega (arith, each c d l)) in
    omega (arith, all)
side-away q e k s Min is_side posed inside far =
    let D : ℕ = denominator q.game in
    let f : Distribution → ℕ = λ m. D / m.total * weighted_sum (numerator q k) m.edges in
    let one = far.least is_side in
    let here : f (choice_of q.game s one.0) * D ^ suc e + D ^ suc k ≤ D ^ (suc e + suc k) = one.2 in
    let below : optimum Min f (choices_of q.game s) ≤ f (choice_of q.game s one.0) =
    optimum-below f (choices_of q.game s) one.0 no_distribution one.1 in
    subst (λ side. optimum side f (choices_of q.game s) * D ^ suc e + D ^ suc k ≤ D ^ (suc e + suc k)) (sym is_side)
    (omega (arith, here, mul-le-mul_right (D ^ suc e) below))

marked-away : (goal dead : Bool) (top x E p b : ℕ) → goal ≡ false → p ≤ b → x * E + p ≤ b
    → (if goal then top else (if dead then 0 else x)) * E + p ≤ b
marked-away true dead top x E p b other h k = absurd (cc)
marked-away false true top x E p b other h k = let at : 0 * E + p ≤ b = omega (arith, h) in at
marked-away false false top x E p b other h k = k

marked-dead : (goal dead : Bool) (top x E p b : ℕ) → goal ≡ false → dead ≡ true → p ≤ b
    → (if goal then top else (if dead then 0 else x)) * E + p ≤ b
marked-dead true dead top x E p b other is h = absurd (cc)
marked-dead false true top x E p b other is h = let at : 0 * E + p ≤ b = omega (arith, h) in at
marked-dead false false top x E p b other is h = absurd (cc)

opening-away : (goal : Bool) (E p b : ℕ) → goal ≡ false → p ≤ b → (if goal then 1 else 0) * E + p ≤ b
opening-away true E p b other h = absurd (cc)
opening-away false E p b other h = let at : 0 * E + p ≤ b = omega (arith, h) in at

-- at the opening every state is away that is no goal
pub away-opening : (q : Query) (e s : ℕ) → IsQuery q → is_goal q s ≡ false
    → numerator q zero s * denominator q.game ^ e + denominator q.game ^ zero ≤ denominator q.game ^ (e + zero)
unfolding numerator_of
away-opening q e s posed other = opening-away (is_goal q s) (denominator q.game ^ e) (denominator q.game ^ zero)
    (denominator q.game ^ (e + zero)) other (pow-more (denominator q.game) e zero (denominator-pos q.game posed.game))

-- and one step later by its choices
pub away-step : (q : Query) (e k s : ℕ) → IsQuery q → s < states q
    → is_goal q s ≡ false → (is_dead q s ≡ false → SideIsFar q e k s)
    → numerator q (suc k) s * denominator q.game ^ suc e + denominator q.game ^ suc k
    ≤ denominator q.game ^ (suc e + suc k)
unfolding numerator_of
away-step q e k s posed inside other far =
    let D : ℕ = denominator q.game in
    let p : D ^ suc k ≤ D ^ (suc e + suc k) = pow-more D (suc e) (suc k) (denominator-pos q.game posed.game) in
    elim (cases_Bool (is_dead q s)) [
      | inl dead ↦ marked-dead (is_goal q s) (is_dead q s) (D ^ suc k) _ (D ^ suc e) (D ^ suc k)
          (D ^ (suc e + suc k)) other dead p
      | inr alive ↦ marked-away (is_goal q s) (is_dead q s) (D ^ suc k) _ (D ^ suc e) (D ^ suc k)
          (D ^ (suc e + suc k)) other p (side-away q e k s (side_at q s) refl posed inside (far alive))
    ]

-- a state that is no goal, and whose choices keep it away at each step
pub IsAway-by : (q : Query) (e s : ℕ) → IsQuery q → s < states q → is_goal q s ≡ false → ((k : ℕ) → SideIsFar q e k s)
    → IsAway q (suc e) s
IsAway-by q e s posed inside other far zero = away-opening q (suc e) s posed other
IsAway-by q e s posed inside other far (suc k) = away-step q e k s posed inside other (λ alive. far k)

-- a dead state
pub IsAway-dead : (q : Query) (e s : ℕ) → IsQuery q → is_goal q s ≡ false → is_dead q s ≡ true → IsAway q e s
unfolding numerator_of
IsAway-dead q e s posed other dead zero = away-opening q e s posed other
IsAway-dead q e s posed other dead (suc k) =
    let D : ℕ = denominator q.game in
    marked-dead (is_goal q s) (is_dead q s) (D ^ suc k) _ (D ^ e) (D ^ suc k) (D ^ (e + suc k)) other dead
    (pow-more D e (suc k) (denominator-pos q.game posed.game))

-- a choice that does not serve
choice-left : (q : Query) (gone set : List Bool) (e k : ℕ) (m : Distribution) → IsQuery q
    → IsChoiceOf q.game m → ((t : ℕ) → t < states q → slice_index_or gone t false ≡ true → IsAway q e t)
    → ((t : ℕ) → t < states q → slice_index_or set t false ≡ false → slice_index_or gone t false ≡ false
    → numerator q k t * denominator q.game ^ suc e + denominator q.game ^ k ≤ denominator q.game ^ (suc e + k))
    → serves (gone_excluded gone) set m ≡ false → IsFar q e k m
choice-left q gone set e k m posed fits away left fails = elim (serves-not (gone_excluded gone) set m fails) [
  | inl leads ↦ far-by-one q gone e k m posed fits away leads
  | inr unmet ↦
      let outside : All (λ (d : Edge). slice_index_or set d.to false ≡ false) m.edges =
      any-none (λ (d : Edge). slice_index_or set d.to false) m.edges unmet in
      far-by-all q e k m fits (λ i d l. elim (cases_Bool (slice_index_or gone (get_or m.edges i d).to false)) [
        | inl out ↦ IsAway-suc q e (get_or m.edges i d).to posed
            (away (get_or m.edges i d).to (fits.inside i d l) out) k
        | inr within ↦ left (get_or m.edges i d).to (fits.inside i d l) (outside i d l) within
      ])
]

any-fails : (gone set : List Bool) (choices : List Distribution) (c : ℕ)
    → c < length choices → list_any (serves (gone_excluded gone) set) choices ≡ false
    → serves (gone_excluded gone) set (get_or choices c no_distribution) ≡ false
any-fails gone set choices c l fails =
    any-none (serves (gone_excluded gone) set) choices fails c no_distribution l

side-left : (q : Query) (gone set : List Bool) (e k s : ℕ) → IsQuery q → s < states q
    → ((t : ℕ) → t < states q → slice_index_or gone t false ≡ true → IsAway q e t)
    → ((t : ℕ) → t < states q → slice_index_or set t false ≡ false → slice_index_or gone t false ≡ false
    → numerator q k t * denominator q.game ^ suc e + denominator q.game ^ k ≤ denominator q.game ^ (suc e + k))
    → is_attracted q (gone_excluded gone) set s ≡ false → SideIsFar q e k s
side-left q gone set e k s posed inside away left fails = record {
  greatest = λ is_side c l. choice-left q gone set e k (choice_of q.game s c) posed
      (IsChoiceOf-choice_of q.game s c posed.game inside l) away left
      (any-fails gone set (choices_of q.game s) c l
      (sym (ap (λ side. attracts side (gone_excluded gone) set (choices_of q.game s)) is_side) ∙ fails));
  least = λ is_side.
      let one = all-place (serves (gone_excluded gone) set) (choices_of q.game s) no_distribution
      (sym (ap (λ side. attracts side (gone_excluded gone) set (choices_of q.game s)) is_side) ∙ fails) in (
        one.0,
        one.1,
        choice-left q gone set e k (choice_of q.game s one.0) posed
            (IsChoiceOf-choice_of q.game s one.0 posed.game inside one.1) away left one.2,
      );
}

lacks : (goal member : Bool) → (goal ≡ true → member ≡ true) → member ≡ false → goal ≡ false
lacks true member h out = let is : member ≡ true = h refl in absurd (cc)
lacks false member h out = refl

-- states that an inner set leaves are away by one more
pub inner-away : (q : Query) (gone set : List Bool) (e : ℕ) → IsQuery q → IsAttractor q (gone_excluded gone) set
    → ((t : ℕ) → t < states q → slice_index_or gone t false ≡ true → IsAway q e t) → (k s : ℕ)
    → s < states q → slice_index_or set s false ≡ false → slice_index_or gone s false ≡ false
    → numerator q k s * denominator q.game ^ suc e + denominator q.game ^ k ≤ denominator q.game ^ (suc e + k)
inner-away q gone set e posed inner away zero s inside out within = away-opening q (suc e) s posed
    (lacks (is_goal q s) (slice_index_or set s false) (Grew-goals q (gone_excluded gone) set inner.grew s inside) out)
inner-away q gone set e posed inner away (suc k) s inside out within =
    away-step q e k s posed inside
    (lacks (is_goal q s) (slice_index_or set s false) (Grew-goals q (gone_excluded gone) set inner.grew s inside) out)
    (λ alive. side-left q gone set e k s posed inside away (λ t lt out' within'.
    inner-away q gone set e posed inner away k t lt out' within') (inner.closed s inside out within))
