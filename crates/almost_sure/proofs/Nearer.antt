-- Members of the inner set come nearer to 1 than the outer set is.
use Rattle.std.proofs.Common.{◌≡◌, ℕ, zero, suc, ◌+◌, ◌*◌, ◌/◌, ◌^◌, ◌<◌, ◌≤◌, Bool, true, false, List, [], ◌∷◌, length}
use Rattle.std.proofs.Common.{set, get_or, arith, refl, sym, ◌∙◌, subst, sum_by, inl, inr, add-suc, add-zero}
use Rattle.std.specs.List.{All}
use Rattle.std.specs.Prelude.{slice_index_or}
use Rattle.std.specs.Bool.{if◌then◌else◌}
use Rattle.std.proofs.lemmas.Bool.{cases_eq}
use Rattle.std.proofs.lemmas.List.{get_or-set_other}
use Rattle.std.proofs.lemmas.List.Elements.{All-head, All-tail}
use Rattle.std.proofs.lemmas.List.Sums.{sum_by-cons}
use Rattle.std.proofs.Math.Nat.{mul-le-mul_left, mul-le-mul_right, pow-suc, pow-zero, one-le-pow}
use Rattle.game_model.specs.declared.game.Edge.{Edge}
use Rattle.game_model.specs.declared.game.Side.{Side}
use Rattle.game_model.specs.declared.game.Side.TheVariants.{Max, Min}
use Rattle.game_model.specs.Game.{Distribution, no_distribution, no_edge, choices_of, choice_of}
use Rattle.game_model.specs.Query.{Query, IsQuery, states, is_goal, is_dead, side_at}
use Rattle.game_model.specs.Values.{optimum, weighted_sum, denominator, numerator, numerator_of}
use Rattle.game_model.proofs.Choices.{IsChoiceOf, AreChoicesOf, AreChoicesOf-choices_of, denominator-pos}
use Rattle.game_model.proofs.Best.{optimum-each}
use Rattle.game_model.proofs.Rises.{numerator_of-rises, numerator_of-goal}
use Rattle.game_laws.proofs.Positive.{optimum-affine, quotient-pos}
use Rattle.attractors.specs.Attractor.{serves, attracts, is_attracted, AreGoals, Grew, from_goals, with_state}
use Rattle.attractors.proofs.Tests.{any-place, any-none, all-each}
use Rattle.attractors.proofs.Meeting.{meets-successor}
use Rattle.attractors.proofs.Serving.{serves-both}
use Rattle.almost_sure.specs.ExcludedSets.{gone_excluded}

-- Where the states that are not gone miss the goals with a probability of at most g over the k-th power of the
-- denominator, each member misses them so many steps later with one that is smaller by a fixed share.
pub record ComesNearer (q : Query) (gone set : List Bool) : Type 0 where
  pub horizon : ℕ
  pub nearer : (k g : ℕ)
      → ((t : ℕ) → t < states q → slice_index_or gone t false ≡ false → denominator q.game ^ k ≤ numerator q k t + g)
      → (s : ℕ) → s < states q → slice_index_or set s false ≡ true
      → denominator q.game ^ (k + horizon) + g ≤ numerator q (k + horizon) s + g * denominator q.game ^ horizon

-- what is missed, so many steps later
pub misses-later : (q : Query) (k g n t : ℕ) → denominator q.game ^ k ≤ numerator q k t + g
    → denominator q.game ^ (k + n) ≤ numerator q (k + n) t + g * denominator q.game ^ n
misses-later q k g zero t h =
    subst (λ j. denominator q.game ^ j ≤ numerator q j t + g * denominator q.game ^ zero) (sym (add-zero k))
    (rw pow-zero (omega (arith, h)))
misses-later q k g (suc n) t h =
    let D : ℕ = denominator q.game in
    let before : D ^ (k + n) ≤ numerator q (k + n) t + g * D ^ n = misses-later q k g n t h in
    subst (λ j. D ^ j ≤ numerator q j t + g * D ^ suc n) (sym (add-suc k n))
    (rw (pow-suc D (k + n), pow-suc D n)
    (omega (arith, mul-le-mul_right D before, numerator_of-rises q (choices_of q.game) (k + n) t)))

-- an edge to a value that misses p by at most h
abbrev MissesBy : (ℕ → ℕ) → ℕ → ℕ → Edge → Type 0
MissesBy v p h e = (1 ≤ e.weight) × (p ≤ v e.to + h)

-- a sum over such values
weighted_sum-misses : (v : ℕ → ℕ) (p h : ℕ) (edges : List Edge) → All (MissesBy v p h) edges
    → sum_by (λ e. e.weight) edges * p ≤ weighted_sum v edges + sum_by (λ e. e.weight) edges * h
weighted_sum-misses v p h [] each = omega arith
weighted_sum-misses v p h (e ∷ es) each =
    rw (sum_by-cons (λ (d : Edge). d.weight * v d.to) e es, sum_by-cons (λ (d : Edge). d.weight) e es)
    (omega (
      arith,
      weighted_sum-misses v p h es (All-tail (MissesBy v p h) e es each),
      mul-le-mul_left e.weight (All-head (MissesBy v p h) e es each).1,
    ))

-- and by g less at one destination
weighted_sum-nearer : (v : ℕ → ℕ) (p h g : ℕ) (edges : List Edge) (i : ℕ)
    → All (MissesBy v p h) edges → i < length edges → p + g ≤ v (get_or edges i no_edge).to + h
    → sum_by (λ e. e.weight) edges * p + g ≤ weighted_sum v edges + sum_by (λ e. e.weight) edges * h
weighted_sum-nearer v p h g [] i each l one = absurd (omega arith)
weighted_sum-nearer v p h g (e ∷ es) zero each l one =
    rw (sum_by-cons (λ (d : Edge). d.weight * v d.to) e es, sum_by-cons (λ (d : Edge). d.weight) e es)
    (omega (
      arith,
      weighted_sum-misses v p h es (All-tail (MissesBy v p h) e es each),
      mul-le-mul_left e.weight one,
      mul-le-mul_right g (All-head (MissesBy v p h) e es each).0,
    ))
weighted_sum-nearer v p h g (e ∷ es) (suc i) each l one =
    rw (sum_by-cons (λ (d : Edge). d.weight * v d.to) e es, sum_by-cons (λ (d : Edge). d.weight) e es)
    (omega (
      arith,
      weighted_sum-nearer v p h g es i (All-tail (MissesBy v p h) e es each) (omega arith) one,
      mul-le-mul_left e.weight (All-head (MissesBy v p h) e es each).1,
    ))

scaled-nearer : (r w d x p g h : ℕ) → r * w ≡ d → 1 ≤ r → w * p + g ≤ x + w * h → d * p + g ≤ r * x + d * h
scaled-nearer r w d x p g h same some sums =
    rw (← same) (omega (arith, mul-le-mul_left r sums, mul-le-mul_right g some))

-- a choice that serves
choice-nearer : (q : Query) (gone set : List Bool) (v : ℕ → ℕ) (p h g : ℕ) (m : Distribution) → 0 < denominator q.game
    → IsChoiceOf q.game m → ((t : ℕ) → t < states q → slice_index_or gone t false ≡ false → p ≤ v t + h)
    → ((t : ℕ) → t < states q → slice_index_or set t false ≡ true → p + g ≤ v t + h)
    → serves (gone_excluded gone) set m ≡ true
    → denominator q.game * p + g ≤ denominator q.game / m.total * weighted_sum v m.edges + denominator q.game * h
choice-nearer q gone set v p h g m positive fits outer inner serve =
    let both = serves-both (gone_excluded gone) set m serve in
    let one = meets-successor set m both.1 in
    let kept : All (λ (e : Edge). slice_index_or gone e.to false ≡ false) m.edges =
    any-none (λ (e : Edge). slice_index_or gone e.to false) m.edges both.0 in
    let edges : All (MissesBy v p h) m.edges =
    λ i d l. (fits.weights i d l, outer (get_or m.edges i d).to (fits.inside i d l) (kept i d l)) in
    let there : p + g ≤ v (get_or m.edges one.0 no_edge).to + h =
    inner (get_or m.edges one.0 no_edge).to (fits.inside one.0 no_edge one.1) one.2 in
    let sums : m.total * p + g ≤ weighted_sum v m.edges + m.total * h =
    subst (λ w. w * p + g ≤ weighted_sum v m.edges + w * h) fits.sums
    (weighted_sum-nearer v p h g m.edges one.0 edges one.1 there) in
    scaled-nearer (denominator q.game / m.total) m.total (denominator q.game)
    (weighted_sum v m.edges) p g h fits.divides (quotient-pos (denominator q.game) m.total fits.divides positive) sums

-- a side that is attracted
side-nearer : (q : Query) (gone set : List Bool) (v : ℕ → ℕ) (p h g s : ℕ) (side : Side)
    → side_at q s ≡ side → 0 < denominator q.game → AreChoicesOf q.game (choices_of q.game)
    → s < states q → ((t : ℕ) → t < states q → slice_index_or gone t false ≡ false → p ≤ v t + h)
    → ((t : ℕ) → t < states q → slice_index_or set t false ≡ true → p + g ≤ v t + h)
    → attracts side (gone_excluded gone) set (choices_of q.game s) ≡ true → denominator q.game * p + g
    ≤ optimum (side_at q s) (λ m. denominator q.game / m.total * weighted_sum v m.edges) (choices_of q.game s)
    + denominator q.game * h
side-nearer q gone set v p h g s Max is_side positive chosen inside outer inner drawn =
    let f : Distribution → ℕ = λ m. denominator q.game / m.total * weighted_sum v m.edges in
    let one = any-place (serves (gone_excluded gone) set) (choices_of q.game s) no_distribution drawn in
    let here : denominator q.game * p + g ≤ f (choice_of q.game s one.0) + denominator q.game * h =
    choice-nearer q gone set v p h g (choice_of q.game s one.0) positive
    (chosen.each s one.0 no_distribution one.1) outer inner one.2 in
    let most : f (choice_of q.game s one.0) ≤ optimum Max f (choices_of q.game s) =
    optimum-each f (choices_of q.game s) one.0 no_distribution one.1 in
    subst (λ side. denominator q.game * p + g ≤ optimum side f (choices_of q.game s) + denominator q.game * h)
    (sym is_side) (omega (arith, here, most))
side-nearer q gone set v p h g s Min is_side positive chosen inside outer inner drawn =
    let f : Distribution → ℕ = λ m. denominator q.game / m.total * weighted_sum v m.edges in
    let serving : All (λ m. serves (gone_excluded gone) set m ≡ true) (choices_of q.game s) =
    all-each (serves (gone_excluded gone) set) (choices_of q.game s) drawn in
    let all : denominator q.game * p + g + 0 * optimum (side_at q s) f (choices_of q.game s)
    ≤ 1 * optimum (side_at q s) f (choices_of q.game s) + denominator q.game * h =
    optimum-affine (side_at q s) f f (denominator q.game * p + g) 0 1 (denominator q.game * h) (choices_of q.game s)
    (chosen.some s inside)
    (λ c d l.
    omega (
      arith,
      choice-nearer q gone set v p h g (get_or (choices_of q.game s) c d) positive (chosen.each s c d l) outer inner
          (serving c d l),
    )) in
    omega (arith, all)

marked-nearer : (goal dead : Bool) (top x a b : ℕ) → dead ≡ false → a ≤ top + b → a ≤ x + b
    → a ≤ (if goal then top else (if dead then 0 else x)) + b
marked-nearer true dead top x a b alive h k = h
marked-nearer false true top x a b alive h k = absurd (cc)
marked-nearer false false top x a b alive h k = k

-- a state that is attracted comes nearer in one more step
attracted-nearer : (q : Query) (gone set : List Bool) (k n g s : ℕ) → IsQuery q → s < states q
    → is_dead q s ≡ false → ((t : ℕ) → t < states q → slice_index_or gone t false ≡ false
    → denominator q.game ^ (k + n) ≤ numerator q (k + n) t + g * denominator q.game ^ n)
    → ((t : ℕ) → t < states q → slice_index_or set t false ≡ true
    → denominator q.game ^ (k + n) + g ≤ numerator q (k + n) t + g * denominator q.game ^ n)
    → is_attracted q (gone_excluded gone) set s ≡ true
    → denominator q.game ^ suc (k + n) + g ≤ numerator q (suc (k + n)) s + g * denominator q.game ^ suc n
unfolding numerator_of
attracted-nearer q gone set k n g s posed inside alive outer inner drawn =
    let D : ℕ = denominator q.game in
    let positive : 0 < D = denominator-pos q.game posed.game in
    let side : D * D ^ (k + n) + g ≤ optimum (side_at q s)
    (λ m. D / m.total * weighted_sum (numerator q (k + n)) m.edges) (choices_of q.game s) + D * (g * D ^ n) =
    side-nearer q gone set (numerator q (k + n)) (D ^ (k + n)) (g * D ^ n) g s (side_at q s) refl positive
    (AreChoicesOf-choices_of q.game posed.game) inside outer inner drawn in
    marked-nearer (is_goal q s) (is_dead q s) (D ^ suc (k + n))
    (optimum (side_at q s) (λ m. D / m.total * weighted_sum (numerator q (k + n)) m.edges) (choices_of q.game s))
    (D ^ suc (k + n) + g) (g * D ^ suc n) alive
    (omega (arith, mul-le-mul_left g (one-le-pow (suc n) D positive)))
    (rw (pow-suc D (k + n), pow-suc D n) (omega (arith, side)))

-- a state that has come nearer stays so
later-nearer : (q : Query) (k n g s : ℕ) → 0 < denominator q.game
    → denominator q.game ^ (k + n) + g ≤ numerator q (k + n) s + g * denominator q.game ^ n
    → denominator q.game ^ suc (k + n) + g ≤ numerator q (suc (k + n)) s + g * denominator q.game ^ suc n
later-nearer q k n g s positive h =
    let D : ℕ = denominator q.game in
    rw (pow-suc D (k + n), pow-suc D n)
    (omega
    (arith, mul-le-mul_right D h, mul-le-mul_left g positive, numerator_of-rises q (choices_of q.game) (k + n) s))

-- a state joins that is attracted
ComesNearer-add : (q : Query) (gone members : List Bool) (i : ℕ) → IsQuery q → i < states q
    → is_dead q i ≡ false → ComesNearer q gone members → is_attracted q (gone_excluded gone) members i ≡ true
    → ComesNearer q gone (set members i true)
ComesNearer-add q gone members i posed here alive near drawn = record {
  horizon = suc near.horizon;
  nearer = λ k g outer s inside member.
      let D : ℕ = denominator q.game in
      let n : ℕ = near.horizon in
      let inner : (t : ℕ) → t < states q → slice_index_or members t false ≡ true
      → D ^ (k + n) + g ≤ numerator q (k + n) t + g * D ^ n = near.nearer k g outer in
      let body : D ^ suc (k + n) + g ≤ numerator q (suc (k + n)) s + g * D ^ suc n = elim (cases_eq s i) [
        | inl same ↦
            subst (λ t. D ^ suc (k + n) + g ≤ numerator q (suc (k + n)) t + g * D ^ suc n) (sym same)
            (attracted-nearer q gone members k n g i posed here alive
            (λ t within out. misses-later q k g n t (outer t within out)) inner drawn)
        | inr other ↦ later-nearer q k n g s (denominator-pos q.game posed.game)
            (inner s inside (sym (get_or-set_other members i s true false other) ∙ member))
      ] in
      subst (λ j. D ^ j + g ≤ numerator q j s + g * D ^ suc n) (sym (add-suc k n)) body;
}

-- the goals alone
ComesNearer-goals : (q : Query) (gone members : List Bool) → AreGoals q members → ComesNearer q gone members
ComesNearer-goals q gone members goals = record {
  horizon = 0;
  nearer = λ k g outer s inside member.
      let D : ℕ = denominator q.game in
      let whole : numerator q k s ≡ D ^ k =
      numerator_of-goal q (choices_of q.game) k s (sym (goals.each s inside) ∙ member) in
      let body : D ^ k + g ≤ numerator q k s + g * D ^ 0 = rw (whole, pow-zero D) (omega arith) in
      subst (λ j. D ^ j + g ≤ numerator q j s + g * D ^ 0) (sym (add-zero k)) body;
}

-- no dead state joins where each is gone
alive-within : (dead gone : Bool) → (dead ≡ true → gone ≡ true) → gone ≡ false → dead ≡ false
alive-within true gone h within = let is : gone ≡ true = h refl in absurd (cc)
alive-within false gone h within = refl

-- so a set that grew comes nearer
pub ComesNearer-grown : (q : Query) (gone set : List Bool) → IsQuery q
    → ((s : ℕ) → s < states q → is_dead q s ≡ true → slice_index_or gone s false ≡ true)
    → Grew q (gone_excluded gone) set
    → ComesNearer q gone set
ComesNearer-grown q gone _ posed deads (from_goals members goals) = ComesNearer-goals q gone members goals
ComesNearer-grown q gone _ posed deads (with_state members s grew inside within drawn) =
    ComesNearer-add q gone members s posed inside
    (alive-within (is_dead q s) (slice_index_or gone s false) (deads s inside) within)
    (ComesNearer-grown q gone members posed deads grew) drawn
