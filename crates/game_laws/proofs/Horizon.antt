-- Ranked values are reached at some horizon, less any 1/m, whatever number of units is probability 1.
use Rattle.std.proofs.Common.{◌≡◌, ℕ, zero, suc, ◌+◌, ◌-◌, ◌*◌, ◌/◌, ◌^◌, ◌<◌, ◌≤◌, ◌⊎◌, Bool, true, false, List}
use Rattle.std.proofs.Common.{length, arith, refl, sym, ◌∙◌, ap, subst, sum_by, inl, inr, get_or, add-suc, add-zero}
use Rattle.std.specs.List.{All}
use Rattle.std.specs.Bool.{if◌then◌else◌}
use Rattle.std.proofs.lemmas.Bool.{cases_lt, cases_Bool, false_from_ne_true}
use Rattle.std.proofs.lemmas.Nat.{pow-add}
use Rattle.std.proofs.Math.Nat.{mul-le-mul_left, mul-le-mul_right, pow-suc, pow-zero, one-le-pow}
use Rattle.game_model.specs.Game.{Distribution, no_edge}
use Rattle.game_model.specs.Query.{Query, is_goal, is_dead, side_at}
use Rattle.game_model.specs.Values.{weighted_sum, denominator, numerator_of}
use Rattle.game_model.specs.Ranks.{IsRankedChoice}
use Rattle.game_model.proofs.Choices.{IsChoiceOf, AreChoicesOf}
use Rattle.game_model.proofs.Best.{weighted_sum-affine}
use Rattle.game_model.proofs.Rises.{numerator_of-goal, numerator_of-most}
use Rattle.game_laws.proofs.Powers.{pow-far, horizon_of, pow-horizon_of}
use Rattle.game_laws.proofs.Positive.{optimum-affine, optimum-positive, marked-at-least, scaled-pos}

module _ (top : ℕ) where
  -- what the law needs: values and ranks over lists of choices, one a state
  pub record Certified (q : Query) (choices : ℕ → List Distribution) (v r : ℕ → ℕ) (most : ℕ) : Type 0 where
    pub chosen : AreChoicesOf q.game choices
    pub positive : 0 < denominator q.game
    pub units : (s : ℕ) → s < length q.game → v s ≤ top
    pub deads : (s : ℕ) → s < length q.game → is_dead q s ≡ true → v s ≡ 0
    pub ranks : (s : ℕ) → r s ≤ most
    pub ranked : (s : ℕ) → s < length q.game → is_goal q s ≡ false → is_dead q s ≡ false → 0 < v s
        → All (IsRankedChoice v r s) (choices s)

  -- it falls along each onward step
  pub key : ℕ → (ℕ → ℕ) → (ℕ → ℕ) → ℕ → ℕ
  key most v r s = (top - v s) * (most + 1) + r s

  key-falls : (most : ℕ) (v r : ℕ → ℕ) (s t : ℕ) → v t ≤ top → r t ≤ most → (v s < v t) ⊎ ((v t ≡ v s) × (r t < r s))
      → key most v r t < key most v r s
  unfolding key
  key-falls most v r s t units ranks (inl greater) =
      let step : (top - v t) + 1 ≤ top - v s = omega arith in
      let times : ((top - v t) + 1) * (most + 1) ≤ (top - v s) * (most + 1) = mul-le-mul_right (most + 1) step in
      omega (arith, times)
  key-falls most v r s t units ranks (inr equal) =
      let same : (top - v t) * (most + 1) ≡ (top - v s) * (most + 1) = ap (λ n. (top - n) * (most + 1)) equal.0 in
      omega (arith, same, equal.1)

  key-most : (most : ℕ) (v r : ℕ → ℕ) (s : ℕ) → r s ≤ most → key most v r s < (top + 1) * (most + 1)
  unfolding key
  key-most most v r s ranks =
      let times : (top - v s) * (most + 1) ≤ top * (most + 1) =
      mul-le-mul_right (most + 1) (let le : top - v s ≤ top = omega arith in le) in
      omega (arith, times)

  -- an onward step of a ranked choice leads to a state of the game with a positive value and a smaller key
  onward-positive : (v : ℕ → ℕ) (r : ℕ → ℕ) (s t : ℕ) → 0 < v s → (v s < v t) ⊎ ((v t ≡ v s) × (r t < r s)) → 0 < v t
  onward-positive v r s t h (inl greater) = omega arith
  onward-positive v r s t h (inr equal) = omega (arith, equal.0)

  -- from a ranked choice a step reaches a state of positive k-step value
  choice-positive : (q : Query) (choices : ℕ → List Distribution) (v r : ℕ → ℕ) (most : ℕ)
      → Certified q choices v r most → (k s : ℕ) → s < length q.game → 0 < v s
      → ((t : ℕ) → t < length q.game → 0 < v t → key most v r t < key most v r s → 1 ≤ numerator_of q choices k t)
      → (m : Distribution) → IsChoiceOf q.game m → IsRankedChoice v r s m
      → 1 ≤ denominator q.game / m.total * weighted_sum (numerator_of q choices k) m.edges
  choice-positive q choices v r most h k s inside some below m share ranked =
      let t : ℕ = (get_or m.edges ranked.place no_edge).to in
      let within : t < length q.game = share.inside ranked.place no_edge ranked.inside in
      let falls : key most v r t < key most v r s =
      key-falls most v r s t (h.units t within) (h.ranks t) ranked.onward in
      let there : 1 ≤ numerator_of q choices k t = below t within (onward-positive v r s t some ranked.onward) falls in
      scaled-pos q.game m (numerator_of q choices k) ranked.place h.positive share ranked.inside there

  -- a state of positive value is not dead
  alive : (q : Query) (choices : ℕ → List Distribution) (v r : ℕ → ℕ) (most : ℕ) → Certified q choices v r most
      → (s : ℕ) → s < length q.game → 0 < v s → is_dead q s ≡ false
  alive q choices v r most h s inside some =
      false_from_ne_true (is_dead q s) (λ dead. let none : v s ≡ 0 = h.deads s inside dead in omega arith)

  -- a state of positive value has a positive k-step value, for k above its key
  pub numerator-positive : (q : Query) (choices : ℕ → List Distribution) (v r : ℕ → ℕ) (most : ℕ)
      → Certified q choices v r most → (k s : ℕ) → s < length q.game → 0 < v s → key most v r s < k
      → 1 ≤ numerator_of q choices k s
  unfolding numerator_of
  numerator-positive q choices v r most h zero s inside some below = absurd (omega arith)
  numerator-positive q choices v r most h (suc k) s inside some below =
      marked-at-least (is_goal q s) (is_dead q s) (denominator q.game ^ suc k) _
      (one-le-pow (suc k) (denominator q.game) h.positive) (alive q choices v r most h s inside some) (λ no_goal.
      optimum-positive q s _ (choices s) (h.chosen.some s inside)
      (λ i d l. choice-positive q choices v r most h k s inside some
      (λ t within positive falls.
      numerator-positive q choices v r most h k t within positive (omega (arith, falls, below)))
      (get_or (choices s) i d) (h.chosen.each s i d l)
      (h.ranked s inside no_goal (alive q choices v r most h s inside some) some i d l)))

  -- what a stretch of i more steps keeps: h steps from the start of it, and c of the opening that is left
  abbrev pub Stretch : Query → (ℕ → List Distribution) → (ℕ → ℕ) → ℕ → ℕ → ℕ → ℕ → Type 0
  Stretch q choices v h c i s =
      v s * denominator q.game ^ h * denominator q.game ^ i + top * c * numerator_of q choices i s
      ≤ top * numerator_of q choices (h + i) s + top * c * denominator q.game ^ i

  -- one choice of a stretch
  stretch-share : (vs w r d p a x y z uc u : ℕ) → r * w ≡ d → vs * w ≤ z → a * p * z + uc * x ≤ u * y + uc * p * w
      → vs * a * (p * d) + uc * (r * x) ≤ u * (r * y) + uc * (p * d)
  stretch-share vs w r d p a x y z uc u same enough sums =
      rw (← same) (omega (arith, mul-le-mul_left (r * p * a) enough, mul-le-mul_left r sums))

  stretch-choice : (q : Query) (choices : ℕ → List Distribution) (v r : ℕ → ℕ) (h c i s : ℕ) (m : Distribution)
      → IsChoiceOf q.game m → IsRankedChoice v r s m → ((t : ℕ) → t < length q.game → Stretch q choices v h c i t)
      → v s * denominator q.game ^ h * denominator q.game ^ suc i
      + top * c * (denominator q.game / m.total * weighted_sum (numerator_of q choices i) m.edges)
      ≤ top * (denominator q.game / m.total * weighted_sum (numerator_of q choices (h + i)) m.edges)
      + top * c * denominator q.game ^ suc i
  stretch-choice q choices v r h c i s m share ranked each =
      let D : ℕ = denominator q.game in
      let sums : D ^ h * D ^ i * weighted_sum v m.edges + top * c * weighted_sum (numerator_of q choices i) m.edges
      ≤ top * weighted_sum (numerator_of q choices (h + i)) m.edges + top * c * D ^ i * sum_by (λ e. e.weight) m.edges =
      weighted_sum-affine v (numerator_of q choices i) (numerator_of q choices (h + i)) (D ^ h * D ^ i) (top * c) top
      (top * c * D ^ i) m.edges
      (λ p e l. omega (arith, each (get_or m.edges p e).to (share.inside p e l))) in
      let totals : D ^ h * D ^ i * weighted_sum v m.edges + top * c * weighted_sum (numerator_of q choices i) m.edges
      ≤ top * weighted_sum (numerator_of q choices (h + i)) m.edges + top * c * D ^ i * m.total =
      subst (λ w. D ^ h * D ^ i * weighted_sum v m.edges + top * c * weighted_sum (numerator_of q choices i) m.edges
      ≤ top * weighted_sum (numerator_of q choices (h + i)) m.edges + top * c * D ^ i * w) share.sums sums in
      rw (pow-suc D i)
      (stretch-share (v s) m.total (D / m.total) D (D ^ i) (D ^ h) (weighted_sum (numerator_of q choices i) m.edges)
      (weighted_sum (numerator_of q choices (h + i)) m.edges) (weighted_sum v m.edges) (top * c) top
      share.divides ranked.enough totals)

  -- a step at a state that is not dead
  marked-affine : (goal dead : Bool) (a b d e whole whole' x y : ℕ) → dead ≡ false → a + b * whole ≤ d * whole' + e
      → (goal ≡ false → a + b * x ≤ d * y + e) → a + b * (if goal then whole else (if dead then 0 else x))
      ≤ d * (if goal then whole' else (if dead then 0 else y)) + e
  marked-affine true dead a b d e whole whole' x y alive at_goal each = at_goal
  marked-affine false true a b d e whole whole' x y alive at_goal each = absurd (cc)
  marked-affine false false a b d e whole whole' x y alive at_goal each = each refl

  stretch-goal : (vs a p t u uc : ℕ) → vs ≤ u → t ≡ a * p → vs * a * p + uc * p ≤ u * t + uc * p
  stretch-goal vs a p t u uc h same = rw same (omega (arith, mul-le-mul_right (a * p) h))

  grouped : (a b c : ℕ) → a * b * c ≡ a * (b * c)
  grouped a b c = omega arith

  -- a stretch that holds at its start holds all along
  stretch-more : (q : Query) (choices : ℕ → List Distribution) (v r : ℕ → ℕ) (most : ℕ) → Certified q choices v r most
      → (h c : ℕ) → ((s : ℕ) → s < length q.game → Stretch q choices v h c zero s) → (i s : ℕ) → s < length q.game
      → Stretch q choices v h c i s
  unfolding numerator_of
  stretch-more q choices v r most cert h c base zero s inside = base s inside
  stretch-more q choices v r most cert h c base (suc i) s inside =
      let D : ℕ = denominator q.game in
      elim (cases_lt 0 (v s)) [
        | inr none ↦
            let no : v s ≡ 0 = omega arith in
            let bound : numerator_of q choices (suc i) s ≤ D ^ suc i =
            numerator_of-most q choices cert.chosen (suc i) s in
            let left : top * c * numerator_of q choices (suc i) s ≤ top * c * D ^ suc i =
            mul-le-mul_left (top * c) bound in
            subst (λ n. n * D ^ h * D ^ suc i + top * c * numerator_of q choices (suc i) s
            ≤ top * numerator_of q choices (h + suc i) s + top * c * D ^ suc i) (sym no) (omega (arith, left))
        | inl some ↦
            let living : is_dead q s ≡ false = alive q choices v r most cert s inside some in
            subst (λ n. v s * D ^ h * D ^ suc i + top * c * numerator_of q choices (suc i) s
            ≤ top * numerator_of q choices n s + top * c * D ^ suc i) (sym (add-suc h i))
            (marked-affine (is_goal q s) (is_dead q s) (v s * D ^ h * D ^ suc i) (top * c) top (top * c * D ^ suc i)
            (D ^ suc i) (D ^ suc (h + i)) _ _ living
            (stretch-goal (v s) (D ^ h) (D ^ suc i) (D ^ suc (h + i)) top (top * c) (cert.units s inside)
            (pow-suc D (h + i) ∙ ap (λ n. n * D) (pow-add D h i) ∙ grouped (D ^ h) (D ^ i) D
            ∙ ap (λ n. D ^ h * n) (sym (pow-suc D i))))
            (λ no_goal.
            optimum-affine (side_at q s) (λ m. D / m.total * weighted_sum (numerator_of q choices i) m.edges)
            (λ m. D / m.total * weighted_sum (numerator_of q choices (h + i)) m.edges)
            (v s * D ^ h * D ^ suc i) (top * c) top (top * c * D ^ suc i) (choices s) (cert.chosen.some s inside)
            (λ p d l. stretch-choice q choices v r h c i s (get_or (choices s) p d) (cert.chosen.each s p d l)
            (cert.ranked s inside no_goal living some p d l)
            (λ t within. stretch-more q choices v r most cert h c base i t within))))
      ]

  first-start : (v d c u n : ℕ) → v ≤ u → v * d ^ 0 * d ^ 0 + u * c ^ 0 * n ≤ u * n + u * c ^ 0 * d ^ 0
  first-start v d c u n h = rw (pow-zero d, pow-zero c) (omega arith)

  turn-none : (a z uc n0 n : ℕ) → n0 ≤ z → z ≡ 1 → 0 * a * z + uc * n0 ≤ n + uc * z
  turn-none a z uc n0 n h one =
      rw one (omega (arith, mul-le-mul_left uc (let le : n0 ≤ 1 = omega (arith, h, one) in le)))

  turn-goal : (v a z u uc n0 n : ℕ) → v ≤ u → n ≡ a → n0 ≤ z → z ≡ 1 → v * a * z + uc * n0 ≤ u * n + uc * z
  turn-goal v a z u uc n0 n h same most one = rw (same, one)
      (omega (arith, mul-le-mul_right a h, mul-le-mul_left uc (let le : n0 ≤ 1 = omega (arith, most, one) in le)))

  turn-positive : (v a b z c' c u n n0 nk : ℕ) → c + 1 ≡ b → 1 ≤ nk → n0 ≡ 0 → z ≡ 1
      → v * a * b + u * c' * nk ≤ u * n + u * c' * b → v * (a * b) * z + u * (c' * c) * n0 ≤ u * n + u * (c' * c) * z
  turn-positive v a b z c' c u n n0 nk base some none one before =
      rw (none, one, ← base) (omega (arith, rw (← base) at before, mul-le-mul_left (u * c') some))

  opening-none : (goal : Bool) → goal ≡ false → ◌≡◌ {A = ℕ} (if goal then 1 else 0) 0
  opening-none goal h = rw h refl

  numerator_of-opening : (q : Query) (choices : ℕ → List Distribution) (s : ℕ) → is_goal q s ≡ false
      → numerator_of q choices zero s ≡ 0
  unfolding numerator_of
  numerator_of-opening q choices s h = opening-none (is_goal q s) h

  -- each stretch starts as the law says
  stretch-start : (q : Query) (choices : ℕ → List Distribution) (v r : ℕ → ℕ) (most : ℕ)
      → Certified q choices v r most → (c stretch : ℕ) → c + 1 ≡ denominator q.game ^ stretch
      → ((s : ℕ) → s < length q.game → 0 < v s → 1 ≤ numerator_of q choices stretch s) → (j s : ℕ) → s < length q.game
      → Stretch q choices v (horizon_of stretch j) (c ^ j) zero s
  unfolding horizon_of
  stretch-start q choices v r most cert c stretch base positive zero s inside =
      first-start (v s) (denominator q.game) c top (numerator_of q choices zero s) (cert.units s inside)
  stretch-start q choices v r most cert c stretch base positive (suc j) s inside =
      let D : ℕ = denominator q.game in
      let h : ℕ = horizon_of stretch j in
      let before : Stretch q choices v h (c ^ j) stretch s = stretch-more q choices v r most cert h (c ^ j)
      (λ t within. stretch-start q choices v r most cert c stretch base positive j t within) stretch s inside in
      let most0 : numerator_of q choices zero s ≤ D ^ zero = numerator_of-most q choices cert.chosen zero s in
      let body : v s * D ^ (h + stretch) * D ^ zero + top * c ^ suc j * numerator_of q choices zero s
      ≤ top * numerator_of q choices (h + stretch) s + top * c ^ suc j * D ^ zero =
      elim (cases_lt 0 (v s)) [
        | inr none ↦ let no : v s ≡ 0 = omega arith in
            subst (λ n. n * D ^ (h + stretch) * D ^ zero + top * c ^ suc j * numerator_of q choices zero s
            ≤ top * numerator_of q choices (h + stretch) s + top * c ^ suc j * D ^ zero) (sym no)
            (turn-none (D ^ (h + stretch)) (D ^ zero) (top * c ^ suc j) (numerator_of q choices zero s)
            (top * numerator_of q choices (h + stretch) s) most0 (pow-zero D))
        | inl some ↦ elim (cases_Bool (is_goal q s)) [
          | inl goal ↦ turn-goal (v s) (D ^ (h + stretch)) (D ^ zero) top (top * c ^ suc j)
              (numerator_of q choices zero s) (numerator_of q choices (h + stretch) s) (cert.units s inside)
              (numerator_of-goal q choices (h + stretch) s goal) most0 (pow-zero D)
          | inr no_goal ↦ rw (pow-suc c j, pow-add D h stretch)
              (turn-positive (v s) (D ^ h) (D ^ stretch) (D ^ zero) (c ^ j) c top
              (numerator_of q choices (h + stretch) s) (numerator_of q choices zero s)
              (numerator_of q choices stretch s) base (positive s inside some)
              (numerator_of-opening q choices s no_goal) (pow-zero D) before)
        ]
      ] in
      subst (λ n. v s * D ^ (h + stretch) * D ^ zero + top * c ^ suc j * numerator_of q choices zero s
      ≤ top * numerator_of q choices n s + top * c ^ suc j * D ^ zero) (sym (add-zero (h + stretch))) body

  -- the horizon of the law: m is how near
  last-near : (m v b c u n n0 z : ℕ) → z ≡ 1 → m * c ≤ b → v * b * z + u * c * n0 ≤ u * n + u * c * z
      → m * v * b ≤ u * (m * n + b)
  last-near m v b c u n n0 z one far start =
      let at : v * b * 1 + u * c * n0 ≤ u * n + u * c * 1 =
      subst (λ y. v * b * y + u * c * n0 ≤ u * n + u * c * y) one start in
      omega (arith, mul-le-mul_left m at, mul-le-mul_left u far)

  -- at some horizon all values are reached, less 1/m
  pub certified-reached : (q : Query) (choices : ℕ → List Distribution) (v r : ℕ → ℕ) (most : ℕ)
      → Certified q choices v r most → (m : ℕ) → (k : ℕ) × ((s : ℕ) → s < length q.game
      → m * v s * denominator q.game ^ k ≤ top * (m * numerator_of q choices k s + denominator q.game ^ k))
  certified-reached q choices v r most cert m =
      let D : ℕ = denominator q.game in
      let stretch : ℕ = (top + 1) * (most + 1) in
      let c : ℕ = D ^ stretch - 1 in
      let base : c + 1 ≡ D ^ stretch = omega (arith, one-le-pow stretch D cert.positive) in
      let j : ℕ = m * (c + 1) in
      let k : ℕ = horizon_of stretch j in
      let far : m * c ^ j ≤ D ^ k =
      subst (λ x. m * c ^ j ≤ x) (ap (λ b. b ^ j) base ∙ sym (pow-horizon_of D stretch j)) (pow-far c m) in (
        k,
        λ s inside.
            let start : Stretch q choices v k (c ^ j) zero s =
            stretch-start q choices v r most cert c stretch base (λ t within some. numerator-positive q choices v r most
            cert stretch t within some (key-most most v r t (cert.ranks t))) j s inside in
            last-near m (v s) (D ^ k) (c ^ j) top (numerator_of q choices k s) (numerator_of q choices zero s)
            (D ^ zero) (pow-zero D) far
            (subst (λ n. v s * D ^ k * D ^ zero + top * c ^ j * numerator_of q choices zero s
            ≤ top * numerator_of q choices n s + top * c ^ j * D ^ zero) (add-zero k) start),
      )
