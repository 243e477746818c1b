-- The ways of plays add up, and those of the plays that are won to what is reached.
use Rattle.std.proofs.Common.{◌≡◌, ℕ, zero, suc, ◌+◌, ◌*◌, ◌/◌, ◌^◌, ◌<◌, ◌≤◌, Bool, true, false, List, [], ◌∷◌}
use Rattle.std.proofs.Common.{map, sum_by, arith, refl, sym, ◌∙◌, ap}
use Rattle.std.specs.Prelude.{◌&&◌, ◌||◌, not}
use Rattle.std.specs.List.{range_with_len}
use Rattle.std.specs.Bool.{if◌then◌else◌}
use Rattle.std.proofs.Math.Nat.{pow-suc, pow-zero}
use Rattle.std.proofs.lemmas.List.Sums.{sum_by-cons}
use Rattle.game_model.specs.declared.game.Edge.{Edge}
use Rattle.game_model.specs.declared.game.Side.TheVariants.{Max, Min}
use Rattle.game_model.specs.Game.{Distribution, choice_of}
use Rattle.game_model.specs.Query.{Query, IsQuery, states, is_goal, is_dead, side_at}
use Rattle.game_model.specs.Values.{weighted_sum, denominator}
use Rattle.game_model.proofs.Choices.{IsChoiceOf, IsChoiceOf-choice_of}
use Rattle.strategies.specs.Strategies.{Turn, Strategy, IsStrategyOf, of_side, worth, reach}
use Rattle.strategies.specs.Plays.{Play, begun_at, plays, is_won, ways_won, ways_lost, AreWays}
use Rattle.strategies.specs.Next.{comes_next, ways_next}
use Rattle.strategies.proofs.Sums.{sum-flat_map, sum-same, sum-factor, sum-map, sum-throws, weighted-constant}
use Rattle.strategies.proofs.Turns.{worth-le, of_side-inside}

-- what plays bring, where each brings this much for each way
abbrev brought : (List ℕ → ℕ) → List Play → ℕ
brought pay all = sum_by (λ play. play.ways * pay play.through) all

brought-begun : (pay : List ℕ → ℕ) (s ways : ℕ) (all : List Play)
    → brought pay (map (begun_at s ways) all) ≡ ways * brought (λ through. pay (s ∷ through)) all
brought-begun pay s ways all = sum-map (λ (p : Play). p.ways * pay p.through)
    (λ (p : Play). p.ways * pay (s ∷ p.through)) (begun_at s ways) ways (λ p. omega arith) all

-- over the edges of a choice
brought-edges : (pay : List ℕ → ℕ) (s r : ℕ) (from : ℕ → List Play) (edges : List Edge)
    → sum_by (λ (e : Edge). brought pay (map (begun_at s (r * e.weight)) (from e.to))) edges
    ≡ r * weighted_sum (λ t. brought (λ through. pay (s ∷ through)) (from t)) edges
brought-edges pay s r from edges =
    sum-same (λ (e : Edge). brought pay (map (begun_at s (r * e.weight)) (from e.to)))
    (λ e. r * (e.weight * brought (λ through. pay (s ∷ through)) (from e.to))) edges
    (λ e. omega (arith, brought-begun pay s (r * e.weight) (from e.to)))
    ∙ sum-factor r (λ (e : Edge). e.weight * brought (λ through. pay (s ∷ through)) (from e.to)) edges

share : (d r w c : ℕ) → r * w ≡ d → r * (w * c) ≡ d * c
share d r w c same = rw (← same) (omega arith)

-- a choice whose successors are worth the same
pub worth-constant : (q : Query) (c : ℕ) (m : Distribution) → IsChoiceOf q.game m
    → worth q (λ t. c) m ≡ denominator q.game * c
worth-constant q c m fits =
    ap (λ x. denominator q.game / m.total * x) (weighted-constant c m.edges ∙ ap (λ w. w * c) fits.sums)
    ∙ share (denominator q.game) (denominator q.game / m.total) m.total c fits.divides

both-ways : (x y : ℕ) → 1 * x ≤ 1 * y → 1 * y ≤ 1 * x → x ≡ y
both-ways x y h k = omega (arith, h, k)

-- a choice is worth the same where its successors are
pub worth-same : (q : Query) (v w : ℕ → ℕ) (m : Distribution) → IsChoiceOf q.game m
    → ((t : ℕ) → t < states q → v t ≡ w t) → worth q v m ≡ worth q w m
worth-same q v w m fits h =
    both-ways (worth q v m) (worth q w m)
    (worth-le q v w 1 1 m fits (λ t inside. omega (arith, h t inside)))
    (worth-le q w v 1 1 m fits (λ t inside. omega (arith, h t inside)))

if-ways : (won : Bool) (ways : ℕ) → (if won then ways else 0) ≡ ways * (if won then 1 else 0)
if-ways true ways = let at : ways ≡ ways * 1 = omega arith in at
if-ways false ways = let at : 0 ≡ ways * 0 = omega arith in at

one-times : (n : ℕ) → 1 * n ≡ n
one-times n = omega arith

zero-times : (n : ℕ) → 0 * n ≡ 0
zero-times n = omega arith

times-one : (n : ℕ) → n ≡ n * 1
times-one n = omega arith

-- each play is won or not
won-or-lost : (q : Query) (all : List Play) → ways_won q all + ways_lost q all ≡ sum_by (λ (play : Play). play.ways) all
won-or-lost q [] = refl
won-or-lost q (play ∷ all) =
    rw (
      sum_by-cons (λ (p : Play). if is_won q p.through then p.ways else 0) play all,
      sum_by-cons (λ (p : Play). if is_won q p.through then 0 else p.ways) play all,
      sum_by-cons (λ (p : Play). p.ways) play all,
      ← won-or-lost q all,
    )
    (elim (is_won q play.through)
    as (λ won. (if won then play.ways else 0) + ways_won q all + ((if won then 0 else play.ways) + ways_lost q all)
    ≡ play.ways + (ways_won q all + ways_lost q all)) [ true ↦ omega arith | false ↦ omega arith ])

module _ (q : Query) (posed : IsQuery q) (faces : ℕ) (greatest least : Strategy) (up : IsStrategyOf q Max greatest)
    (down : IsStrategyOf q Min least) where
  abbrev turn_at : List Turn → ℕ → ℕ → Turn
  turn_at past s throw = record { state = s; throw = throw; choice = of_side (side_at q s) greatest least past s throw }

  abbrev choice_at : List Turn → ℕ → ℕ → Distribution
  choice_at past s throw = choice_of q.game s (of_side (side_at q s) greatest least past s throw)

  abbrev total : (List ℕ → ℕ) → ℕ → List Turn → ℕ → ℕ
  total pay k past s = brought pay (plays q faces greatest least k past s)

  fits : (past : List Turn) (s throw : ℕ) → s < states q → IsChoiceOf q.game (choice_at past s throw)
  fits past s throw inside = IsChoiceOf-choice_of q.game s _ posed.game inside
      (of_side-inside q greatest least up down past s throw inside (side_at q s) refl)

  -- one turn more
  total-turn : (pay : List ℕ → ℕ) (k : ℕ) (past : List Turn) (s : ℕ) → total pay (suc k) past s
      ≡ sum_by (λ throw. worth q (λ t. total (λ through. pay (s ∷ through)) k (turn_at past s throw ∷ past) t)
      (choice_at past s throw)) (range_with_len 0 faces)
  unfolding plays
  total-turn pay k past s =
      sum-flat_map (λ (play : Play). play.ways * pay play.through) _ (range_with_len 0 faces)
      ∙ sum-same _ _ (range_with_len 0 faces) (λ throw.
      sum-flat_map (λ (play : Play). play.ways * pay play.through) _ (choice_at past s throw).edges
      ∙ brought-edges pay s (denominator q.game / (choice_at past s throw).total)
      (λ t. plays q faces greatest least k (turn_at past s throw ∷ past) t) (choice_at past s throw).edges)

  -- where each play brings the same
  total-constant : (c k : ℕ) (past : List Turn) (s : ℕ) → s < states q
      → total (λ through. c) k past s ≡ c * (faces * denominator q.game) ^ k
  unfolding plays
  total-constant c zero past s inside =
      rw (pow-zero (faces * denominator q.game)) (let at : 0 + 1 * c ≡ c * 1 = omega arith in at)
  total-constant c (suc k) past s inside =
      let P : ℕ = c * (faces * denominator q.game) ^ k in
      let turn : total (λ through. c) (suc k) past s ≡ faces * (denominator q.game * P) =
      total-turn (λ through. c) k past s ∙ sum-throws _ (denominator q.game * P) faces (λ throw.
      worth-same q (λ t. total (λ through. c) k (turn_at past s throw ∷ past) t) (λ t. P) (choice_at past s throw)
      (fits past s throw inside) (λ t within. total-constant c k (turn_at past s throw ∷ past) t within)
      ∙ worth-constant q P (choice_at past s throw) (fits past s throw inside)) in
      rw (pow-suc (faces * denominator q.game) k) (omega (arith, turn))

  -- the plays that are won
  total-won : (k : ℕ) (past : List Turn) (s : ℕ) → s < states q
      → total (λ through. if is_won q through then 1 else 0) k past s ≡ reach q faces greatest least k past s
  unfolding plays reach
  total-won zero past s inside = elim (is_goal q s)
      as (λ goal. 0 + 1 * (if (goal || (not (is_dead q s) && false)) then 1 else 0) ≡ (if goal then 1 else 0)) [
        | true ↦ refl
        | false ↦ elim (is_dead q s) as (λ dead. 0 + 1 * (if (false || (not dead && false)) then 1 else 0) ≡ 0) [
          | true ↦ refl
          | false ↦ refl
        ]
      ]
  total-won (suc k) past s inside =
      total-turn (λ through. if is_won q through then 1 else 0) k past s
      ∙ elim (is_goal q s) as (λ goal. sum_by
      (λ throw. worth q (λ t. total (λ through. if (goal || (not (is_dead q s) && is_won q through)) then 1 else 0) k
      (turn_at past s throw ∷ past) t) (choice_at past s throw)) (range_with_len 0 faces)
      ≡ (if goal then (faces * denominator q.game) ^ suc k else (if is_dead q s then 0 else sum_by
      (λ throw. worth q (reach q faces greatest least k (turn_at past s throw ∷ past)) (choice_at past s throw))
      (range_with_len 0 faces)))) [
        | true ↦ sym (total-turn (λ through. 1) k past s) ∙ total-constant 1 (suc k) past s inside
            ∙ one-times ((faces * denominator q.game) ^ suc k)
        | false ↦ elim (is_dead q s) as (λ dead.
            sum_by (λ throw. worth q (λ t. total (λ through. if (false || (not dead && is_won q through)) then 1 else 0)
            k (turn_at past s throw ∷ past) t) (choice_at past s throw)) (range_with_len 0 faces)
            ≡ (if dead then 0 else sum_by
            (λ throw. worth q (reach q faces greatest least k (turn_at past s throw ∷ past)) (choice_at past s throw))
            (range_with_len 0 faces))) [
              | true ↦ sym (total-turn (λ through. 0) k past s) ∙ total-constant 0 (suc k) past s inside
                  ∙ zero-times ((faces * denominator q.game) ^ suc k)
              | false ↦ sum-same _ _ (range_with_len 0 faces) (λ throw.
                  worth-same q
                  (λ t. total (λ through. if is_won q through then 1 else 0) k (turn_at past s throw ∷ past) t)
                  (reach q faces greatest least k (turn_at past s throw ∷ past)) (choice_at past s throw)
                  (fits past s throw inside)
                  (λ t within. total-won k (turn_at past s throw ∷ past) t within))
            ]
      ]

  -- plays of one turn, by the state that comes next
  pub next-ways : (holds : ℕ → Bool) (s : ℕ) → s < states q → ways_next q holds faces greatest least s
      ≡ sum_by (λ throw. worth q (λ t. if holds t then 1 else 0) (choice_at [] s throw)) (range_with_len 0 faces)
  unfolding plays
  next-ways holds s inside =
      sum-same (λ (play : Play). if comes_next holds play.through then play.ways else 0)
      (λ (play : Play). play.ways * (if comes_next holds play.through then 1 else 0))
      (plays q faces greatest least 1 [] s) (λ play. if-ways (comes_next holds play.through) play.ways)
      ∙ total-turn (λ through. if comes_next holds through then 1 else 0) 0 [] s
      ∙ sum-same _ _ (range_with_len 0 faces) (λ throw.
      worth-same q
      (λ t. total (λ through. if comes_next holds (s ∷ through) then 1 else 0) 0 (turn_at [] s throw ∷ []) t)
      (λ t. if holds t then 1 else 0) (choice_at [] s throw) (fits [] s throw inside)
      (λ t within. at_once (turn_at [] s throw ∷ []) t))
    where
      at_once : (past : List Turn) (t : ℕ)
          → total (λ through. if comes_next holds (s ∷ through) then 1 else 0) 0 past t ≡ (if holds t then 1 else 0)
      at_once past t = elim (holds t) as (λ h. 0 + 1 * (if h then 1 else 0) ≡ (if h then 1 else 0)) [
        | true ↦ refl
        | false ↦ refl
      ]

  all-ways : (k s : ℕ) → s < states q
      → sum_by (λ (play : Play). play.ways) (plays q faces greatest least k [] s) ≡ (faces * denominator q.game) ^ k
  all-ways k s inside =
      sum-same (λ (play : Play). play.ways) (λ (play : Play). play.ways * 1) (plays q faces greatest least k [] s)
      (λ play. times-one play.ways) ∙ total-constant 1 k [] s inside ∙ one-times ((faces * denominator q.game) ^ k)

  won-ways : (k s : ℕ) → s < states q
      → ways_won q (plays q faces greatest least k [] s) ≡ reach q faces greatest least k [] s
  won-ways k s inside =
      sum-same (λ (play : Play). if is_won q play.through then play.ways else 0)
      (λ (play : Play). play.ways * (if is_won q play.through then 1 else 0)) (plays q faces greatest least k [] s)
      (λ play. if-ways (is_won q play.through) play.ways) ∙ total-won k [] s inside

  pub ways-are : (k s : ℕ) → s < states q → AreWays q faces greatest least k s
  ways-are k s inside = record {
    all = all-ways k s inside;
    won = won-ways k s inside;
    lost = omega (
      arith,
      all-ways k s inside,
      won-ways k s inside,
      won-or-lost q (plays q faces greatest least k [] s),
    );
  }
