-- The edges below a state, and its worker.
use Rattle.std.proofs.Common.{◌≡◌, ℕ, ◌+◌, ◌*◌, ◌/◌, ◌<◌, ◌≤◌, List, [], length, take, sum_by, arith, subst}
use Rattle.std.proofs.lemmas.List.{take-take}
use Rattle.std.proofs.lemmas.List.Sums.{sum_by_more, sum_by-take-le, get_or-le-sum_by}
use Rattle.std.proofs.Math.Nat.{mul-le-mul_right, le-div_iff_mul-le, div-lt_iff_lt-mul}
use Rattle.game_model.specs.Game.{Distribution, IsGame, choices_of, choice_of, no_distribution, edges_below}
use Rattle.round_workers.specs.Share.{worker_of}

abbrev edges_at : List (List Distribution) → ℕ → ℕ
edges_at game s = sum_by (λ (m : Distribution). length m.edges) (choices_of game s)

-- one more state
edges_below-more : (game : List (List Distribution)) (s : ℕ) → s < length game
    → edges_below game (s + 1) ≡ edges_below game s + edges_at game s
edges_below-more game s inside = sum_by_more
    (λ (choices : List Distribution). sum_by (λ (m : Distribution). length m.edges) choices) game s [] inside

pub edges_below-rises : (game : List (List Distribution)) (s t : ℕ) → s ≤ t → edges_below game s ≤ edges_below game t
edges_below-rises game s t h =
    subst (λ ms. sum_by (λ (choices : List Distribution). sum_by (λ (m : Distribution). length m.edges) choices) ms
    ≤ edges_below game t) (take-take s t game h)
    (sum_by-take-le (λ (choices : List Distribution). sum_by (λ (m : Distribution). length m.edges) choices)
    (take t game) s)

-- each state has an edge
some-edge : (game : List (List Distribution)) (s : ℕ) → IsGame game → s < length game → 0 < edges_at game s
some-edge game s h inside =
    let chosen : 0 < length (choices_of game s) = h.chosen s inside in
    let one : 0 < length (choice_of game s 0).edges = (h.distribution s 0 inside chosen).some in
    let part : length (choice_of game s 0).edges ≤ edges_at game s =
    get_or-le-sum_by (λ (m : Distribution). length m.edges) (choices_of game s) 0 no_distribution chosen in
    omega arith

pub edges_below-all : (game : List (List Distribution)) (s : ℕ) → IsGame game → s < length game
    → edges_below game s < edges_below game (length game)
edges_below-all game s h inside =
    let rest : edges_below game (s + 1) ≤ edges_below game (length game) =
    edges_below-rises game (s + 1) (length game) (omega arith) in
    omega (arith, edges_below-more game s inside, some-edge game s h inside, rest)

pub some-edges : (game : List (List Distribution)) → IsGame game → 0 < edges_below game (length game)
some-edges game h = let all = edges_below-all game 0 h h.some in omega arith

pub div-rises : (x y w : ℕ) → 0 < w → x ≤ y → x / w ≤ y / w
div-rises x y w positive h =
    let below : x / w * w ≤ x = (le-div_iff_mul-le positive).0 (let same : x / w ≤ x / w = omega arith in same) in
    (le-div_iff_mul-le positive).1 (omega (arith, below, h))

pub worker_of-rises : (game : List (List Distribution)) (workers s t : ℕ) → IsGame game → s ≤ t
    → worker_of game workers s ≤ worker_of game workers t
worker_of-rises game workers s t h le =
    div-rises (edges_below game s * workers) (edges_below game t * workers) (edges_below game (length game))
    (some-edges game h) (mul-le-mul_right workers (edges_below-rises game s t le))

pub worker_of-below : (game : List (List Distribution)) (workers s : ℕ) → IsGame game → 0 < workers → s < length game
    → worker_of game workers s < workers
worker_of-below game workers s h some inside =
    (div-lt_iff_lt-mul (some-edges game h)).1
    (product-less (edges_below game s) (edges_below game (length game)) workers some (edges_below-all game s h inside))
  where
    product-less : (x y w : ℕ) → 0 < w → x < y → x * w < w * y
    product-less x y w some less =
        let more : (x + 1) * w ≤ y * w = mul-le-mul_right w (omega arith) in
        omega (arith, more)
