-- Tables of units: what a choice gives over one, and an edge that leads high.
use Rattle.std.proofs.Common.{◌≡◌, ℕ, zero, suc, ◌+◌, ◌*◌, ◌<◌, ◌≤◌, List, [], ◌∷◌, length, get_or, fold, sum_by, arith}
use Rattle.std.proofs.Common.{refl, sym, ap, ◌∙◌, subst, inl, inr, ◌⊎◌}
use Rattle.std.specs.Bool.{if◌then◌else◌}
use Rattle.std.specs.Prelude.{slice_index_or, All}
use Rattle.std.proofs.lemmas.Bool.{cases_lt}
use Rattle.std.proofs.lemmas.List.Sums.{sum_by-cons}
use Rattle.std.proofs.lemmas.List.Elements.{All-head, All-tail, All-from_get_or}
use Rattle.std.proofs.Math.Nat.{mul-le-mul_left, le-div_iff_mul-le, div-le_of_le-mul, le-max_left}
use Rattle.game_model.specs.declared.game.Edge.{Edge}
use Rattle.game_model.specs.declared.game.Side.{Side}
use Rattle.game_model.specs.declared.game.Side.TheVariants.{Max, Min}
use Rattle.game_model.specs.Game.{Distribution, choices_of, choice_of, choice_among, no_distribution, no_edge}
use Rattle.game_model.specs.Query.{Query, IsQuery, states, is_dead, side_at}
use Rattle.game_model.specs.Values.{better, optimum, weighted_sum}
use Rattle.game_model.specs.Limits.{unit}
use Rattle.game_model.specs.Rounded.{down_value, down_step, IsBelow}
use Rattle.game_model.proofs.Choices.{IsChoiceOf, IsChoiceOf-choice_of}
use Rattle.game_model.proofs.Best.{min-cases, optimum-each, weighted_sum-le, weighted_sum-most}
use Rattle.game_laws.proofs.Steps.{down_value-le}
use Rattle.fixed_bellman.specs.Given.{IsFree, IsGivenBy}

-- each choice of a question is one of its game
pub choice_fits : (q : Query) (s c : ℕ) → IsQuery q → s < states q → c < length (choices_of q.game s)
    → IsChoiceOf q.game (choice_of q.game s c)
choice_fits q s c h inside in_range = IsChoiceOf-choice_of q.game s c h.game inside in_range

-- what holds of each state holds of each successor of a choice of its row
pub row-fits : (q : Query) (s c : ℕ) (row : List Distribution) (P : ℕ → Type 0) → IsQuery q
    → s < states q → row ≡ choices_of q.game s → c < length row → ((t : ℕ) → t < states q → P t)
    → All (λ e. P e.to) (choice_among row c).edges
row-fits q s c row P h inside is chosen each =
    subst (λ (ms : List Distribution). All (λ (e : Edge). P e.to) (choice_among ms c).edges) (sym is)
    (λ k d l. each _ (h.game.inside s c inside (omega (arith, ap length is)) k d l))

-- a sum over a greater table
pub weighted_sum-rises : (game : List (List Distribution)) (v w : ℕ → ℕ) (m : Distribution) → IsChoiceOf game m
    → ((t : ℕ) → t < length game → v t ≤ w t) → weighted_sum v m.edges ≤ weighted_sum w m.edges
weighted_sum-rises game v w m fits h =
    let sums : 1 * weighted_sum v m.edges ≤ 1 * weighted_sum w m.edges =
    weighted_sum-le v w 1 1 m.edges
    (λ i d l. omega (arith, h (get_or m.edges i d).to (fits.inside i d l))) in
    omega arith

-- a choice gives at most the unit
pub down_value-units : (game : List (List Distribution)) (v : ℕ → ℕ) (m : Distribution) → IsChoiceOf game m
    → ((t : ℕ) → t < length game → v t ≤ unit) → down_value v m ≤ unit
down_value-units game v m fits h =
    let most : weighted_sum v m.edges ≤ sum_by (λ e. e.weight) m.edges * unit = weighted_sum-most v unit m.edges
    (λ i d l. h (get_or m.edges i d).to (fits.inside i d l)) in
    div-le_of_le-mul m.total (subst (λ n. weighted_sum v m.edges ≤ n * unit) fits.sums most)

-- what a choice gives is paid for by its edges
pub down_value-pays : (game : List (List Distribution)) (v : ℕ → ℕ) (m : Distribution) (x : ℕ) → IsChoiceOf game m
    → x ≤ down_value v m → x * m.total ≤ weighted_sum v m.edges
down_value-pays game v m x fits h = (le-div_iff_mul-le fits.positive).0 h

-- an edge that leads to x or more
pub LeadsHigh : List Edge → (ℕ → ℕ) → ℕ → Type 0
LeadsHigh edges v x = (p : ℕ) × (p < length edges) × (x ≤ v (slice_index_or edges p no_edge).to)

high-or : (edges : List Edge) (v : ℕ → ℕ) (x : ℕ)
    → LeadsHigh edges v x ⊎ (weighted_sum v edges + sum_by (λ e. e.weight) edges ≤ x * sum_by (λ e. e.weight) edges)
unfolding LeadsHigh
high-or [] v x = inr (omega arith)
high-or (e ∷ es) v x = elim (cases_lt (v e.to) x) [
  | inl low ↦ elim (high-or es v x) [
    | inl found ↦ inl (suc found.0, (let r = found.1 in omega arith), found.2)
    | inr rest ↦
        let less : e.weight * suc (v e.to) ≤ e.weight * x = mul-le-mul_left e.weight (omega arith) in
        inr (rw (sum_by-cons (λ (d : Edge). d.weight * v d.to) e es, sum_by-cons (λ (d : Edge). d.weight) e es)
        (omega (arith, less, rest)))
  ]
  | inr high ↦ inl (zero, omega arith, high)
]

pub leads_high : (game : List (List Distribution)) (v : ℕ → ℕ) (m : Distribution) (x : ℕ) → IsChoiceOf game m
    → x ≤ down_value v m → (p : ℕ) × (p < length m.edges) × (x ≤ v (slice_index_or m.edges p no_edge).to)
unfolding LeadsHigh
leads_high game v m x fits h = elim (high-or m.edges v x) [
  | inl found ↦ found
  | inr rest ↦
      let pays : x * m.total ≤ weighted_sum v m.edges = down_value-pays game v m x fits h in
      let rest' : weighted_sum v m.edges + m.total ≤ x * m.total =
      subst (λ n. weighted_sum v m.edges + n ≤ x * n) fits.sums rest in
      let positive : 0 < m.total = fits.positive in
      absurd (omega arith)
]

-- a number that is at most each value is at most the optimum
better-least : (side : Side) (m x y : ℕ) → m ≤ x → m ≤ y → m ≤ better side x y
better-least Max m x y h k = omega (arith, le-max_left x y)
better-least Min m x y h k = elim (min-cases x y) [ inl e ↦ rw e h | inr e ↦ rw e k ]

fold-better-least : {X : Type 0} (side : Side) (f : X → ℕ) (m x : ℕ) (xs : List X) → m ≤ x
    → All (λ y. m ≤ f y) xs → m ≤ fold (λ best y. better side best (f y)) x xs
fold-better-least side f m x [] h k = h
fold-better-least side f m x (y ∷ ys) h k =
    fold-better-least side f m (better side x (f y)) ys
    (better-least side m x (f y) h (All-head (λ z. m ≤ f z) y ys k)) (All-tail (λ z. m ≤ f z) y ys k)

pub optimum-least : {X : Type 0} (side : Side) (f : X → ℕ) (m : ℕ) (xs : List X) → 0 < length xs
    → All (λ y. m ≤ f y) xs → m ≤ optimum side f xs
optimum-least side f m [] some k = absurd (omega arith)
optimum-least side f m (x ∷ xs) some k =
    fold-better-least side f m (f x) xs (All-head (λ y. m ≤ f y) x xs k) (All-tail (λ y. m ≤ f y) x xs k)

-- the step of a free state
pub free_step : (q : Query) (v : ℕ → ℕ) (s : ℕ) → IsFree q s
    → down_step q v s ≡ optimum (side_at q s) (down_value v) (choices_of q.game s)
free_step q v s free = ap (λ goal. if goal then unit
    else (if is_dead q s then 0 else optimum (side_at q s) (down_value v) (choices_of q.game s))) free.0
    ∙ ap (λ dead. if dead then 0 else optimum (side_at q s) (down_value v) (choices_of q.game s)) free.1

given_below : (q : Query) (v : ℕ → ℕ) (s x c : ℕ) (side : Side) → side_at q s ≡ side → IsQuery q → s < states q
    → IsGivenBy q v s x c → x ≤ optimum side (down_value v) (choices_of q.game s)
given_below q v s x c Max is h inside given =
    let at = given.greatest is in
    omega (arith, at.1, optimum-each (down_value v) (choices_of q.game s) c no_distribution at.0)
given_below q v s x c Min is h inside given =
    optimum-least Min (down_value v) x (choices_of q.game s) (h.game.chosen s inside)
    (All-from_get_or (λ m. x ≤ down_value v m) (choices_of q.game s) no_distribution (given.least is).1)

-- a given value is at most the step's
pub IsGivenBy-below : (q : Query) (v : ℕ → ℕ) (s x c : ℕ) → IsQuery q → s < states q → IsFree q s → IsGivenBy q v s x c
    → x ≤ down_step q v s
IsGivenBy-below q v s x c h inside free given =
    subst (λ n. x ≤ n) (sym (free_step q v s free)) (given_below q v s x c (side_at q s) refl h inside given)

-- some choice gives it
some_of : (q : Query) (v : ℕ → ℕ) (s x c : ℕ) (side : Side) → side_at q s ≡ side → IsQuery q → s < states q
    → IsGivenBy q v s x c → (d : ℕ) × (d < length (choices_of q.game s)) × (x ≤ down_value v (choice_of q.game s d))
some_of q v s x c Max is h inside given = (c, (given.greatest is).0, (given.greatest is).1)
some_of q v s x c Min is h inside given =
    (zero, h.game.chosen s inside, (given.least is).1 zero (h.game.chosen s inside))

pub IsGivenBy-units : (q : Query) (v : ℕ → ℕ) (s x c : ℕ) → IsQuery q → s < states q
    → ((t : ℕ) → t < states q → v t ≤ unit) → IsGivenBy q v s x c → x ≤ unit
IsGivenBy-units q v s x c h inside units given =
    let at = some_of q v s x c (side_at q s) refl h inside given in
    omega (arith, at.2, down_value-units q.game v (choice_of q.game s at.0) (choice_fits q s at.0 h inside at.1) units)

-- what a choice gives over a table, it gives over a greater one
pub IsGivenBy-rises : (q : Query) (v w : ℕ → ℕ) (s x c : ℕ) → IsQuery q → s < states q → IsBelow q v w
    → IsGivenBy q v s x c → IsGivenBy q w s x c
IsGivenBy-rises q v w s x c h inside up given = record {
  greatest = λ is.
      let at = given.greatest is in
      (at.0, omega (arith, at.1, down_value-le q.game v w (choice_of q.game s c) (choice_fits q s c h inside at.0) up));
  least = λ is.
      let at = given.least is in (
        at.0,
        λ d in_range. omega (
          arith,
          at.1 d in_range,
          down_value-le q.game v w (choice_of q.game s d) (choice_fits q s d h inside in_range) up,
        ),
      );
}
