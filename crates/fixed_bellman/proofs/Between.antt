-- Quotients between two tables, and the step of a state that they give.
use Rattle.std.proofs.Common.{◌≡◌, ℕ, ◌+◌, ◌*◌, ◌/◌, ◌<◌, ◌≤◌, List, length, ◌⊎◌, sym, ap, ◌∙◌, subst, arith, inl, inr}
use borrow.Author.Count.{below_more}
use Rattle.std.specs.Prelude.{IsTrue, false}
use Rattle.std.proofs.lemmas.Bool.{true≢false, cases_lt}
use Rattle.std.proofs.lemmas.List.Elements.{All-from_get_or}
use Rattle.std.proofs.Math.Nat.{le-div_iff_mul-le}
use Rattle.game_model.specs.declared.game.Side.TheVariants.{Max, Min}
use Rattle.game_model.specs.Game.{Distribution, choices_of, choice_of, choice_among, no_distribution}
use Rattle.game_model.specs.Query.{Query, IsQuery, states, side_at}
use Rattle.game_model.specs.Values.{optimum, weighted_sum}
use Rattle.game_model.specs.Rounded.{down_value, down_step, DownChoice}
use Rattle.game_model.proofs.Best.{optimum-below, optimum-each, optimum-most}
use Rattle.game_laws.proofs.Steps.{down_value-le}
use Rattle.fixed_bellman.specs.declared.quotient.Quotient.{Quotient}
use Rattle.fixed_bellman.specs.Quotients.{rounded_down, IsBetween}
use Rattle.fixed_bellman.specs.Given.{IsFree, IsStepAbove}
use Rattle.fixed_bellman.proofs.Tables.{free_step, choice_fits, IsGivenBy-below}

div-rises : (x y w : ℕ) → 0 < w → x ≤ y → x / w ≤ y / w
div-rises x y w positive h =
    let below : x / w * w ≤ x = (le-div_iff_mul-le positive).0 (let same : x / w ≤ x / w = omega arith in same) in
    (le-div_iff_mul-le positive).1 (omega (arith, below, h))

module _ (r : Quotient) (old new : ℕ → ℕ) (m : Distribution) (h : IsBetween r old new m) where
  pub down-low : down_value old m ≤ rounded_down r
  down-low = subst (λ n. weighted_sum old m.edges / n ≤ rounded_down r) h.total
      (div-rises (weighted_sum old m.edges) r.sum r.total r.positive h.low)

  pub down-high : rounded_down r ≤ down_value new m
  down-high = subst (λ n. rounded_down r ≤ weighted_sum new m.edges / n) h.total
      (div-rises r.sum (weighted_sum new m.edges) r.total r.positive h.high)

-- what a test that fails says
pub not-less : (x y : ℕ) → (x < y → IsTrue false) → y ≤ x
not-less x y fails = elim (cases_lt x y) [ inl less ↦ absurd (true≢false (sym (fails less))) | inr rest ↦ rest ]

-- a choice is read, over values that rose before and may rise while it is read
pub record ReadChoice (q : Query) (s i : ℕ) (r : Quotient) (old mid new : ℕ → ℕ) : Type 0 where
  pub query : IsQuery q
  pub inside : s < states q
  pub chosen : i < length (choices_of q.game s)
  pub between : IsBetween r mid new (choice_of q.game s i)
  pub earlier : (t : ℕ) → old t ≤ mid t
  pub later : (t : ℕ) → mid t ≤ new t

-- the loop over a row is at a choice, and reads it
pub read-choice : {q : Query} {s i count : ℕ} {row : List Distribution} {r : Quotient} {old mid new : ℕ → ℕ}
    → IsQuery q → s < states q → row ≡ choices_of q.game s → count ≡ length row → i < count
    → IsBetween r mid new (choice_among row i) → ((t : ℕ) → old t ≤ mid t) → ((t : ℕ) → mid t ≤ new t)
    → ReadChoice q s i r old mid new
read-choice {q} {s} {i} {count} {row} {r} {old} {mid} {new} query inside same is_count before read earlier later =
    record {
      query = query;
      inside = inside;
      chosen = omega (arith, ap length same);
      between = subst (λ (ms : List Distribution). IsBetween r mid new (choice_among ms i)) same read;
      earlier = earlier;
      later = later;
    }

module _ {q : Query} {s i : ℕ} {r : Quotient} {old mid new : ℕ → ℕ} (e : ReadChoice q s i r old mid new) where
  pub value-old : down_value old (choice_of q.game s i) ≤ rounded_down r
  value-old = omega (
    arith,
    down-low r mid new (choice_of q.game s i) e.between,
    down_value-le q.game old mid (choice_of q.game s i) (choice_fits q s i e.query e.inside e.chosen)
        (λ t _. e.earlier t),
  )

  pub value-new : rounded_down r ≤ down_value new (choice_of q.game s i)
  value-new = down-high r mid new (choice_of q.game s i) e.between

  pub low-gains : (best next : ℕ) → ((c : ℕ) → c < i → down_value old (choice_of q.game s c) ≤ best) → best ≤ next
      → rounded_down r ≤ next → (c : ℕ) → c < i + 1 → down_value old (choice_of q.game s c) ≤ next
  low-gains best next below more here = below_more (λ c. down_value old (choice_of q.game s c) ≤ next) i
      (λ c l. omega (arith, below c l)) (omega (arith, value-old))

  pub given-later : (c x : ℕ) → c < length (choices_of q.game s) → x ≤ down_value mid (choice_of q.game s c)
      → x ≤ down_value new (choice_of q.game s c)
  given-later c x there h' = omega (
    arith,
    h',
    down_value-le q.game mid new (choice_of q.game s c) (choice_fits q s c e.query e.inside there) (λ t _. e.later t),
  )

  pub high-gains : (best next : ℕ) → ((c : ℕ) → c < i → best ≤ down_value mid (choice_of q.game s c)) → next ≤ best
      → next ≤ rounded_down r → (c : ℕ) → c < i + 1 → next ≤ down_value new (choice_of q.game s c)
  high-gains best next above less here =
      below_more (λ c. next ≤ down_value new (choice_of q.game s c)) i
      (λ c l. given-later c next (omega (arith, e.chosen)) (omega (arith, above c l)))
      (omega (arith, value-new))

-- the step of a free state, from its choices
pub greatest-step : (q : Query) (v : ℕ → ℕ) (s x : ℕ) → IsFree q s → Max ≡ side_at q s
    → ((c : ℕ) → c < length (choices_of q.game s) → down_value v (choice_of q.game s c) ≤ x) → down_step q v s ≤ x
greatest-step q v s x free is each =
    let best : optimum Max (down_value v) (choices_of q.game s) ≤ x =
    optimum-most Max (down_value v) x (choices_of q.game s)
    (All-from_get_or (λ m. down_value v m ≤ x) (choices_of q.game s) no_distribution each) in
    omega (arith, best, free_step q v s free, ap (λ side. optimum side (down_value v) (choices_of q.game s)) is)

pub least-step : (q : Query) (v : ℕ → ℕ) (s c x : ℕ) → IsFree q s → Min ≡ side_at q s → c < length (choices_of q.game s)
    → down_value v (choice_of q.game s c) ≤ x → down_step q v s ≤ x
least-step q v s c x free is chosen low =
    omega (
      arith,
      optimum-below (down_value v) (choices_of q.game s) c no_distribution chosen,
      low,
      free_step q v s free,
      ap (λ side. optimum side (down_value v) (choices_of q.game s)) is,
    )

-- over a table that stays, a step that is above the floor, or over the floor 0, is the down step
module _ (q : Query) (v : ℕ → ℕ) (s floor x c : ℕ) (h : IsQuery q) (inside : s < states q) (free : IsFree q s)
    (e : IsStepAbove q v v s floor x c) where
  pub step-exact : (floor < x) ⊎ (floor ≡ 0) → x ≡ down_step q v s
  step-exact reached = elim reached [
    | inl above ↦ omega (arith, e.low, IsGivenBy-below q v s x c h inside free (e.given above))
    | inr none ↦ elim (cases_lt floor x) [
      | inl above ↦ omega (arith, e.low, IsGivenBy-below q v s x c h inside free (e.given above))
      | inr rest ↦ omega (arith, e.low)
    ]
  ]

  given-most : Max ≡ side_at q s → down_value v (choice_of q.game s c) ≤ down_step q v s
  given-most is = omega (
    arith,
    optimum-each (down_value v) (choices_of q.game s) c no_distribution e.inside,
    free_step q v s free,
    ap (λ side. optimum side (down_value v) (choices_of q.game s)) is,
  )

  pub step-named : (floor < x) ⊎ (floor ≡ 0) → DownChoice q v s x c
  step-named reached =
      let exact : x ≡ down_step q v s = step-exact reached in record {
        chosen = λ _ _ is. record {
          inside = e.inside;
          gives = elim reached [
            | inl above ↦ omega (arith, exact, given-most (sym is), ((e.given above).greatest is).1)
            | inr none ↦ elim (cases_lt floor x) [
              | inl above ↦ omega (arith, exact, given-most (sym is), ((e.given above).greatest is).1)
              | inr rest ↦ omega (arith, exact, given-most (sym is))
            ]
          ];
          before = λ d below same. absurd (omega (arith, e.first d below, same));
        };
        goal = λ is. absurd (true≢false (sym is ∙ free.0));
        dead = λ is. absurd (true≢false (sym is ∙ free.1));
        least = e.least;
      }
