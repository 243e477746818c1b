-- The answer to a formula, from the answers to its sides.
use Rattle.std.proofs.Common.{◌≡◌, ◌∙◌, ◌<◌, ◌≤◌, ◌+◌, ◌-◌, ◌*◌, ◌^◌, ℕ, suc, List, length, get_or, arith, sym, ap}
use Rattle.std.proofs.Common.{subst, Result, Ok, Err}
use Rattle.std.specs.Prelude.{All, IfOk}
use Rattle.std.specs.List.{range_with_len}
use Rattle.std.proofs.Math.Nat.{mul-le-mul_left, mul-le-mul_right}
use Rattle.std.proofs.lemmas.List.{length-map, get_or-map}
use Rattle.std.proofs.lemmas.List.Elements.{All-from_get_or}
use Rattle.std.proofs.lemmas.List.FromFn.{get_or-range_with_len, length-range_with_len}
use Rattle.game_model.specs.Game.{IsGame}
use Rattle.game_model.specs.Limits.{unit, most_states}
use Rattle.formula_reader.specs.declared.formula.Bound.{Bound}
use Rattle.formula_reader.specs.declared.formula.PathKind.{PathKind}
use Rattle.formula_reader.specs.declared.formula.PathKind.TheVariants.{Until, Always}
use Rattle.rpatl_syntax.specs.Dual.{dual_bound, dual_of}
use Rattle.formula_reader.specs.Formula.{State, Tree, formulas_in, inner_of}
use Rattle.formula_tokens.specs.Limits.{longest}
use Rattle.rpatl_syntax.specs.Spellable.{IsSpellable}
use Rattle.bracket_engine.specs.Bracket.{complements_of}
use Rattle.verdicts.specs.declared.report.How.{How}
use Rattle.nested_truth.specs.declared.judging.Judged.{Judged}
use Rattle.formula_sets.specs.Posing.{Model}
use Rattle.formula_truth.specs.declared.way.Way.{Way}
use Rattle.formula_truth.specs.declared.way.Way.TheVariants.{ByRounds}
use Rattle.formula_truth.specs.Truth.{Valuation, IsTruth, states, holds, everywhere}
use Rattle.formula_truth.specs.ThreeValued.{Band, Known, known, exactly, negated, judgement, undecided_at, undecided_in}
use Rattle.formula_truth.specs.ThreeValued.{verdict_at}
use Rattle.formula_truth.specs.InnerRuns.{AreFound, AreFoundBy, AreAnswered, pessimistic, optimistic, mirrored}
use Rattle.nested_truth.specs.Nested.{RoundsPromise, IsNested}
use Rattle.nested_truth.specs.Seen.{AreAlike, IsBand, IsJudged, seen}
use Rattle.formula_truth.specs.Sound.{IsAround, IsRightOf, AreSoundBy}
use Rattle.nested_truth.proofs.Parts.{alike-back}
use Rattle.formula_truth.proofs.Counted.{undecided-few, undecided-pairs}
use Rattle.formula_truth.proofs.Widened.{sound-by}
use Rattle.formula_truth.proofs.Valuation.{right-by, small-share}
use Rattle.formula_truth.proofs.Around.{around}
use Rattle.formula_truth.proofs.Inside.{open-within, outermost}
use Rattle.nested_truth.proofs.Exactly.{both-same, found-same}
use Rattle.nested_truth.proofs.Decided.{decided-truth}
use Rattle.formula_truth.proofs.Existing.{truth-of}
use Rattle.nested_truth.proofs.Opened.{all-opened}

-- 1. `G`.

rest-few : (v : ℕ) → unit - v ≤ unit
rest-few v = omega arith

complements-units : (values : List ℕ) → All (λ v. v ≤ unit) (complements_of values)
complements-units values = All-from_get_or (λ v. v ≤ unit) (complements_of values) 0 (λ s h.
    subst (λ v. v ≤ unit)
    (sym (get_or-map (λ v. unit - v) values s 0 0 (omega (arith, h, length-map values (λ (v : ℕ). unit - v)))))
    (rest-few (get_or values s 0)))

pub mirrored-band : (n : ℕ) (band : Band) → IsBand n band → IsBand n (mirrored band)
mirrored-band n band h = record {
  lowers = length-map band.upper (λ (v : ℕ). unit - v) ∙ h.uppers;
  uppers = length-map band.lower (λ (v : ℕ). unit - v) ∙ h.lowers;
  lower_units = complements-units band.upper;
  upper_units = complements-units band.lower;
}

pub if_ok-band : {X E : Type 0} (n : ℕ) (view : X → Band) (result : Result X E) (other : Band) → IsBand n other
    → IfOk result (λ x. view x ≡ mirrored other) → IfOk result (λ x. IsBand n (view x))
if_ok-band n view (Ok x) other band is = subst (λ (b : Band). IsBand n b) (sym is) (mirrored-band n other band)
if_ok-band n view (Err e) other band is = tt

module _ (m : Model) (f dual : Tree) (is : dual ≡ dual_of f) (kl kr right : Known)
    (lefts : AreAlike (states m) (exactly everywhere) kl) (rights : AreAlike (states m) (negated right) kr)
    (starts : List ℕ) (way : Way) (other : Band) (how : How)
    (found : AreFoundBy Until m dual kl kr starts way other how) where
  dual-answered : AreAnswered (pessimistic m (dual_of f) (exactly everywhere) (negated right))
      (optimistic m (dual_of f) (exactly everywhere) (negated right)) (dual_bound f.bound) starts way other how
  dual-answered =
      both-same m (dual_of f) kl kr (exactly everywhere) (negated right)
      (alike-back (states m) (exactly everywhere) kl lefts) (alike-back (states m) (negated right) kr rights)
      (λ low high. AreAnswered low high (dual_bound f.bound) starts way other how)
      (subst (λ (t : Tree). AreFoundBy Until m t kl kr starts way other how) is found)

  pub always-found : {X E : Type 0} (view : X → Band) (ways : X → How) (result : Result X E)
      → IfOk result (λ x. view x ≡ mirrored other) → IfOk result (λ x. ways x ≡ how)
      → IfOk result (λ x. (left : Known) → AreFoundBy Always m f left right starts way (view x) (ways x))
  always-found view ways (Ok x) band same = λ left. (
    other,
    subst (λ (h : How). AreAnswered (pessimistic m (dual_of f) (exactly everywhere) (negated right))
        (optimistic m (dual_of f) (exactly everywhere) (negated right)) (dual_bound f.bound) starts way other h)
        (sym same) dual-answered,
    band,
  )
  always-found view ways (Err e) band same = tt

pub always-of : {X E : Type 0} (kind : PathKind) → kind ≡ Always → (m : Model) (f : Tree) (left right : Known)
    (starts : List ℕ) (way : Way) (view : X → Band) (ways : X → How) (result : Result X E)
    → IfOk result (λ x. (any : Known) → AreFoundBy Always m f any right starts way (view x) (ways x))
    → IfOk result (λ x. AreFoundBy kind m f left right starts way (view x) (ways x))
always-of kind is m f left right starts way view ways (Ok x) found =
    subst (λ (k : PathKind). AreFoundBy k m f left right starts way (view x) (ways x)) (sym is) (found left)
always-of kind is m f left right starts way view ways (Err e) found = tt

-- 2. There are few undecided pairs.

pairs-few : (a n : ℕ) → a ≤ longest → n ≤ most_states → a * n < 2 ^ 32
pairs-few a n h k = omega (arith, mul-le-mul_right n h, mul-le-mul_left longest k)

module _ (m : Model) (game : IsGame m.game) (way : Way) (x y : State) (one other : Judged) (h : IsJudged m way x one)
    (i : IsJudged m way y other) where
  pub undecided-fits : formulas_in x + formulas_in y ≤ longest → one.undecided + other.undecided < 2 ^ 32
  undecided-fits few =
      omega (
        arith,
        h.undecided_are,
        i.undecided_are,
        undecided-pairs x h.bands (states m),
        undecided-pairs y i.bands (states m),
        pairs-few (formulas_in x + formulas_in y) (states m) few game.few,
      )

  -- the same, where the numbers of formulas inside are at hand
  pub undecided-fits-by : one.inner + other.inner ≤ longest → one.undecided + other.undecided < 2 ^ 32
  undecided-fits-by few = undecided-fits (omega (arith, few, h.inner_are, i.inner_are))

  pub undecided-fits-inside : (bound : Bound) (band : Band) (here before : ℕ)
      → here ≡ undecided_at bound band (states m) → before ≡ one.undecided + other.undecided
      → suc (formulas_in x + formulas_in y) ≤ longest → here + before < 2 ^ 32
  undecided-fits-inside bound band here before here_is before_is few =
      omega (
        arith,
        here_is,
        before_is,
        undecided-few bound band (states m),
        h.undecided_are,
        i.undecided_are,
        undecided-pairs x h.bands (states m),
        undecided-pairs y i.bands (states m),
        pairs-few (suc (formulas_in x + formulas_in y)) (states m) few game.few,
      )

-- every state is a state
pub everywhere-inside : (n : ℕ) (xs : List ℕ) → xs ≡ range_with_len 0 n → All (λ s. s < n) xs
everywhere-inside n xs is =
    All-from_get_or (λ s. s < n) xs 0 (λ k h.
    let inside : k < n = omega (arith, h, ap (λ (ys : List ℕ). length ys) is, length-range_with_len 0 n) in
    omega (arith, inside, ap (λ (ys : List ℕ). get_or ys k 0) is, get_or-range_with_len 0 n k 0 inside))

-- 3. A formula inside.

module _ (m : Model) (game : IsGame m.game) (way : Way) (f : Tree) (left right : Judged)
    (h : IsJudged m way f.left left) (i : IsJudged m way f.right right) (starts : List ℕ) (band : Band) (how : How)
    (found : AreFoundBy f.kind m f (seen left.sets) (seen right.sets) starts way band how) where
  found-known : AreFoundBy f.kind m f (known m.labels f.left h.bands)
      (known m.labels f.right i.bands) starts way band how
  found-known =
      found-same m game f (seen left.sets) (seen right.sets) (known m.labels f.left h.bands)
      (known m.labels f.right i.bands) (alike-back (states m) (known m.labels f.left h.bands) (seen left.sets) h.alike)
      (alike-back (states m) (known m.labels f.right i.bands) (seen right.sets) i.alike) starts way
      band how f.kind found

  pub judged-inside : (result : Judged) (here : ℕ) → starts ≡ range_with_len 0 (states m)
      → length result.sets.sure.items ≡ states m → AreAlike (states m) (judgement f.bound band) (seen result.sets)
      → here ≡ undecided_at f.bound band (states m) → result.inner ≡ left.inner + right.inner + 1
      → result.undecided ≡ here + (left.undecided + right.undecided) → IsJudged m way (inner_of f) result
  judged-inside result here all many alike here_is inner undecided = record {
    bands = (band, h.bands, i.bands);
    found = (
      (
        how,
        subst (λ (from : List ℕ). AreFoundBy f.kind m f (known m.labels f.left h.bands)
            (known m.labels f.right i.bands) from way band how) all found-known,
      ),
      h.found,
      i.found,
    );
    many = many;
    alike = alike;
    inner_are = omega (arith, inner, h.inner_are, i.inner_are);
    undecided_are = omega (arith, undecided, here_is, h.undecided_are, i.undecided_are);
  }

  -- 4. The outermost formula.

  module _ (spellable : IsSpellable f) where
    truth : Valuation
    truth = (truth-of m game).0

    is-truth : IsTruth m truth
    unfolding truth
    is-truth = (truth-of m game).1

    left-around : IsAround m (holds m.labels truth f.left) (known m.labels f.left h.bands)
    left-around = around m game truth is-truth way f.left h.bands spellable.left.parts h.found

    right-around : IsAround m (holds m.labels truth f.right) (known m.labels f.right i.bands)
    right-around = around m game truth is-truth way f.right i.bands spellable.right.parts i.found

    sound-truth : AreSoundBy f.kind m f (holds m.labels truth f.left) (holds m.labels truth f.right) band
    sound-truth = sound-by m game f (holds m.labels truth f.left)
        (holds m.labels truth f.right) (known m.labels f.left h.bands)
        (known m.labels f.right i.bands) left-around right-around starts way band how f.kind found-known

    right-truth : (s : ℕ) → s < states m → IsRightOf (verdict_at f.bound band s) (truth f s)
    right-truth s there =
        right-by m game f spellable.share (holds m.labels truth f.left)
        (holds m.labels truth f.right) (known m.labels f.left h.bands)
        (known m.labels f.right i.bands) left-around right-around starts way band how f.kind found-known
        s there (truth f s) (is-truth f s there)

    -- where nothing inside is undecided, what is known of the sides is the truth
    exact-truth : undecided_in f.left h.bands (states m) + undecided_in f.right i.bands (states m) ≡ 0
        → AreFoundBy f.kind m f (exactly (holds m.labels truth f.left))
        (exactly (holds m.labels truth f.right)) starts way band how
    exact-truth none =
        found-same m game f (known m.labels f.left h.bands) (known m.labels f.right i.bands)
        (exactly (holds m.labels truth f.left)) (exactly (holds m.labels truth f.right))
        (decided-truth m game truth is-truth way f.left h.bands spellable.left.parts h.found (omega (arith, none)))
        (decided-truth m game truth is-truth way f.right i.bands spellable.right.parts i.found (omega (arith, none)))
        starts way band how f.kind found-known

    -- what rounds promise besides
    rounds-truth : All (λ s. s < states m) starts → (undecided : ℕ)
        → undecided ≡ undecided_in f.left h.bands (states m) + undecided_in f.right i.bands (states m) → (asked : ℕ)
        → way ≡ ByRounds asked → RoundsPromise m f starts asked h.bands i.bands truth band undecided
    rounds-truth inside undecided undecided_is asked is =
        let lefts : AreFound m (ByRounds asked) f.left h.bands =
        subst (λ (w : Way). AreFound m w f.left h.bands) is h.found in
        let rights : AreFound m (ByRounds asked) f.right i.bands =
        subst (λ (w : Way). AreFound m w f.right i.bands) is i.found in
        record {
          left_within = λ coarse c. open-within m game asked f.left h.bands coarse spellable.left.parts lefts c;
          right_within = λ coarse c. open-within m game asked f.right i.bands coarse spellable.right.parts rights c;
          within = λ cl cr coarse c. outermost m game asked f starts h.bands cl i.bands cr band coarse how
              spellable.share spellable.left.parts spellable.right.parts inside lefts rights
              (subst (λ (w : Way). AreFoundBy f.kind m f (known m.labels f.left h.bands)
              (known m.labels f.right i.bands) starts w band how) is found-known) c;
          left_open = λ none. all-opened m game f (small-share f.bound spellable.share) (holds m.labels truth f.left)
              (holds m.labels truth f.right) starts asked band how inside
              (subst (λ (w : Way). AreFoundBy f.kind m f (exactly (holds m.labels truth f.left))
              (exactly (holds m.labels truth f.right)) starts w band how) is
              (exact-truth (omega (arith, none, undecided_is))));
        }

    pub nested-of : All (λ s. s < states m) starts → (inner undecided : ℕ) → inner ≡ left.inner + right.inner
        → undecided ≡ left.undecided + right.undecided → IsNested m f starts way band how inner undecided
    nested-of inside inner undecided inner_is undecided_is = record {
      is_game = game;
      left = h.bands;
      right = i.bands;
      left_found = h.found;
      right_found = i.found;
      found = found-known;
      inner_are = omega (arith, inner_is, h.inner_are, i.inner_are);
      undecided_are = omega (arith, undecided_is, h.undecided_are, i.undecided_are);
      truth = truth;
      is_truth = is-truth;
      left_around = left-around;
      right_around = right-around;
      sound = sound-truth;
      right_of = right-truth;
      exact = λ none. exact-truth (omega (arith, none, undecided_is, h.undecided_are, i.undecided_are));
      rounds = rounds-truth inside undecided (omega (arith, undecided_is, h.undecided_are, i.undecided_are));
    }
