-- Where nothing is left undecided, what is known is the truth; and runs on what says the same are the same.
use Rattle.std.proofs.Common.{◌≡◌, ◌≢◌, ◌∙◌, ◌<◌, ◌≤◌, ◌+◌, ℕ, Bool, true, false, not, ◌&&◌, ◌||◌, List, get_or, arith}
use Rattle.std.proofs.Common.{sym, ap, subst, refl, cond}
use Rattle.std.specs.Prelude.{count_by}
use Rattle.std.specs.List.{range_with_len}
use Rattle.std.proofs.lemmas.List.Sums.{get_or-le-sum_by}
use Rattle.std.proofs.lemmas.List.FromFn.{get_or-range_with_len, length-range_with_len}
use Rattle.game_model.specs.Game.{IsGame}
use Rattle.game_model.specs.Limits.{unit}
use Rattle.game_model.specs.Query.{Query}
use Rattle.game_model.specs.Rounded.{opening}
use Rattle.formula_reader.specs.declared.formula.Bound.{Bound}
use Rattle.formula_reader.specs.declared.formula.Bound.TheVariants.{AtLeast, Above, AtMost, Below, AskMax, AskMin}
use Rattle.formula_reader.specs.declared.formula.PathKind.{PathKind}
use Rattle.formula_reader.specs.declared.formula.PathKind.TheVariants.{Until, Within, Next, Always}
use Rattle.rpatl_syntax.specs.Dual.{dual_bound, dual_of}
use Rattle.formula_reader.specs.Formula.{State, True, False, Label, Not, And, Or, Implies, Inner, Tree}
use Rattle.rpatl_syntax.specs.Spellable.{HasThreshold, HasParts}
use Rattle.formula_sets.specs.Posing.{Model, next_question_of}
use Rattle.bounded_rounds.proofs.Parts.{IsSweep-same}
use Rattle.verdicts.specs.declared.report.How.{How}
use Rattle.verdicts.specs.declared.verdict.Verdict.{Verdict}
use Rattle.verdicts.specs.declared.verdict.Verdict.TheVariants.{Yes, No, Undecided, Bracket}
use Rattle.verdicts.specs.Verdict.{verdict_by, verdict_of, is_yes, is_no, is_undecided}
use Rattle.formula_truth.specs.declared.way.Way.{Way}
use Rattle.formula_truth.specs.Truth.{states, everywhere}
use Rattle.formula_truth.specs.ThreeValued.{Band, Bands, Known, exactly, negated, surely, possibly, verdict_at}
use Rattle.formula_truth.specs.ThreeValued.{undecided_in}
use Rattle.formula_truth.specs.InnerRuns.{AreAnswered, AreSwept, AreFoundBy, pessimistic, optimistic, units_at}
use Rattle.nested_truth.specs.Seen.{AreAlike}
use Rattle.formula_truth.specs.Sound.{IsAround}
use Rattle.nested_truth.proofs.Parts.{negated-alike}
use Rattle.formula_truth.proofs.Posed.{question-equal, is_next_query}

-- 1. Nothing undecided.

count-none : (test : ℕ → Bool) (n s : ℕ) → s < n → count_by test (range_with_len 0 n) ≡ 0 → test s ≡ false
count-none test n s inside none =
    zero-false (test s)
    (let at : cond (test (get_or (range_with_len 0 n) s 0)) 1 0 ≤ count_by test (range_with_len 0 n) =
    get_or-le-sum_by (λ x. cond (test x) 1 0) (range_with_len 0 n) s 0 (omega (arith, length-range_with_len 0 n)) in
    let here : get_or (range_with_len 0 n) s 0 ≡ s =
    get_or-range_with_len 0 n s 0 inside ∙ (let same : 0 + s ≡ s = omega arith in same) in
    let value : cond (test s) 1 0 ≤ 0 =
    subst (λ (k : ℕ). k ≤ 0) (ap (λ t. cond (test t) 1 0) here) (omega (arith, at, none)) in value)
  where
    zero-false : (b : Bool) → cond b 1 0 ≤ 0 → b ≡ false
    zero-false true h = let wrong : 1 ≤ 0 = h in absurd (omega arith)
    zero-false false h = refl

-- a threshold that is not undecided is settled
no-bracket : (holds fails : Bool) → verdict_by holds fails ≢ Bracket
no-bracket true fails is = cc
no-bracket false true is = cc
no-bracket false false is = cc

threshold-verdict : (bound : Bound) (lower upper : ℕ) → HasThreshold bound → verdict_of bound lower upper ≢ Bracket
threshold-verdict (AtLeast p) lower upper h = no-bracket _ _
threshold-verdict (Above p) lower upper h = no-bracket _ _
threshold-verdict (AtMost p) lower upper h = no-bracket _ _
threshold-verdict (Below p) lower upper h = no-bracket _ _
threshold-verdict AskMax lower upper h = absurd h
threshold-verdict AskMin lower upper h = absurd h

settled-same : (v : Verdict) → v ≢ Bracket → is_undecided v ≡ false → is_yes v ≡ not (is_no v)
settled-same Yes threshold clear = refl
settled-same No threshold clear = refl
settled-same Undecided threshold clear = let wrong : true ≡ false = clear in absurd (cc)
settled-same Bracket threshold clear = absurd (threshold refl)

module _ (m : Model) where
  -- where nothing inside is undecided, what possibly holds surely does
  pub settled : (x : State) (b : Bands x) → HasParts x → undecided_in x b (states m) ≡ 0 → (s : ℕ) → s < states m
      → surely m.labels x b s ≡ possibly m.labels x b s
  settled True b parts none s inside = refl
  settled False b parts none s inside = refl
  settled (Label name) b parts none s inside = refl
  settled (Not x) b parts none s inside = ap not (sym (settled x b parts none s inside))
  settled (And x y) b parts none s inside =
      ap (λ v. v && surely m.labels y b.1 s) (settled x b.0 parts.0 (omega (arith, none)) s inside)
      ∙ ap (λ v. possibly m.labels x b.0 s && v) (settled y b.1 parts.1 (omega (arith, none)) s inside)
  settled (Or x y) b parts none s inside =
      ap (λ v. v || surely m.labels y b.1 s) (settled x b.0 parts.0 (omega (arith, none)) s inside)
      ∙ ap (λ v. possibly m.labels x b.0 s || v) (settled y b.1 parts.1 (omega (arith, none)) s inside)
  settled (Implies x y) b parts none s inside =
      ap (λ v. not v || surely m.labels y b.1 s) (sym (settled x b.0 parts.0 (omega (arith, none)) s inside))
      ∙ ap (λ v. not (surely m.labels x b.0 s) || v) (settled y b.1 parts.1 (omega (arith, none)) s inside)
  settled (Inner team bound kind left right) b parts none s inside =
      settled-same (verdict_at bound b.0 s) (threshold-verdict bound _ _ parts.0.threshold)
      (count-none (λ t. is_undecided (verdict_at bound b.0 t)) (states m) s inside (omega (arith, none)))

between-same : (sure holds possible : Bool) → (sure ≡ true → holds ≡ true) → (holds ≡ true → possible ≡ true)
    → sure ≡ possible → (sure ≡ holds) × (possible ≡ holds)
between-same true true possible low high same = (refl, sym same)
between-same true false possible low high same = let wrong : false ≡ true = low refl in absurd (cc)
between-same false true possible low high same = let wrong : false ≡ true = same ∙ high refl in absurd (cc)
between-same false false possible low high same = (refl, sym same)

pub known-exactly : (m : Model) (holds : ℕ → Bool) (k : Known) → IsAround m holds k
    → ((s : ℕ) → s < states m → k.sure s ≡ k.possible s) → AreAlike (states m) k (exactly holds)
known-exactly m holds k around same = record {
  sure = λ s inside. (between-same (k.sure s) (holds s) (k.possible s) (around.sure s inside)
      (around.possible s inside) (same s inside)).0;
  possible = λ s inside. (between-same (k.sure s) (holds s) (k.possible s) (around.sure s inside)
      (around.possible s inside) (same s inside)).1;
}

-- 2. Runs on what says the same.

module _ (m : Model) (f : Tree) (kl kr kl' kr' : Known) (lefts : AreAlike (states m) kl kl')
    (rights : AreAlike (states m) kr kr') where
  low-same : pessimistic m f kl kr ≡ pessimistic m f kl' kr'
  low-same = question-equal m f kl.sure kr.sure kl'.sure kr'.sure lefts.sure rights.sure

  high-same : optimistic m f kl kr ≡ optimistic m f kl' kr'
  high-same = question-equal m f kl.possible kr.possible kl'.possible kr'.possible lefts.possible rights.possible

  pub both-same : (P : Query → Query → Type 0) → P (pessimistic m f kl kr) (optimistic m f kl kr)
      → P (pessimistic m f kl' kr') (optimistic m f kl' kr')
  both-same P h = subst (λ (q : Query). P (pessimistic m f kl' kr') q) high-same
      (subst (λ (q : Query). P q (optimistic m f kl kr)) low-same h)

units-same : (n : ℕ) (here there : ℕ → Bool) → ((s : ℕ) → s < n → here s ≡ there s) → (s : ℕ) → s < n
    → units_at here s ≡ units_at there s
units-same n here there same s inside = ap (λ b. cond b unit 0) (same s inside)

everywhere-alike : (n : ℕ) → AreAlike n (exactly everywhere) (exactly everywhere)
everywhere-alike n = record { sure = λ s l. refl; possible = λ s l. refl }

module _ (m : Model) (game : IsGame m.game) (f : Tree) (kl kr kl' kr' : Known) (lefts : AreAlike (states m) kl kl')
    (rights : AreAlike (states m) kr kr') (starts : List ℕ) (way : Way) (band : Band) (how : How) where
  pub found-same : (kind : PathKind) → AreFoundBy kind m f kl kr starts way band how
      → AreFoundBy kind m f kl' kr' starts way band how
  found-same Until h =
      both-same m f kl kr kl' kr' lefts rights (λ low high. AreAnswered low high f.bound starts way band how) h
  found-same (Within k) h =
      both-same m f kl kr kl' kr' lefts rights (λ low high. AreSwept low high (opening low) (opening high) k band how) h
  found-same Next h =
      let q = next_question_of m.game m.owners f in
      record {
        low_upper = h.low_upper;
        low_swept = IsSweep-same q (units_at kr.sure) (units_at kr'.sure) 1 band.lower h.low_upper
            (is_next_query m f game) (units-same (states m) kr.sure kr'.sure rights.sure) h.low_swept;
        high_lower = h.high_lower;
        high_swept = IsSweep-same q (units_at kr.possible) (units_at kr'.possible) 1 h.high_lower band.upper
            (is_next_query m f game) (units-same (states m) kr.possible kr'.possible rights.possible) h.high_swept;
        steps_are = h.steps_are;
      }
  found-same Always h = (
    h.0,
    both-same m (dual_of f) (exactly everywhere) (negated kr) (exactly everywhere) (negated kr')
        (everywhere-alike (states m)) (negated-alike (states m) kr kr' rights)
        (λ low high. AreAnswered low high (dual_bound f.bound) starts way h.0 how) h.1,
    h.2,
  )
