-- What bounds say of the states below one, and at how many they leave a threshold undecided.
use Rattle.std.proofs.Common.{◌≡◌, ◌∙◌, ◌≤◌, ◌+◌, ◌*◌, ℕ, Bool, true, false, cond, List, [], ◌∷◌, ◌++◌, arith, sym, ap}
use Rattle.std.proofs.Common.{refl, add-zero}
use Rattle.std.specs.Prelude.{count_by}
use Rattle.std.specs.Int.{from_bool}
use Rattle.std.specs.List.{range_with_len}
use Rattle.std.proofs.lemmas.List.Sums.{count_by-le-length, sum_by-append, sum_by-cons}
use Rattle.std.proofs.lemmas.List.FromFn.{length-range_with_len}
use Rattle.formula_reader.specs.declared.formula.Bound.{Bound}
use Rattle.formula_reader.specs.Formula.{State, True, False, Label, Not, And, Or, Implies, Inner, formulas_in}
use Rattle.formula_sets.specs.Posing.{at_states}
use Rattle.formula_sets.proofs.Asking.{pushed-more}
use Rattle.formula_truth.specs.ThreeValued.{Band, Bands, verdict_at, judgement, undecided_at, undecided_in}
use Rattle.verdicts.specs.Verdict.{is_undecided}
use Rattle.formula_truth.proofs.Numbers.{range_with_len-more}

-- 1. One state more.

pub record IsJudgedBelow (bound : Bound) (band : Band) (n : ℕ) (sure possible : List Bool)
    (undecided : ℕ) : Type 0 where
  pub sure_are : sure ≡ at_states (judgement bound band).sure n
  pub possible_are : possible ≡ at_states (judgement bound band).possible n
  pub undecided_are : undecided ≡ undecided_at bound band n

pub undecided-few : (bound : Bound) (band : Band) (n : ℕ) → undecided_at bound band n ≤ n
undecided-few bound band n = omega (
  arith,
  count_by-le-length (λ s. is_undecided (verdict_at bound band s)) (range_with_len 0 n),
  length-range_with_len 0 n,
)

pub count-more : (test : ℕ → Bool) (n : ℕ)
    → count_by test (range_with_len 0 (n + 1)) ≡ count_by test (range_with_len 0 n) + cond (test n) 1 0
count-more test n =
    ap (count_by test) (range_with_len-more n)
    ∙ sum_by-append (λ x. cond (test x) 1 0) (range_with_len 0 n) (n ∷ [])
    ∙ ap (λ k. count_by test (range_with_len 0 n) + k)
    (sum_by-cons (λ x. cond (test x) 1 0) n [] ∙ add-zero (cond (test n) 1 0))

pub judged-more : (bound : Bound) (band : Band) (n : ℕ) (sure possible sure' possible' : List Bool)
    (undecided undecided' : ℕ) (certain likely : Bool) → IsJudgedBelow bound band n sure possible undecided
    → sure' ≡ sure ++ certain ∷ [] → possible' ≡ possible ++ likely ∷ []
    → certain ≡ (judgement bound band).sure n → likely ≡ (judgement bound band).possible n
    → undecided' ≡ undecided + cond (is_undecided (verdict_at bound band n)) 1 0
    → IsJudgedBelow bound band (n + 1) sure' possible' undecided'
judged-more bound band n sure possible sure' possible' undecided undecided' certain likely h sure_is possible_is
    certain_is likely_is undecided_is = record {
      sure_are = pushed-more (judgement bound band).sure n sure' sure certain sure_is h.sure_are certain_is;
      possible_are = pushed-more (judgement bound band).possible n possible' possible likely possible_is
          h.possible_are likely_is;
      undecided_are = undecided_is ∙ ap (λ k. k + cond (is_undecided (verdict_at bound band n)) 1 0) h.undecided_are
          ∙ sym (count-more (λ s. is_undecided (verdict_at bound band s)) n);
    }

-- 2. There are at most as many undecided pairs as pairs.

pub undecided-pairs : (x : State) (b : Bands x) (n : ℕ) → undecided_in x b n ≤ formulas_in x * n
undecided-pairs True b n = omega arith
undecided-pairs False b n = omega arith
undecided-pairs (Label name) b n = omega arith
undecided-pairs (Not x) b n = undecided-pairs x b n
undecided-pairs (And x y) b n = omega (arith, undecided-pairs x b.0 n, undecided-pairs y b.1 n)
undecided-pairs (Or x y) b n = omega (arith, undecided-pairs x b.0 n, undecided-pairs y b.1 n)
undecided-pairs (Implies x y) b n = omega (arith, undecided-pairs x b.0 n, undecided-pairs y b.1 n)
undecided-pairs (Inner team bound kind left right) b n =
    omega (arith, undecided-few bound b.0 n, undecided-pairs left b.1 n, undecided-pairs right b.2 n)

-- 3. A truth value as a number.

pub byte-is : (b : Bool) → from_bool b ≡ cond b 1 0
byte-is true = refl
byte-is false = refl

pub byte-few : (b : Bool) → from_bool b ≤ 1
byte-few true = let at : 1 ≤ 1 = omega arith in at
byte-few false = let at : 0 ≤ 1 = omega arith in at
