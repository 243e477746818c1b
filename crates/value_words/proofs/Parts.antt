-- The parts of passes through each step, and the exchanges that all of them have won.
use Rattle.std.proofs.Common.{◌≡◌, inl, inr, ℕ, zero, suc, ◌+◌, ◌-◌, ◌/◌, ◌<◌, ◌≤◌, Bool, true, false, List, [], ◌∷◌}
use Rattle.std.proofs.Common.{◌++◌, set, sum_by, refl, sym, ap, ◌∙◌, arith}
use Rattle.std.specs.Prelude.{if◌then◌else◌, nat_lt}
use Rattle.std.proofs.lemmas.Bool.{cases_lt, true≢false}
use Rattle.std.proofs.lemmas.Bool.Decides.{nat_tests}
use Rattle.std.proofs.lemmas.List.Sums.{sum_by-cons, sum_by_push}
use mathlib.Core.Option.{some, some-injective, some-ne-none}
use lib.ListN.{get_elem?}
use Rattle.atomic_table.proofs.Lists.{at_set, at_snoc}
use Rattle.value_words.specs.declared.rule.Sight.{Sight}
use Rattle.value_words.specs.Rule.{all_parts, halved, other_half, copied, joined, spent, AreParts}

abbrev won : Sight → ℕ
won v = v.won

abbrev parts : Sight → ℕ
parts v = v.parts

-- a sum after one view is written
pub sum-set : (f : Sight → ℕ) (views : List Sight) (id : ℕ) (v w : Sight) → get_elem? views id ≡ some v
    → sum_by f (set views id w) + f v ≡ sum_by f views + f w
sum-set f [] id v w at = absurd (some-ne-none v (sym at))
sum-set f (u ∷ us) zero v w at = omega (arith, sum_by-cons f w us, sum_by-cons f u us, ap f (some-injective u v at))
sum-set f (u ∷ us) (suc id) v w at =
    omega (arith, sum_by-cons f u (set us id w), sum_by-cons f u us, sum-set f us id v w at)

-- one view is no more than all
pub sum-part : (f : Sight → ℕ) (views : List Sight) (id : ℕ) (v : Sight) → get_elem? views id ≡ some v
    → f v ≤ sum_by f views
sum-part f [] id v at = absurd (some-ne-none v (sym at))
sum-part f (u ∷ us) zero v at = omega (arith, sum_by-cons f u us, ap f (some-injective u v at))
sum-part f (u ∷ us) (suc id) v at = omega (arith, sum_by-cons f u us, sum-part f us id v at)

sum-none : (f : Sight → ℕ) (views : List Sight) → ((id : ℕ) (v : Sight) → get_elem? views id ≡ some v → f v ≡ 0)
    → sum_by f views ≡ 0
sum-none f [] none = refl
sum-none f (u ∷ us) none =
    omega (arith, sum_by-cons f u us, none zero u refl, sum-none f us (λ id v at. none (suc id) v at))

live-spent : {X : Type 0} (v : Sight) → v.live ≡ true → v ≡ spent → X
live-spent v live is = absurd (true≢false (sym live ∙ ap (λ (u : Sight). u.live) is))

module _ (views : List Sight) (p : AreParts views) (id : ℕ) (v : Sight) (at : get_elem? views id ≡ some v) where
  -- a step that leaves a live pass its parts
  pub parts-same : (w : Sight) → v.live ≡ true → w.parts ≡ v.parts → AreParts (set views id w)
  parts-same w live same =
      let sum : sum_by parts (set views id w) ≡ sum_by parts views =
      omega (arith, sum-set parts views id v w at, same) in
      let most = p.most in
      record {
        most = omega arith;
        idle = λ all j u found none. elim (at_set views id j w u found) [
          | inl here ↦ live-spent v live (p.idle (sym sum ∙ all) id v at (sym same ∙ ap parts here.1 ∙ none))
          | inr there ↦ p.idle (sym sum ∙ all) j u there.1 none
        ];
      }

  -- a pass with all parts has won all exchanges
  pub parts-alone : v.parts ≡ all_parts → sum_by won views ≡ v.won
  parts-alone whole =
      let most = p.most in
      let all : sum_by parts views ≡ all_parts = omega (arith, sum-part parts views id v at) in
      let rest : sum_by parts (set views id spent) ≡ 0 = omega (arith, sum-set parts views id v spent at) in
      let none : sum_by won (set views id spent) ≡ 0 =
      sum-none won (set views id spent) (λ j u found. elim (at_set views id j spent u found) [
        | inl here ↦ sym (ap won here.1)
        | inr there ↦ ap won
            (p.idle all j u there.1 (let few = sum-part parts (set views id spent) j u found in omega arith))
      ]) in
      omega (arith, sum-set won views id v spent at, none)

less-two : (n : ℕ) → n < 2 → nat_lt n 2 ≡ true
less-two n less = grind (arith, nat_tests)

not-less-two : (n : ℕ) → 2 ≤ n → nat_lt n 2 ≡ false
not-less-two n more = grind (arith, nat_tests)

other_half-few : (n : ℕ) → n < 2 → other_half n ≡ 0
other_half-few n less = ap (λ (b : Bool). if b then 0 else n - n / 2) (less-two n less)

pub other_half-many : (n : ℕ) → 2 ≤ n → other_half n ≡ n - n / 2
other_half-many n more = ap (λ (b : Bool). if b then 0 else n - n / 2) (not-less-two n more)

module _ (views : List Sight) (p : AreParts views) (id : ℕ) (v : Sight) (at : get_elem? views id ≡ some v)
    (live : v.live ≡ true) where
  split-sum : sum_by parts (set views id (halved v) ++ copied v ∷ []) + v.parts
      ≡ sum_by parts views + v.parts / 2 + other_half v.parts
  split-sum =
      omega (arith, sum_by_push parts (set views id (halved v)) (copied v), sum-set parts views id v (halved v) at)

  -- a split
  pub parts-split : AreParts (set views id (halved v) ++ copied v ∷ [])
  parts-split =
      let most = p.most in
      elim (cases_lt v.parts 2) [
        | inl few ↦
            let sum : sum_by parts (set views id (halved v) ++ copied v ∷ []) + v.parts ≡ sum_by parts views =
            omega (arith, split-sum, other_half-few v.parts few) in
            record {
              most = omega arith;
              idle = λ all j u found none. live-spent v live (p.idle (omega arith) id v at (omega arith));
            }
        | inr many ↦
            let sum : sum_by parts (set views id (halved v) ++ copied v ∷ []) ≡ sum_by parts views =
            omega (arith, split-sum, other_half-many v.parts many) in
            record {
              most = omega arith;
              idle = λ all j u found none. elim (at_snoc (set views id (halved v)) (copied v) u j found) [
                | inl old ↦ elim (at_set views id j (halved v) u old) [
                  | inl here ↦ let half : v.parts / 2 ≡ 0 = ap parts here.1 ∙ none in absurd (omega arith)
                  | inr there ↦ p.idle (sym sum ∙ all) j u there.1 none
                ]
                | inr new ↦
                    let half : other_half v.parts ≡ 0 = ap parts new ∙ none in
                    absurd (omega (arith, other_half-many v.parts many))
              ];
            }
      ]

  -- a join
  pub parts-join : (other : ℕ) (w : Sight) → get_elem? (set views id (joined v w)) other ≡ some w
      → AreParts (set (set views id (joined v w)) other spent)
  parts-join other w there =
      let most = p.most in
      let sum : sum_by parts (set (set views id (joined v w)) other spent) ≡ sum_by parts views = omega (
        arith,
        sum-set parts views id v (joined v w) at,
        sum-set parts (set views id (joined v w)) other w spent there,
      ) in
      record {
        most = omega arith;
        idle = λ all j u found none. elim (at_set (set views id (joined v w)) other j spent u found) [
          | inl gone ↦ sym gone.1
          | inr old ↦ elim (at_set views id j (joined v w) u old.1) [
            | inl here ↦
                let sum_none : v.parts + w.parts ≡ 0 = ap parts here.1 ∙ none in
                live-spent v live (p.idle (sym sum ∙ all) id v at (omega arith))
            | inr same ↦ p.idle (sym sum ∙ all) j u same.1 none
          ]
        ];
      }

-- one pass with all parts
pub parts-opening : (v : Sight) → v.parts ≡ all_parts → AreParts (v ∷ [])
parts-opening v whole = record {
  most = let sum = sum_by-cons parts v [] in omega arith;
  idle = λ all id u at none. absurd (zero-parts id u at none);
}
  where
    zero-parts : (id : ℕ) (u : Sight) → get_elem? (v ∷ []) id ≡ some u → u.parts ≡ 0 → ⊥
    zero-parts zero u at none = let same : v.parts ≡ u.parts = ap parts (some-injective v u at) in omega arith
    zero-parts (suc id) u at none = some-ne-none u (sym at)
