-- The reward that is said of a text is the one that it denotes.
use Rattle.std.proofs.Common.{◌≡◌, ◌∙◌, ◌≤◌, ◌*◌, inl, inr, ℕ, List, refl, ap, subst, cond, Option}
use Rattle.std.proofs.Common.{Some, None}
use Rattle.std.proofs.Common.{Result, Ok, Err}
use Rattle.std.specs.Prelude.{◌==◌, nat_lt}
use Rattle.std.proofs.lemmas.Bool.{ltb-false}
use Rattle.fractions.specs.declared.number.NumberFault.TheVariants as number
use Rattle.fractions.specs.Limits.{finest}
use Rattle.fractions.specs.Fraction.{Fraction, SameValue, lowest}
use Rattle.numerals.specs.Spelling.{Spelling, is_long, spelling_of}
use Rattle.fractions.specs.Number.{value_of}
use Rattle.fractions.proofs.Euclid.{coprime-div, lowest-value, lowest-pos, lowest-is}
use Rattle.fractions.proofs.Said.{some-from}
use Rattle.numerals.proofs.Grammar.{chosen, spelling_of-found, spelling_of-again}
use Rattle.rewards_reader.specs.declared.fault.RewardsCause.{RewardsCause}
use Rattle.rewards_reader.specs.declared.fault.RewardsCause.TheVariants.{Number, TooLarge}
use Rattle.rewards_reader.specs.Limits.{most_reward}
use Rattle.rewards_reader.specs.Amounts.{IsAmount, DenotesAmount, amount_within, amount_of, spelled_amount, amount_said}
use Rattle.rewards_reader.proofs.Amounts.{within-again, amount-above_zero, short-amount}

same-amount : (f g : Fraction) → ◌≡◌ {A = Result Fraction RewardsCause} (Ok f) (Ok g) → f ≡ g
same-amount f g e = cc

record IsWithin (f g : Fraction) : Type 0 where
  pub same : f ≡ g
  pub fine : f.den ≤ finest
  pub small : f.num ≤ most_reward * f.den

within-found : (f g : Fraction) → amount_within f ≡ Ok g → IsWithin f g
within-found f g is =
    elim (chosen (nat_lt finest f.den) (Err (Number number.TooFine))
    (cond (nat_lt (most_reward * f.den) f.num) (Err TooLarge) (Ok f)) (Ok g) is) [
      | inl t ↦ cc t.1
      | inr t ↦ elim (chosen (nat_lt (most_reward * f.den) f.num) (Err TooLarge) (Ok f) (Ok g) t.1) [
        | inl u ↦ cc u.1
        | inr u ↦ record {
          same = same-amount f g u.1;
          fine = ltb-false finest f.den t.0;
          small = ltb-false (most_reward * f.den) f.num u.0;
        }
      ]
    ]

-- a value above the line and its reward
record IsValued (v f : Fraction) : Type 0 where
  pub divided : 1 ≤ v.den
  pub value : SameValue f v
  pub amount : IsAmount f

lowest-valued : (v f : Fraction) → 1 ≤ v.den → lowest v ≡ f → (lowest v).den ≤ finest
    → (lowest v).num ≤ most_reward * (lowest v).den → IsValued v f
lowest-valued v f h same fine small =
    let P : Fraction → Type 0 = λ x. IsValued v x in
    subst P same (record {
      divided = h;
      value = lowest-value v h;
      amount = record { lowest = coprime-div v.num v.den h; positive = lowest-pos v h; fine = fine; small = small };
    })

value-found : (v f : Fraction) → amount_of v ≡ Ok f → IsValued v f
value-found v f is =
    elim (chosen (v.den == 0) (Err (Number number.ZeroDenominator)) (amount_within (lowest v)) (Ok f) is) [
      | inl t ↦ cc t.1
      | inr t ↦
          let within = within-found (lowest v) f t.1 in
          lowest-valued v f (some-from v.den t.0) within.same within.fine within.small
    ]

value-again : (v f : Fraction) → IsValued v f → amount_of v ≡ Ok f
value-again v f h =
    amount-above_zero v h.divided
    ∙ ap amount_within (lowest-is v f h.divided h.amount.positive h.amount.lowest h.value)
    ∙ within-again f h.amount.fine h.amount.small

spelling-found : (text : List ℕ) (o : Option Spelling) (f : Fraction) → spelling_of text ≡ o
    → spelled_amount o ≡ Ok f → DenotesAmount text f
spelling-found text None f is said = cc
spelling-found text (Some s) f is said =
    elim (chosen (is_long s) (Err (Number number.TooManyDigits)) (amount_of (value_of s)) (Ok f) said) [
      | inl t ↦ cc t.1
      | inr t ↦
          let found = value-found (value_of s) f t.1 in
          record {
            spelling = s;
            spelled = spelling_of-found text s is;
            short = t.0;
            divided = found.divided;
            value = found.value;
            amount = found.amount;
          }
    ]

pub amount-found : (text : List ℕ) (f : Fraction) → amount_said text ≡ Ok f → DenotesAmount text f
amount-found text f is = spelling-found text (spelling_of text) f refl is

pub amount-again : (text : List ℕ) (f : Fraction) → DenotesAmount text f → amount_said text ≡ Ok f
amount-again text f h =
    ap spelled_amount (spelling_of-again text h.spelling h.spelled)
    ∙ short-amount h.spelling h.short
    ∙ value-again (value_of h.spelling) f (record { divided = h.divided; value = h.value; amount = h.amount })
