use Rattle.std.proofs.Common.{◌≡◌, ◌≢◌, ◌∙◌, ◌≤◌, ◌*◌, ◌%◌, ◌⊎◌, inl, inr, ℕ, sym, ap, subst, rules, arith, Ok}
use Prim.Native.Nat.{◌∣◌}
use Rattle.std.specs.Int.{IsGcd}
use Rattle.fractions.specs.declared.tens.Tens.{Tens}
use Rattle.fractions.specs.Fraction.{Fraction}
use Rattle.fractions.specs.Number.{in_range}
use Rattle.fractions.proofs.Euclid.{crossed}
use Rattle.fractions.proofs.Terms.{lowest-zero, said-above_zero}
use Rattle.fractions.proofs.Factors.{still_out, tens_lowest, tens_some, said_lowest}
use Rattle.fractions.proofs.tens.Tens.fraction.Goals as goal

-- with a two out of one side, and then a five
rest-lowest : (odd rest : Tens) → (odd.num % 2 ≢ 0) ⊎ (odd.den % 2 ≢ 0) → rest.num ∣ odd.num → rest.den ∣ odd.den
    → (rest.num % 5 ≢ 0) ⊎ (rest.den % 5 ≢ 0) → IsGcd rest.num rest.den 1
rest-lowest odd rest two num den five =
    let still : (rest.num % 2 ≢ 0) ⊎ (rest.den % 2 ≢ 0) =
    elim two [ inl n ↦ inl (still_out 2 rest.num odd.num num n) | inr d ↦ inr (still_out 2 rest.den odd.den den d) ] in
    tens_lowest rest.num rest.den rest.tens still five

pub returns-then-self-eq0 : goal.returns-then-self-eq0
returns-then-self-eq0 c =
    let some : 1 ≤ c.args.self.den = tens_some c.args.self.den c.args.self.tens in
    ap (λ f. Ok f) c.of.ensures
    ∙ sym (said-above_zero (record { num = c.args.self.num; den = c.args.self.den }) some
    ∙ ap in_range (lowest-zero c.args.self.num c.args.self.den (search rules) some))

pub checked-requires-clause-lowest : goal.checked-requires-clause-lowest
checked-requires-clause-lowest c =
    let odd : Tens = c.without_twos.result in
    let rest : Tens = c.without_fives-rest.result in
    let lowest : IsGcd rest.num rest.den 1 = rest-lowest odd rest c.without_twos.ensures.out
    c.without_fives-rest.ensures.num c.without_fives-rest.ensures.den c.without_fives-rest.ensures.out in
    let P : ℕ → Type 0 = λ n. IsGcd n rest.den 1 in
    let Q : ℕ → Type 0 = λ n. IsGcd c.from.result n 1 in
    subst Q (sym c.from-2.ensures) (subst P (sym c.from.ensures) lowest)

pub checked-requires-clause-positive : goal.checked-requires-clause-positive
checked-requires-clause-positive c =
    omega (arith, c.from-2.ensures, tens_some c.without_fives-rest.result.den c.without_fives-rest.result.tens)

pub returns : goal.returns
returns c =
    let odd : Tens = c.without_twos.result in
    let rest : Tens = c.without_fives-rest.result in
    let lowest : IsGcd rest.num rest.den 1 = rest-lowest odd rest c.without_twos.ensures.out
    c.without_fives-rest.ensures.num c.without_fives-rest.ensures.den c.without_fives-rest.ensures.out in
    let value : c.args.self.num * rest.den ≡ rest.num * c.args.self.den =
    crossed odd.num odd.den c.args.self.num c.args.self.den rest.num rest.den (tens_some odd.den odd.tens)
    (sym c.without_twos.ensures.value) c.without_fives-rest.ensures.value in
    let fraction : ℕ → ℕ → Fraction = λ n d. record { num = n; den = d } in
    c.checked.ensures
    ∙ ap (λ n. in_range (fraction n c.from-2.result)) c.from.ensures
    ∙ ap (λ d. in_range (fraction rest.num d)) c.from-2.ensures
    ∙ sym (said_lowest c.args.self.num c.args.self.den rest.num rest.den (tens_some c.args.self.den c.args.self.tens)
    (tens_some rest.den rest.tens) lowest (sym value))
