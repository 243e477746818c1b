use Rattle.std.proofs.Common.{◌*◌, ◌^◌, ℕ, ◌∙◌, sym, ap, subst, rules, arith, Ok}
use Rattle.std.specs.Int.{IsGcd}
use Rattle.fractions.specs.Fraction.{Fraction}
use Rattle.fractions.specs.Number.{in_range}
use Rattle.fractions.proofs.Powers.{pow-pos}
use Rattle.fractions.proofs.Terms.{TakenOut, TakenOut-coprime, TakenOut-lowest, lowest-zero, fine-said, powers-some}
use Rattle.fractions.proofs.lowest.wide_over_tens.Goals as goal

pub returns-then-digits-eq0 : goal.returns-then-digits-eq0
returns-then-digits-eq0 c = ap (λ f. Ok f) c.of.ensures ∙ ap in_range
    (sym (lowest-zero c.args.digits (10 ^ c.args.tens) (search rules) (pow-pos 10 c.args.tens (omega arith))))

pub checked-requires-clause-lowest : goal.checked-requires-clause-lowest
checked-requires-clause-lowest c =
    let taken : TakenOut c.args.digits c.without-odd.result.number c.without-rest.result.number c.args.tens
    c.without-odd.result.left c.without-rest.result.left = record {
      some = omega arith;
      first = c.without-odd.ensures.value;
      first_left = c.without-odd.ensures.left;
      first_out = c.without-odd.ensures.out;
      second = c.without-rest.ensures.value;
      second_left = c.without-rest.ensures.left;
      second_out = c.without-rest.ensures.out;
    } in
    let P : ℕ → Type 0 = λ n. IsGcd c.without-rest.result.number n 1 in
    subst P (sym c.in-Some.ensures.value) (TakenOut-coprime _ _ _ _ _ _ taken)

pub checked-requires-clause-positive : goal.checked-requires-clause-positive
checked-requires-clause-positive c =
    omega (arith, c.in-Some.ensures.value, powers-some c.without-odd.result.left c.without-rest.result.left)

pub returns-in-Some : goal.returns-in-Some
returns-in-Some c =
    let taken : TakenOut c.args.digits c.without-odd.result.number c.without-rest.result.number c.args.tens
    c.without-odd.result.left c.without-rest.result.left = record {
      some = omega arith;
      first = c.without-odd.ensures.value;
      first_left = c.without-odd.ensures.left;
      first_out = c.without-odd.ensures.out;
      second = c.without-rest.ensures.value;
      second_left = c.without-rest.ensures.left;
      second_out = c.without-rest.ensures.out;
    } in
    let fraction : ℕ → Fraction = λ n. record { num = c.without-rest.result.number; den = n } in
    c.checked.ensures ∙ ap in_range (ap fraction c.in-Some.ensures.value ∙ sym (TakenOut-lowest _ _ _ _ _ _ taken))

pub returns-in-None : goal.returns-in-None
returns-in-None c =
    let taken : TakenOut c.args.digits c.without-odd.result.number c.without-rest.result.number c.args.tens
    c.without-odd.result.left c.without-rest.result.left = record {
      some = omega arith;
      first = c.without-odd.ensures.value;
      first_left = c.without-odd.ensures.left;
      first_out = c.without-odd.ensures.out;
      second = c.without-rest.ensures.value;
      second_left = c.without-rest.ensures.left;
      second_out = c.without-rest.ensures.out;
    } in
    sym (ap in_range (TakenOut-lowest _ _ _ _ _ _ taken)
    ∙ fine-said (record {
      num = c.without-rest.result.number;
      den = 2 ^ c.without-odd.result.left * 5 ^ c.without-rest.result.left;
    }) c.in-None.ensures.value)
