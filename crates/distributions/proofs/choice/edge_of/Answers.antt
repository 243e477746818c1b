use Rattle.std.proofs.Common.{◌≡◌, ◌∙◌, ◌≤◌, ◌*◌, ◌/◌, ℕ, sym, ap, subst, arith}
use Rattle.game_model.specs.declared.game.Edge.{Edge}
use Rattle.fractions.specs.Limits.{most_value}
use Rattle.distributions.proofs.Multiples.{share_weight, share_small}
use Rattle.distributions.proofs.choice.edge_of.Goals as goal

pub overflow_mul-result : goal.overflow_mul-result
overflow_mul-result c =
    let factor : c.factor_of.result ≡ c.args.common / c.args.part.now.share.den =
    c.factor_of.ensures ∙ ap (λ n. c.args.common / n) c.den.ensures.value in
    let P : ℕ → Type 0 = λ n. c.num.result * n ≤ most_value * c.args.common in
    omega (
      arith,
      subst P (sym factor)
          (share_small c.num.result c.args.common c.args.part.now.share.den c.requires.divided c.num.ensures.small),
      c.requires.fine,
    )

pub returns-clause-value : goal.returns-clause-value
returns-clause-value c =
    let factor : c.factor_of.result ≡ c.args.common / c.args.part.now.share.den =
    c.factor_of.ensures ∙ ap (λ n. c.args.common / n) c.den.ensures.value in
    let edge : ℕ → Edge = λ weight. record { to = c.args.part.now.to; weight = weight } in
    ap edge (ap (λ n. c.num.result * n) factor
    ∙ share_weight c.num.result c.args.common c.args.part.now.share.den c.requires.divided
    ∙ ap (λ n. n * c.args.common / c.args.part.now.share.den) c.num.ensures.value)

pub returns-clause-small : goal.returns-clause-small
returns-clause-small c =
    let factor : c.factor_of.result ≡ c.args.common / c.args.part.now.share.den =
    c.factor_of.ensures ∙ ap (λ n. c.args.common / n) c.den.ensures.value in
    let P : ℕ → Type 0 = λ n. c.num.result * n ≤ most_value * c.args.common in
    omega (
      arith,
      subst P (sym factor)
          (share_small c.num.result c.args.common c.args.part.now.share.den c.requires.divided c.num.ensures.small),
      c.requires.fine,
    )
