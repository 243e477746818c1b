-- Every threshold is reached or not, and exceeded or not.
use Rattle.std.proofs.Common.{ℕ, ◌*◌, ◌<◌, arith, inl, inr}
use Rattle.std.proofs.lemmas.Bool.{cases_lt}
use Rattle.game_model.specs.Query.{Query, IsQuery, states}
use Rattle.game_model.specs.Bounds.{Reaches, Exceeds}
use Rattle.determinacy.specs.Exact.{HasValues}
use Rattle.determinacy.proofs.Decided.{Decided}
use Rattle.determinacy.proofs.Holding.{questions-have_values}
use Rattle.determinacy.proofs.Bracketing.{reached-from, reached-to, exceeded-from, exceeded-to}

pub reaches-decided : (q : Query) (a b s : ℕ) → IsQuery q → s < states q → Decided (Reaches q a b s)
reaches-decided q a b s posed inside =
    let v : HasValues q = questions-have_values q posed in
    elim (cases_lt (b * v.value s) (a * v.top)) [
      | inr most ↦ inl (reached-from q posed v a b s inside most)
      | inl less ↦ inr (λ reaches. let most = reached-to q posed v a b s inside reaches in omega (arith, less, most))
    ]

pub exceeds-decided : (q : Query) (a b s : ℕ) → IsQuery q → s < states q → Decided (Exceeds q a b s)
exceeds-decided q a b s posed inside =
    let v : HasValues q = questions-have_values q posed in
    elim (cases_lt (a * v.top) (b * v.value s)) [
      | inl less ↦ inl (exceeded-from q posed v a b s inside less)
      | inr most ↦ inr (λ exceeds. let less = exceeded-to q posed v a b s inside exceeds in omega (arith, less, most))
    ]
