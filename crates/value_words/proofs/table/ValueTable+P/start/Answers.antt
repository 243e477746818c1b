use Rattle.std.proofs.Common.{◌≡◌, ℕ, ◌<◌, ◌≤◌, true, length, [], arith, rules, sym, subst, ap, ◌∙◌}
use Rattle.game_model.specs.Query.{Query, IsQuery, states, is_goal}
use Rattle.game_model.specs.Limits.{unit}
use Rattle.step_core.specs.Word.{value_at, opening_words}
use Rattle.step_core.proofs.Words.{AreSoundWords-goals, AreSoundWords-units, AreSoundWords-opening}
use Rattle.atomic_table.specs.Table.{Me, opening}
use Rattle.value_words.specs.declared.rule.Sight.{Sight}
use Rattle.value_words.specs.Rule.{MeetsRule, opening_sight}
use Rattle.value_words.proofs.Moves.{opening-meets}
use Rattle.value_words.proofs.table.ValueTable+P.start.Goals as goal

pub of_words-requires : goal.of_words-requires
of_words-requires g c =
    let q = g.P.Posing.posed in
    let h : IsQuery q = subst IsQuery c.requires c.invariant.ensures in
    let same : opening_words q ≡ c.as_slice.result.now =
    ap opening_words (sym c.requires) ∙ sym c.in_ok-words.ensures ∙ sym c.as_slice.ensures.value in
    subst (λ words. MeetsRule q (opening words [] (opening_sight q))) same (opening-meets q [] h)

-- a pass that has seen the opening words
opened : (q : Query) (m : Me (Unit {0}) Sight) → IsQuery q → m ≡ (opening_sight q, []) → record {
  empty : m.1 ≡ [];
  live : m.0.live ≡ true;
  as_many : length m.0.seen ≡ states q;
  units : (s : ℕ) → s < states q → value_at m.0.seen s ≤ unit;
  goals : (s : ℕ) → s < states q → is_goal q s ≡ true → unit ≤ value_at m.0.seen s;
}
opened q m h is =
    let sound = AreSoundWords-opening q h in record {
      empty = ap (λ x. x.1) is;
      live = ap (λ x. x.0.live) is;
      as_many = ap (λ x. length x.0.seen) is ∙ sound.as_many;
      units = λ s inside. subst (λ x. value_at x.0.seen s ≤ unit) (sym is)
          (AreSoundWords-units q (opening_words q) sound s inside);
      goals = λ s inside goal. subst (λ x. unit ≤ value_at x.0.seen s) (sym is)
          (omega (arith, AreSoundWords-goals q (opening_words q) sound s inside goal));
    }

pub invariant_of-result-in-Ok : goal.invariant_of-result-in-Ok
invariant_of-result-in-Ok g c =
    let q = g.P.Posing.posed in
    let h : IsQuery q = subst IsQuery c.requires c.invariant.ensures in
    let me : c.in-Ok.seat.me ≡ (opening_sight q, []) = search rules in
    opened q c.in-Ok.seat.me h me
