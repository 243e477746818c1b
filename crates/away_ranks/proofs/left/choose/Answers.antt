use Rattle.std.proofs.Common.{◌≡◌, ◌≤◌, ◌<◌, ℕ, true, false, length, arith, subst, sym, ap, ◌∙◌, inl, inr, Some}
use Rattle.std.specs.Prelude.{slice_index_or, slice_set}
use Rattle.std.proofs.lemmas.Bool.{cases_lt}
use Rattle.game_model.specs.declared.game.Side.TheVariants.{Max}
use Rattle.game_model.specs.Game.{choices_of, choice_of}
use Rattle.game_model.specs.Query.{Query, states, side_at}
use Rattle.attractors.specs.Attractor.{serves}
use Rattle.almost_sure.specs.ExcludedSets.{gone_excluded}
use Rattle.away_ranks.specs.inside.Left.{IsUnserved}
use Rattle.away_ranks.proofs.Choosing.{first-unserved, AreKept-set, IsUnserved-set}
use Rattle.away_ranks.proofs.left.choose.Goals as goal

pub loop-state-preserved : goal.loop-state-preserved
loop-state-preserved c =
    let q = c.args.question.now in
    let gone = c.args.excluded.now.gone.now in
    let left = c.args.left.now in
    let choices = c.loop-state.choices in
    let s = c.loop-state.state in
    let r = c.first_unserved.result in
    let all : c.states-state-end.result ≡ states q =
    c.states-state-end.ensures ∙ ap length c.game.ensures in
    let inside : s < states q = omega (arith, all, c.loop-state-test.true) in
    record {
      kept = AreKept-set gone c.args.choices.now choices s (Some r) c.loop-state.invariant.kept
          c.if-excluded-place.false;
      chosen = λ t l is_side out free. elim (cases_lt t s) [
        | inl below ↦ IsUnserved-set q gone left choices s t (Some r) below
            (c.loop-state.invariant.chosen t below is_side out free)
        | inr past ↦
            let same : s ≡ t = omega (arith, l, past) in
            let before : (k : ℕ) → 0 ≤ k → k < r
            → serves (gone_excluded gone) left (choice_of q.game s k) ≡ true =
            subst (λ (o : Query). (k : ℕ) → 0 ≤ k → k < r
            → serves (gone_excluded gone) left (choice_of o.game s k) ≡ true) c.requires.other
            c.first_unserved.ensures.before in
            let first : r < length (choices_of q.game s)
            → serves (gone_excluded gone) left (choice_of q.game s r) ≡ false =
            subst (λ (o : Query). r < length (choices_of o.game s)
            → serves (gone_excluded gone) left (choice_of o.game s r) ≡ false) c.requires.other
            c.first_unserved.ensures.first in
            subst (IsUnserved q gone left (slice_set choices s (Some r))) same
            (first-unserved q gone left choices s r c.invariant.ensures inside
            (subst (λ u. side_at q u ≡ Max) (sym same) is_side) c.requires.left
            (subst (λ u. slice_index_or left u false ≡ false) (sym same) out)
            (subst (λ u. slice_index_or gone u false ≡ false) (sym same) free)
            before first (omega (arith, inside, c.requires.choices, c.loop-state.auto.choices)))
      ];
    }
