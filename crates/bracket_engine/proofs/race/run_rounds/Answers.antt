use Rattle.std.proofs.Common.{◌≡◌, ◌∙◌, ◌+◌, ◌<◌, ℕ, All, List, Option, None, Some, false, arith, rules, inl, sym}
use Rattle.std.proofs.Common.{subst, refl}
use Rattle.std.specs.Prelude.{is_some, slice_index}
use Rattle.game_model.specs.Query.{Query, states}
use Rattle.game_model.specs.Rounded.{down_steps, IsBelow}
use Rattle.verdicts.specs.Stop.{bound_of}
use Rattle.bracket_engine.proofs.Ending.{in_time-more}
use Rattle.bracket_engine.proofs.race.run_rounds.Goals as goal

none-kept : {A : Type 0} (kept : Option A) → is_some kept ≡ false → kept ≡ None
none-kept (Some one) is = absurd (cc)
none-kept None is = refl

pub returns-then-not-swapped_changed : goal.returns-then-not-swapped_changed
returns-then-not-swapped_changed g c = record {
  lower = c.one_round-next.ensures.racing c.loop-turn.turn c.loop-turn.invariant.lower;
  swapped = c.one_round-next-in-loop-turn.ensures.racing c.loop-turn.turn c.loop-turn.invariant.swapped;
  end = record {
    few = omega arith;
    quiet = λ same.
        (c.one_round-next.ensures.settled (search rules), c.one_round-next-in-loop-turn.ensures.settled (search rules));
    kept = search rules;
    none = λ asking. refl;
    early = λ less. inl refl;
    in_time = c.loop-turn.invariant.in_time;
  };
}

pub loop-turn-preserved : goal.loop-turn-preserved
loop-turn-preserved g c =
    let q : Query = g.P.Posing.posed in
    let swapped_question : Query = g.C.Posing.posed in
    let ending = c.args.rounds.now.ending.now in
    let rounds : ℕ = c.loop-turn.turn + 1 in
    let initial : List ℕ = ending.initial.now in
    let inside : All (λ s. s < states q) initial =
    subst (λ (p : Query). All (λ s. s < states p) initial) c.requires.posed ending.inside in
    let racing = c.one_round-next.ensures.racing c.loop-turn.turn c.loop-turn.invariant.lower in
    let swapped_racing = c.one_round-next-in-loop-turn.ensures.racing c.loop-turn.turn c.loop-turn.invariant.swapped in
    record {
      lower = racing;
      swapped = swapped_racing;
      in_time = in_time-more q swapped_question (bound_of ending.rule.now) initial inside c.requires.game rounds
          (slice_index c.deref.result.now) (slice_index c.deref-in-loop-turn.result.now)
          (subst (λ (l : List ℕ). IsBelow q (down_steps q rounds) (slice_index l))
          (sym c.deref.ensures.value) racing.swept)
          (subst (λ (l : List ℕ). IsBelow swapped_question (down_steps swapped_question rounds) (slice_index l))
          (sym c.deref-in-loop-turn.ensures.value) swapped_racing.swept)
          c.loop-turn.invariant.in_time
          (c.in_ok-kept.ensures.open (none-kept c.in_ok-kept.kept (sym c.is_some.ensures ∙ c.if-is_some.false)));
      witnesses = search rules;
    }
