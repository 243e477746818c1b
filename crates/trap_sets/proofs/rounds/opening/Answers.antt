use Rattle.std.proofs.Common.{◌≡◌, length, arith, ap, sym, ◌∙◌}
use Rattle.game_model.specs.Query.{states}
use Rattle.trap_sets.proofs.Each.{IsEach-none, IsEach-push}
use Rattle.trap_sets.proofs.rounds.opening.Goals as goal

pub loop-state-init : goal.loop-state-init
loop-state-init c = IsEach-none _ _ c.new-part.ensures.items

pub loop-state-preserved : goal.loop-state-preserved
loop-state-preserved c = IsEach-push _ _ _ c.opening_part.result c.loop-state.state c.in_ok-push.ensures.items
    c.loop-state.invariant c.opening_part.ensures

pub returns : goal.returns
returns c =
    let h = c.loop-state.invariant in
    let all : c.loop-state.state ≡ states c.args.mdp.now.question.now =
    omega (arith, c.loop-state-test.false, c.states-state-end.ensures, ap length c.game.ensures) in record {
      many = h.many ∙ all;
      free = λ s ls. (h.each s (omega (arith, ls, all))).free;
      kept = λ set listed ends s is none. absurd (omega (
        arith,
        (h.each s (omega (arith, ends.inside s is, all))).all (ends.free s is),
        none,
      ));
      joined = λ set listed ends s t is is'. (h.each s (omega (arith, ends.inside s is, all))).all (ends.free s is)
          ∙ sym ((h.each t (omega (arith, ends.inside t is', all))).all (ends.free t is'));
    }
