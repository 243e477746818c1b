use Rattle.std.proofs.Common.{List, ℕ, subst, inl, inr}
use Rattle.plan_text.specs.declared.plan.Plan.{Plan}
use Rattle.certificate_audit.specs.Accepted.{Passes}
use Rattle.certificate_audit.proofs.Soundness.{sound}
use Rattle.game_model.specs.Query.{states}
use Rattle.solved_plans.specs.Bounds.{counted, IsLowerOf, IsUpperOf}
use Rattle.solved_plans.proofs.Bounds.{lower-exactly, lower-never, upper-unit, upper-exactly}
use Rattle.solved_plans.proofs.plan.certify.Goals as goal

pub returns-clause-plan : goal.returns-clause-plan
returns-clause-plan c =
    let q = c.args.question.now in
    let sure = c.args.sure.now in
    let zero = c.args.zero.now in
    let reached = c.in_ok-reached.ensures in
    let held = c.in_ok-held.ensures in
    let plan : Plan = record {
      lower = c.in_ok-reached.reached.values;
      choices = c.in_ok-reached.reached.plan.choices;
      ranks = c.in_ok-reached.reached.plan.ranks;
      upper = c.in_ok-held.held.values;
      replies = c.in_ok-held.held.replies;
    } in
    let passes : Passes q plan = record {
      units = held.units;
      inductive = held.inductive;
      replies = held.good;
      ranked = reached.ranked;
    } in
    record {
      lists = record {
        lower = reached.many;
        choices = reached.layered.as_many;
        ranks = reached.layered.many;
        upper = elim held.values [ inl table ↦ table.many | inr table ↦ table.0.many ];
        replies = held.first.as_many;
      };
      passes = passes;
      sound = sound q plan c.invariant.ensures passes;
      sure = record {
        lower = lower-exactly q c.invariant.ensures sure zero c.requires.sure c.requires.zero _ _ reached.values;
        upper = upper-unit q c.invariant.ensures sure zero c.requires.sure c.requires.zero _ _ held.values;
      };
      zero = record {
        upper = upper-exactly q sure zero c.requires.zero _ _ held.values;
        lower = lower-never q c.invariant.ensures sure zero c.requires.sure c.requires.zero _ _ reached.values;
      };
      choices = reached.layered;
      replies = held.first;
    }

pub returns-clause-bounds : goal.returns-clause-bounds
returns-clause-bounds c =
    let q = c.args.question.now in
    let sure = c.args.sure.now in
    let zero = c.args.zero.now in
    record {
      sure = c.args.sure.now;
      zero = c.args.zero.now;
      almost_sure = c.requires.sure;
      zero_set = c.requires.zero;
      lower_of =
          subst (λ (l : List ℕ). IsLowerOf q sure zero (counted (states q) l) c.in_ok-reached.reached.values.items)
          c.deref.ensures.value c.in_ok-reached.ensures.values;
      upper_of = subst (λ (l : List ℕ). IsUpperOf q sure zero (counted (states q) l) c.in_ok-held.held.values.items)
          c.deref-2.ensures.value c.in_ok-held.ensures.values;
    }
