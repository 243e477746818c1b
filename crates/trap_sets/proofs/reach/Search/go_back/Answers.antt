use Rattle.std.proofs.Common.{◌≡◌, ◌≤◌, Bool, List, take, get_or, length, arith, sym, subst, true, false}
use Rattle.std.specs.Prelude.{slice_index_or, Contains, All}
use Rattle.std.proofs.lemmas.List.{take_all}
use Rattle.std.proofs.lemmas.List.Elements.{All-more, All-weaker, All-contains}
use Rattle.predecessors.specs.declared.lists.Move.{Move}
use Rattle.predecessors.specs.Moves.{move, LeadsTo}
use Rattle.predecessors.proofs.Listed.{listed-exactly}
use Rattle.trap_sets.specs.inside.OfInternal.{IsStepOf, IsInternalOf}
use Rattle.trap_sets.proofs.Leading.{listed-move}
use Rattle.trap_sets.proofs.Reaching.{IsMore-weaker, IsMore-join}
use Rattle.trap_sets.proofs.reach.Search.go_back.Goals as goal

pub meet-requires-clause-state : goal.meet-requires-clause-state
meet-requires-clause-state c =
    (listed-move c.args.internal.now.mdp c.of_state-step-items.result.now c.args.state c.loop-step.step-index
    (move 0 0) c.requires.state c.of_state-step-items.ensures c.loop-step-test.true).state

pub meet-requires-clause-choice : goal.meet-requires-clause-choice
meet-requires-clause-choice c =
    (listed-move c.args.internal.now.mdp c.of_state-step-items.result.now c.args.state c.loop-step.step-index
    (move 0 0) c.requires.state c.of_state-step-items.ensures c.loop-step-test.true).choice

pub loop-step-preserved : goal.loop-step-preserved
loop-step-preserved c =
    let internal = c.args.internal.now in
    let state = c.args.state in
    let items = c.of_state-step-items.result.now in
    let m : Move = get_or items c.loop-step.step-index (move 0 0) in
    let leads : LeadsTo internal.mdp.question.now.game m.state m.choice state = listed-move internal.mdp items state
    c.loop-step.step-index (move 0 0) c.requires.state c.of_state-step-items.ensures c.loop-step-test.true in
    let Met : List Bool → Move → Type 0 =
    λ marks x. IsInternalOf internal x.state x.choice → slice_index_or marks x.state false ≡ true in
    record {
      more = IsMore-join (λ s. IsStepOf internal s state) _ _ _ _ _ _ c.loop-step.invariant.more
          (IsMore-weaker (λ s. (s ≡ m.state) × IsInternalOf internal m.state m.choice) (λ s. IsStepOf internal s state)
          _ _ _ _ (λ s here. subst (λ u. IsStepOf internal u state) (sym here.0) (record {
            choice = m.choice;
            state = leads.state;
            internal = here.1;
            leads = leads.successor;
          })) c.in_ok-meet.ensures.more);
      met = All-more (Met c.meet.new.self.marks.items) items c.loop-step.step-index (move 0 0) c.loop-step-test.true
          (All-weaker (Met c.loop-step.self.marks.items) (Met c.meet.new.self.marks.items)
          (λ x was holds. c.in_ok-meet.ensures.more.larger x.state (was holds)) (take c.loop-step.step-index items)
          c.loop-step.invariant.met) c.in_ok-meet.ensures.met;
    }

pub returns-clause-passed : goal.returns-clause-passed
returns-clause-passed c = λ s step.
    let internal = c.args.internal.now in
    let state = c.args.state in
    let items = c.of_state-step-items.result.now in
    let Met : Move → Type 0 = λ x. IsInternalOf internal x.state x.choice
    → slice_index_or c.loop-step.self.marks.items x.state false ≡ true in
    let leads : LeadsTo internal.mdp.question.now.game s step.choice state =
    record { state = step.state; choice = step.internal.mdp.inside; successor = step.leads } in
    let in' : Contains items (move s step.choice) = subst (λ (xs : List Move). Contains xs (move s step.choice))
    (sym c.of_state-step-items.ensures)
    ((listed-exactly internal.mdp.lists s step.choice state c.requires.state).1 leads) in
    let all : length items ≤ c.loop-step.step-index = omega (arith, c.loop-step-test.false) in
    All-contains Met items (move s step.choice)
    (subst (All Met) (take_all c.loop-step.step-index items all) c.loop-step.invariant.met) in' step.internal
