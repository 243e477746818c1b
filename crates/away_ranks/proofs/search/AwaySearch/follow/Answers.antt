use Rattle.std.proofs.Common.{◌≡◌, ◌≤◌, ◌<◌, ℕ, true, false, length, arith, sym, ap, ◌∙◌, subst, inl, inr, Some}
use Rattle.std.proofs.Common.{List, Bool, None}
use Rattle.std.specs.Prelude.{slice_index, slice_index_or, slice_set}
use Rattle.std.proofs.lemmas.Bool.{cases_lt}
use Rattle.std.proofs.lemmas.Result.{on_ok_weaker}
use Rattle.std.proofs.lemmas.List.{get_or_read, length-set, get_or-set_other}
use Rattle.game_model.specs.declared.game.Side.TheVariants.{Max, Min}
use Rattle.game_model.specs.Game.{choices_of, choice_of}
use Rattle.game_model.specs.Query.{states, is_goal, side_at}
use Rattle.attractors.specs.Attractor.{dead_excluded, serves}
use Rattle.away_ranks.proofs.Sinking.{IsSinking}
use Rattle.away_ranks.proofs.Joining.{IsReady, sinks-by, sinks-all, joined-search, joined-balance}
use Rattle.away_ranks.proofs.search.AwaySearch.follow.Goals as goal
use Rattle.away_ranks.proofs.search.AwaySearch.follow.Goals.{in-Max, in-Min+else-index-step+else-next-choices_of}

ready : (c : goal.After-join) → IsReady c.args.question.now c.args.step.state c.args.self.now c.match-side.self
ready c =
    let q = c.args.question.now in
    let old = c.args.self.now in
    let s = c.args.step.state in
    let inside : s < states q = c.requires.leads.leads.state in
    elim c.match-side.branch [
      | in-Max w ↦
          let is_side : side_at q s ≡ Max = sym w.in-Max.ensures in
          let choices : c.match-side.self.choices.items
          ≡ slice_set old.choices.items s (Some c.args.step.choice) = ap (λ x. x.choices.items) w.self-is in
          record {
            gone = ap (λ x. x.gone.items) w.self-is;
            ranks = ap (λ x. x.ranks.items) w.self-is;
            waits = ap (λ x. x.waits.items) w.self-is;
            todo = ap (λ x. x.todo.items) w.self-is;
            top = ap (λ x. x.top) w.self-is;
            planned = ap length choices ∙ length-set old.choices.items s (Some c.args.step.choice);
            same = λ t other. ap (λ list. slice_index_or list t None) choices
                ∙ get_or-set_other old.choices.items s t (Some c.args.step.choice) None other;
            sinking = subst (λ list. IsSinking q old.gone.items list s) (sym choices)
                (sinks-by q old.gone.items old.choices.items c.args.step c.requires.leads is_side
                (omega (arith, inside, c.requires.search.ranked.planned)));
          }
      | in-Min+else-index-step+else-next-choices_of w ↦
          let is_side : side_at q s ≡ Min = sym w.in-Min.ensures in
          let choices : c.match-side.self.choices.items ≡ old.choices.items =
          ap (λ x. x.choices.items) w.self-is in
          let waits : w.index-in-Min.result.now ≡ slice_index old.waits.items s = get_or_read old.waits.items _ _
          (omega (arith, inside, c.requires.search.waits.many)) w.index-in-Min.ensures 0 in
          let here : slice_index old.waits.items s ≡ c.args.step.choice = sym waits ∙ w.if-index-step.false in
          let count : w.choices_of.result ≡ length (choices_of q.game s) =
          w.choices_of.ensures ∙ ap (λ list. length (choices_of list s)) w.game.ensures in
          let later : (k : ℕ) → c.args.step.choice ≤ k → k < w.first_unserved-next.result
          → serves (dead_excluded q) old.gone.items (choice_of q.game s k) ≡ true =
          subst (λ (set : List Bool). (k : ℕ) → c.args.step.choice ≤ k → k < w.first_unserved-next.result
          → serves (dead_excluded q) set (choice_of q.game s k) ≡ true) w.deref.ensures.value
          w.first_unserved-next.ensures.before in
          record {
            gone = ap (λ x. x.gone.items) w.self-is;
            ranks = ap (λ x. x.ranks.items) w.self-is;
            waits = ap (λ x. x.waits.items) w.self-is;
            todo = ap (λ x. x.todo.items) w.self-is;
            top = ap (λ x. x.top) w.self-is;
            planned = ap length choices;
            same = λ t other. ap (λ list. slice_index_or list t None) choices;
            sinking = sinks-all q old.gone.items c.match-side.self.choices.items s is_side
                (λ k l. elim (cases_lt k c.args.step.choice) [
                  | inl before ↦ c.requires.search.waits.before s k inside (omega (arith, before, here))
                  | inr from ↦ later k from (omega (arith, l, count, w.if-next-choices_of.false))
                ]);
          }
    ]

pub returns-clause-search : goal.returns-clause-search
returns-clause-search c =
    let q = c.args.question.now in
    let old = c.args.self.now in
    let s = c.args.step.state in
    let inside : s < states q = c.requires.leads.leads.state in
    let member : c.index.result.now ≡ slice_index_or old.gone.items s false = get_or_read old.gone.items _ _
    (omega (arith, inside, c.requires.search.ranked.many)) c.index.ensures false in
    let within : slice_index_or old.gone.items s false ≡ false = sym member ∙ c.if-index.false in
    let apart : is_goal q s ≡ false = sym c.if-is_goal.ensures in
    on_ok_weaker c.join.result (λ joined. joined-search q c.invariant.ensures s old c.match-side.self
    c.requires.search (ready c) inside within c.join.new.self joined apart) c.join.ensures

pub returns-clause-balance : goal.returns-clause-balance
returns-clause-balance c =
    let q = c.args.question.now in
    let old = c.args.self.now in
    let s = c.args.step.state in
    let inside : s < states q = c.requires.leads.leads.state in
    let member : c.index.result.now ≡ slice_index_or old.gone.items s false = get_or_read old.gone.items _ _
    (omega (arith, inside, c.requires.search.ranked.many)) c.index.ensures false in
    let within : slice_index_or old.gone.items s false ≡ false = sym member ∙ c.if-index.false in
    on_ok_weaker c.join.result (λ joined. joined-balance q c.invariant.ensures s old c.match-side.self
    c.requires.search (ready c) inside within c.join.new.self joined) c.join.ensures
