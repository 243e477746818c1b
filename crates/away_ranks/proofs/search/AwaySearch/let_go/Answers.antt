use Rattle.std.proofs.Common.{◌≡◌, ◌≤◌, ◌<◌, ◌+◌, ℕ, true, false, Bool, length, arith, sym, ap, ◌∙◌, subst}
use Rattle.std.specs.Prelude.{slice_index_or}
use Rattle.std.proofs.lemmas.List.{get_or_read}
use Rattle.game_model.specs.Query.{states}
use Rattle.away_ranks.specs.declared.search.AwaySearch.{AwaySearch}
use Rattle.away_ranks.specs.inside.Search.{HasLetGo}
use Rattle.away_ranks.proofs.LettingGo.{HasLetGo-passes, HasLetGo-joins, let-go-more, let-go-waits}
use Rattle.away_ranks.proofs.LettingGo.{let-go-none}
use Rattle.away_ranks.proofs.search.AwaySearch.let_go.Goals as goal
use Rattle.away_ranks.proofs.search.AwaySearch.let_go.Goals.{then-not-left-place+then-not-index+in_ok-join}
use Rattle.away_ranks.proofs.search.AwaySearch.let_go.Goals.{else-not-left-place}
use Rattle.away_ranks.proofs.search.AwaySearch.let_go.Goals.{else-not-left-place-via-then-not-left-place+else-not-index}
use Rattle.away_ranks.proofs.search.AwaySearch.let_go.Goals.{else-not-left-place-via-else-not-left-place}

pub loop-state-preserved : goal.loop-state-preserved
loop-state-preserved c =
    let left = c.args.left.now in
    let old = c.args.self.now in
    let now = c.loop-state.self in
    let s = c.loop-state.state in
    let rank : ℕ = old.top + 1 in
    let all : c.states-state-end.result ≡ states c.args.question.now =
    c.states-state-end.ensures ∙ ap length c.game.ensures in
    let inside : s < states c.args.question.now = omega (arith, all, c.loop-state-test.true) in
    let place : s < length now.gone.items =
    omega (arith, inside, c.loop-state.invariant.many, c.requires.search.ranked.many) in
    let spot : s < length now.ranks.items =
    omega (arith, inside, c.loop-state.invariant.ranked, c.requires.search.ranked.ranked) in
    elim c.if-not-left-place.branch [
      | then-not-left-place+then-not-index+in_ok-join w ↦
          let new : AwaySearch = w.join.new.self in
          let member : w.index.result.now ≡ slice_index_or now.gone.items s false = get_or_read now.gone.items _ _
          place w.index.ensures false in
          let on : HasLetGo left rank (s + 1) true old new =
          HasLetGo-joins left rank s c.loop-state.more old now new c.loop-state.invariant place spot
          w.if-not-left-place.true (sym member ∙ w.if-not-index.true) w.in_ok-join.ensures in
          subst (λ (b : Bool). HasLetGo left rank (s + 1) b old c.if-not-left-place.self) (sym w.more-is)
          (subst (HasLetGo left rank (s + 1) true old) (sym w.self-is) on)
      | else-not-left-place w ↦
          let on : HasLetGo left rank (s + 1) c.loop-state.more old now =
          HasLetGo-passes left rank s c.loop-state.more old now c.loop-state.invariant
          (λ unleft. elim w.else-not-left-place.branch [
            | else-not-left-place-via-then-not-left-place+else-not-index w' ↦
                let member : w'.index.result.now ≡ slice_index_or now.gone.items s false =
                get_or_read now.gone.items _ _ place w'.index.ensures false in
                sym member ∙ w'.if-not-index.false
            | else-not-left-place-via-else-not-left-place w' ↦
                let is : slice_index_or left s false ≡ true = w'.if-not-left-place.false in
                absurd (cc)
          ]) in
          subst (λ (b : Bool). HasLetGo left rank (s + 1) b old c.if-not-left-place.self) (sym w.more-is)
          (subst (HasLetGo left rank (s + 1) c.loop-state.more old) (sym w.self-is) on)
    ]

pub returns-then-more-clause-search : goal.returns-then-more-clause-search
returns-then-more-clause-search c =
    let q = c.args.question.now in
    let now = c.loop-state.self in
    let all : states q ≤ c.loop-state.state =
    omega (arith, c.states-state-end.ensures ∙ ap length c.game.ensures, c.loop-state-test.false) in
    record {
      ranked = let-go-more q c.invariant.ensures c.args.left.now c.loop-state.state c.loop-state.more c.args.self.now
          now c.requires.search c.requires.left c.requires.chosen c.loop-state.invariant all c.if-more.true;
      waits = let-go-waits q c.invariant.ensures c.args.left.now c.loop-state.state c.loop-state.more c.args.self.now
          now c.requires.search c.requires.left c.requires.chosen c.loop-state.invariant all;
      todo = c.loop-state.invariant.todo;
    }

pub returns-else-more-clause-search : goal.returns-else-more-clause-search
returns-else-more-clause-search c =
    let-go-none c.args.question.now c.invariant.ensures c.args.left.now c.loop-state.state c.loop-state.more
    c.args.self.now c.loop-state.self c.requires.search c.requires.left c.requires.chosen c.loop-state.invariant
    (omega (arith, c.states-state-end.ensures ∙ ap length c.game.ensures, c.loop-state-test.false)) c.if-more.false
