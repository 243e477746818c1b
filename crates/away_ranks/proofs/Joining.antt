-- A state that sinks joins those that have gone.
use Rattle.std.proofs.Common.{◌≡◌, ◌≢◌, ℕ, ◌+◌, ◌<◌, Bool, true, false, List, [], ◌∷◌, ◌++◌, length, get_or, set, arith}
use Rattle.std.proofs.Common.{sym}
use Rattle.std.proofs.Common.{ap, ◌∙◌, subst, Option, Some, None}
use Rattle.std.specs.Prelude.{slice_index_or, Contains}
use Rattle.std.proofs.lemmas.List.{length_push, get_or-set_same}
use Rattle.std.proofs.lemmas.List.Elements.{Contains-get_or, All-same, All-push, All-weaker}
use Rattle.game_model.specs.declared.game.Side.TheVariants.{Max, Min}
use Rattle.game_model.specs.Game.{choices_of, choice_of}
use Rattle.game_model.specs.Query.{Query, IsQuery, states, is_goal, side_at}
use Rattle.predecessors.specs.declared.lists.Move.{Move}
use Rattle.predecessors.specs.Lists.{ArePredecessors}
use Rattle.predecessors.proofs.Listed.{listed-exactly}
use Rattle.attractors.specs.Attractor.{dead_excluded, serves}
use Rattle.attractors.specs.Search.{LeadsIn}
use Rattle.attractors.proofs.Following.{serves-more, sides-differ}
use Rattle.attractors.proofs.Meeting.{meets-at}
use Rattle.attractors.proofs.Least.{member-inside}
use Rattle.attractors.proofs.Ordering.{stays-member}
use Rattle.attractors.proofs.Serving.{serves-both}
use Rattle.away_ranks.specs.declared.search.AwaySearch.{AwaySearch}
use Rattle.away_ranks.specs.inside.Ranked.{how_many, HasGone, AreRanked}
use Rattle.away_ranks.specs.inside.Search.{AreWaits, IsAwaySearch, HasJoined, IsBalanced}
use Rattle.away_ranks.proofs.Later.{how_many-set}
use Rattle.away_ranks.proofs.Sinking.{IsSinking, AreRanked-sinks}

-- a move in the list of a state that has gone leads to it
pub leads-back : (q : Query) (lists : List (List Move)) (gone : List Bool) (member k : ℕ) (list : List Move) (d : Move)
    → ArePredecessors q.game lists → length gone ≡ states q → HasGone gone member
    → list ≡ slice_index_or lists member [] → k < length list → LeadsIn q.game gone (get_or list k d)
leads-back q lists gone member k list d are many out is_list l =
    let inside : member < states q = omega (arith, member-inside gone member out, many) in
    let m : Move = get_or list k d in
    record {
      to = member;
      leads = (listed-exactly are m.state m.choice member inside).0
          (subst (λ (xs : List Move). Contains xs m) is_list (Contains-get_or list k d l));
      member = out;
    }

-- the same lists are ranked, too
pub AreRanked-same : (q : Query) (gone gone' : List Bool) (choices choices' : List (Option ℕ)) (ranks ranks' : List ℕ)
    (top top' : ℕ) → gone' ≡ gone → choices' ≡ choices → ranks' ≡ ranks → top' ≡ top
    → AreRanked q gone choices ranks top → AreRanked q gone' choices' ranks' top'
AreRanked-same q gone gone' choices choices' ranks ranks' top top' a b c d h =
    subst (λ g. AreRanked q g choices' ranks' top') (sym a)
    (subst (λ p. AreRanked q gone p ranks' top') (sym b)
    (subst (λ r. AreRanked q gone choices r top') (sym c)
    (subst (λ n. AreRanked q gone choices ranks n) (sym d) h)))

-- choices that had a successor that has gone still have one
pub AreWaits-more : (q : Query) (gone more : List Bool) (waits : List ℕ)
    → ((s : ℕ) → HasGone gone s → HasGone more s) → AreWaits q gone waits → AreWaits q more waits
AreWaits-more q gone more waits larger h = record {
  many = h.many;
  before = λ s c inside below. serves-more (dead_excluded q) gone more q s c larger (h.before s c inside below);
}

-- a state of the maximiser sinks by a move that leads to a state that has gone
pub sinks-by : (q : Query) (gone : List Bool) (choices : List (Option ℕ)) (step : Move) → LeadsIn q.game gone step
    → side_at q step.state ≡ Max → step.state < length choices
    → IsSinking q gone (set choices step.state (Some step.choice)) step.state
sinks-by q gone choices step leads is_side place = record {
  greatest = λ is. (
    step.choice,
    get_or-set_same choices step.state (Some step.choice) None place,
    leads.leads.choice,
    meets-at gone (choice_of q.game step.state step.choice) leads.to leads.leads.successor leads.member,
  );
  least = λ is. absurd (sides-differ (side_at q step.state) is_side is);
}

-- a state of the minimiser sinks if each choice has a successor that has gone
pub sinks-all : (q : Query) (gone : List Bool) (choices : List (Option ℕ)) (s : ℕ) → side_at q s ≡ Min
    → ((c : ℕ) → c < length (choices_of q.game s) → serves (dead_excluded q) gone (choice_of q.game s c) ≡ true)
    → IsSinking q gone choices s
sinks-all q gone choices s is_side each = record {
  greatest = λ is. absurd (sides-differ (side_at q s) is is_side);
  least = λ is c l. (serves-both (dead_excluded q) gone (choice_of q.game s c) (each c l)).1;
}

-- the search before a state joins: at most the state's choice is new
pub record IsReady (q : Query) (s : ℕ) (old mid : AwaySearch) : Type 0 where
  pub gone : mid.gone.items ≡ old.gone.items
  pub ranks : mid.ranks.items ≡ old.ranks.items
  pub waits : mid.waits.items ≡ old.waits.items
  pub todo : mid.todo.items ≡ old.todo.items
  pub top : mid.top ≡ old.top
  pub planned : length mid.choices.items ≡ length old.choices.items
  pub same : (t : ℕ) → t ≢ s → slice_index_or mid.choices.items t None ≡ slice_index_or old.choices.items t None
  pub sinking : IsSinking q old.gone.items mid.choices.items s

module _ (q : Query) (posed : IsQuery q) (s : ℕ) (old mid : AwaySearch) (h : IsAwaySearch q old)
    (ready : IsReady q s old mid) (inside : s < states q)
    (within : slice_index_or old.gone.items s false ≡ false) (new : AwaySearch)
    (joined : HasJoined s (mid.top + 1) (record mid { top = mid.top + 1 }) new) where
  gone-new : new.gone.items ≡ set old.gone.items s true
  gone-new = joined.gone ∙ ap (λ list. set list s true) ready.gone

  larger : (t : ℕ) → HasGone old.gone.items t → HasGone new.gone.items t
  larger t out = subst (λ list. HasGone list t) (sym gone-new)
      (stays-member old.gone.items s t (omega (arith, inside, h.ranked.many)) out)

  own : HasGone new.gone.items s
  own = subst (λ list. HasGone list s) (sym gone-new)
      (get_or-set_same old.gone.items s true false (omega (arith, inside, h.ranked.many)))

  todo-new : new.todo.items ≡ old.todo.items ++ s ∷ []
  todo-new = joined.todo ∙ ap (λ list. list ++ s ∷ []) ready.todo

  -- the search goes on
  pub joined-search : is_goal q s ≡ false → IsAwaySearch q new
  joined-search apart = record {
    ranked = AreRanked-same q (set old.gone.items s true) new.gone.items mid.choices.items new.choices.items
        (set old.ranks.items s (old.top + 1)) new.ranks.items (old.top + 1) new.top gone-new joined.choices
        (joined.ranks ∙ ap (λ list. set list s (mid.top + 1)) ready.ranks
        ∙ ap (λ n. set old.ranks.items s (n + 1)) ready.top)
        (joined.top ∙ ap (λ n. n + 1) ready.top)
        (AreRanked-sinks q posed old.gone.items old.choices.items mid.choices.items old.ranks.items old.top s h.ranked
        inside within ready.same ready.sinking (ready.planned ∙ h.ranked.planned) apart);
    waits = subst (AreWaits q new.gone.items) (sym (joined.waits ∙ ready.waits))
        (AreWaits-more q old.gone.items new.gone.items old.waits.items larger h.waits);
    todo = All-same (HasGone new.gone.items) new.todo.items (old.todo.items ++ s ∷ []) todo-new
        (All-push (HasGone new.gone.items) old.todo.items s
        (All-weaker (HasGone old.gone.items) (HasGone new.gone.items) larger old.todo.items h.todo) own);
  }

  pub joined-balance : IsBalanced old new
  joined-balance =
      let count : how_many new.gone.items ≡ how_many old.gone.items + 1 =
      ap how_many gone-new ∙ how_many-set old.gone.items s (omega (arith, inside, h.ranked.many)) within in
      let todo : length new.todo.items ≡ length old.todo.items + 1 =
      ap length todo-new ∙ length_push old.todo.items s in
      omega (arith, count, todo)
