-- The states that are not left go one after another.
use Rattle.std.proofs.Common.{◌≡◌, ◌≢◌, ℕ, ◌+◌, ◌<◌, ◌≤◌, Bool, true, false, List, [], ◌∷◌, ◌++◌, length, set, arith}
use Rattle.std.proofs.Common.{refl}
use Rattle.std.proofs.Common.{sym, ap, ◌∙◌, subst, inl, inr}
use Rattle.std.specs.Prelude.{slice_index, slice_index_or}
use Rattle.std.specs.List.{All}
use Rattle.std.proofs.lemmas.Bool.{cases_Bool, cases_eq, cases_lt}
use Rattle.std.proofs.lemmas.List.{length-set, get_or-set_same, get_or-set_other}
use Rattle.std.proofs.lemmas.List.Elements.{All-same, All-push, All-weaker}
use Rattle.game_model.specs.Query.{Query, IsQuery, states}
use Rattle.attractors.specs.Attractor.{IsAttractor}
use Rattle.attractors.proofs.Ordering.{stays-member}
use Rattle.almost_sure.specs.ExcludedSets.{gone_excluded}
use Rattle.expected_rewards.specs.Turned.{turned}
use Rattle.away_ranks.specs.declared.search.AwaySearch.{AwaySearch}
use Rattle.away_ranks.specs.inside.Ranked.{how_many, HasGone, AreRanked}
use Rattle.away_ranks.specs.inside.Left.{AreUnserved}
use Rattle.away_ranks.specs.inside.Search.{AreWaits, IsAwaySearch, HasJoined, HasLetGo}
use Rattle.away_ranks.proofs.Later.{how_many-set, differ}
use Rattle.away_ranks.proofs.Joining.{AreRanked-same, AreWaits-more}
use Rattle.away_ranks.proofs.Lingering.{AreRanked-lingers}

-- none has gone yet
pub HasLetGo-none : (left : List Bool) (rank : ℕ) (old : AwaySearch) → All (HasGone old.gone.items) old.todo.items
    → HasLetGo left rank 0 false old old
HasLetGo-none left rank old todo = record {
  many = refl;
  ranked = refl;
  choices = refl;
  waits = refl;
  top = refl;
  larger = λ s out. out;
  kept = λ s out. refl;
  all = λ s below. absurd (omega (arith, below));
  only = λ s out fresh. absurd (cc);
  todo = todo;
  none = λ is. (refl, refl);
  some = λ is. absurd (cc);
}

-- a state that is left, or that had gone before, stays as it is
pub HasLetGo-passes : (left : List Bool) (rank s : ℕ) (more : Bool) (old now : AwaySearch)
    → HasLetGo left rank s more old now → (slice_index_or left s false ≡ false → HasGone now.gone.items s)
    → HasLetGo left rank (s + 1) more old now
HasLetGo-passes left rank s more old now h here = record {
  many = h.many;
  ranked = h.ranked;
  choices = h.choices;
  waits = h.waits;
  top = h.top;
  larger = h.larger;
  kept = h.kept;
  only = h.only;
  todo = h.todo;
  none = h.none;
  some = h.some;
  all = λ t below unleft. elim (cases_lt t s) [
    | inl before ↦ h.all t before unleft
    | inr past ↦
        let same : s ≡ t = omega (arith, below, past) in
        subst (HasGone now.gone.items) same (here (subst (λ u. slice_index_or left u false ≡ false) (sym same) unleft))
  ];
}

at-most : (left : List Bool) (rank s : ℕ) (more : Bool) (old now : AwaySearch)
    → HasLetGo left rank s more old now → how_many old.gone.items ≤ how_many now.gone.items
at-most left rank s more old now h = elim (cases_Bool more) [
  | inl is ↦ omega (arith, h.some is)
  | inr is ↦ omega (arith, ap how_many (h.none is).0)
]

module _ (left : List Bool) (rank s : ℕ) (more : Bool) (old now new : AwaySearch)
    (h : HasLetGo left rank s more old now) (place : s < length now.gone.items)
    (spot : s < length now.ranks.items) (unleft : slice_index_or left s false ≡ false)
    (within : slice_index_or now.gone.items s false ≡ false) (joined : HasJoined s rank now new) where
  gone-set : new.gone.items ≡ set now.gone.items s true
  gone-set = joined.gone

  larger : (t : ℕ) → HasGone now.gone.items t → HasGone new.gone.items t
  larger t out = subst (λ list. HasGone list t) (sym gone-set) (stays-member now.gone.items s t place out)

  own : HasGone new.gone.items s
  own = subst (λ list. HasGone list s) (sym gone-set) (get_or-set_same now.gone.items s true false place)

  rank-own : slice_index new.ranks.items s ≡ rank
  rank-own = ap (λ list. slice_index list s) joined.ranks ∙ get_or-set_same now.ranks.items s rank 0 spot

  rank-other : (t : ℕ) → t ≢ s → slice_index new.ranks.items t ≡ slice_index now.ranks.items t
  rank-other t other =
      ap (λ list. slice_index list t) joined.ranks ∙ get_or-set_other now.ranks.items s t rank 0 other

  before : (t : ℕ) → t ≢ s → HasGone new.gone.items t → HasGone now.gone.items t
  before t other out = sym (get_or-set_other now.gone.items s t true false other)
      ∙ subst (λ list. HasGone list t) gone-set out

  -- another state goes
  pub HasLetGo-joins : HasLetGo left rank (s + 1) true old new
  HasLetGo-joins = record {
    many = ap length gone-set ∙ length-set now.gone.items s true ∙ h.many;
    ranked = ap length joined.ranks ∙ length-set now.ranks.items s rank ∙ h.ranked;
    choices = joined.choices ∙ h.choices;
    waits = joined.waits ∙ h.waits;
    top = joined.top ∙ h.top;
    larger = λ t out. larger t (h.larger t out);
    kept = λ t out. rank-other t (differ now.gone.items s t within (h.larger t out)) ∙ h.kept t out;
    all = λ t below out. elim (cases_lt t s) [
      | inl earlier ↦ larger t (h.all t earlier out)
      | inr past ↦ let same : s ≡ t = omega (arith, below, past) in subst (HasGone new.gone.items) same own
    ];
    only = λ t out fresh. elim (cases_eq t s) [
      | inl same ↦ (
        subst (λ u. slice_index_or left u false ≡ false) (sym same) unleft,
        ap (slice_index new.ranks.items) same ∙ rank-own,
      )
      | inr other ↦
          let was = h.only t (before t other out) fresh in
          (was.0, rank-other t other ∙ was.1)
    ];
    todo = All-same (HasGone new.gone.items) new.todo.items (now.todo.items ++ s ∷ []) joined.todo
        (All-push (HasGone new.gone.items) now.todo.items s
        (All-weaker (HasGone now.gone.items) (HasGone new.gone.items) larger now.todo.items h.todo) own);
    none = λ is. absurd (cc);
    some = λ is. omega (
      arith,
      at-most left rank s more old now h,
      ap how_many gone-set,
      how_many-set now.gone.items s place within,
    );
  }

module _ (q : Query) (posed : IsQuery q) (left : List Bool) (upto : ℕ) (more : Bool) (old new : AwaySearch)
    (h : IsAwaySearch q old) (drawn : IsAttractor (turned q) (gone_excluded old.gone.items) left)
    (chosen : AreUnserved q old.gone.items left old.choices.items)
    (gone : HasLetGo left (old.top + 1) upto more old new) (all : states q ≤ upto) where
  pub let-go-waits : AreWaits q new.gone.items new.waits.items
  let-go-waits = subst (AreWaits q new.gone.items) (sym gone.waits)
      (AreWaits-more q old.gone.items new.gone.items old.waits.items gone.larger h.waits)

  -- those that went are ranked
  pub let-go-more : more ≡ true → AreRanked q new.gone.items new.choices.items new.ranks.items (old.top + 1)
  let-go-more is =
      AreRanked-same q new.gone.items new.gone.items old.choices.items new.choices.items new.ranks.items
      new.ranks.items (old.top + 1) (old.top + 1) refl gone.choices refl refl
      (AreRanked-lingers q posed old.gone.items new.gone.items left old.choices.items old.ranks.items new.ranks.items
      old.top h.ranked drawn chosen (record {
        later = record { larger = gone.larger; choice = λ s out. refl; rank = gone.kept };
        many = gone.many ∙ h.ranked.many;
        ranked = gone.ranked ∙ h.ranked.ranked;
        all = λ s inside unleft. gone.all s (omega (arith, inside, all)) unleft;
        only = gone.only;
      }) (gone.some is))

  -- if none went, the search is as it was
  pub let-go-none : more ≡ false → IsAwaySearch q new
  let-go-none is = record {
    ranked = AreRanked-same q old.gone.items new.gone.items old.choices.items new.choices.items old.ranks.items
        new.ranks.items old.top new.top (gone.none is).0 gone.choices (gone.none is).1 gone.top h.ranked;
    waits = let-go-waits;
    todo = gone.todo;
  }
