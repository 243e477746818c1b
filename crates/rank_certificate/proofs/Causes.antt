-- Values, choices and ranks have one fault at most.
use Rattle.std.proofs.Common.{◌≡◌, ℕ, ◌⊎◌, List, arith, refl, ap, subst, sym, ◌∙◌, inl, inr, Option, Some}
use Rattle.std.proofs.Common.{None}
use Rattle.std.specs.Prelude.{slice_index, slice_index_or}
use Rattle.std.proofs.lemmas.Bool.{both_ways, cases_order}
use Rattle.game_model.specs.declared.game.Side.{Side}
use Rattle.game_model.specs.declared.game.Side.TheVariants.{Max, Min}
use Rattle.game_model.specs.Game.{Distribution, choice_of}
use Rattle.game_model.specs.Query.{Query, is_goal, is_dead, side_at}
use Rattle.game_model.specs.Ranks.{IsRankedChoice}
use Rattle.game_model.specs.Tables.{IsFirstOver}
use Rattle.fixed_bellman.proofs.Firsts.{first-one, over-one}
use Rattle.rank_certificate.specs.declared.check.RankCause.{RankCause}
use Rattle.rank_certificate.specs.declared.check.RankCause.TheVariants.{Value, Choice, Short, NoStep}
use Rattle.rank_certificate.specs.Ranking.{IsEnough, IsShort, NeedsRank, HasChoice, IsRankedAt}
use Rattle.rank_certificate.specs.Faults.{IsMisvalued, HasToRank, IsNextToRank, IsLackOf, IsCauseAt, IsFirstUnranked}
use Rattle.rank_certificate.specs.Faults.{IsRankFault}
use Rattle.rank_certificate.proofs.States.{given-choice, ranked-given, no_choice-unranked, misvalued-unranked}

-- a choice that lacks something is not ranked
lack-unranked : (value rank : ℕ → ℕ) (s : ℕ) (m : Distribution) (c : ℕ) (cause : RankCause)
    → IsLackOf value rank s m c cause → ¬ IsRankedChoice value rank s m
lack-unranked value rank s m c Value h ranked = absurd h
lack-unranked value rank s m c Choice h ranked = absurd h
lack-unranked value rank s m c (Short d) h ranked = omega (arith, h.1, ranked.enough)
lack-unranked value rank s m c (NoStep d) h ranked =
    h.2 (record { place = ranked.place; inside = ranked.inside; onward = ranked.onward })

-- of the maximiser the given choice has to be ranked
pub asked-given : (side : Side) (given : Option ℕ) (c : ℕ) → side ≡ Max → HasToRank side given c → given ≡ Some c
asked-given Max given c max asked = asked
asked-given Min given c max asked = absurd (cc)

pub given-asked : (side : Side) (given : Option ℕ) (c : ℕ) → side ≡ Max → given ≡ Some c → HasToRank side given c
given-asked Max given c max is = is
given-asked Min given c max is = absurd (cc)

-- of the minimiser every one
pub always-asked : (side : Side) (given : Option ℕ) (c : ℕ) → side ≡ Min → HasToRank side given c
always-asked Max given c min = absurd (cc)
always-asked Min given c min = tt

module _ (q : Query) (value rank : ℕ → ℕ) (choices : List (Option ℕ)) (s : ℕ) where
  -- a state whose next choice to rank is not ranked is not
  next-unranked : (side : Side) → side_at q s ≡ side → (c : ℕ) → IsNextToRank q value rank choices s c
      → ¬ IsRankedChoice value rank s (choice_of q.game s c) → ¬ IsRankedAt q value rank choices s
  next-unranked Max max c next unranked at =
      unranked (ranked-given q value rank choices s next.needs max at c
      (asked-given (side_at q s) (slice_index_or choices s None) c max next.asked))
  next-unranked Min min c next unranked at = unranked (at.least next.needs min c next.inside)

  pub cause-unranked : (cause : RankCause) → IsCauseAt q value rank choices s cause
      → ¬ IsRankedAt q value rank choices s
  cause-unranked Value h = misvalued-unranked q value rank choices s h
  cause-unranked Choice h = no_choice-unranked q value rank choices s h.0 h.1 h.2
  cause-unranked (Short c) h =
      next-unranked (side_at q s) refl c h.0 (lack-unranked value rank s (choice_of q.game s c) c (Short c) h.1)
  cause-unranked (NoStep c) h =
      next-unranked (side_at q s) refl c h.0 (lack-unranked value rank s (choice_of q.game s c) c (NoStep c) h.1)

  -- causes that exclude each other
  misvalued-needs : IsMisvalued q value s → ¬ NeedsRank q value s
  misvalued-needs (inl goal) needs = let free = needs.free in both_ways (is_goal q s) free.0 goal.0
  misvalued-needs (inr dead) needs = let free = needs.free in both_ways (is_dead q s) free.1 dead.0

  no_choice-next : side_at q s ≡ Max → ¬ HasChoice q choices s → (c : ℕ) → ¬ IsNextToRank q value rank choices s c
  no_choice-next max none c next = none (given-choice q value rank choices s c
      (asked-given (side_at q s) (slice_index_or choices s None) c max next.asked) next.inside)

  next-one : (c d : ℕ) (cause other : RankCause) → IsNextToRank q value rank choices s c
      → IsNextToRank q value rank choices s d → IsLackOf value rank s (choice_of q.game s c) c cause
      → IsLackOf value rank s (choice_of q.game s d) d other → c ≡ d
  next-one c d cause other h k lack lack' = elim (cases_order c d) [
    | inl same ↦ same
    | inr apart ↦ elim apart [
      | inl less ↦ absurd (lack-unranked value rank s (choice_of q.game s c) c cause lack (k.before c less h.asked))
      | inr more ↦ absurd (lack-unranked value rank s (choice_of q.game s d) d other lack' (h.before d more k.asked))
    ]
  ]

  short-step : (c d : ℕ) → IsCauseAt q value rank choices s (Short c) → ¬ IsCauseAt q value rank choices s (NoStep d)
  short-step c d h k =
      let same : c ≡ d = next-one c d (Short c) (NoStep d) h.0 k.0 h.1 k.1 in
      let short : IsShort value s (choice_of q.game s d) =
      subst (λ e. IsShort value s (choice_of q.game s e)) same (let lack = h.1 in lack.1) in
      let enough : IsEnough value s (choice_of q.game s d) = let lack = k.1 in lack.1 in
      omega (arith, short, enough)

  -- a state has one cause at most
  cause-one : (cause other : RankCause) → IsCauseAt q value rank choices s cause
      → IsCauseAt q value rank choices s other → cause ≡ other
  cause-one Value Value h k = refl
  cause-one Value Choice h k = absurd (misvalued-needs h k.0)
  cause-one Value (Short d) h k = let next = k.0 in absurd (misvalued-needs h next.needs)
  cause-one Value (NoStep d) h k = let next = k.0 in absurd (misvalued-needs h next.needs)
  cause-one Choice Value h k = absurd (misvalued-needs k h.0)
  cause-one Choice Choice h k = refl
  cause-one Choice (Short d) h k = absurd (no_choice-next h.1 h.2 d k.0)
  cause-one Choice (NoStep d) h k = absurd (no_choice-next h.1 h.2 d k.0)
  cause-one (Short c) Value h k = let next = h.0 in absurd (misvalued-needs k next.needs)
  cause-one (Short c) Choice h k = absurd (no_choice-next k.1 k.2 c h.0)
  cause-one (Short c) (Short d) h k = ap Short (next-one c d (Short c) (Short d) h.0 k.0 h.1 k.1)
  cause-one (Short c) (NoStep d) h k = absurd (short-step c d h k)
  cause-one (NoStep c) Value h k = let next = h.0 in absurd (misvalued-needs k next.needs)
  cause-one (NoStep c) Choice h k = absurd (no_choice-next k.1 k.2 c h.0)
  cause-one (NoStep c) (Short d) h k = absurd (short-step d c k h)
  cause-one (NoStep c) (NoStep d) h k = ap NoStep (next-one c d (NoStep c) (NoStep d) h.0 k.0 h.1 k.1)

module _ (q : Query) (values : List ℕ) (choices : List (Option ℕ)) (ranks : List ℕ) where
  first_unranked-one : (s t : ℕ) (cause other : RankCause) → IsFirstUnranked q values choices ranks s cause
      → IsFirstUnranked q values choices ranks t other → (s ≡ t) × (cause ≡ other)
  first_unranked-one s t cause other h k =
      let same : s ≡ t = first-one (λ r. IsRankedAt q (slice_index values) (slice_index ranks) choices r) s t
      (cause-unranked q (slice_index values) (slice_index ranks) choices s cause h.caused)
      (cause-unranked q (slice_index values) (slice_index ranks) choices t other k.caused) h.before k.before in (
        same,
        cause-one q (slice_index values) (slice_index ranks) choices t cause other
            (subst (λ r. IsCauseAt q (slice_index values) (slice_index ranks) choices r cause) same h.caused) k.caused,
      )

  over-unranked : (s t : ℕ) (cause : RankCause) → IsFirstOver values s
      → ¬ IsFirstUnranked q values choices ranks t cause
  over-unranked s t cause h k = omega (arith, k.units s 0 h.inside, h.over)

  -- a fault is an entry above the unit, or a state that is not ranked
  kind : (s : ℕ) (cause : RankCause) → IsRankFault q values choices ranks s cause
      → ((cause ≡ Value) × IsFirstOver values s) ⊎ IsFirstUnranked q values choices ranks s cause
  kind s Value (inl over) = inl (refl, over)
  kind s Value (inr first) = inr first
  kind s Choice h = inr h
  kind s (Short c) h = inr h
  kind s (NoStep c) h = inr h

  -- two faults are the same
  pub rank_fault-one : (s t : ℕ) (cause other : RankCause) → IsRankFault q values choices ranks s cause
      → IsRankFault q values choices ranks t other → (s ≡ t) × (cause ≡ other)
  rank_fault-one s t cause other h k = elim (kind s cause h) [
    | inl over ↦ elim (kind t other k) [
      | inl over' ↦ (over-one values s t over.1 over'.1, over.0 ∙ sym over'.0)
      | inr first ↦ absurd (over-unranked s t other over.1 first)
    ]
    | inr first ↦ elim (kind t other k) [
      | inl over ↦ absurd (over-unranked t s cause over.1 first)
      | inr first' ↦ first_unranked-one s t cause other first first'
    ]
  ]
