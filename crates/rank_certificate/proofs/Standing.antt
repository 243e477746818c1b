-- Where all layers are done, the ranks and choices make the values ranked, or none do.
use Rattle.std.proofs.Common.{◌≡◌, ℕ, zero, suc, ◌+◌, ◌<◌, ◌≤◌, true, false, List, length, arith, refl, sym, ap, ◌∙◌}
use Rattle.std.proofs.Common.{subst, inl, inr, Option, Some, None}
use Rattle.std.specs.Prelude.{slice_index, slice_index_or, All, IsSomeAnd}
use Rattle.std.proofs.lemmas.Bool.{cases_lt}
use Rattle.std.proofs.Math.Nat.{le-div_iff_mul-le}
use Rattle.game_model.specs.declared.game.Side.{Side}
use Rattle.game_model.specs.declared.game.Side.TheVariants.{Max, Min}
use Rattle.game_model.specs.Game.{choices_of, choice_of, no_edge}
use Rattle.game_model.specs.Query.{Query, IsQuery, states, is_goal, is_dead, side_at}
use Rattle.game_model.specs.Limits.{unit}
use Rattle.game_model.specs.Rounded.{down_value, down_step}
use Rattle.game_model.specs.Ranks.{IsRankedChoice, HasRankedChoice, Ranked}
use Rattle.game_model.proofs.Choices.{IsChoiceOf}
use Rattle.fixed_bellman.specs.Given.{IsGivenBy}
use Rattle.fixed_bellman.proofs.Tables.{choice_fits, IsGivenBy-below}
use Rattle.rank_certificate.specs.Ranking.{NeedsRank, IsEnough}
use Rattle.rank_certificate.specs.Faults.{HasToRank}
use Rattle.rank_certificate.specs.Carrying.{CanBeRanked, MayTake, Carries, IsCarriedBy, IsCarried, IsCarriedAt}
use Rattle.rank_certificate.specs.Carrying.{IsFirstCarrying, IsChosen, IsChosenAt, IsLayeredPlan, Stands}
use Rattle.rank_certificate.specs.inside.RankLayers.{IsFinishedGrowth, AreFollowed}
use Rattle.rank_certificate.proofs.Causes.{given-asked, always-asked}
use Rattle.rank_certificate.proofs.Found.{Some-none}
use Rattle.rank_certificate.proofs.Carried.{IsCarried-more, carried-free, suc-parts, next-whole}
use Rattle.rank_certificate.proofs.NextLayer.{followed-apart}

module _ (q : Query) (values : List ℕ) (only : Option (List (Option ℕ))) (ranks choices : List (Option ℕ))
    (posed : IsQuery q) (g : IsFinishedGrowth q (slice_index values) only ranks choices) where
  abbrev value : ℕ → ℕ
  value = slice_index values

  nothing-left : AreFollowed q value only g.level g.order g.begin (length g.order) ranks
  nothing-left k s c from upto = absurd (omega (arith, from, upto, g.done))

  -- a state with a rank is of the last layer
  ranked-carried : (t r : ℕ) → slice_index_or ranks t None ≡ Some r → IsCarried q value only g.level t
  ranked-carried t r given =
      let h = g.layers in
      elim (cases_lt g.level r) [
        | inl more ↦
            let is : r ≡ g.level + 1 = omega (arith, more, h.most t r given) in
            let at = h.next t (given ∙ ap (λ (n : ℕ). Some n) is) in
            absurd (omega (arith, at.1, at.2))
        | inr most ↦ IsCarried-more q value only r g.level t most (h.layer t r given).within
      ]

  -- choices and ranks that go together with the values, where each of these choices may be taken
  module _ (given : List (Option ℕ)) (vouching : List ℕ) (vouched : Ranked q values given vouching)
      (may : (s c : ℕ) → HasToRank (side_at q s) (slice_index_or given s None) c
      → IsEnough value s (choice_of q.game s c) → MayTake q value only s c) where
    -- a choice that is ranked carries its state into those with a rank
    ranked-carries : (k s c : ℕ) → s < states q → c < length (choices_of q.game s) → slice_index vouching s < suc k
        → ((t : ℕ) → t < states q → slice_index vouching t < k → (r : ℕ) × (slice_index_or ranks t None ≡ Some r))
        → HasToRank (side_at q s) (slice_index_or given s None) c
        → IsRankedChoice value (slice_index vouching) s (choice_of q.game s c)
        → Carries q value only (IsCarried q value only g.level) s c
    ranked-carries k s c inside lc below earlier asked on = record {
      may = may s c asked on.enough;
      leads = record {
        place = on.place;
        inside = on.inside;
        onward = elim on.onward [
          | inl greater ↦ inl greater
          | inr equal ↦
              let t : ℕ = (slice_index_or (choice_of q.game s c).edges on.place no_edge).to in
              let found =
              earlier t (posed.game.inside s c inside lc on.place no_edge on.inside) (omega (arith, equal.1, below)) in
              inr (equal.0, ranked-carried t found.0 found.1)
        ];
      };
    }

    by-ranked : (k s : ℕ) → s < states q → NeedsRank q value s → slice_index vouching s < suc k
        → ((t : ℕ) → t < states q → slice_index vouching t < k → (r : ℕ) × (slice_index_or ranks t None ≡ Some r))
        → (side : Side) → side_at q s ≡ side → IsCarriedBy side q value only (IsCarried q value only g.level) s
    by-ranked k s inside needs below earlier Max max =
        let free = needs.free in
        let has : HasRankedChoice q value (slice_index vouching) given s =
        vouched.greatest s inside free.0 free.1 needs.positive max in (
          has.choice,
          has.inside,
          ranked-carries k s has.choice inside has.inside below earlier
              (given-asked (side_at q s) (slice_index_or given s None) has.choice max has.given) has.ranked,
        )
    by-ranked k s inside needs below earlier Min min = λ c lc.
        let free = needs.free in
        ranked-carries k s c inside lc below earlier (always-asked (side_at q s) (slice_index_or given s None) c min)
        (vouched.least s inside free.0 free.1 needs.positive min c lc)

    -- by induction on the ranks that there are, each state has one
    none-left : (k s : ℕ) → s < states q → slice_index vouching s < k → (o : Option ℕ) → slice_index_or ranks s None ≡ o
        → (r : ℕ) × (slice_index_or ranks s None ≡ Some r)
    none-left k s inside below (Some r) is = (r, is)
    none-left zero s inside below None left = absurd (omega arith)
    none-left (suc k) s inside below None left =
        let h = g.layers in
        let earlier : (t : ℕ) → t < states q → slice_index vouching t < k
        → (r : ℕ) × (slice_index_or ranks t None ≡ Some r) =
        λ t there less. none-left k t there less (slice_index_or ranks t None) refl in
        absurd (followed-apart q value only g.level g.begin g.order ranks choices g.order posed g.positive h
        nothing-left s inside left
        (next-whole q value only g.level s
        (by-ranked k s inside (h.needs s inside left) below earlier (side_at q s) refl)))

    pub all-found : (s : ℕ) → s < states q → (r : ℕ) × (slice_index_or ranks s None ≡ Some r)
    all-found s inside =
        none-left (suc (slice_index vouching s)) s inside (omega arith) (slice_index_or ranks s None) refl

-- where every choice may be taken that gives the value
module _ (q : Query) (values : List ℕ) (ranks choices : List (Option ℕ)) (posed : IsQuery q)
    (g : IsFinishedGrowth q (slice_index values) None ranks choices) where
  -- where a state has no rank, no choices and ranks make the values ranked
  pub left-unranked : (s : ℕ) → s < states q → slice_index_or ranks s None ≡ None → ¬ CanBeRanked q values
  left-unranked s inside left (given, vouching, vouched) =
      let found =
      all-found q values None ranks choices posed g given vouching vouched (λ t c asked enough. enough) s inside in
      Some-none (slice_index_or ranks s None) found.0 found.1 left

  -- and where each has one, they are a plan
  pub finished-plan : (numbers : List ℕ) → length numbers ≡ states q
      → ((s : ℕ) → s < states q → slice_index_or ranks s None ≡ Some (slice_index numbers s))
      → IsLayeredPlan q values choices numbers
  finished-plan numbers many each =
      let h = g.layers in record {
        many = many;
        as_many = h.as_many;
        each = λ s inside. h.layer s (slice_index numbers s) (each s inside);
        chosen = λ s inside. h.chosen s (slice_index numbers s) (each s inside);
      }

-- where each state has its layer as rank, and choices that may be taken give the value
module _ (q : Query) (values : List ℕ) (only : Option (List (Option ℕ))) (ranks : List ℕ) (posed : IsQuery q)
    (each : (s : ℕ) → s < states q → IsCarriedAt q (slice_index values) only s (slice_index ranks s))
    (enough : (s c : ℕ) → s < states q → NeedsRank q (slice_index values) s → c < length (choices_of q.game s)
    → MayTake q (slice_index values) only s c → IsEnough (slice_index values) s (choice_of q.game s c)) where
  abbrev entry : ℕ → ℕ
  entry = slice_index values

  -- a choice that carries a state is ranked
  pub carried-choice : (s c r : ℕ) → s < states q → NeedsRank q entry s → c < length (choices_of q.game s)
      → slice_index ranks s ≡ suc r → Carries q entry only (IsCarried q entry only r) s c
      → IsRankedChoice entry (slice_index ranks) s (choice_of q.game s c)
  carried-choice s c r inside needs lc is h =
      let on = h.leads in record {
        enough = enough s c inside needs lc h.may;
        place = on.place;
        inside = on.inside;
        onward = elim on.onward [
          | inl greater ↦ inl greater
          | inr equal ↦
              let t : ℕ = (slice_index_or (choice_of q.game s c).edges on.place no_edge).to in
              inr (
                equal.0,
                omega (
                  arith,
                  is,
                  (each t (posed.game.inside s c inside lc on.place no_edge on.inside)).least r equal.1,
                ),
              )
        ];
      }

  -- a state that needs a rank is carried into those of smaller rank
  pub carried-by : (s : ℕ) → s < states q → NeedsRank q entry s → (r : ℕ) → slice_index ranks s ≡ r
      → (k : ℕ) × (slice_index ranks s ≡ suc k) × IsCarriedBy (side_at q s) q entry only (IsCarried q entry only k) s
  carried-by s inside needs zero is =
      absurd (carried-free q entry only s (subst (λ n. IsCarried q entry only n s) is (each s inside).within) needs)
  carried-by s inside needs (suc k) is =
      (k, is, suc-parts q entry only k s needs (subst (λ n. IsCarried q entry only n s) is (each s inside).within))

  pub carried-least : (s : ℕ) → s < states q → NeedsRank q entry s → side_at q s ≡ Min → (c : ℕ)
      → c < length (choices_of q.game s) → IsRankedChoice entry (slice_index ranks) s (choice_of q.game s c)
  carried-least s inside needs min c lc =
      let at = carried-by s inside needs (slice_index ranks s) refl in
      let all : IsCarriedBy Min q entry only (IsCarried q entry only at.0) s =
      subst (λ side. IsCarriedBy side q entry only (IsCarried q entry only at.0) s) min at.2 in
      carried-choice s c at.0 inside needs lc at.1 (all c lc)

-- what a plan makes ranked
module _ (q : Query) (values : List ℕ) (choices : List (Option ℕ)) (ranks : List ℕ) (posed : IsQuery q)
    (as_many : length values ≡ states q) (units : All (λ v. v ≤ unit) values)
    (stand : (s : ℕ) → s < states q → Stands q (slice_index values) s)
    (plan : IsLayeredPlan q values choices ranks) where
  plan-enough : (s c : ℕ) → s < states q → NeedsRank q (slice_index values) s → c < length (choices_of q.game s)
      → MayTake q (slice_index values) None s c → IsEnough (slice_index values) s (choice_of q.game s c)
  plan-enough s c inside needs lc enough = enough

  plan-given : (s r : ℕ) → s < states q → NeedsRank q (slice_index values) s
      → slice_index ranks s ≡ suc r → (o : Option ℕ) → slice_index_or choices s None ≡ o
      → IsSomeAnd o (IsFirstCarrying q (slice_index values) None (IsCarried q (slice_index values) None r) s)
      → HasRankedChoice q (slice_index values) (slice_index ranks) choices s
  plan-given s r inside needs is None given h = absurd h
  plan-given s r inside needs is (Some c) given h = record {
    choice = c;
    given = given;
    inside = h.inside;
    ranked = carried-choice q values None ranks posed plan.each plan-enough s c r inside needs h.inside is h.carries;
  }

  plan-greatest : (s : ℕ) → s < states q → NeedsRank q (slice_index values) s → side_at q s ≡ Max → (r : ℕ)
      → slice_index ranks s ≡ r → HasRankedChoice q (slice_index values) (slice_index ranks) choices s
  plan-greatest s inside needs max zero is =
      absurd (carried-free q (slice_index values) None s
      (subst (λ n. IsCarried q (slice_index values) None n s) is (plan.each s inside).within) needs)
  plan-greatest s inside needs max (suc r) is =
      let chosen : IsChosenAt q (slice_index values) None s (suc r) (slice_index_or choices s None) =
      subst (λ (n : ℕ). IsChosenAt q (slice_index values) None s n (slice_index_or choices s None)) is
      (plan.chosen s inside) in
      let first : IsChosen Max q (slice_index values) None (IsCarried q (slice_index values) None r) s
      (slice_index_or choices s None) =
      subst (λ side. IsChosen side q (slice_index values) None (IsCarried q (slice_index values) None r) s
      (slice_index_or choices s None)) max chosen in
      plan-given s r inside needs is (slice_index_or choices s None) refl first

  dead-value : (s : ℕ) → s < states q → is_dead q s ≡ true → (goal : _) → is_goal q s ≡ goal → slice_index values s ≡ 0
  dead-value s inside dead true goal = let no : false ≡ true = sym (posed.apart s goal) ∙ dead in absurd (cc)
  dead-value s inside dead false goal =
      let step : down_step q (slice_index values) s ≡ 0 = rw (goal, dead) refl in
      omega (arith, (stand s inside).step, step)

  pub plan-Ranked : Ranked q values choices ranks
  plan-Ranked = record {
    units = λ s inside. units s 0 (omega (arith, inside, as_many));
    goals = λ s inside. (stand s inside).goal;
    deads = λ s inside dead. dead-value s inside dead (is_goal q s) refl;
    greatest = λ s inside no_goal alive some max.
        plan-greatest s inside (record { free = (no_goal, alive); positive = some }) max (slice_index ranks s) refl;
    least = λ s inside no_goal alive some min. carried-least q values None ranks posed plan.each plan-enough s inside
        (record { free = (no_goal, alive); positive = some }) min;
  }

-- ranked values are not refused at sight
module _ (q : Query) (values : List ℕ) (choices : List (Option ℕ)) (ranks : List ℕ) (posed : IsQuery q)
    (h : Ranked q values choices ranks) where
  enough-down : (s c : ℕ) → s < states q → c < length (choices_of q.game s)
      → IsEnough (slice_index values) s (choice_of q.game s c)
      → slice_index values s ≤ down_value (slice_index values) (choice_of q.game s c)
  enough-down s c inside lc enough =
      let fits : IsChoiceOf q.game (choice_of q.game s c) = choice_fits q s c posed inside lc in
      (le-div_iff_mul-le fits.positive).1 enough

  ranked-gives : (s : ℕ) → s < states q → NeedsRank q (slice_index values) s → (side : Side) → side_at q s ≡ side
      → (c : ℕ) × IsGivenBy q (slice_index values) s (slice_index values s) c
  ranked-gives s inside needs Max max =
      let free = needs.free in
      let has : HasRankedChoice q (slice_index values) (slice_index ranks) choices s =
      h.greatest s inside free.0 free.1 needs.positive max in (
        has.choice,
        record {
          greatest = λ is. (has.inside, enough-down s has.choice inside has.inside has.ranked.enough);
          least = λ min. let no : Max ≡ Min = sym max ∙ min in absurd (cc);
        },
      )
  ranked-gives s inside needs Min min =
      let free = needs.free in (
        0,
        record {
          greatest = λ max. let no : Max ≡ Min = sym max ∙ min in absurd (cc);
          least = λ is.
              (refl, λ c lc. enough-down s c inside lc (h.least s inside free.0 free.1 needs.positive min c lc).enough);
        },
      )

  ranked-step : (s : ℕ) → s < states q → (goal dead : _) → is_goal q s ≡ goal → is_dead q s ≡ dead
      → slice_index values s ≤ down_step q (slice_index values) s
  ranked-step s inside true dead goal is =
      let step : down_step q (slice_index values) s ≡ unit = rw goal refl in
      omega (arith, step, h.goals s inside goal)
  ranked-step s inside false true goal is = omega (arith, h.deads s inside is)
  ranked-step s inside false false goal is = elim (cases_lt 0 (slice_index values s)) [
    | inl some ↦
        let given = ranked-gives s inside (record { free = (goal, is); positive = some }) (side_at q s) refl in
        IsGivenBy-below q (slice_index values) s (slice_index values s) given.0 posed inside (goal, is) given.1
    | inr none ↦ omega (arith, none)
  ]

  pub Ranked-stands : (s : ℕ) → s < states q → Stands q (slice_index values) s
  Ranked-stands s inside = record {
    goal = h.goals s inside;
    step = ranked-step s inside (is_goal q s) (is_dead q s) refl refl;
  }
