-- Where choices are given: what the search finds are their layers, and the ranks vouch for them.
use Rattle.std.proofs.Common.{◌≡◌, ℕ, zero, suc, ◌<◌, ◌⊎◌, List, length, arith, refl, subst, ◌∙◌, inl, inr, Option}
use Rattle.std.proofs.Common.{Some, None}
use Rattle.std.specs.Prelude.{slice_index, slice_index_or, MatchOption, IsSome}
use Rattle.std.proofs.lemmas.Bool.{cases_lt}
use Rattle.game_model.specs.declared.game.Side.{Side}
use Rattle.game_model.specs.declared.game.Side.TheVariants.{Max, Min}
use Rattle.game_model.specs.Game.{choices_of, choice_of, no_edge}
use Rattle.game_model.specs.Query.{Query, IsQuery, states, side_at}
use Rattle.game_model.specs.Ranks.{HasRankedChoice, Ranked}
use Rattle.rank_certificate.specs.Ranking.{IsEnough, NeedsRank}
use Rattle.rank_certificate.specs.Layers.{MustBeRanked, LeadsInto, IsWithin, AreLayered}
use Rattle.rank_certificate.specs.Carrying.{MayTake, Carries, IsCarriedBy, IsCarried, IsCarriedAt}
use Rattle.rank_certificate.specs.inside.RankLayers.{IsFinishedGrowth}
use Rattle.rank_certificate.proofs.States.{Some-one}
use Rattle.rank_certificate.proofs.Causes.{asked-given, always-asked, given-asked}
use Rattle.rank_certificate.proofs.Found.{Some-none}
use Rattle.rank_certificate.proofs.Carried.{LeadsInto-more}
use Rattle.rank_certificate.proofs.Standing.{all-found, carried-choice, carried-by, carried-least}

module _ (q : Query) (values : List ℕ) (choices : List (Option ℕ)) (vouching : List ℕ) (posed : IsQuery q)
    (vouched : Ranked q values choices vouching) where
  abbrev value : ℕ → ℕ
  value = slice_index values

  abbrev carried : ℕ → ℕ → Type 0
  carried = IsCarried q value (Some choices)

  has-choice : (s : ℕ) → s < states q → NeedsRank q value s → side_at q s ≡ Max
      → HasRankedChoice q value (slice_index vouching) choices s
  has-choice s inside needs max = let free = needs.free in vouched.greatest s inside free.0 free.1 needs.positive max

  -- a given choice gives the value
  given-enough : (side : Side) → (s c : ℕ) → side_at q s ≡ side → s < states q → NeedsRank q value s
      → c < length (choices_of q.game s) → MayTake q value (Some choices) s c → IsEnough value s (choice_of q.game s c)
  given-enough Max s c max inside needs lc asked =
      let has = has-choice s inside needs max in
      subst (λ d. IsEnough value s (choice_of q.game s d)) (Some-one (slice_index_or choices s None) has.choice c
      has.given (asked-given (side_at q s) (slice_index_or choices s None) c max asked)) has.ranked.enough
  given-enough Min s c min inside needs lc asked =
      let free = needs.free in
      (vouched.least s inside free.0 free.1 needs.positive min c lc).enough

  enough : (s c : ℕ) → s < states q → NeedsRank q value s → c < length (choices_of q.game s)
      → MayTake q value (Some choices) s c → IsEnough value s (choice_of q.game s c)
  enough s c = given-enough (side_at q s) s c refl

  -- where choices that have to be ranked lead into a layer, the state is carried into it
  asked-carries : (k s c : ℕ) → s < states q → ((t : ℕ) → t < states q → IsWithin q value choices k t → carried k t)
      → MustBeRanked q choices s c → LeadsInto value (IsWithin q value choices k) s (choice_of q.game s c)
      → Carries q value (Some choices) (carried k) s c
  asked-carries k s c inside earlier asked leads = record {
    may = asked.1;
    leads = LeadsInto-more value (IsWithin q value choices k) (carried k) s (choice_of q.game s c)
        (λ p lp equal. earlier (slice_index_or (choice_of q.game s c).edges p no_edge).to
        (posed.game.inside s c inside asked.0 p no_edge lp)) leads;
  }

  by-given : (k s : ℕ) → s < states q → ((t : ℕ) → t < states q → IsWithin q value choices k t → carried k t)
      → ((c : ℕ) → MustBeRanked q choices s c → LeadsInto value (IsWithin q value choices k) s (choice_of q.game s c))
      → side_at q s ≡ Max → (o : Option ℕ) → slice_index_or choices s None ≡ o
      → (¬ NeedsRank q value s) ⊎ IsCarriedBy Max q value (Some choices) (carried k) s
  by-given k s inside earlier all max None left = inl (λ needs.
      let has = has-choice s inside needs max in Some-none (slice_index_or choices s None) has.choice has.given left)
  by-given k s inside earlier all max (Some c) given = elim (cases_lt c (length (choices_of q.game s))) [
    | inl lc ↦
        let asked : MustBeRanked q choices s c =
        (lc, given-asked (side_at q s) (slice_index_or choices s None) c max given) in
        inr (c, lc, asked-carries k s c inside earlier asked (all c asked))
    | inr past ↦ inl (λ needs.
        let has = has-choice s inside needs max in
        omega (arith, Some-one (slice_index_or choices s None) has.choice c has.given given, has.inside, past))
  ]

  by-asked : (k s : ℕ) → s < states q → ((t : ℕ) → t < states q → IsWithin q value choices k t → carried k t)
      → ((c : ℕ) → MustBeRanked q choices s c → LeadsInto value (IsWithin q value choices k) s (choice_of q.game s c))
      → (side : Side) → side_at q s ≡ side
      → (¬ NeedsRank q value s) ⊎ IsCarriedBy side q value (Some choices) (carried k) s
  by-asked k s inside earlier all Max max = by-given k s inside earlier all max (slice_index_or choices s None) refl
  by-asked k s inside earlier all Min min = inr (λ c lc.
      let asked : MustBeRanked q choices s c = (lc, always-asked (side_at q s) (slice_index_or choices s None) c min) in
      asked-carries k s c inside earlier asked (all c asked))

  within-carried : (k s : ℕ) → s < states q → IsWithin q value choices k s → carried k s
  unfolding IsWithin IsCarried
  within-carried zero s inside free = free
  within-carried (suc k) s inside (inl free) = inl free
  within-carried (suc k) s inside (inr all) =
      by-asked k s inside (λ t there. within-carried k t there) all (side_at q s) refl

  -- and where it is carried, they lead there
  carried-leads : (k s : ℕ) → s < states q → ((t : ℕ) → t < states q → carried k t → IsWithin q value choices k t)
      → (side : Side) → side_at q s ≡ side → IsCarriedBy side q value (Some choices) (carried k) s → (c : ℕ)
      → MustBeRanked q choices s c → LeadsInto value (IsWithin q value choices k) s (choice_of q.game s c)
  carried-leads k s inside earlier Max max (d, ld, h) c asked =
      let same : d ≡ c = Some-one (slice_index_or choices s None) d c
      (asked-given (side_at q s) (slice_index_or choices s None) d max h.may)
      (asked-given (side_at q s) (slice_index_or choices s None) c max asked.1) in
      subst (λ e. LeadsInto value (IsWithin q value choices k) s (choice_of q.game s e)) same
      (LeadsInto-more value (carried k) (IsWithin q value choices k) s (choice_of q.game s d)
      (λ p lp equal. earlier (slice_index_or (choice_of q.game s d).edges p no_edge).to
      (posed.game.inside s d inside ld p no_edge lp)) h.leads)
  carried-leads k s inside earlier Min min all c asked =
      LeadsInto-more value (carried k) (IsWithin q value choices k) s (choice_of q.game s c)
      (λ p lp equal. earlier (slice_index_or (choice_of q.game s c).edges p no_edge).to
      (posed.game.inside s c inside asked.0 p no_edge lp)) (all c asked.0).leads

  carried-within : (k s : ℕ) → s < states q → carried k s → IsWithin q value choices k s
  unfolding IsWithin IsCarried
  carried-within zero s inside free = free
  carried-within (suc k) s inside (inl free) = inl free
  carried-within (suc k) s inside (inr by) =
      inr (λ c asked. carried-leads k s inside (λ t there. carried-within k t there) (side_at q s) refl by c asked)

  -- where all layers are done, each state has its layer as rank
  module _ (found taken : List (Option ℕ)) (g : IsFinishedGrowth q value (Some choices) found taken) where
    all-ranked : (s : ℕ) → s < states q → (r : ℕ) × (slice_index_or found s None ≡ Some r)
    all-ranked = all-found q values (Some choices) found taken posed g choices vouching vouched
        (λ s c asked gives. asked)

    pub numbers-some : {V : Type 0} (P : V → Type 0) (numbers : Option V)
        → MatchOption numbers ((s : ℕ) × (s < length found) × (slice_index_or found s None ≡ None)) P → IsSome numbers
    numbers-some P None (s, inside, left) =
        let at = all-ranked s (let h = g.layers in omega (arith, inside, h.many)) in
        absurd (Some-none (slice_index_or found s None) at.0 at.1 left)
    numbers-some P (Some v) h = refl

    module _ (ranks : List ℕ) (many : length ranks ≡ length found)
        (given : (s : ℕ) → s < length found → slice_index_or found s None ≡ Some (slice_index ranks s)) where
      each : (s : ℕ) → s < states q → IsCarriedAt q value (Some choices) s (slice_index ranks s)
      each s inside = let h = g.layers in h.layer s (slice_index ranks s) (given s (omega (arith, inside, h.many)))

      pub given-layered : AreLayered q values choices ranks
      given-layered = record {
        as_many = many ∙ (let h = g.layers in h.many);
        each = λ s inside.
            let at = each s inside in record {
              within = carried-within (slice_index ranks s) s inside at.within;
              least = λ k within. at.least k (within-carried k s inside within);
            };
      }

      given-greatest : (s : ℕ) → s < states q → NeedsRank q value s → side_at q s ≡ Max
          → HasRankedChoice q value (slice_index ranks) choices s
      given-greatest s inside needs max =
          let at =
          carried-by q values (Some choices) ranks posed each enough s inside needs (slice_index ranks s) refl in
          let by : IsCarriedBy Max q value (Some choices) (carried at.0) s =
          subst (λ side. IsCarriedBy side q value (Some choices) (carried at.0) s) max at.2 in
          let h : Carries q value (Some choices) (carried at.0) s by.0 = by.2 in
          record {
            choice = by.0;
            given = asked-given (side_at q s) (slice_index_or choices s None) by.0 max h.may;
            inside = by.1;
            ranked = carried-choice q values
                (Some choices) ranks posed each enough s by.0 at.0 inside needs by.1 at.1 h;
          }

      -- and the ranks vouch for the values and choices
      pub given-Ranked : Ranked q values choices ranks
      given-Ranked = record {
        units = vouched.units;
        goals = vouched.goals;
        deads = vouched.deads;
        greatest = λ s inside no_goal alive some max.
            given-greatest s inside (record { free = (no_goal, alive); positive = some }) max;
        least = λ s inside no_goal alive some min. carried-least q values
            (Some choices) ranks posed each enough s inside (record { free = (no_goal, alive); positive = some }) min;
      }
