-- A layered plan has a choice only where a plan needs one, and its ranks are the layers of its choices.
use Rattle.std.proofs.Common.{◌≡◌, ℕ, zero, suc, ◌<◌, ◌≤◌, ◌⊎◌, true, false, List, length, arith, refl, sym, subst, ◌∙◌}
use Rattle.std.proofs.Common.{inl, inr, Option, Some, None, le_refl}
use Rattle.std.specs.Prelude.{slice_index, slice_index_or}
use Rattle.game_model.specs.declared.game.Side.{Side}
use Rattle.game_model.specs.declared.game.Side.TheVariants.{Max, Min}
use Rattle.game_model.specs.Game.{choices_of, choice_of, no_edge}
use Rattle.game_model.specs.Query.{Query, IsQuery, states, is_goal, is_dead, side_at}
use Rattle.rank_certificate.specs.Ranking.{IsEnough, NeedsRank}
use Rattle.rank_certificate.specs.Layers.{MustBeRanked, LeadsInto, IsWithin, AreLayered}
use Rattle.rank_certificate.specs.Carrying.{Carries, IsCarriedBy, IsCarried, IsFirstCarrying, IsChosen, IsChosenAt}
use Rattle.rank_certificate.specs.Carrying.{IsLayeredPlan}
use Rattle.rank_certificate.proofs.States.{Some-one}
use Rattle.rank_certificate.proofs.Causes.{asked-given, given-asked, always-asked}
use Rattle.rank_certificate.proofs.Carried.{LeadsInto-more, carried-free, free-carried}

-- the minimiser has no choice, whatever the rank
least-none : (q : Query) (value : ℕ → ℕ) (s r : ℕ) (choice : Option ℕ) → side_at q s ≡ Min
    → IsChosenAt q value None s r choice → choice ≡ None
least-none q value s zero choice min chosen = chosen
least-none q value s (suc r) choice min chosen =
    let none : IsChosen Min q value None (IsCarried q value None r) s choice =
    subst (λ side. IsChosen side q value None (IsCarried q value None r) s choice) min chosen in
    none

-- the maximiser has one for each rank but 0
greatest-some : (q : Query) (value : ℕ → ℕ) (among : ℕ → Type 0) (s : ℕ) (choice : Option ℕ)
    → IsChosen Max q value None among s choice → (c : ℕ) × (choice ≡ Some c) × IsFirstCarrying q value None among s c
greatest-some q value among s None chosen = absurd chosen
greatest-some q value among s (Some c) chosen = (c, refl, chosen)

-- a state of a later layer needs no rank, or is carried into the one before
later-parts : (q : Query) (value : ℕ → ℕ) (r s : ℕ) → IsCarried q value None (suc r) s
    → (¬ NeedsRank q value s) ⊎ IsCarriedBy (side_at q s) q value None (IsCarried q value None r) s
unfolding IsCarried
later-parts q value r s h = h

module _ (q : Query) (values : List ℕ) (choices : List (Option ℕ)) (ranks : List ℕ)
    (plan : IsLayeredPlan q values choices ranks) where
  abbrev value : ℕ → ℕ
  value = slice_index values

  -- the choice for a rank that is known
  chosen-at : (s r : ℕ) → s < states q → slice_index ranks s ≡ r
      → IsChosenAt q value None s r (slice_index_or choices s None)
  chosen-at s r inside is =
      subst (λ (n : ℕ). IsChosenAt q value None s n (slice_index_or choices s None)) is (plan.chosen s inside)

  -- a state that needs no rank has no choice
  unneeded-none : (s : ℕ) → s < states q → ¬ NeedsRank q value s → slice_index_or choices s None ≡ None
  unneeded-none s inside free =
      let first : slice_index ranks s ≡ 0 =
      omega (arith, (plan.each s inside).least 0 (free-carried q value None s free)) in
      chosen-at s 0 inside first

  pub none-at-goals : (s : ℕ) → s < states q → is_goal q s ≡ true → slice_index_or choices s None ≡ None
  none-at-goals s inside goal = unneeded-none s inside
      (λ needs. let free = needs.free in let no : false ≡ true = sym free.0 ∙ goal in absurd (cc))

  pub none-at-deads : (s : ℕ) → s < states q → is_dead q s ≡ true → slice_index_or choices s None ≡ None
  none-at-deads s inside dead = unneeded-none s inside
      (λ needs. let free = needs.free in let no : false ≡ true = sym free.1 ∙ dead in absurd (cc))

  pub none-at-least : (s : ℕ) → s < states q → side_at q s ≡ Min → slice_index_or choices s None ≡ None
  none-at-least s inside min =
      least-none q value s (slice_index ranks s) (slice_index_or choices s None) min (plan.chosen s inside)

  pub none-at-zero : (s : ℕ) → s < states q → value s ≡ 0 → slice_index_or choices s None ≡ None
  none-at-zero s inside none = unneeded-none s inside (λ needs. omega (arith, needs.positive, none))

  -- a state of rank 0 needs none
  zero-free : (s : ℕ) → s < states q → slice_index ranks s ≡ 0 → ¬ NeedsRank q value s
  zero-free s inside is =
      carried-free q value None s (subst (λ n. IsCarried q value None n s) is (plan.each s inside).within)

  -- where the maximiser has a rank, the choice that is given is the first that carries the state
  given-first : (s r : ℕ) → s < states q → slice_index ranks s ≡ suc r → side_at q s ≡ Max
      → (c : ℕ) × (slice_index_or choices s None ≡ Some c) × IsFirstCarrying q value None (IsCarried q value None r) s c
  given-first s r inside is max =
      let chosen : IsChosen (side_at q s) q value None (IsCarried q value None r) s (slice_index_or choices s None) =
      chosen-at s (suc r) inside is in
      greatest-some q value (IsCarried q value None r) s (slice_index_or choices s None) (subst
      (λ side. IsChosen side q value None (IsCarried q value None r) s (slice_index_or choices s None)) max chosen)

  -- where the minimiser has one, each choice carries it
  all-carry : (s r : ℕ) → s < states q → slice_index ranks s ≡ suc r → side_at q s ≡ Min → (c : ℕ)
      → c < length (choices_of q.game s) → Carries q value None (IsCarried q value None r) s c
  all-carry s r inside is min =
      let at = plan.each s inside in
      elim (later-parts q value r s (subst (λ n. IsCarried q value None n s) is at.within)) [
        | inl free ↦ absurd (omega (arith, is, at.least 0 (free-carried q value None s free)))
        | inr by ↦
            let all : IsCarriedBy Min q value None (IsCarried q value None r) s =
            subst (λ side. IsCarriedBy side q value None (IsCarried q value None r) s) min by in
            all
      ]

  -- each choice that has to be ranked carries its state
  asked-carries : (s r : ℕ) → s < states q → slice_index ranks s ≡ suc r → (side : Side) → side_at q s ≡ side → (c : ℕ)
      → MustBeRanked q choices s c → Carries q value None (IsCarried q value None r) s c
  asked-carries s r inside is Max max c asked =
      let first = given-first s r inside is max in
      let same : first.0 ≡ c = Some-one (slice_index_or choices s None) first.0 c first.1
      (asked-given (side_at q s) (slice_index_or choices s None) c max asked.1) in
      subst (λ d. Carries q value None (IsCarried q value None r) s d) same first.2.carries
  asked-carries s r inside is Min min c asked = all-carry s r inside is min c asked.0

  module _ (posed : IsQuery q) where
    edge-inside : (s c p : ℕ) → s < states q → c < length (choices_of q.game s)
        → p < length (choice_of q.game s c).edges
        → (slice_index_or (choice_of q.game s c).edges p no_edge).to < states q
    edge-inside s c p inside lc lp = posed.game.inside s c inside lc p no_edge lp

    -- a state is within the layer of its rank
    plan-within : (k s : ℕ) → s < states q → slice_index ranks s ≤ k → (rank : ℕ) → slice_index ranks s ≡ rank
        → IsWithin q value choices k s
    unfolding IsWithin
    plan-within zero s inside most rank is = zero-free s inside (omega (arith, most))
    plan-within (suc k) s inside most zero is = inl (zero-free s inside is)
    plan-within (suc k) s inside most (suc r) is = inr (λ c asked.
        let carries = asked-carries s r inside is (side_at q s) refl c asked in
        LeadsInto-more value (IsCarried q value None r) (IsWithin q value choices k) s (choice_of q.game s c)
        (λ p lp equal there.
        let t : ℕ = (slice_index_or (choice_of q.game s c).edges p no_edge).to in
        let to : t < states q = edge-inside s c p inside asked.0 lp in
        plan-within k t to (omega (arith, most, is, (plan.each t to).least r there)) (slice_index ranks t) refl)
        carries.leads)

    -- a choice that gives the value, and leads into a layer of the choices, carries the state
    asked-on : (k s c : ℕ) → s < states q
        → ((t : ℕ) → t < states q → IsWithin q value choices k t → IsCarried q value None k t)
        → MustBeRanked q choices s c → LeadsInto value (IsWithin q value choices k) s (choice_of q.game s c)
        → IsEnough value s (choice_of q.game s c) → Carries q value None (IsCarried q value None k) s c
    asked-on k s c inside earlier asked leads enough = record {
      may = enough;
      leads = LeadsInto-more value (IsWithin q value choices k) (IsCarried q value None k) s (choice_of q.game s c)
          (λ p lp equal. earlier (slice_index_or (choice_of q.game s c).edges p no_edge).to
          (edge-inside s c p inside asked.0 lp)) leads;
    }

    by-asked : (k s r : ℕ) → s < states q
        → ((t : ℕ) → t < states q → IsWithin q value choices k t → IsCarried q value None k t)
        → slice_index ranks s ≡ suc r
        → ((c : ℕ) → MustBeRanked q choices s c → LeadsInto value (IsWithin q value choices k) s (choice_of q.game s c))
        → (side : Side) → side_at q s ≡ side → IsCarriedBy side q value None (IsCarried q value None k) s
    by-asked k s r inside earlier is all Max max =
        let first = given-first s r inside is max in
        let asked : MustBeRanked q choices s first.0 =
        (first.2.inside, given-asked (side_at q s) (slice_index_or choices s None) first.0 max first.1) in (
          first.0,
          first.2.inside,
          asked-on k s first.0 inside earlier asked (all first.0 asked)
              (asked-carries s r inside is Max max first.0 asked).may,
        )
    by-asked k s r inside earlier is all Min min = λ c lc.
        let asked : MustBeRanked q choices s c =
        (lc, always-asked (side_at q s) (slice_index_or choices s None) c min) in
        asked-on k s c inside earlier asked (all c asked) (all-carry s r inside is min c lc).may

    -- a layer of the choices has states of no greater rank
    within-carried : (k s : ℕ) → s < states q → (rank : ℕ) → slice_index ranks s ≡ rank → IsWithin q value choices k s
        → IsCarried q value None k s
    unfolding IsWithin IsCarried
    within-carried zero s inside rank is free = free
    within-carried (suc k) s inside rank is (inl free) = inl free
    within-carried (suc k) s inside zero is (inr all) = inl (zero-free s inside is)
    within-carried (suc k) s inside (suc r) is (inr all) = inr (by-asked k s r inside
        (λ t there. within-carried k t there (slice_index ranks t) refl) is all (side_at q s) refl)

    pub plan-layered : AreLayered q values choices ranks
    plan-layered = record {
      as_many = plan.many;
      each = λ s inside. record {
        within = plan-within (slice_index ranks s) s inside (le_refl (slice_index ranks s)) (slice_index ranks s) refl;
        least = λ k within. (plan.each s inside).least k (within-carried k s inside (slice_index ranks s) refl within);
      };
    }
