-- There is one layered plan of a table, and one lower guess.
use Rattle.std.proofs.Common.{◌≡◌, ℕ, zero, suc, ◌<◌, Bool, List, arith, sym, subst, ap, ◌∙◌, inl, inr, Option, Some}
use Rattle.std.proofs.Common.{None}
use Rattle.std.specs.Prelude.{slice_index, slice_index_or}
use Rattle.std.proofs.lemmas.List.{ext_get_or}
use Rattle.game_model.specs.declared.game.Side.{Side}
use Rattle.game_model.specs.declared.game.Side.TheVariants.{Max, Min}
use Rattle.game_model.specs.Query.{Query, states, side_at}
use Rattle.game_model.specs.Tables.{IsTable}
use Rattle.rank_certificate.specs.Layers.{AreLayered}
use Rattle.rank_certificate.specs.Carrying.{Carries, IsCarried, IsChosen, IsChosenAt, IsLayeredPlan}
use Rattle.fixed_bellman.proofs.Firsts.{first-one, IsTable-one}
use Rattle.lower_guess.specs.LowerGuess.{excess, raised_table, IsRefused, AreRefused, IsFirstAt, IsFirstGuess}
use Rattle.lower_guess.specs.LowerGuess.{IsRaised, IsUnraised, IsLowerGuess}

chosen-one : (q : Query) (value : ℕ → ℕ) (among : ℕ → Type 0) (s : ℕ) (side : Side) (a b : Option ℕ)
    → IsChosen side q value None among s a → IsChosen side q value None among s b → a ≡ b
chosen-one q value among s Max None b h k = absurd h
chosen-one q value among s Max (Some c) None h k = absurd k
chosen-one q value among s Max (Some c) (Some d) h k =
    ap (λ (n : ℕ). Some n) (first-one (λ n. ¬ Carries q value None among s n) c d (λ no. no h.carries)
    (λ no. no k.carries) h.before k.before)
chosen-one q value among s Min a b h k = h ∙ sym k

chosen-at-one : (q : Query) (value : ℕ → ℕ) (s r : ℕ) (a b : Option ℕ) → IsChosenAt q value None s r a
    → IsChosenAt q value None s r b → a ≡ b
chosen-at-one q value s zero a b h k = h ∙ sym k
chosen-at-one q value s (suc r) a b h k = chosen-one q value (IsCarried q value None r) s (side_at q s) a b h k

-- the ranks and choices of a table are fixed
module _ (q : Query) (values : List ℕ) (choices choices' : List (Option ℕ)) (ranks ranks' : List ℕ)
    (h : IsLayeredPlan q values choices ranks) (k : IsLayeredPlan q values choices' ranks') where
  rank-one : (s : ℕ) → s < states q → slice_index ranks s ≡ slice_index ranks' s
  rank-one s inside =
      let one = h.each s inside in
      let other = k.each s inside in
      omega (arith, one.least (slice_index ranks' s) other.within, other.least (slice_index ranks s) one.within)

  pub plan-ranks-one : ranks ≡ ranks'
  plan-ranks-one = ext_get_or 0 ranks ranks' (h.many ∙ sym k.many)
      (λ s inside. rank-one s (omega (arith, inside, h.many)))

  pub plan-choices-one : choices ≡ choices'
  plan-choices-one = ext_get_or None choices choices' (h.as_many ∙ sym k.as_many) (λ s inside.
      let there : s < states q = omega (arith, inside, h.as_many) in
      chosen-at-one q (slice_index values) s (slice_index ranks s) (slice_index_or choices s None)
      (slice_index_or choices' s None) (h.chosen s there)
      (subst (λ (r : ℕ). IsChosenAt q (slice_index values) None s r (slice_index_or choices' s None))
      (sym (rank-one s there)) (k.chosen s there)))

layered-one : (q : Query) (values : List ℕ) (choices : List (Option ℕ)) (ranks ranks' : List ℕ)
    → AreLayered q values choices ranks → AreLayered q values choices ranks' → ranks ≡ ranks'
layered-one q values choices ranks ranks' h k = ext_get_or 0 ranks ranks' (h.as_many ∙ sym k.as_many) (λ s inside.
    let there : s < states q = omega (arith, inside, h.as_many) in
    let one = h.each s there in
    let other = k.each s there in
    omega (arith, one.least (slice_index ranks' s) other.within, other.least (slice_index ranks s) one.within))

module _ (q : Query) (marks : List Bool) (base : ℕ → ℕ) where
  at-one : (e : ℕ) (table other : List ℕ) → IsFirstAt q marks base e table
      → IsFirstAt q marks base e other → table ≡ other
  at-one e table other h k =
      let same : h.steps ≡ k.steps = first-one (λ j. IsRefused q (raised_table q marks base e j)) h.steps k.steps
      (λ no. no table h.entries h.ranked) (λ no. no other k.entries k.ranked) h.refused k.refused in
      IsTable-one q (raised_table q marks base e k.steps) table other
      (subst (λ j. IsTable q (raised_table q marks base e j) table) same h.entries) k.entries

  guess-one : (table other : List ℕ) → IsFirstGuess q marks base table → IsFirstGuess q marks base other → table ≡ other
  guess-one table other h k =
      let same : h.place ≡ k.place = first-one (λ i. AreRefused q marks base (excess i)) h.place k.place
      (λ no. no h.here.steps h.here.few table h.here.entries h.here.ranked)
      (λ no. no k.here.steps k.here.few other k.here.entries k.here.ranked) h.earlier k.earlier in
      at-one (excess k.place) table other (subst (λ i. IsFirstAt q marks base (excess i) table) same h.here) k.here

-- whichever choices were handed in, a raised table is found, or none
module _ (q : Query) (marks : List Bool) (base : List ℕ) where
  apart : (given : List (Option ℕ)) (values values' : List ℕ) (choices choices' : List (Option ℕ))
      (ranks ranks' : List ℕ) → IsRaised q marks base values choices ranks
      → IsUnraised q marks base given values' choices' ranks' → ⊥
  apart given values values' choices choices' ranks ranks' h k =
      let f = h.first in
      k.refused f.place f.listed f.here.steps f.here.few values f.here.entries f.here.ranked

  -- so there is one table
  pub one-lower-table : (given given' : List (Option ℕ)) (values values' : List ℕ) (choices choices' : List (Option ℕ))
      (ranks ranks' : List ℕ) → IsLowerGuess q marks base given values choices ranks
      → IsLowerGuess q marks base given' values' choices' ranks' → values ≡ values'
  one-lower-table given given' values values' choices choices' ranks ranks' (inl h) (inl k) =
      guess-one q marks (slice_index base) values values' h.first k.first
  one-lower-table given given' values values' choices choices' ranks ranks' (inl h) (inr k) =
      absurd (apart given' values values' choices choices' ranks ranks' h k)
  one-lower-table given given' values values' choices choices' ranks ranks' (inr h) (inl k) =
      absurd (apart given values' values choices' choices ranks' ranks k h)
  one-lower-table given given' values values' choices choices' ranks ranks' (inr h) (inr k) =
      h.values_are ∙ sym k.values_are

  -- and for the same choices one plan
  pub one-lower-guess : (given : List (Option ℕ)) (values values' : List ℕ) (choices choices' : List (Option ℕ))
      (ranks ranks' : List ℕ) → IsLowerGuess q marks base given values choices ranks
      → IsLowerGuess q marks base given values' choices' ranks'
      → (values ≡ values') × (choices ≡ choices') × (ranks ≡ ranks')
  one-lower-guess given values values' choices choices' ranks ranks' (inl h) (inl k) =
      let same : values ≡ values' = guess-one q marks (slice_index base) values values' h.first k.first in
      let plan : IsLayeredPlan q values' choices ranks =
      subst (λ list. IsLayeredPlan q list choices ranks) same h.plan in (
        same,
        plan-choices-one q values' choices choices' ranks ranks' plan k.plan,
        plan-ranks-one q values' choices choices' ranks ranks' plan k.plan,
      )
  one-lower-guess given values values' choices choices' ranks ranks' (inl h) (inr k) =
      absurd (apart given values values' choices choices' ranks ranks' h k)
  one-lower-guess given values values' choices choices' ranks ranks' (inr h) (inl k) =
      absurd (apart given values' values choices' choices ranks' ranks k h)
  one-lower-guess given values values' choices choices' ranks ranks' (inr h) (inr k) = (
    h.values_are ∙ sym k.values_are,
    h.choices_are ∙ sym k.choices_are,
    layered-one q base given ranks ranks' h.ranks_are k.ranks_are,
  )
