-- What is found when no more states go.
use Rattle.std.proofs.Common.{◌≡◌, ◌⊎◌, ℕ, ◌<◌, ◌≤◌, Bool, true, false, not, map, List, length, get_or, arith, refl}
use Rattle.std.proofs.Common.{sym, ap}
use Rattle.std.proofs.Common.{◌∙◌, subst, inl, inr, Option, IsSomeAnd, Result, Ok, Err, IfOk}
use Rattle.std.specs.Prelude.{slice_index, slice_index_or}
use Rattle.std.proofs.lemmas.Bool.{cases_Bool, not_from_true, not_from_false, not-false, not-true}
use Rattle.std.proofs.lemmas.List.{get_or-map, length-map}
use Rattle.std.proofs.lemmas.List.Sums.{count_by-le-length}
use Rattle.game_model.specs.declared.game.Side.{Side}
use Rattle.game_model.specs.declared.game.Side.TheVariants.{Max, Min}
use Rattle.game_model.specs.Game.{Distribution, choices_of, choice_of, no_edge}
use Rattle.game_model.specs.Query.{Query, IsQuery, states, is_goal, is_dead, side_at}
use Rattle.game_laws.proofs.Planned.{planned_place-given}
use Rattle.attractors.specs.Attractor.{IsAttractor}
use Rattle.attractors.proofs.Least.{member-inside}
use Rattle.almost_sure.specs.ExcludedSets.{gone_excluded}
use Rattle.almost_sure.specs.Values.{IsAlmostSure, AreAlmostSure, IsAway}
use Rattle.almost_sure.proofs.Away.{IsAway-more}
use Rattle.almost_sure.proofs.Nearer.{ComesNearer-grown}
use Rattle.almost_sure.proofs.Reaching.{IsAlmostSure-within, IsAway-not_sure}
use Rattle.expected_rewards.specs.Tables.{is_finite, MayBeTaken, Sinks, Lingers, AreAwayRanks}
use Rattle.expected_rewards.specs.Turned.{turned}
use Rattle.expected_rewards.proofs.Turned.{turned-posed}
use Rattle.away_ranks.specs.Choices.{HasChoices}
use Rattle.away_ranks.specs.inside.Ranked.{HasGone, LeadsAway, AreRanked}

-- if all states that are not left have gone, the others are almost sure
pub are-sure : (q : Query) (gone left : List Bool) → IsQuery q
    → ((s : ℕ) → s < states q → is_dead q s ≡ false) → IsAttractor (turned q) (gone_excluded gone) left
    → ((s : ℕ) → s < states q → slice_index_or left s false ≡ false → slice_index_or gone s false ≡ true)
    → (s : ℕ) → s < states q → slice_index_or gone s false ≡ false → IsAlmostSure (turned q) s
are-sure q gone left posed alive drawn all s inside within =
    IsAlmostSure-within (turned q) gone left (turned-posed q posed)
    (ComesNearer-grown (turned q) gone left (turned-posed q posed)
    (λ t l dead. let no : is_dead q t ≡ false = alive t l in absurd (cc)) drawn.grew)
    (λ t l free. elim (cases_Bool (slice_index_or left t false)) [
      | inl member ↦ member
      | inr other ↦ let is : slice_index_or gone t false ≡ true = all t l other in absurd (cc)
    ]) s inside within

module _ (q : Query) (posed : IsQuery q) (gone finite : List Bool) (choices : List (Option ℕ)) (ranks : List ℕ)
    (top : ℕ) (h : AreRanked q gone choices ranks top) (rest : finite ≡ map not gone) where
  finite-at : (s : ℕ) → s < states q → is_finite finite s ≡ not (slice_index_or gone s false)
  finite-at s inside = ap (λ list. slice_index_or list s false) rest
      ∙ get_or-map not gone s false false (omega (arith, inside, h.many))

  gone-inside : (s : ℕ) → HasGone gone s → s < states q
  gone-inside s out = omega (arith, member-inside gone s out, h.many)

  infinite : (s : ℕ) → HasGone gone s → is_finite finite s ≡ false
  infinite s out = finite-at s (gone-inside s out) ∙ not_from_true (slice_index_or gone s false) out

  has-gone : (s : ℕ) → s < states q → is_finite finite s ≡ false → HasGone gone s
  has-gone s inside out = not-false (slice_index_or gone s false) (sym (finite-at s inside) ∙ out)

  -- what leads away among those that have gone leads away from the finite states
  leads : (s : ℕ) (m : Distribution) → LeadsAway gone (slice_index ranks) s m
      → Sinks finite (slice_index ranks) s m ⊎ Lingers finite (slice_index ranks) s m
  leads s m (inl sinks) = inl (record {
    place = sinks.place;
    inside = sinks.inside;
    away = infinite (get_or m.edges sinks.place no_edge).to sinks.member;
    down = sinks.down;
  })
  leads s m (inr lingers) = inr (λ k d l.
      let at = lingers k d l in
      (infinite (get_or m.edges k d).to at.0, at.1))

  by-side : (s c : ℕ) (side : Side) → side_at q s ≡ side → HasGone gone s → MayBeTaken q Max choices s c
      → LeadsAway gone (slice_index ranks) s (choice_of q.game s c)
  by-side s c Max is_side out taken =
      let one = (h.each s out).greatest is_side in
      let same : one.0 ≡ c = sym (planned_place-given choices s (length (choices_of q.game s)) one.0 one.1 one.2)
      ∙ sym (taken.1 is_side) in
      subst (λ k. LeadsAway gone (slice_index ranks) s (choice_of q.game s k)) same one.3
  by-side s c Min is_side out taken = (h.each s out).least is_side c taken.0

  pub AreAwayRanks-found : AreAwayRanks q finite choices (slice_index ranks)
  AreAwayRanks-found s inside = record {
    goal = λ goal. elim (cases_Bool (slice_index_or gone s false)) [
      | inl out ↦ let no : is_goal q s ≡ false = h.apart s out in absurd (cc)
      | inr within ↦ finite-at s inside ∙ not_from_false (slice_index_or gone s false) within
    ];
    each = λ is_open away c taken.
        leads s (choice_of q.game s c) (by-side s c (side_at q s) refl (has-gone s inside away) taken);
  }

  pub HasChoices-found : HasChoices q finite choices
  HasChoices-found s inside is_side away =
      let one = (h.each s (has-gone s inside away)).greatest is_side in
      subst (λ (o : Option ℕ). IsSomeAnd o (λ c. c < length (choices_of q.game s))) (sym one.1) one.2

  few : top ≤ states q
  few = omega (arith, h.few, count_by-le-length (λ (x : Bool). x) gone, h.many)

  pub ranks-few : (s : ℕ) → s < states q → is_finite finite s ≡ false → slice_index ranks s ≤ states q
  ranks-few s inside away = omega (arith, h.low s (has-gone s inside away), few)

  pub AreAlmostSure-found : ((s : ℕ) → s < states q → slice_index_or gone s false ≡ false
      → IsAlmostSure (turned q) s) → AreAlmostSure (turned q) finite
  AreAlmostSure-found sure =
      let away : (s : ℕ) → s < states q → slice_index_or finite s false ≡ false → IsAway (turned q) (states q) s =
      λ s inside out. IsAway-more (turned q) top (states q) s (turned-posed q posed) few
      (h.away s inside (has-gone s inside out)) in
      record {
        as_many = ap length rest ∙ length-map gone not ∙ h.many;
        exact = λ s inside. (
          λ marked. sure s inside (not-true (slice_index_or gone s false) (sym (finite-at s inside) ∙ marked)),
          λ is. elim (cases_Bool (slice_index_or finite s false)) [
            | inl marked ↦ marked
            | inr other ↦
                absurd (IsAway-not_sure (turned q) (states q) s (turned-posed q posed) (away s inside other) is)
          ],
        );
        unmarked = away;
      }

-- two facts on what was found
pub both-ok : {X Y : Type 0} (r : Result X Y) (P Q R : X → Type 0) → ((x : X) → P x → Q x → R x) → IfOk r P
    → IfOk r Q → IfOk r R
both-ok (Ok x) P Q R join p q = join x p q
both-ok (Err e) P Q R join p q = p
