-- A state sinks into those that have gone.
use Rattle.std.proofs.Common.{◌≡◌, ◌≢◌, ℕ, suc, ◌+◌, ◌<◌, ◌≤◌, Bool, true, false, List, length, get_or, set, arith, sym}
use Rattle.std.proofs.Common.{◌∙◌, subst, inl, inr, Option, Some, None}
use Rattle.std.specs.Prelude.{slice_index, slice_index_or}
use Rattle.std.proofs.lemmas.Bool.{cases_eq}
use Rattle.std.proofs.lemmas.List.{length-set, get_or-set_same, get_or-set_other}
use Rattle.game_model.specs.declared.game.Side.TheVariants.{Max, Min}
use Rattle.game_model.specs.Game.{Distribution, choices_of, choice_of, no_edge}
use Rattle.game_model.specs.Query.{Query, IsQuery, states, is_goal, side_at}
use Rattle.game_model.proofs.Choices.{IsChoiceOf-choice_of}
use Rattle.attractors.specs.Attractor.{meets}
use Rattle.attractors.proofs.Meeting.{meets-successor}
use Rattle.attractors.proofs.Ordering.{stays-member}
use Rattle.almost_sure.specs.Values.{IsAway}
use Rattle.almost_sure.proofs.Away.{IsAway-by, IsAway-more, far-by-one}
use Rattle.expected_rewards.specs.Turned.{turned}
use Rattle.expected_rewards.proofs.Turned.{turned-posed, turned-side, other-min, other-max}
use Rattle.away_ranks.specs.inside.Ranked.{HasGone, SinksIn, IsRankedAt, AreRanked}
use Rattle.away_ranks.proofs.Later.{IsLater, IsRankedAt-later, how_many-set, differ}

-- the maximiser's choice has a successor that has gone, or each choice of the minimiser does
pub record IsSinking (q : Query) (gone : List Bool) (choices : List (Option ℕ)) (s : ℕ) : Type 0 where
  pub greatest : side_at q s ≡ Max → (c : ℕ) × (slice_index_or choices s None ≡ Some c)
      × (c < length (choices_of q.game s)) × (meets gone (choice_of q.game s c) ≡ true)
  pub least : side_at q s ≡ Min → (c : ℕ) → c < length (choices_of q.game s)
      → meets gone (choice_of q.game s c) ≡ true

module _ (q : Query) (posed : IsQuery q) (gone : List Bool) (choices later : List (Option ℕ)) (ranks : List ℕ)
    (top s : ℕ) (h : AreRanked q gone choices ranks top) (inside : s < states q)
    (within : slice_index_or gone s false ≡ false) (same : (t : ℕ) → t ≢ s
    → slice_index_or later t None ≡ slice_index_or choices t None) (sinking : IsSinking q gone later s) where
  abbrev more : List Bool
  more = set gone s true

  abbrev higher : List ℕ
  higher = set ranks s (top + 1)

  is-later : IsLater gone more choices later ranks higher
  is-later = record {
    larger = λ t out. stays-member gone s t (omega (arith, inside, h.many)) out;
    choice = λ t out. same t (differ gone s t within out);
    rank = λ t out. get_or-set_other ranks s t (top + 1) 0 (differ gone s t within out);
  }

  own-rank : slice_index higher s ≡ top + 1
  own-rank = get_or-set_same ranks s (top + 1) 0 (omega (arith, inside, h.ranked))

  sinks : (m : Distribution) → meets gone m ≡ true → SinksIn more (slice_index higher) s m
  sinks m met =
      let at = meets-successor gone m met in
      let t : ℕ = (get_or m.edges at.0 no_edge).to in
      record {
        place = at.0;
        inside = at.1;
        member = is-later.larger t at.2;
        down = omega (arith, h.low t at.2, is-later.rank t at.2, own-rank);
      }

  ranked-here : IsRankedAt q more later (slice_index higher) s
  ranked-here = record {
    greatest = λ is_side.
        let one = sinking.greatest is_side in
        (one.0, one.1, one.2, inl (sinks (choice_of q.game s one.0) one.3));
    least = λ is_side c l. inl (sinks (choice_of q.game s c) (sinking.least is_side c l));
  }

  before : (t : ℕ) → t ≢ s → HasGone more t → HasGone gone t
  before t other out = sym (get_or-set_other gone s t true false other) ∙ out

  far : is_goal q s ≡ false → IsAway (turned q) (suc top) s
  far apart = IsAway-by (turned q) top s (turned-posed q posed) inside apart (λ k. record {
    greatest = λ is_side c l. far-by-one (turned q) gone top k (choice_of q.game s c) (turned-posed q posed)
        (IsChoiceOf-choice_of q.game s c posed.game inside l) h.away
        (sinking.least (other-max (side_at q s) (sym (turned-side q posed s inside) ∙ is_side)) c l);
    least = λ is_side.
        let one = sinking.greatest (other-min (side_at q s) (sym (turned-side q posed s inside) ∙ is_side)) in (
          one.0,
          one.2,
          far-by-one (turned q) gone top k (choice_of q.game s one.0) (turned-posed q posed)
              (IsChoiceOf-choice_of q.game s one.0 posed.game inside one.2) h.away one.3,
        );
  })

  -- so it is ranked above all others
  pub AreRanked-sinks : length later ≡ states q → is_goal q s ≡ false → AreRanked q more later higher (top + 1)
  AreRanked-sinks many apart =
      let next : suc top ≡ top + 1 = omega arith in
      record {
        many = length-set gone s true ∙ h.many;
        planned = many;
        ranked = length-set ranks s (top + 1) ∙ h.ranked;
        few = omega (arith, h.few, how_many-set gone s (omega (arith, inside, h.many)) within);
        apart = λ t out. elim (cases_eq t s) [
          | inl here ↦ subst (λ u. is_goal q u ≡ false) (sym here) apart
          | inr other ↦ h.apart t (before t other out)
        ];
        away = λ t l out. elim (cases_eq t s) [
          | inl here ↦ subst (IsAway (turned q) (top + 1)) (sym here)
              (subst (λ n. IsAway (turned q) n s) next (far apart))
          | inr other ↦ IsAway-more (turned q) top (top + 1) t (turned-posed q posed) (omega arith)
              (h.away t l (before t other out))
        ];
        low = λ t out. elim (cases_eq t s) [
          | inl here ↦ subst (λ u. slice_index higher u ≤ top + 1) (sym here) (omega (arith, own-rank))
          | inr other ↦
              let was : HasGone gone t = before t other out in
              omega (arith, h.low t was, is-later.rank t was)
        ];
        each = λ t out. elim (cases_eq t s) [
          | inl here ↦ subst (IsRankedAt q more later (slice_index higher)) (sym here) ranked-here
          | inr other ↦
              let was : HasGone gone t = before t other out in
              IsRankedAt-later gone more choices later ranks higher is-later t was q (h.each t was)
        ];
      }
