-- The states that are not left linger.
use Rattle.std.proofs.Common.{◌≡◌, ℕ, suc, ◌+◌, ◌<◌, ◌≤◌, Bool, true, false, List, length, get_or, arith, refl, sym, ap}
use Rattle.std.proofs.Common.{◌∙◌, subst, inl, inr, Option}
use Rattle.std.specs.Prelude.{slice_index, slice_index_or}
use Rattle.std.specs.List.{All}
use Rattle.std.proofs.lemmas.Bool.{cases_Bool}
use Rattle.game_model.specs.declared.game.Edge.{Edge}
use Rattle.game_model.specs.Game.{Distribution, no_distribution, no_edge, choices_of, choice_of}
use Rattle.game_model.specs.Dual.{other_side}
use Rattle.game_model.specs.Query.{Query, IsQuery, states, is_goal, side_at}
use Rattle.game_model.proofs.Choices.{IsChoiceOf, IsChoiceOf-choice_of}
use Rattle.attractors.specs.Attractor.{serves, attracts, IsAttractor}
use Rattle.attractors.proofs.Tests.{any-none}
use Rattle.attractors.proofs.Meeting.{meets-successor}
use Rattle.attractors.proofs.Serving.{serves-not}
use Rattle.attractors.proofs.Searching.{Grew-goals}
use Rattle.attractors.proofs.Least.{member-inside}
use Rattle.almost_sure.specs.ExcludedSets.{gone_excluded}
use Rattle.almost_sure.specs.Values.{IsAway}
use Rattle.almost_sure.proofs.Away.{IsAway-more, inner-away}
use Rattle.expected_rewards.specs.Turned.{turned}
use Rattle.expected_rewards.proofs.Turned.{turned-posed, turned-side}
use Rattle.away_ranks.specs.inside.Ranked.{how_many, HasGone, LeadsAway, IsRankedAt, AreRanked}
use Rattle.away_ranks.specs.inside.Left.{AreUnserved}
use Rattle.away_ranks.proofs.Later.{IsLater, IsRankedAt-later}

lacks : (goal member : Bool) → (goal ≡ true → member ≡ true) → member ≡ false → goal ≡ false
lacks true member h out = let is : member ≡ true = h refl in absurd (cc)
lacks false member h out = refl

-- all states that are not left have gone, each with one rank unless it had gone before
pub record HaveGone (q : Query) (gone more left : List Bool) (choices : List (Option ℕ)) (ranks higher : List ℕ)
    (rank : ℕ) : Type 0 where
  pub later : IsLater gone more choices choices ranks higher
  pub many : length more ≡ states q
  pub ranked : length higher ≡ states q
  pub all : (s : ℕ) → s < states q → slice_index_or left s false ≡ false → HasGone more s
  pub only : (s : ℕ) → HasGone more s → slice_index_or gone s false ≡ false
      → (slice_index_or left s false ≡ false) × (slice_index higher s ≡ rank)

module _ (q : Query) (posed : IsQuery q) (gone more left : List Bool) (choices : List (Option ℕ))
    (ranks higher : List ℕ) (top : ℕ) (h : AreRanked q gone choices ranks top)
    (drawn : IsAttractor (turned q) (gone_excluded gone) left) (chosen : AreUnserved q gone left choices)
    (new : HaveGone q gone more left choices ranks higher (top + 1)) where
  inside-of : (s : ℕ) → HasGone more s → s < states q
  inside-of s out = omega (arith, member-inside more s out, new.many)

  low : (s : ℕ) → HasGone more s → slice_index higher s ≤ top + 1
  low s out = elim (cases_Bool (slice_index_or gone s false)) [
    | inl was ↦ omega (arith, h.low s was, new.later.rank s was)
    | inr fresh ↦ omega (arith, (new.only s out fresh).1)
  ]

  module _ (s : ℕ) (inside : s < states q) (fresh : slice_index_or gone s false ≡ false)
      (unleft : slice_index_or left s false ≡ false) where
    own-rank : slice_index higher s ≡ top + 1
    own-rank = (new.only s (new.all s inside unleft) fresh).1

    -- a choice that does not serve leads away
    leads : (c : ℕ) → c < length (choices_of q.game s)
        → serves (gone_excluded gone) left (choice_of q.game s c) ≡ false
        → LeadsAway more (slice_index higher) s (choice_of q.game s c)
    leads c l fails =
        let m : Distribution = choice_of q.game s c in
        let fits : IsChoiceOf q.game m = IsChoiceOf-choice_of q.game s c posed.game inside l in
        elim (serves-not (gone_excluded gone) left m fails) [
          | inl met ↦
              let at = meets-successor gone m met in
              let t : ℕ = (get_or m.edges at.0 no_edge).to in
              inl (record {
                place = at.0;
                inside = at.1;
                member = new.later.larger t at.2;
                down = omega (arith, h.low t at.2, new.later.rank t at.2, own-rank);
              })
          | inr unmet ↦
              let outside : All (λ (d : Edge). slice_index_or left d.to false ≡ false) m.edges =
              any-none (λ (d : Edge). slice_index_or left d.to false) m.edges unmet in
              inr (λ k d lk.
              let t : ℕ = (get_or m.edges k d).to in
              let out : HasGone more t = new.all t (fits.inside k d lk) (outside k d lk) in
              (out, omega (arith, low t out, own-rank)))
        ]

    side-at : attracts (other_side (side_at q s)) (gone_excluded gone) left (choices_of q.game s) ≡ false
    side-at = ap (λ side. attracts side (gone_excluded gone) left (choices_of q.game s))
        (sym (turned-side q posed s inside)) ∙ drawn.closed s inside unleft fresh

    ranked-here : IsRankedAt q more choices (slice_index higher) s
    ranked-here = record {
      greatest = λ is_side.
          let one = chosen s inside is_side unleft fresh in
          (one.0, one.1, one.2, leads one.0 one.2 one.3);
      least = λ is_side c l. leads c l (any-none (serves (gone_excluded gone) left) (choices_of q.game s)
          (ap (λ side. attracts (other_side side) (gone_excluded gone) left (choices_of q.game s)) (sym is_side)
          ∙ side-at) c no_distribution l);
    }

    no-goal : is_goal q s ≡ false
    no-goal = lacks (is_goal q s) (slice_index_or left s false)
        (Grew-goals (turned q) (gone_excluded gone) left drawn.grew s inside) unleft

    far : IsAway (turned q) (suc top) s
    far k = inner-away (turned q) gone left top (turned-posed q posed) drawn h.away k s inside unleft fresh

  -- so they are ranked
  pub AreRanked-lingers : how_many gone < how_many more → AreRanked q more choices higher (top + 1)
  AreRanked-lingers count =
      let next : suc top ≡ top + 1 = omega arith in
      record {
        many = new.many;
        planned = h.planned;
        ranked = new.ranked;
        few = omega (arith, h.few, count);
        apart = λ s out. elim (cases_Bool (slice_index_or gone s false)) [
          | inl was ↦ h.apart s was
          | inr fresh ↦ no-goal s (inside-of s out) fresh (new.only s out fresh).0
        ];
        away = λ s l out. elim (cases_Bool (slice_index_or gone s false)) [
          | inl was ↦ IsAway-more (turned q) top (top + 1) s (turned-posed q posed) (omega arith) (h.away s l was)
          | inr fresh ↦ subst (λ n. IsAway (turned q) n s) next (far s l fresh (new.only s out fresh).0)
        ];
        low = low;
        each = λ s out. elim (cases_Bool (slice_index_or gone s false)) [
          | inl was ↦
              IsRankedAt-later gone more choices choices ranks higher new.later s was q (h.each s was)
          | inr fresh ↦ ranked-here s (inside-of s out) fresh (new.only s out fresh).0
        ];
      }
