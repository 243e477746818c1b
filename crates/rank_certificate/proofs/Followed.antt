-- Moves that are followed to a state of a layer.
use Rattle.std.proofs.Common.{◌≡◌, ℕ, ◌+◌, ◌<◌, List, [], ◌∷◌, ◌++◌, length, arith, refl, sym, ◌∙◌, subst, inl, inr}
use Rattle.std.proofs.Common.{Option, Some, None}
use Rattle.std.specs.Prelude.{slice_index_or, slice_set, unwrap_or, MatchOption}
use Rattle.std.proofs.lemmas.List.Elements.{Contains-push_cases}
use Rattle.game_model.specs.Game.{choices_of, choice_of, no_edge}
use Rattle.game_model.specs.declared.game.Side.TheVariants.{Max}
use Rattle.game_model.specs.Query.{Query, IsQuery, states, side_at}
use Rattle.predecessors.specs.declared.lists.Move.{Move}
use Rattle.predecessors.specs.Moves.{move}
use Rattle.rank_certificate.specs.Carrying.{Carries, IsCarriedBy, IsCarried, IsFirstCarrying, IsChosen}
use Rattle.rank_certificate.specs.inside.RankLayers.{HasRankWithin, IsApartBy, Looks, Follows}
use Rattle.rank_certificate.proofs.Looked.{Looks-many, Looks-kept, Looks-apart, Looks-grown}
use Rattle.rank_certificate.proofs.Carried.{Carries-more, next-whole}

module _ (q : Query) (value : ℕ → ℕ) (only : Option (List (Option ℕ))) (level hand : ℕ) where
  pub Follows-then : (part : List Move) (m : Move) (ranks choices : List (Option ℕ)) (order : List ℕ)
      (ranks' choices' : List (Option ℕ)) (order' : List ℕ) (ranks'' choices'' : List (Option ℕ)) (order'' : List ℕ)
      → Follows q value only level hand part ranks choices order ranks' choices' order'
      → Follows q value only level hand (m ∷ []) ranks' choices' order' ranks'' choices'' order''
      → Follows q value only level hand (part ++ m ∷ []) ranks choices order ranks'' choices'' order''
  Follows-then part m ranks choices order ranks' choices' order' ranks'' choices'' order'' first second = record {
    many = second.many ∙ first.many;
    as_many = second.as_many ∙ first.as_many;
    kept = λ s left. first.kept s (second.kept s left);
    grown = λ begin old h. second.grown begin old (first.grown begin old h);
    apart = λ begin old h s c among equal left carried. elim (Contains-push_cases part m (move s c) among) [
      | inl early ↦ first.apart begin old h s c early equal (second.kept s left) carried
      | inr last ↦ second.apart begin old (first.grown begin old h) s c (0, omega arith, last) equal left carried
    ];
  }

  -- a move whose choice does not carry its state
  pub Follows-idle : (m : Move) (ranks choices : List (Option ℕ)) (order : List ℕ)
      → IsQuery q → m.state < states q → m.choice < length (choices_of q.game m.state)
      → ¬ Carries q value only (HasRankWithin ranks level) m.state m.choice
      → Follows q value only level hand (m ∷ []) ranks choices order ranks choices order
  Follows-idle m ranks choices order posed inside lc idle = record {
    many = refl;
    as_many = refl;
    kept = λ s left. left;
    grown = λ begin old h. h;
    apart = λ begin old h s c among equal. elim (Contains-push_cases [] m (move s c) among) [
      | inl none ↦ absurd (omega (arith, none.1))
      | inr is ↦
          let none : Carries q value only (IsCarried q value only level) m.state m.choice → ⊥ = λ carried.
          idle (Carries-more q value only (IsCarried q value only level) (HasRankWithin ranks level) m.state m.choice
          (λ p lp same within. h.full (slice_index_or (choice_of q.game m.state m.choice).edges p no_edge).to
          (posed.game.inside m.state m.choice inside lc p no_edge lp) within) carried) in
          subst (λ (x : Move). IsApartBy q value only level ranks x.state x.choice) is (λ left carried by. none carried)
    ];
  }

  -- a move whose state is looked at
  pub Follows-look : (m : Move) (ranks choices : List (Option ℕ)) (order : List ℕ)
      (ranks' choices' : List (Option ℕ)) (order' : List ℕ) → IsQuery q → m.state < states q
      → Looks q value only level m.state ranks choices order ranks' choices' order'
      → Follows q value only level hand (m ∷ []) ranks choices order ranks' choices' order'
  Follows-look m ranks choices order ranks' choices' order' posed inside looks =
      let same = Looks-many q value only level m.state ranks choices order ranks' choices' order' looks in
      record {
        many = same.0;
        as_many = same.1;
        kept = Looks-kept q value only level m.state ranks choices order ranks' choices' order' looks;
        grown = λ begin old h. Looks-grown q value only level begin old ranks choices order posed h m.state inside
            ranks' choices' order' looks;
        apart = λ begin old h s c among equal. elim (Contains-push_cases [] m (move s c) among) [
          | inl none ↦ absurd (omega (arith, none.1))
          | inr is ↦ subst (λ (x : Move). IsApartBy q value only level ranks' x.state x.choice) is
              (λ left carried by. Looks-apart q value only level begin old ranks choices order posed h m.state inside
              ranks' choices' order' looks left (next-whole q value only level m.state by))
        ];
      }

-- a choice that carries its state, and the first below it: the first of both
pub first-taken : (q : Query) (value : ℕ → ℕ) (only : Option (List (Option ℕ))) (among : ℕ → Type 0) (s c : ℕ)
    → c < length (choices_of q.game s) → Carries q value only among s c → (earlier : Option ℕ) → MatchOption earlier
    ((d : ℕ) → d < c → ¬ Carries q value only among s d) (λ d. IsFirstCarrying q value only among s d)
    → IsFirstCarrying q value only among s (unwrap_or earlier c)
first-taken q value only among s c inside carried None none =
    record { inside = inside; carries = carried; before = none }
first-taken q value only among s c inside carried (Some d) first = first

-- a state of the maximiser that joins the next layer with it was looked at
pub taken-looks : (q : Query) (value : ℕ → ℕ) (only : Option (List (Option ℕ))) (level s first : ℕ)
    (ranks choices : List (Option ℕ)) (order : List ℕ) (ranks' choices' : List (Option ℕ)) (order' : List ℕ)
    → side_at q s ≡ Max → slice_index_or ranks s None ≡ None
    → IsFirstCarrying q value only (HasRankWithin ranks level) s first → ranks' ≡ slice_set ranks s (Some (level + 1))
    → choices' ≡ slice_set choices s (Some first) → order' ≡ order ++ s ∷ []
    → Looks q value only level s ranks choices order ranks' choices' order'
taken-looks q value only level s first ranks choices order ranks' choices' order' max none is new_ranks
    new_choices new_order =
    let among = HasRankWithin ranks level in
    let by : IsCarriedBy Max q value only among s = (first, is.inside, is.carries) in
    inr (record {
      none = none;
      carried = subst (λ side. IsCarriedBy side q value only among s) (sym max) by;
      choice = Some first;
      chosen = subst (λ side. IsChosen side q value only among s (Some first)) (sym max) is;
      new_ranks = new_ranks;
      new_choices = new_choices;
      new_order = new_order;
    })
