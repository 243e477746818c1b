-- Rewards of choices, one after another.
use Rattle.std.proofs.Common.{◌≡◌, ℕ, ◌+◌, ◌<◌, List, [], ◌∷◌, ◌++◌, length, arith, sym, ap, subst, inl, inr, ◌∙◌}
use Rattle.std.proofs.lemmas.Bool.{cases_lt}
use Rattle.std.proofs.lemmas.List.{get_or_append_left, get_or_push, length_push}
use Rattle.game_model.specs.Game.{Distribution, choices_of, choices_below}
use Rattle.expected_rewards.specs.Rewards.{Rewards}
use Rattle.predecessors.proofs.Numbers.{choices_below-more, number-below}
use Rattle.reward_check.specs.Certificates.{flat_rewards}
use Rattle.reward_units.specs.inside.Listed.{ArePaidBefore}

module _ (game : List (List Distribution)) (rewards : Rewards) where
  -- one choice more
  pub paid-push : (list more : List ℕ) (s c units : ℕ) → more ≡ list ++ units ∷ []
      → ArePaidBefore game rewards s c list → s < length game → units ≡ rewards s c
      → ArePaidBefore game rewards s (c + 1) more
  paid-push list more s c units is_more h inside is =
      let pushed : List ℕ = list ++ units ∷ [] in
      subst (ArePaidBefore game rewards s (c + 1)) (sym is_more) (record {
        many = omega (arith, length_push list units, h.many);
        before = λ t d l within.
            get_or_append_left list (units ∷ []) 0 (choices_below game t + d)
            (omega (arith, h.many, number-below game t d s l (omega arith) within)) ∙ h.before t d l within;
        here = λ d l. elim (cases_lt d c) [
          | inl below ↦
              get_or_append_left list (units ∷ []) 0 (choices_below game s + d) (omega (arith, h.many, below))
              ∙ h.here d below
          | inr last ↦
              let at : d ≡ c = omega arith in
              get_or_push list units 0 (choices_below game s + d) (omega (arith, h.many, at))
              ∙ is ∙ ap (rewards s) (sym at)
        ];
      })

  -- the choices of a state end
  pub paid-end : (list : List ℕ) (s c : ℕ) → s < length game → c ≡ length (choices_of game s)
      → ArePaidBefore game rewards s c list → ArePaidBefore game rewards (s + 1) 0 list
  paid-end list s c inside all h = record {
    many = omega (arith, h.many, all, choices_below-more game s inside);
    before = λ t d l within. elim (cases_lt t s) [
      | inl below ↦ h.before t d below within
      | inr last ↦
          let at : t ≡ s = omega arith in
          let below : d < c = omega (arith, all, ap (λ n. length (choices_of game n)) at, within) in
          subst (λ n. flat_rewards game list n d ≡ rewards n d) (sym at) (h.here d below)
    ];
    here = λ d l. absurd (omega arith);
  }
