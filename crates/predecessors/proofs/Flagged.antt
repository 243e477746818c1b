-- Answers of choices, one after another.
use Rattle.std.proofs.Common.{◌≡◌, ℕ, ◌+◌, ◌<◌, Bool, false, List, [], ◌∷◌, ◌++◌, length, arith, sym, ap, subst, inl}
use Rattle.std.proofs.Common.{inr}
use Rattle.std.proofs.lemmas.Bool.{cases_lt}
use Rattle.std.proofs.lemmas.List.{get_or_append_left, get_or_push, length_push}
use Rattle.game_model.specs.Game.{Distribution, choices_of}
use Rattle.predecessors.specs.Flags.{number, flag, AreAnswers, AreAnswersBefore}
use Rattle.predecessors.proofs.Numbers.{choices_below-more, number-below}

-- what each answer says, of a game that was found to be this one
pub AreAnswers-say : (game found : List (List Distribution)) (Answers Says : ℕ → ℕ → Bool → Type 0) (flags : List Bool)
    → found ≡ game → AreAnswers found Answers flags
    → ((s c : ℕ) (b : Bool) → s < length game → c < length (choices_of game s) → Answers s c b → Says s c b)
    → AreAnswers game Says flags
AreAnswers-say game found Answers Says flags same answered says =
    let h : AreAnswers game Answers flags = subst (λ g. AreAnswers g Answers flags) same answered in
    record {
      many = h.many;
      each = λ s c l within. says s c (flag game flags s c) l within (h.each s c l within);
    }

module _ (game : List (List Distribution)) (Answers : ℕ → ℕ → Bool → Type 0) where
  -- one choice more
  pub answers-push : (flags more : List Bool) (s c : ℕ) (b : Bool) → more ≡ flags ++ b ∷ []
      → AreAnswersBefore game Answers s c flags → s < length game → Answers s c b
      → AreAnswersBefore game Answers s (c + 1) more
  answers-push flags more s c b is_more h inside is =
      let pushed : List Bool = flags ++ b ∷ [] in
      subst (AreAnswersBefore game Answers s (c + 1)) (sym is_more) (record {
        many = omega (arith, length_push flags b, h.many);
        before = λ t d l within.
            let same : flag game pushed t d ≡ flag game flags t d = get_or_append_left flags (b ∷ []) false
            (number game t d) (omega (arith, h.many, number-below game t d s l (omega arith) within)) in
            subst (Answers t d) (sym same) (h.before t d l within);
        here = λ d l. elim (cases_lt d c) [
          | inl below ↦
              let same : flag game pushed s d ≡ flag game flags s d =
              get_or_append_left flags (b ∷ []) false (number game s d) (omega (arith, h.many, below)) in
              subst (Answers s d) (sym same) (h.here d below)
          | inr last ↦
              let at : d ≡ c = omega arith in
              let same : flag game pushed s d ≡ b =
              get_or_push flags b false (number game s d) (omega (arith, h.many, at)) in
              subst (Answers s d) (sym same) (subst (λ k. Answers s k b) (sym at) is)
        ];
      })

  -- the choices of a state end
  pub answers-end : (flags : List Bool) (s c : ℕ) → s < length game → c ≡ length (choices_of game s)
      → AreAnswersBefore game Answers s c flags → AreAnswersBefore game Answers (s + 1) 0 flags
  answers-end flags s c inside all h = record {
    many = omega (arith, h.many, all, choices_below-more game s inside);
    before = λ t d l within. elim (cases_lt t s) [
      | inl below ↦ h.before t d below within
      | inr last ↦
          let at : t ≡ s = omega arith in
          let below : d < c = omega (arith, all, ap (λ n. length (choices_of game n)) at, within) in
          subst (λ n. Answers n d (flag game flags n d)) (sym at) (h.here d below)
    ];
    here = λ d l. absurd (omega arith);
  }
