-- A header and a line that are said of fields are those that the fields spell.
use Rattle.std.proofs.Common.{◌≡◌, ◌∙◌, inl, inr, ℕ, List, [], ◌∷◌, ◌++◌, refl, ap, sym, subst, true}
use Rattle.std.proofs.Common.{cond}
use Rattle.std.proofs.Common.{Option, Some, None, Result, Ok, Err, length, arith}
use Rattle.std.specs.Prelude.{◌==◌, nat_lt, codes, bytes_eq}
use Rattle.std.proofs.lemmas.Bool.{eqb-true, lt-ltb, le-ltb, ltb-false, ltb-true}
use Rattle.std.proofs.lemmas.Bool.Decides.{nat_tests}
use Rattle.std.proofs.lemmas.Slice.Eq.{bytes_eq-Decides}
use Rattle.text_lines.specs.Text.{number_of}
use Rattle.fractions.specs.Fraction.{Fraction}
use Rattle.numerals.proofs.Grammar.{chosen}
use Rattle.game_model.specs.Game.{Distribution, choices_of}
use Rattle.rewards_reader.specs.declared.fault.RewardsCause.{RewardsCause}
use Rattle.rewards_reader.specs.declared.fault.RewardsCause.TheVariants.{NoHeader, StateCount, OverLimit}
use Rattle.rewards_reader.specs.declared.fault.RewardsCause.TheVariants.{StateOutOfRange, ChoiceOutOfRange}
use Rattle.rewards_reader.specs.declared.line.RewardLine.{RewardLine}
use Rattle.rewards_reader.specs.Amounts.{amount_said}
use Rattle.rewards_reader.specs.Denotes.{IsHeader, IsLine, SpellsChoice}
use Rattle.rewards_reader.specs.Limits.{most_lines}
use Rattle.rewards_reader.specs.Lines.{header_said, lines_stated, line_said, state_line, choice_line, line_with}
use Rattle.rewards_reader.specs.Rewards.{IsOfGame}
use Rattle.rewards_reader.proofs.AmountLaws.{amount-found, amount-again}

eq-test : (a : ℕ) → (a == a) ≡ true
eq-test a = grind (arith, nat_tests)

same-number : (a b : ℕ) → ◌≡◌ {A = Result ℕ RewardsCause} (Ok a) (Ok b) → a ≡ b
same-number a b e = cc

same-line : (a b : RewardLine) → ◌≡◌ {A = Result RewardLine RewardsCause} (Ok a) (Ok b) → a ≡ b
same-line a b e = cc

-- 1. The header.

stated-found : (game : List (List Distribution)) (states lines : List ℕ) (n m : Option ℕ) (count : ℕ)
    → number_of states ≡ n → number_of lines ≡ m → lines_stated game n m ≡ Ok count
    → IsHeader game (codes "rewards" ∷ states ∷ lines ∷ []) count
stated-found game states lines None m count first second is = cc
stated-found game states lines (Some n) None count first second is = cc
stated-found game states lines (Some n) (Some m) count first second is =
    elim (chosen (n == length game) (cond (nat_lt most_lines m) (Err OverLimit) (Ok m)) (Err StateCount)
    (Ok count) is) [
      | inr t ↦ cc t.1
      | inl t ↦ elim (chosen (nat_lt most_lines m) (Err OverLimit) (Ok m) (Ok count) t.1) [
        | inl u ↦ cc u.1
        | inr u ↦
            let P : ℕ → Type 0 = λ k. IsHeader game (codes "rewards" ∷ states ∷ lines ∷ []) k in
            subst P (same-number m count u.1) (record {
              states = states;
              lines = lines;
              form = refl;
              states_spelled = first ∙ ap (λ k. Some k) (eqb-true n (length game) t.0);
              lines_spelled = second;
              few = ltb-false most_lines m u.0;
            })
      ]
    ]

pub header-found : (game : List (List Distribution)) (fields : List (List ℕ)) (count : ℕ)
    → header_said game fields ≡ Ok count → IsHeader game fields count
header-found game [] count is = cc
header-found game (word ∷ []) count is = cc
header-found game (word ∷ states ∷ []) count is = cc
header-found game (word ∷ states ∷ lines ∷ []) count is =
    elim (chosen (bytes_eq word (codes "rewards")) (lines_stated game (number_of states) (number_of lines))
    (Err NoHeader) (Ok count) is) [
      | inr t ↦ cc t.1
      | inl t ↦
          let P : List ℕ → Type 0 = λ w. IsHeader game (w ∷ states ∷ lines ∷ []) count in
          let same : word ≡ codes "rewards" = (bytes_eq-Decides word (codes "rewards")).0 t.0 in
          subst P (sym same)
          (stated-found game states lines (number_of states) (number_of lines) count refl refl t.1)
    ]
header-found game (word ∷ states ∷ lines ∷ more ∷ fields) count is = cc

pub header-again : (game : List (List Distribution)) (fields : List (List ℕ)) (count : ℕ) → IsHeader game fields count
    → header_said game fields ≡ Ok count
header-again game fields count h =
    ap (λ fs. header_said game fs) h.form
    ∙ ap (λ n. lines_stated game n (number_of h.lines)) h.states_spelled
    ∙ ap (λ m. lines_stated game (Some (length game)) m) h.lines_spelled
    ∙ ap (λ b. cond b (cond (nat_lt most_lines count) (Err OverLimit) (Ok count)) (Err StateCount))
    (eq-test (length game))
    ∙ ap (λ b. cond b (Err OverLimit) (Ok count)) (le-ltb most_lines count h.few)

-- 2. A line.

with-found : (game : List (List Distribution)) (state : List ℕ) (choice : List (List ℕ)) (reward : List ℕ)
    (s : ℕ) (c : Option ℕ) (said : Result Fraction RewardsCause) (line : RewardLine) → number_of state ≡ Some s
    → SpellsChoice choice c → IsOfGame game s c → amount_said reward ≡ said → line_with s c said ≡ Ok line
    → IsLine game (state ∷ (choice ++ reward ∷ [])) line
with-found game state choice reward s c (Err cause) line first second inside amount is = cc
with-found game state choice reward s c (Ok f) line first second inside amount is =
    let P : RewardLine → Type 0 = λ l. IsLine game (state ∷ (choice ++ reward ∷ [])) l in
    subst P (same-line (record { state = s; choice = c; reward = f }) line is) (record {
      state = state;
      choice = choice;
      reward = reward;
      form = refl;
      state_spelled = first;
      choice_spelled = second;
      reward_spelled = amount-found reward f amount;
      of_game = inside;
    })

state-found : (game : List (List Distribution)) (state reward : List ℕ) (s : Option ℕ) (line : RewardLine)
    → number_of state ≡ s → state_line game s reward ≡ Ok line → IsLine game (state ∷ reward ∷ []) line
state-found game state reward None line first is = cc
state-found game state reward (Some s) line first is =
    elim (chosen (nat_lt s (length game)) (line_with s None (amount_said reward)) (Err StateOutOfRange) (Ok line) is) [
      | inr t ↦ cc t.1
      | inl t ↦ with-found game state [] reward s None (amount_said reward) line first refl
          (ltb-true s (length game) t.0) refl t.1
    ]

choice-found : (game : List (List Distribution)) (state choice reward : List ℕ) (s k : Option ℕ) (line : RewardLine)
    → number_of state ≡ s → number_of choice ≡ k → choice_line game s k reward ≡ Ok line
    → IsLine game (state ∷ choice ∷ reward ∷ []) line
choice-found game state choice reward None k line first second is = cc
choice-found game state choice reward (Some s) None line first second is = cc
choice-found game state choice reward (Some s) (Some k) line first second is =
    elim (chosen (nat_lt s (length game)) (cond (nat_lt k (length (choices_of game s)))
    (line_with s (Some k) (amount_said reward)) (Err ChoiceOutOfRange)) (Err StateOutOfRange) (Ok line) is) [
      | inr t ↦ cc t.1
      | inl t ↦ elim (chosen (nat_lt k (length (choices_of game s))) (line_with s (Some k) (amount_said reward))
          (Err ChoiceOutOfRange) (Ok line) t.1) [
            | inr u ↦ cc u.1
            | inl u ↦ with-found game state (choice ∷ []) reward s (Some k) (amount_said reward) line first
                (choice, (refl, second))
                (ltb-true s (length game) t.0, ltb-true k (length (choices_of game s)) u.0) refl u.1
          ]
    ]

pub line-found : (game : List (List Distribution)) (fields : List (List ℕ)) (line : RewardLine)
    → line_said game fields ≡ Ok line → IsLine game fields line
line-found game [] line is = cc
line-found game (state ∷ []) line is = cc
line-found game (state ∷ reward ∷ []) line is = state-found game state reward (number_of state) line refl is
line-found game (state ∷ choice ∷ reward ∷ []) line is =
    choice-found game state choice reward (number_of state) (number_of choice) line refl refl is
line-found game (state ∷ choice ∷ reward ∷ more ∷ fields) line is = cc

said-again : (game : List (List Distribution)) (state : List ℕ) (choice : List (List ℕ)) (reward : List ℕ)
    (s : ℕ) (c : Option ℕ) (f : Fraction) → number_of state ≡ Some s → SpellsChoice choice c → IsOfGame game s c
    → amount_said reward ≡ Ok f
    → line_said game (state ∷ (choice ++ reward ∷ [])) ≡ Ok (record { state = s; choice = c; reward = f })
said-again game state choice reward s None f first second inside amount =
    ap (λ cs. line_said game (state ∷ (cs ++ reward ∷ []))) second
    ∙ ap (λ n. state_line game n reward) first
    ∙ ap (λ b. cond b (line_with s None (amount_said reward)) (Err StateOutOfRange)) (lt-ltb s (length game) inside)
    ∙ ap (line_with s None) amount
said-again game state choice reward s (Some k) f first second inside amount =
    ap (λ cs. line_said game (state ∷ (cs ++ reward ∷ []))) second.1.0
    ∙ ap (λ n. choice_line game n (number_of second.0) reward) first
    ∙ ap (λ n. choice_line game (Some s) n reward) second.1.1
    ∙ ap (λ b. cond b (cond (nat_lt k (length (choices_of game s))) (line_with s (Some k) (amount_said reward))
    (Err ChoiceOutOfRange)) (Err StateOutOfRange)) (lt-ltb s (length game) inside.0)
    ∙ ap (λ b. cond b (line_with s (Some k) (amount_said reward)) (Err ChoiceOutOfRange))
    (lt-ltb k (length (choices_of game s)) inside.1)
    ∙ ap (line_with s (Some k)) amount

pub line-again : (game : List (List Distribution)) (fields : List (List ℕ)) (line : RewardLine)
    → IsLine game fields line → line_said game fields ≡ Ok line
line-again game fields line h =
    ap (λ fs. line_said game fs) h.form
    ∙ said-again game h.state h.choice h.reward line.state line.choice line.reward h.state_spelled h.choice_spelled
    h.of_game (amount-again h.reward line.reward h.reward_spelled)
