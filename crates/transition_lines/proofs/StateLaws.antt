-- The choices of the states that are made are those that transitions come to, and the other way round.
use Rattle.std.proofs.Common.{◌≡◌, ◌∙◌, ◌<◌, ◌≤◌, ◌⊎◌, inl, inr, ℕ, zero, suc, ◌==◌, nat_lt, Bool, true, false, cond}
use Rattle.std.proofs.Common.{List, [], ◌∷◌, ◌++◌, length, map, get_or, take, Option, Some, None, option_map, Result}
use Rattle.std.proofs.Common.{Ok, Err, refl, sym, ap, ap₂, subst, arith, add-one}
use Rattle.std.proofs.lemmas.Bool.{cases_eq, eqb-true, eq-eqb, ne_eqb, cases_lt, le-ltb, ltb-false}
use Rattle.std.proofs.lemmas.List.{length_push, get_or_append_left, get_or_push, take_more}
use Rattle.std.proofs.Math.Seq.{take-length}
use Rattle.std.specs.Option.{option_or, ForSome}
use Rattle.std.specs.List.{All}
use Rattle.game_model.specs.Game.{Distribution, no_distribution, choices_of}
use Rattle.game_model.specs.Limits.{most_choices}
use Rattle.distributions.specs.declared.choice.Part.{Part}
use Rattle.distributions.specs.declared.choice.ChoiceFault.{ChoiceFault}
use Rattle.fractions.specs.Fraction.{IsFraction}
use Rattle.distributions.specs.Parts.{DenotesChoice, choice_said}
use Rattle.transition_lines.specs.declared.line.Transition.{Transition}
use Rattle.transition_lines.specs.declared.fault.TraCause.TheVariants.{ChoiceCount}
use Rattle.transition_lines.specs.declared.fault.TraFault.{TraFault}
use Rattle.transition_lines.specs.Faults.{fault_of_all}
use Rattle.transition_lines.specs.Choices.{transitions_of, part_of, parts_of, HasChoices, IsState, self_loop}
use Rattle.transition_lines.specs.Choices.{sum_of_first}
use Rattle.transition_lines.specs.Choices.{choice_end, least_missing, first_gap, first_crowded, of_state, then_push}
use Rattle.transition_lines.specs.Choices.{choice_at, choices_said, state_said, states_said, unless_gap, unless_crowded}
use Rattle.transition_lines.specs.Choices.{if_as_stated, transitions_game}
use Rattle.transition_lines.specs.Lines.{is_of}
use Rattle.transition_lines.proofs.Ends.{end_is, end_none, all_there, none_missing, no_gap}
use Rattle.numerals.proofs.Grammar.{chosen}

-- what the parts of a choice say is what they denote
abbrev pub ChoicesFound : Type 0
ChoicesFound = (parts : List Part) (d : Distribution) → All (λ part. IsFraction part.share) parts
    → choice_said parts ≡ Ok d → DenotesChoice parts d

abbrev pub ChoicesAgain : Type 0
ChoicesAgain = (parts : List Part) (d : Distribution) → All (λ part. IsFraction part.share) parts
    → DenotesChoice parts d → choice_said parts ≡ Ok d

-- the probability of each transition is a fraction
abbrev pub HaveFractions : List Transition → Type 0
HaveFractions ts = All (λ t. IsFraction t.share) ts

pub fraction_first : (t : Transition) (ts : List Transition) → IsFraction t.share → HaveFractions ts
    → HaveFractions (t ∷ ts)
fraction_first t ts here more zero d h = here
fraction_first t ts here more (suc k) d h = more k d (omega arith)

kept_one : (b : Bool) (t : Transition) (ts : List Transition)
    → IsFraction t.share → All (λ part. IsFraction part.share) (map part_of ts)
    → All (λ part. IsFraction part.share) (map part_of (cond b (t ∷ ts) ts))
kept_one false t ts here more = more
kept_one true t ts here more = cons
  where
    cons : All (λ part. IsFraction part.share) (part_of t ∷ map part_of ts)
    cons zero d h = here
    cons (suc k) d h = more k d (omega arith)

fractions_of : (ts : List Transition) (s k : ℕ) → HaveFractions ts
    → All (λ part. IsFraction part.share) (parts_of ts s k)
fractions_of [] s k all = λ j d h. absurd (omega (arith, h))
fractions_of (t ∷ ts) s k all = kept_one (is_of s k t) t (transitions_of ts s k) (all zero t (omega arith))
    (fractions_of ts s k (λ j d h. all (suc j) d (omega arith)))

-- a list and one element more
record Pushes {X : Type 0} (first : Result (List X) TraFault) (last : Result X TraFault) (all : List X) : Type 0 where
  xs : List X
  x : X
  is_first : first ≡ Ok xs
  is_last : last ≡ Ok x
  whole : xs ++ x ∷ [] ≡ all

pushed : {X : Type 0} (first : Result (List X) TraFault) (last : Result X TraFault) (all : List X)
    → then_push first last ≡ Ok all → Pushes first last all
pushed (Err fault) last all e = cc
pushed (Ok xs) (Err fault) all e = cc
pushed (Ok xs) (Ok x) all e = record { xs = xs; x = x; is_first = refl; is_last = refl; whole = cc }

choice_is : (s k : ℕ) (said : Result Distribution ChoiceFault) (d : Distribution)
    → choice_at s k said ≡ Ok d → said ≡ Ok d
choice_is s k (Ok x) d e = let same : x ≡ d = cc in ap (λ y. Ok y) same
choice_is s k (Err fault) d e = cc

-- an element of a list with one more
push_at : {X : Type 0} (P : ℕ → X → Type 0) (xs all : List X) (x d : X) (n : ℕ) → xs ++ x ∷ [] ≡ all → length xs ≡ n
    → ((k : ℕ) → k < n → P k (get_or xs k d)) → P n x → (k : ℕ) → k < suc n → P k (get_or all k d)
push_at P xs all x d n whole size before here k h =
    let Q : ℕ → Type 0 = λ j. P j x in
    elim (cases_eq k n) [
      | inl last ↦ subst (λ y. P k y) (sym (get_or_push xs x d k (size ∙ sym last)) ∙ ap (λ ys. get_or ys k d) whole)
          (subst Q (sym last) here)
      | inr other ↦ subst (λ y. P k y)
          (sym (get_or_append_left xs (x ∷ []) d k (omega (arith, size, other, h))) ∙ ap (λ ys. get_or ys k d) whole)
          (before k (omega (arith, other, h)))
    ]

push_size : {X : Type 0} (xs all : List X) (x : X) (n : ℕ) → xs ++ x ∷ [] ≡ all → length xs ≡ n → length all ≡ suc n
push_size xs all x n whole size = sym (ap length whole) ∙ length_push xs x ∙ add-one (length xs) ∙ ap (λ m. suc m) size

pub choices_found : (ts : List Transition) (s n : ℕ) (choices : List Distribution) → choices_said ts s n ≡ Ok choices
    → (length choices ≡ n) × ((k : ℕ) → k < n → choice_said (parts_of ts s k) ≡ Ok (get_or choices k no_distribution))
choices_found ts s zero choices e =
    let none : [] ≡ choices = cc in
    (sym (ap length none), λ k h. absurd (omega (arith, h)))
choices_found ts s (suc n) choices e =
    let is = pushed (choices_said ts s n) (choice_at s n (choice_said (parts_of ts s n))) choices e in
    let before = choices_found ts s n is.xs is.is_first in (
      push_size is.xs choices is.x n is.whole before.0,
      push_at (λ k d. choice_said (parts_of ts s k) ≡ Ok d) is.xs choices is.x no_distribution n is.whole before.0
          before.1 (choice_is s n (choice_said (parts_of ts s n)) is.x is.is_last),
    )

pub choices_again : (ts : List Transition) (s n : ℕ) (choices : List Distribution) → n ≤ length choices
    → ((k : ℕ) → k < n → choice_said (parts_of ts s k) ≡ Ok (get_or choices k no_distribution))
    → choices_said ts s n ≡ Ok (take n choices)
choices_again ts s zero choices h all = refl
choices_again ts s (suc n) choices h all =
    ap₂ (λ r d. then_push r (choice_at s n d))
    (choices_again ts s n choices (omega (arith, h)) (λ k g. all k (omega (arith, g)))) (all n (omega arith))
    ∙ ap (λ ds. Ok ds)
    (sym (take_more choices n no_distribution (omega (arith, h))) ∙ ap (λ m. take m choices) (add-one n))

pub state_found : ChoicesFound → (ts : List Transition) (s : ℕ) (choices : List Distribution) → HaveFractions ts
    → least_missing ts s (choice_end ts s) ≡ None → choice_end ts s ≤ most_choices → state_said ts s ≡ Ok choices
    → IsState ts s (choice_end ts s) choices
state_found found ts s choices fractions full few e =
    elim (chosen (choice_end ts s == 0) (Ok (self_loop s ∷ [])) (choices_said ts s (choice_end ts s)) (Ok choices) e) [
      | inl none ↦
          let nought : choice_end ts s ≡ 0 = eqb-true (choice_end ts s) 0 none.0 in
          record {
            has = has;
            few = few;
            alone = λ z. cc none.1;
            as_many = λ h. absurd (omega (arith, nought, h));
            made = λ k h. absurd (omega (arith, nought, h));
          }
      | inr some ↦
          let is = choices_found ts s (choice_end ts s) choices some.1 in
          record {
            has = has;
            few = few;
            alone = λ z. absurd (not_nought (choice_end ts s) some.0 z);
            as_many = λ h. is.0;
            made = λ k h. found (parts_of ts s k) (get_or choices k no_distribution)
                (fractions_of ts s k fractions) (is.1 k h);
          }
    ]
  where
    has : HasChoices ts s (choice_end ts s)
    has = record { there = all_there ts s (choice_end ts s) full; no_more = λ k h. end_none ts s k h }

    not_nought : (n : ℕ) → (n == 0) ≡ false → n ≡ 0 → ⊥
    not_nought n e z = let same : (n == 0) ≡ true = eq-eqb n 0 z in cc

end_of : (ts : List Transition) (s count : ℕ) → HasChoices ts s count → choice_end ts s ≡ count
end_of ts s count has = end_is ts s count (record { none = has.no_more; last = λ k e. has.there k (omega (arith, e)) })

pub state_again : ChoicesAgain → (ts : List Transition) (s count : ℕ) (choices : List Distribution)
    → HaveFractions ts → IsState ts s count choices
    → (choice_end ts s ≡ count) × (least_missing ts s (choice_end ts s) ≡ None) × (state_said ts s ≡ Ok choices)
state_again again ts s count choices fractions is =
    let end = end_of ts s count is.has in (
      end,
      ap (λ m. least_missing ts s m) end ∙ none_missing ts s count is.has.there,
      ap (λ m. cond (m == 0) (Ok (self_loop s ∷ [])) (choices_said ts s m)) end ∙ by_count (cases_lt 0 count),
    )
  where
    by_count : (0 < count) ⊎ (count ≤ 0)
        → cond (count == 0) (Ok (self_loop s ∷ [])) (choices_said ts s count) ≡ Ok choices
    by_count (inl some) =
        ap (λ b. cond b (Ok (self_loop s ∷ [])) (choices_said ts s count))
        (ne_eqb count 0 (λ z. omega (arith, z, some)))
        ∙ choices_again ts s count choices (omega (arith, is.as_many some)) (λ k h.
        again (parts_of ts s k) (get_or choices k no_distribution) (fractions_of ts s k fractions) (is.made k h))
        ∙ ap (λ m. Ok (take m choices)) (sym (is.as_many some)) ∙ ap (λ ds. Ok ds) (take-length choices)
    by_count (inr none) =
        let nought : count ≡ 0 = omega (arith, none) in
        ap (λ b. cond b (Ok (self_loop s ∷ [])) (choices_said ts s count)) (eq-eqb count 0 nought)
        ∙ ap (λ ds. Ok ds) (sym (is.alone nought))

pub states_found : (ts : List Transition) (n : ℕ) (game : List (List Distribution)) → states_said ts n ≡ Ok game
    → (length game ≡ n) × ((s : ℕ) → s < n → state_said ts s ≡ Ok (choices_of game s))
states_found ts zero game e = let none : [] ≡ game = cc in (sym (ap length none), λ s h. absurd (omega (arith, h)))
states_found ts (suc n) game e =
    let is = pushed (states_said ts n) (state_said ts n) game e in
    let before = states_found ts n is.xs is.is_first in (
      push_size is.xs game is.x n is.whole before.0,
      push_at (λ s choices. state_said ts s ≡ Ok choices) is.xs game is.x [] n is.whole before.0 before.1 is.is_last,
    )

pub states_again : (ts : List Transition) (n : ℕ) (game : List (List Distribution)) → n ≤ length game
    → ((s : ℕ) → s < n → state_said ts s ≡ Ok (choices_of game s)) → states_said ts n ≡ Ok (take n game)
states_again ts zero game h all = refl
states_again ts (suc n) game h all =
    ap₂ (λ r d. then_push r d) (states_again ts n game (omega (arith, h)) (λ k g. all k (omega (arith, g))))
    (all n (omega arith))
    ∙ ap (λ ds. Ok ds) (sym (take_more game n [] (omega (arith, h))) ∙ ap (λ m. take m game) (add-one n))

pub gaps_found : (ts : List Transition) (n : ℕ) → first_gap ts n ≡ None → (s : ℕ) → s < n
    → least_missing ts s (choice_end ts s) ≡ None
gaps_found ts zero e s h = absurd (omega (arith, h))
gaps_found ts (suc n) e s h =
    let both = both_none (first_gap ts n) (least_missing ts n (choice_end ts n)) e in
    let P : ℕ → Type 0 = λ i. least_missing ts i (choice_end ts i) ≡ None in
    elim (cases_lt s n) [
      | inl lt ↦ gaps_found ts n both.0 s lt
      | inr ge ↦ let same : n ≡ s = omega (arith, ge, h) in subst P same both.1
    ]
  where
    both_none : (o : Option (ℕ × ℕ)) (p : Option ℕ) → option_or o (option_map (of_state n) p) ≡ None
        → (o ≡ None) × (p ≡ None)
    both_none None None e = (refl, refl)
    both_none None (Some k) e = cc
    both_none (Some g) p e = cc

pub gaps_again : (ts : List Transition) (n : ℕ) → ((s : ℕ) → s < n → least_missing ts s (choice_end ts s) ≡ None)
    → first_gap ts n ≡ None
gaps_again ts zero all = refl
gaps_again ts (suc n) all = no_gap ts n (gaps_again ts n (λ s h. all s (omega (arith, h)))) (all n (omega arith))

pub crowds_found : (ts : List Transition) (n : ℕ) → first_crowded ts n ≡ None → (s : ℕ) → s < n
    → choice_end ts s ≤ most_choices
crowds_found ts zero e s h = absurd (omega (arith, h))
crowds_found ts (suc n) e s h =
    let both = both_none (first_crowded ts n) (nat_lt most_choices (choice_end ts n)) e in
    let P : ℕ → Type 0 = λ i. choice_end ts i ≤ most_choices in
    elim (cases_lt s n) [
      | inl lt ↦ crowds_found ts n both.0 s lt
      | inr ge ↦
          let same : n ≡ s = omega (arith, ge, h) in subst P same (ltb-false most_choices (choice_end ts n) both.1)
    ]
  where
    both_none : (o : Option ℕ) (b : Bool) → option_or o (cond b (Some n) None) ≡ None → (o ≡ None) × (b ≡ false)
    both_none None false e = (refl, refl)
    both_none None true e = cc
    both_none (Some s) b e = cc

pub crowds_again : (ts : List Transition) (n : ℕ) → ((s : ℕ) → s < n → choice_end ts s ≤ most_choices)
    → first_crowded ts n ≡ None
crowds_again ts zero all = refl
crowds_again ts (suc n) all =
    ap₂ (λ o b. option_or o (cond b (Some n) None)) (crowds_again ts n (λ s h. all s (omega (arith, h))))
    (le-ltb most_choices (choice_end ts n) (all n (omega arith)))

-- a game that is made of transitions
pub record MakesGame (ts : List Transition) (n : ℕ) (stated : Option ℕ) (game : List (List Distribution)) : Type 0 where
  pub full : first_gap ts n ≡ None
  pub few : first_crowded ts n ≡ None
  pub as_stated : ForSome stated (λ c. sum_of_first (choice_end ts) n ≡ c)
  pub said : states_said ts n ≡ Ok game

stated_found : (stated : Option ℕ) (read : ℕ) (said : Result (List (List Distribution)) TraFault)
    (game : List (List Distribution)) → if_as_stated stated read said ≡ Ok game
    → ForSome stated (λ c. read ≡ c) × (said ≡ Ok game)
stated_found None read said game e = (λ c is. cc, e)
stated_found (Some c) read said game e =
    elim (chosen (read == c) said (Err (fault_of_all (ChoiceCount read c))) (Ok game) e) [
      | inr other ↦ cc other.1
      | inl same ↦ (λ d is. let eq : read ≡ c = eqb-true read c same.0 in cc, same.1)
    ]

pub game_found : (ts : List Transition) (n : ℕ) (stated : Option ℕ) (game : List (List Distribution))
    → transitions_game ts n stated ≡ Ok game → MakesGame ts n stated game
game_found ts n stated game e = by_gap (first_gap ts n) refl e
  where
    by_crowded : (crowded : Option ℕ) → first_gap ts n ≡ None → first_crowded ts n ≡ crowded
        → unless_crowded crowded (if_as_stated stated (sum_of_first (choice_end ts) n) (states_said ts n)) ≡ Ok game
        → MakesGame ts n stated game
    by_crowded (Some s) full is e = cc
    by_crowded None full is e =
        let both = stated_found stated (sum_of_first (choice_end ts) n) (states_said ts n) game e in
        record { full = full; few = is; as_stated = both.0; said = both.1 }

    by_gap : (gap : Option (ℕ × ℕ)) → first_gap ts n ≡ gap → unless_gap gap
        (unless_crowded (first_crowded ts n) (if_as_stated stated (sum_of_first (choice_end ts) n) (states_said ts n)))
        ≡ Ok game → MakesGame ts n stated game
    by_gap (Some (s, k)) is e = cc
    by_gap None is e = by_crowded (first_crowded ts n) is refl e

pub game_again : (ts : List Transition) (n : ℕ) (stated : Option ℕ) (game : List (List Distribution))
    → MakesGame ts n stated game → transitions_game ts n stated ≡ Ok game
game_again ts n stated game is = ap₂
    (λ g c. unless_gap g (unless_crowded c (if_as_stated stated (sum_of_first (choice_end ts) n) (states_said ts n))))
    is.full is.few ∙ by_stated stated is.as_stated ∙ is.said
  where
    by_stated : (stated : Option ℕ) → ForSome stated (λ c. sum_of_first (choice_end ts) n ≡ c)
        → if_as_stated stated (sum_of_first (choice_end ts) n) (states_said ts n) ≡ states_said ts n
    by_stated None as_stated = refl
    by_stated (Some c) as_stated =
        ap (λ b. cond b (states_said ts n) (Err (fault_of_all (ChoiceCount (sum_of_first (choice_end ts) n) c))))
        (eq-eqb (sum_of_first (choice_end ts) n) c (as_stated c refl))
