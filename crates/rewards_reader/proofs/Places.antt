-- Entries in their places.
use Rattle.std.proofs.Common.{◌≡◌, ◌≢◌, ◌∙◌, ◌≤◌, ◌<◌, ◌+◌, ◌-◌, ◌⊎◌, inl, inr, ℕ, suc, zero, List, [], ◌∷◌, ◌++◌}
use Rattle.std.proofs.Common.{refl, ap}
use Rattle.std.proofs.Common.{sym, subst, true, false, cond, Option, Some, None, Result, Ok, Err, length, arith}
use Rattle.std.proofs.Common.{get_or, set, get_or-set_other, get_or-set_same, add-zero}
use Rattle.std.specs.Prelude.{◌==◌, ◌&&◌, nat_lt, is_some}
use Rattle.std.proofs.lemmas.Bool.{cases_Bool, eqb-true, and_parts}
use Rattle.std.proofs.lemmas.Bool.Decides.{nat_tests}
use Rattle.std.proofs.lemmas.List.Sums.{sum_by_more}
use Rattle.fractions.specs.Fraction.{Fraction}
use Rattle.numerals.proofs.Grammar.{chosen}
use Rattle.game_model.specs.Game.{Distribution, choices_of, choices_below}
use Rattle.rewards_reader.specs.declared.fault.RewardsCause.{RewardsCause}
use Rattle.rewards_reader.specs.declared.fault.RewardsCause.TheVariants.{DoubleLine, LineCount}
use Rattle.rewards_reader.specs.declared.line.RewardLine.{RewardLine}
use Rattle.rewards_reader.specs.Lines.{is_about, same_choice, reward_at, single_line, next_line, line_said}
use Rattle.rewards_reader.specs.Rewards.{IsOfGame, place_of}
use Rattle.rewards_reader.specs.inside.Kept.{AreEntries}

-- 1. Places.

-- the place of a state
abbrev base : List (List Distribution) → ℕ → ℕ
base game s = choices_below game s + s

base-more : (game : List (List Distribution)) (s : ℕ) → s < length game
    → base game (s + 1) ≡ base game s + 1 + length (choices_of game s)
base-more game s inside = omega (arith, sum_by_more length game s [] inside)

base-plus : (game : List (List Distribution)) (s d : ℕ) → s + d ≤ length game → base game s ≤ base game (s + d)
base-plus game s zero inside = subst (λ n. base game s ≤ base game n) (sym (add-zero s)) (omega arith)
base-plus game s (suc d) inside =
    let at : s + d + 1 ≡ s + suc d = omega arith in
    subst (λ n. base game s ≤ base game n) at
    (omega (arith, base-plus game s d (omega arith), base-more game (s + d) (omega arith)))

base-rises : (game : List (List Distribution)) (s t : ℕ) → s ≤ t → t ≤ length game → base game s ≤ base game t
base-rises game s t h inside =
    let at : s + (t - s) ≡ t = omega arith in
    subst (λ n. base game s ≤ base game n) at (base-plus game s (t - s) (omega (arith, at)))

place-low : (game : List (List Distribution)) (s : ℕ) (c : Option ℕ) → base game s ≤ place_of game s c
place-low game s None = omega arith
place-low game s (Some k) = omega arith

of-state : (game : List (List Distribution)) (s : ℕ) (c : Option ℕ) → IsOfGame game s c → s < length game
of-state game s None inside = inside
of-state game s (Some k) inside = inside.0

place-high : (game : List (List Distribution)) (s : ℕ) (c : Option ℕ) → IsOfGame game s c
    → place_of game s c < base game (s + 1)
place-high game s None inside = omega (arith, base-more game s inside)
place-high game s (Some k) inside = omega (arith, base-more game s inside.0, inside.1)

pub place-inside : (game : List (List Distribution)) (s : ℕ) (c : Option ℕ) → IsOfGame game s c
    → place_of game s c < base game (length game)
place-inside game s c inside =
    let state = of-state game s c inside in
    let rise = base-rises game (s + 1) (length game) (omega (arith, state)) (omega arith) in
    omega (arith, place-high game s c inside, rise)

-- the place of an earlier state is smaller
place-order : (game : List (List Distribution)) (s t : ℕ) (c d : Option ℕ) → s < t → IsOfGame game s c
    → IsOfGame game t d → place_of game s c < place_of game t d
place-order game s t c d h first second =
    let state = of-state game t d second in
    omega (
      arith,
      place-high game s c first,
      base-rises game (s + 1) t (omega (arith, h)) (omega (arith, state)),
      place-low game t d,
    )

same-choices : (game : List (List Distribution)) (s : ℕ) (c d : Option ℕ) → place_of game s c ≡ place_of game s d
    → same_choice d c ≡ true
same-choices game s None None same = refl
same-choices game s None (Some j) same = absurd (omega (arith, same))
same-choices game s (Some k) None same = absurd (omega (arith, same))
same-choices game s (Some k) (Some j) same = let e : j ≡ k = omega (arith, same) in grind (arith, nat_tests, e)

which : (s t : ℕ) → (s < t) ⊎ ((t < s) ⊎ (t ≡ s))
which zero zero = inr (inr refl)
which zero (suc t) = inl (omega arith)
which (suc s) zero = inr (inl (omega arith))
which (suc s) (suc t) = elim (which s t) [
  | inl l ↦ inl (omega (arith, l))
  | inr r ↦ elim r [ inl l ↦ inr (inl (omega (arith, l))) | inr e ↦ inr (inr (ap suc e)) ]
]

-- two lines are about one state or choice if they have one place
same-place : (game : List (List Distribution)) (s : ℕ) (c : Option ℕ) (line : RewardLine) → IsOfGame game s c
    → IsOfGame game line.state line.choice → place_of game s c ≡ place_of game line.state line.choice
    → is_about s c line ≡ true
same-place game s c line first second same =
    elim (which s line.state) [
      | inl l ↦ absurd (omega (arith, place-order game s line.state c line.choice l first second, same))
      | inr r ↦ elim r [
        | inl l ↦ absurd (omega (arith, place-order game line.state s line.choice c l second first, same))
        | inr e ↦
            let P : ℕ → Type 0 = λ n. place_of game s c ≡ place_of game n line.choice in
            let choices = same-choices game s c line.choice (subst P e same) in
            let states : (line.state == s) ≡ true = grind (arith, nat_tests, e) in
            ap (λ b. b && same_choice line.choice c) states ∙ choices
      ]
    ]

pub same_choice-true : (c d : Option ℕ) → same_choice c d ≡ true → c ≡ d
same_choice-true None None is = refl
same_choice-true None (Some j) is = cc
same_choice-true (Some k) None is = cc
same_choice-true (Some k) (Some j) is = ap (λ n. Some n) (eqb-true k j is)

-- 2. One line more.

reward_at-other : (before : List RewardLine) (line : RewardLine) (s : ℕ) (c : Option ℕ) → is_about s c line ≡ false
    → reward_at (before ++ line ∷ []) s c ≡ reward_at before s c
reward_at-other [] line s c other = ap (λ b. cond b (Some line.reward) None) other
reward_at-other (first ∷ before) line s c other =
    ap (λ r. cond (is_about s c first) (Some first.reward) r) (reward_at-other before line s c other)

reward_at-new : (before : List RewardLine) (line : RewardLine) (s : ℕ) (c : Option ℕ) → is_about s c line ≡ true
    → is_some (reward_at before s c) ≡ false → reward_at (before ++ line ∷ []) s c ≡ Some line.reward
reward_at-new [] line s c about none = ap (λ b. cond b (Some line.reward) None) about
reward_at-new (first ∷ before) line s c about none =
    elim (cases_Bool (is_about s c first)) [
      | inl e ↦ let had : is_some (reward_at (first ∷ before) s c) ≡ true =
          ap (λ b. is_some (cond b (Some first.reward) (reward_at before s c))) e in cc (had, none)
      | inr e ↦
          let next : is_some (reward_at before s c) ≡ false =
          sym (ap (λ b. is_some (cond b (Some first.reward) (reward_at before s c))) e) ∙ none in
          ap (λ b. cond b (Some first.reward) (reward_at (before ++ line ∷ []) s c)) e
          ∙ reward_at-new before line s c about next
    ]

-- the entries of one line more
pub AreEntries-more : (game : List (List Distribution)) (before : List RewardLine) (line : RewardLine)
    (old new : List (Option Fraction)) → length old ≡ base game (length game)
    → IsOfGame game line.state line.choice → is_some (reward_at before line.state line.choice) ≡ false
    → new ≡ set old (place_of game line.state line.choice) (Some line.reward) → AreEntries game before old
    → AreEntries game (before ++ line ∷ []) new
AreEntries-more game before line old new many inside none is entries = record { each = each }
  where
    each : (s : ℕ) (c : Option ℕ) → IsOfGame game s c
        → get_or new (place_of game s c) None ≡ reward_at (before ++ line ∷ []) s c
    each s c of =
        elim (cases_Bool (is_about s c line)) [
          | inl e ↦
              let parts = and_parts (line.state == s) (same_choice line.choice c) e in
              let state : line.state ≡ s = eqb-true line.state s parts.0 in
              let choice : line.choice ≡ c = same_choice-true line.choice c parts.1 in
              let at : place_of game line.state line.choice ≡ place_of game s c =
              ap (λ n. place_of game n line.choice) state ∙ ap (λ d. place_of game s d) choice in
              let free : is_some (reward_at before s c) ≡ false =
              sym (ap (λ n. is_some (reward_at before n line.choice)) state
              ∙ ap (λ d. is_some (reward_at before s d)) choice) ∙ none in
              let room : place_of game s c < length old = omega (arith, many, place-inside game s c of) in
              ap (λ (xs : List (Option Fraction)). get_or xs (place_of game s c) None) is
              ∙ ap (λ p. get_or (set old p (Some line.reward)) (place_of game s c) None) at
              ∙ get_or-set_same old (place_of game s c) (Some line.reward) None room
              ∙ sym (reward_at-new before line s c e free)
          | inr e ↦
              let apart : place_of game s c ≢ place_of game line.state line.choice =
              λ same. cc (same-place game s c line of inside same, e) in
              ap (λ (xs : List (Option Fraction)). get_or xs (place_of game s c) None) is
              ∙ get_or-set_other old (place_of game line.state line.choice) (place_of game s c) (Some line.reward) None
              apart
              ∙ entries.each s c of
              ∙ sym (reward_at-other before line s c e)
        ]

single-free : (before : List RewardLine) (said : Result RewardLine RewardsCause) (line : RewardLine)
    → single_line before said ≡ Ok line → is_some (reward_at before line.state line.choice) ≡ false
single-free before (Err cause) line is = cc
single-free before (Ok next) line is =
    elim (chosen (is_some (reward_at before next.state next.choice)) (Err DoubleLine) (Ok next) (Ok line) is) [
      | inl t ↦ cc t.1
      | inr t ↦
          let P : RewardLine → Type 0 = λ l. is_some (reward_at before l.state l.choice) ≡ false in
          subst P (same-line next line t.1) t.0
    ]
  where
    same-line : (a b : RewardLine) → ◌≡◌ {A = Result RewardLine RewardsCause} (Ok a) (Ok b) → a ≡ b
    same-line a b e = cc

-- no line before a next line is about the same
pub next-free : (game : List (List Distribution)) (stated : ℕ) (before : List RewardLine) (fields : List (List ℕ))
    (line : RewardLine) → next_line game stated before fields ≡ Ok line
    → is_some (reward_at before line.state line.choice) ≡ false
next-free game stated before fields line is =
    elim (chosen (nat_lt (length before) stated) (single_line before (line_said game fields))
    (Err (LineCount (stated + 1) stated)) (Ok line) is) [
      | inl t ↦ single-free before (line_said game fields) line t.1
      | inr t ↦ cc t.1
    ]
