-- Gaps between finished choices, and what all finished choices make.
use Rattle.std.proofs.Common.{◌≡◌, ◌∙◌, ◌<◌, ◌≤◌, inl, inr, ℕ, suc, ◌+◌, ◌*◌, List, [], ◌∷◌, length, map, unwrap_or}
use Rattle.std.proofs.Common.{Option, Some, None, Result, Err, refl, sym, ap, ap₂, subst, arith, add-zero}
use Rattle.std.specs.List.{All}
use Rattle.game_model.specs.Limits.{most_states}
use Rattle.game_model.specs.Game.{Distribution}
use Rattle.game_model.specs.Draft.{Draft}
use Rattle.transition_lines.specs.Limits.{most_stated_choices}
use Rattle.transition_lines.specs.declared.line.Transition.{Transition}
use Rattle.transition_lines.specs.declared.fault.TraFault.{TraFault}
use Rattle.transition_lines.specs.declared.fault.TraCause.TheVariants.{ChoiceGap}
use Rattle.tra_reader.specs.declared.build_state.BuildState.{BuildState}
use Rattle.tra_reader.specs.declared.build_state.BuildState.TheVariants.{Builds}
use Rattle.tra_reader.specs.declared.finished_choices.FinishedChoices.{FinishedChoices}
use Rattle.transition_lines.specs.Faults.{fault_of_all}
use Rattle.distributions.specs.declared.choice.Part.{Part}
use Rattle.transition_lines.specs.Choices.{part_of, parts_of, transitions_of, choice_end, sum_of_first, first_crowded}
use Rattle.transition_lines.specs.Choices.{states_said, unless_gap, unless_crowded, if_as_stated, transitions_game}
use Rattle.transition_lines.specs.Order.{IsWithin, place_of}
use Rattle.tra_reader.specs.inside.GrowingGames.{LeadsInside}
use Rattle.tra_reader.specs.inside.GrowingGames.{AreCounted, AreDrafted, HaveFault, HasGap, IsMade, AreFinished}
use Rattle.tra_reader.specs.inside.GrowingGames.{place_behind, NoneBetween, AreFinishedBefore, IsReady, IfBuilds}
use Rattle.tra_reader.specs.inside.GrowingGames.{IsAsStated}
use Rattle.std.proofs.lemmas.Bool.{cases_lt}
use Rattle.transition_lines.proofs.Ends.{AreSmall, none_of_high, above_of, one_missing, gap_here, gap_stays}

-- the choices from here on are missing before one that is there
pub noted : (crowded : Option ℕ) (ts : List Transition) (s k later count : ℕ) → k < later
    → transitions_of ts s k ≡ [] → 0 < length (transitions_of ts s later) → AreCounted crowded ts s k count
    → HasGap ts s k × (place_of s k < place_of s later)
noted crowded ts s k later count h none found are = (
  record { full = are.full; there = are.there; missing = none; later = later; behind = h; found = found },
  omega (arith, h),
)

-- a state that ends here has no choice from here on
pub none_from : (ts : List Transition) (s k place : ℕ) → AreSmall ts → NoneBetween ts (place_of s k) place
    → place_of (s + 1) 0 ≤ place → (j : ℕ) → k ≤ j → transitions_of ts s j ≡ []
none_from ts s k place small none le = λ j h. elim (cases_lt j most_stated_choices) [
  | inr high ↦ none_of_high ts s j small high
  | inl low ↦ none s j low (omega (arith, h)) (omega (arith, low, le))
]

pub none_later : (ts : List Transition) (from later to : ℕ) → from ≤ later → NoneBetween ts from to
    → NoneBetween ts later to
none_later ts from later to h none = λ s k low le lt. none s k low (omega (arith, h, le)) lt

same_place : (i j s k : ℕ) → 4000000 * i + j ≡ 4000000 * s + k → j < 4000000 → k < 4000000 → (i ≡ s) × (j ≡ k)
same_place i j s k e h g = let same : i ≡ s = omega (arith, e, h, g) in (same, omega (arith, e, same))

-- where nothing stands at the place itself
pub none_here : (ts : List Transition) (s k to : ℕ) → k < most_stated_choices → transitions_of ts s k ≡ []
    → NoneBetween ts (place_of s k + 1) to → NoneBetween ts (place_of s k) to
none_here ts s k to low here none = λ i j small le lt. elim (cases_lt (place_of s k) (place_of i j)) [
  | inl above ↦ none i j small (omega (arith, above)) lt
  | inr at ↦
      let both = same_place i j s k (omega (arith, at, le)) small low in
      ap₂ (λ a b. transitions_of ts a b) both.0 both.1 ∙ here
]

-- behind the choice under way nothing stands up to a place
pub before_next : (n place : ℕ) (ts : List Transition) (old new : FinishedChoices) → new.state ≡ old.state
    → new.choice ≡ old.choice + 1 → old.choice < most_stated_choices → All (IsWithin n) ts
    → NoneBetween ts (place_behind old + 1) place → AreFinished n ts new → AreFinishedBefore n ts place new
before_next n place ts old new state choice low within none made = record {
  made = made;
  low = omega (arith, low, choice);
  none = none_later ts (place_behind old + 1) (place_behind new) place (omega (arith, state, choice)) none;
  within = within;
}

-- where nothing has begun
pub before_first : (n place : ℕ) (ts : List Transition) (finished : FinishedChoices) (parts : List Part) → parts ≡ []
    → parts ≡ parts_of ts finished.state finished.choice → finished.choice < most_stated_choices → All (IsWithin n) ts
    → NoneBetween ts (place_behind finished + 1) place → AreFinished n ts finished
    → AreFinishedBefore n ts place finished
before_first n place ts finished parts empty are low within none made = record {
  made = made;
  low = omega (arith, low);
  none = none_here ts finished.state finished.choice place low
      (no_part (transitions_of ts finished.state finished.choice) (sym are ∙ empty)) none;
  within = within;
}
  where
    no_part : (us : List Transition) → map part_of us ≡ [] → us ≡ []
    no_part [] e = refl
    no_part (u ∷ us) e = cc

-- 2. All finished choices.

pub made_of_all : (n : ℕ) (ts : List Transition) (finished : FinishedChoices) (build_state : BuildState)
    → finished.state ≡ n → finished.choice ≡ 0 → finished.build_state ≡ build_state → AreFinished n ts finished
    → IsMade n ts n 0 finished.count build_state
made_of_all n ts finished build_state state choice is made =
    let P : ℕ → Type 0 = λ s. IsMade n ts s finished.choice finished.count finished.build_state in
    let Q : ℕ → Type 0 = λ k. IsMade n ts n k finished.count finished.build_state in
    let R : BuildState → Type 0 = λ p. IsMade n ts n 0 finished.count p in
    subst R is (subst Q choice (subst P state made))

pub gap_game : (ts : List Transition) (n i j : ℕ) (stated : Option ℕ) → i < n → HasGap ts i j
    → transitions_game ts n stated ≡ Err (fault_of_all (ChoiceGap i j))
gap_game ts n i j stated h gap =
    let missing = one_missing ts i j (choice_end ts i) gap.there gap.missing
    (omega (arith, gap.behind, above_of ts i gap.later gap.found)) in
    ap (λ g. unless_gap g
    (unless_crowded (first_crowded ts n) (if_as_stated stated (sum_of_first (choice_end ts) n) (states_said ts n))))
    (gap_stays ts (suc i) n (i, j) (gap_here ts i j gap.full missing) (omega (arith, h)))

-- where no choice is missing
pub full_game : (crowded : Option ℕ) (ts : List Transition) (n count : ℕ) (stated : Option ℕ)
    → AreCounted crowded ts n 0 count
    → transitions_game ts n stated ≡ unless_crowded crowded (if_as_stated stated count (states_said ts n))
full_game crowded ts n count stated are =
    ap₂ (λ g c. unless_gap g
    (unless_crowded c (if_as_stated stated (sum_of_first (choice_end ts) n) (states_said ts n)))) are.full are.few
    ∙ ap (λ m. unless_crowded crowded (if_as_stated stated m (states_said ts n)))
    (sym (are.total ∙ add-zero (sum_of_first (choice_end ts) n)))

pub fault_said : (ts : List Transition) (n : ℕ) (fault : TraFault) → HaveFault ts n 0 fault
    → states_said ts n ≡ Err fault
fault_said ts n fault (inl before) = before
fault_said ts n fault (inr here) = cc here.said

-- the answer where the choices are counted
pub stated_answer : (stated : Option ℕ) (count : ℕ) (otherwise : Option TraFault) (fault : TraFault)
    (said : Result (List (List Distribution)) TraFault) → IsAsStated stated count otherwise → said ≡ Err fault
    → if_as_stated stated count said ≡ Err (unwrap_or otherwise fault)
stated_answer stated count None fault said is e = is said ∙ e
stated_answer stated count (Some other) fault said is e = is said

ready : (n : ℕ) (ts : List Transition) (k : ℕ) (draft : Draft) → 0 < n → n ≤ most_states
    → AreDrafted n ts n k draft → IsReady draft
ready n ts k draft some few are = record {
  some = omega (arith, are.as_many, some);
  few = omega (arith, are.as_many, few);
  chosen = are.some;
  bounded = are.few;
  inside =
      let P : ℕ → Type 0 = λ m. All (λ choices. All (LeadsInside m) choices) draft.done in
      subst P (sym are.as_many) are.inside;
}

pub all_ready : (n : ℕ) (ts : List Transition) (k count : ℕ) (build_state : BuildState) → 0 < n → n ≤ most_states
    → IsMade n ts n k count build_state → IfBuilds build_state IsReady
all_ready n ts k count (Builds draft) some few made = ready n ts k draft some few made.1
all_ready n ts k count build_state some few made = tt
