-- What is known of the choices before a place stays, whatever transition comes there or behind it.
use Rattle.std.proofs.Common.{◌≡◌, ◌∙◌, ◌<◌, ◌≤◌, inl, inr, ℕ, ◌+◌, ◌*◌, ◌==◌, ◌&&◌, false, cond, List, [], ◌∷◌, ◌++◌}
use Rattle.std.proofs.Common.{length, Option, None, Some, sym, ap, subst, arith}
use Rattle.std.proofs.lemmas.Bool.Decides.{nat_tests}
use Rattle.std.proofs.lemmas.List.{append-nil, length-append}
use Rattle.std.proofs.lemmas.List.Elements.{filter-append}
use Rattle.transition_lines.specs.Limits.{most_stated_choices}
use Rattle.transition_lines.specs.declared.line.Transition.{Transition}
use Rattle.transition_lines.specs.declared.fault.TraFault.{TraFault}
use Rattle.game_model.specs.Draft.{Draft}
use Rattle.tra_reader.specs.declared.build_state.BuildState.{BuildState}
use Rattle.tra_reader.specs.declared.build_state.BuildState.TheVariants.{Builds, Faulty, Crowded, Gap, OutOfMemory}
use Rattle.transition_lines.specs.Lines.{is_of}
use Rattle.transition_lines.specs.Choices.{transitions_of, choice_end}
use Rattle.transition_lines.specs.Order.{place_of, transition_place}
use Rattle.tra_reader.specs.inside.GrowingGames.{AreCounted, AreDrafted, HaveFault, HasGap, IsMade}
use Rattle.transition_lines.proofs.Ends.{end_alike}
use Rattle.transition_lines.proofs.Alike.{SameFirst, choices_alike, states_alike, gap_alike, crowded_alike, sum_alike}

-- the transition is of no choice before this one
record IsBehind (s k : ℕ) (t : Transition) : Type 0 where
  small : t.choice < most_stated_choices
  low : k ≤ most_stated_choices
  place : place_of s k ≤ transition_place t

earlier_state : (s k a c i j : ℕ) → 4000000 * s + k ≤ 4000000 * a + c → c < 4000000 → i < s
    → ((a == i) && (c == j)) ≡ false
earlier_state s k a c i j le small h = grind (arith, nat_tests)

earlier_choice : (s k a c j : ℕ) → 4000000 * s + k ≤ 4000000 * a + c → c < 4000000 → j < k
    → ((a == s) && (c == j)) ≡ false
earlier_choice s k a c j le small h = grind (arith, nat_tests)

-- another transition changes nothing
pub same_other : (ts : List Transition) (t : Transition) (i j : ℕ) → is_of i j t ≡ false
    → transitions_of (ts ++ t ∷ []) i j ≡ transitions_of ts i j
same_other ts t i j e = filter-append (is_of i j) ts (t ∷ []) ∙ ap (λ b. transitions_of ts i j ++ cond b (t ∷ []) []) e
    ∙ append-nil (transitions_of ts i j)

same_states : (ts : List Transition) (t : Transition) (s k : ℕ) → IsBehind s k t → SameFirst (ts ++ t ∷ []) ts s
same_states ts t s k is = λ i j h. same_other ts t i j (earlier_state s k t.source t.choice i j is.place is.small h)

same_choices : (ts : List Transition) (t : Transition) (s k j : ℕ) → IsBehind s k t → j < k
    → transitions_of (ts ++ t ∷ []) s j ≡ transitions_of ts s j
same_choices ts t s k j is h = same_other ts t s j (earlier_choice s k t.source t.choice j is.place is.small h)

-- what is there stays there
pub still_there : (ts : List Transition) (t : Transition) (i j : ℕ) → 0 < length (transitions_of ts i j)
    → 0 < length (transitions_of (ts ++ t ∷ []) i j)
still_there ts t i j h =
    let P : List Transition → Type 0 = λ us. 0 < length us in
    subst P (sym (filter-append (is_of i j) ts (t ∷ [])))
    (omega (arith, h, length-append (transitions_of ts i j) (cond (is_of i j t) (t ∷ []) [])))

counted_stay : (crowded : Option ℕ) (ts : List Transition) (t : Transition) (s k count : ℕ) → IsBehind s k t
    → AreCounted crowded ts s k count → AreCounted crowded (ts ++ t ∷ []) s k count
counted_stay crowded ts t s k count is are = record {
  full = gap_alike (ts ++ t ∷ []) ts s (same_states ts t s k is) ∙ are.full;
  few = crowded_alike (ts ++ t ∷ []) ts s (same_states ts t s k is) ∙ are.few;
  there = λ j h. still_there ts t s j (are.there j h);
  total = are.total ∙ ap (λ n. n + k) (sum_alike (choice_end ts) (choice_end (ts ++ t ∷ [])) s
      (λ i h. sym (end_alike (ts ++ t ∷ []) ts i (λ j. same_states ts t s k is i j h))));
}

drafted_stay : (n : ℕ) (ts : List Transition) (t : Transition) (s k : ℕ) (draft : Draft) → IsBehind s k t
    → AreDrafted n ts s k draft → AreDrafted n (ts ++ t ∷ []) s k draft
drafted_stay n ts t s k draft is are = record {
  done = states_alike (ts ++ t ∷ []) ts s (same_states ts t s k is) ∙ are.done;
  under_way = choices_alike (ts ++ t ∷ []) ts s k (λ j h. same_choices ts t s k j is h) ∙ are.under_way;
  as_many = are.as_many;
  as_many_under_way = are.as_many_under_way;
  some = are.some;
  few = are.few;
  inside = are.inside;
  inside_under_way = are.inside_under_way;
}

fault_stays : (ts : List Transition) (t : Transition) (s k : ℕ) (fault : TraFault) → IsBehind s k t
    → HaveFault ts s k fault → HaveFault (ts ++ t ∷ []) s k fault
fault_stays ts t s k fault is (inl before) = inl (states_alike (ts ++ t ∷ []) ts s (same_states ts t s k is) ∙ before)
fault_stays ts t s k fault is (inr here) = inr (record {
  before = here.before;
  done = states_alike (ts ++ t ∷ []) ts s (same_states ts t s k is) ∙ here.done;
  said = choices_alike (ts ++ t ∷ []) ts s k (λ j h. same_choices ts t s k j is h) ∙ here.said;
})

earlier : (i j a c s k : ℕ) → 4000000 * i + j < 4000000 * s + k → 4000000 * s + k ≤ 4000000 * a + c → c < 4000000
    → ((a == i) && (c == j)) ≡ false
earlier i j a c s k lt le small = grind (arith, nat_tests)

gap_stays : (ts : List Transition) (t : Transition) (s k i j : ℕ) → IsBehind s k t → place_of i j < place_of s k
    → HasGap ts i j → HasGap (ts ++ t ∷ []) i j
gap_stays ts t s k i j is lt gap = record {
  full = gap_alike (ts ++ t ∷ []) ts i (λ a c h. same_states ts t s k is a c (omega (arith, h, lt, is.low))) ∙ gap.full;
  there = λ c h. still_there ts t i c (gap.there c h);
  missing = same_other ts t i j (earlier i j t.source t.choice s k lt is.place is.small) ∙ gap.missing;
  later = gap.later;
  behind = gap.behind;
  found = still_there ts t i gap.later gap.found;
}

-- what has come of the finished choices stays
pub made_stays : (n : ℕ) (ts : List Transition) (t : Transition) (s k count : ℕ) (build_state : BuildState)
    → t.choice < most_stated_choices → k ≤ most_stated_choices → place_of s k ≤ transition_place t
    → IsMade n ts s k count build_state → IsMade n (ts ++ t ∷ []) s k count build_state
made_stays n ts t s k count (Builds draft) small low le made =
    let is : IsBehind s k t = record { small = small; low = low; place = le } in
    (counted_stay None ts t s k count is made.0, drafted_stay n ts t s k draft is made.1)
made_stays n ts t s k count (Faulty fault) small low le made =
    let is : IsBehind s k t = record { small = small; low = low; place = le } in
    (counted_stay None ts t s k count is made.0, fault_stays ts t s k fault is made.1)
made_stays n ts t s k count (Crowded i) small low le made =
    counted_stay (Some i) ts t s k count (record { small = small; low = low; place = le }) made
made_stays n ts t s k count (Gap i j) small low le made =
    (gap_stays ts t s k i j (record { small = small; low = low; place = le }) made.1 made.0, made.1)
made_stays n ts t s k count OutOfMemory small low le made = tt
