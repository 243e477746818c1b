-- One choice more is finished, and one state more.
use Rattle.std.proofs.Common.{◌≡◌, ◌∙◌, ◌<◌, ◌≤◌, inl, inr, ℕ, zero, suc, ◌+◌, cond, List, [], ◌∷◌, ◌++◌, length}
use Rattle.std.proofs.Common.{Option, None, Some, Ok, Err, refl, sym, ap, ap₂, subst, arith, add-one, add-zero}
use Rattle.std.proofs.lemmas.Bool.{eq-eqb, ne_eqb, cases_lt, lt-ltb, le-ltb}
use Rattle.std.proofs.lemmas.List.{length-map, length_push, nil_from_length}
use Rattle.std.proofs.lemmas.List.Elements.{All-cons, All-filter, All-push, All-weaker}
use Rattle.std.specs.List.{All}
use Rattle.std.specs.Option.{option_or}
use Rattle.game_model.specs.Game.{Distribution}
use Rattle.game_model.specs.Limits.{most_choices}
use Rattle.game_model.specs.Draft.{Draft, between, with_choice, with_state}
use Rattle.distributions.specs.declared.choice.Part.{Part}
use Rattle.distributions.specs.declared.choice.ChoiceFault.{ChoiceFault}
use Rattle.distributions.specs.declared.choice.ChoiceFault.TheVariants.{OutOfMemory as NoMemory, TooFine, BadSum}
use Rattle.distributions.specs.Parts.{choice_said}
use Rattle.transition_lines.specs.Limits.{most_stated_choices}
use Rattle.transition_lines.specs.declared.line.Transition.{Transition}
use Rattle.transition_lines.specs.declared.fault.TraFault.{TraFault}
use Rattle.tra_reader.specs.declared.build_state.BuildState.{BuildState}
use Rattle.tra_reader.specs.declared.build_state.BuildState.TheVariants.{Builds, Faulty, Crowded, Gap, OutOfMemory}
use Rattle.transition_lines.specs.Lines.{is_of}
use Rattle.transition_lines.specs.declared.fault.TraCause.TheVariants.{Choice}
use Rattle.transition_lines.specs.Faults.{fault_of_all}
use Rattle.transition_lines.specs.Choices.{transitions_of, part_of, parts_of, choice_end, first_gap, first_crowded}
use Rattle.transition_lines.specs.Choices.{if_crowded, least_missing, self_loop, sum_of_first, then_push, choice_at}
use Rattle.transition_lines.specs.Choices.{choices_said, state_said, states_said}
use Rattle.transition_lines.specs.Order.{IsWithin}
use Rattle.tra_reader.specs.inside.GrowingGames.{LeadsInside}
use Rattle.tra_reader.specs.inside.GrowingGames.{AreCounted, AreDrafted, HaveFault, IsMade, IsBuilt, IsChoiceFault}
use Rattle.tra_reader.specs.inside.GrowingGames.{after_fault, ended}
use Rattle.transition_lines.proofs.Ends.{end_is, none_missing, no_gap}
use Rattle.tra_reader.proofs.Inside.{inside}

-- 1. One choice more.

there_more : (ts : List Transition) (s k : ℕ) → ((j : ℕ) → j < k → 0 < length (transitions_of ts s j))
    → 0 < length (transitions_of ts s k) → (j : ℕ) → j < k + 1 → 0 < length (transitions_of ts s j)
there_more ts s k there here j h = elim (cases_lt j k) [
  | inl lt ↦ there j lt
  | inr ge ↦
      let P : ℕ → Type 0 = λ i. 0 < length (transitions_of ts s i) in
      let same : k ≡ j = omega (arith, ge, h) in
      subst P same here
]

counted_choice : (crowded : Option ℕ) (ts : List Transition) (s k count : ℕ) → 0 < length (transitions_of ts s k)
    → AreCounted crowded ts s k count → AreCounted crowded ts s (k + 1) (count + 1)
counted_choice crowded ts s k count here are = record {
  full = are.full;
  few = are.few;
  there = there_more ts s k are.there here;
  total = omega (arith, are.total);
}

drafted_choice : (n : ℕ) (ts : List Transition) (s k : ℕ) (old new : Draft) → All (IsWithin n) ts
    → IsBuilt (parts_of ts s k) old new → AreDrafted n ts s k old → AreDrafted n ts s (k + 1) new
drafted_choice n ts s k old new within built are =
    let d = built.distribution in
    let P : Draft → Type 0 = λ draft. AreDrafted n ts s (k + 1) draft in
    let those : All (λ t. t.destination < n) (transitions_of ts s k) = All-weaker (IsWithin n) (λ t. t.destination < n)
    (λ t w. w.destination_in) _ (All-filter (is_of s k) (IsWithin n) ts within) in
    subst P (sym built.is) (record {
      done = are.done;
      under_way = ap (λ m. choices_said ts s m) (add-one k)
          ∙ ap₂ (λ r e. then_push r (choice_at s k e)) are.under_way built.said;
      as_many = are.as_many;
      as_many_under_way = length_push old.under_way d ∙ ap (λ m. m + 1) are.as_many_under_way;
      some = are.some;
      few = are.few;
      inside = are.inside;
      inside_under_way = All-push (LeadsInside n) old.under_way d are.inside_under_way
          (inside n (transitions_of ts s k) d built.denoted those);
    })

pub some_of_parts : (ts : List Transition) (s k : ℕ) (parts : List Part) → parts ≡ parts_of ts s k → 0 < length parts
    → 0 < length (transitions_of ts s k)
some_of_parts ts s k parts are some =
    omega (arith, some, ap (λ (ps : List Part). length ps) are, length-map (transitions_of ts s k) part_of)

-- the choice is built
pub built_choice : (n : ℕ) (ts : List Transition) (s k count : ℕ) (parts : List Part) (old new : Draft)
    → parts ≡ parts_of ts s k → 0 < length (transitions_of ts s k) → All (IsWithin n) ts → IsBuilt parts old new
    → IsMade n ts s k count (Builds old) → IsMade n ts s (k + 1) (count + 1) (Builds new)
built_choice n ts s k count parts old new are here within built made =
    let P : List Part → Type 0 = λ those. IsBuilt those old new in
    (counted_choice None ts s k count here made.0, drafted_choice n ts s k old new within (subst P are built) made.1)

fault_more : (ts : List Transition) (s k : ℕ) (fault : TraFault) → HaveFault ts s k fault → HaveFault ts s (k + 1) fault
fault_more ts s k fault (inl before) = inl before
fault_more ts s k fault (inr here) = inr (record {
  before = here.before;
  done = here.done;
  said = ap (λ m. choices_said ts s m) (add-one k)
      ∙ ap (λ r. then_push r (choice_at s k (choice_said (parts_of ts s k)))) here.said;
})

fault_here : (ts : List Transition) (s k count : ℕ) (done : List (List Distribution)) (choices : List Distribution)
    (fault : ChoiceFault) → 0 < length (transitions_of ts s k) → AreCounted None ts s k count
    → states_said ts s ≡ Ok done → choices_said ts s k ≡ Ok choices → choice_said (parts_of ts s k) ≡ Err fault
    → AreCounted None ts s (k + 1) (count + 1) × HaveFault ts s (k + 1) (fault_of_all (Choice s k fault))
fault_here ts s k count done choices fault here are before first said = (
  counted_choice None ts s k count here are,
  inr (record {
    before = done;
    done = before;
    said = ap (λ m. choices_said ts s m) (add-one k) ∙ ap₂ (λ r e. then_push r (choice_at s k e)) first said;
  }),
)

-- the choice has a fault
pub fault_choice : (n : ℕ) (ts : List Transition) (s k count : ℕ) (draft : Draft) (fault : ChoiceFault)
    (parts : List Part) → parts ≡ parts_of ts s k → 0 < length (transitions_of ts s k) → IsChoiceFault parts fault
    → IsMade n ts s k count (Builds draft) → IsMade n ts s (k + 1) (count + 1) (after_fault s k fault)
fault_choice n ts s k count draft NoMemory parts are here is made = tt
fault_choice n ts s k count draft (TooFine a b) parts are here (inl memory) made = cc
fault_choice n ts s k count draft (TooFine a b) parts are here (inr said) made = fault_here ts s k count draft.done
    draft.under_way (TooFine a b) here made.0 made.1.done made.1.under_way (ap choice_said (sym are) ∙ said)
fault_choice n ts s k count draft (BadSum a b) parts are here (inl memory) made = cc
fault_choice n ts s k count draft (BadSum a b) parts are here (inr said) made = fault_here ts s k count draft.done
    draft.under_way (BadSum a b) here made.0 made.1.done made.1.under_way (ap choice_said (sym are) ∙ said)

-- nothing is built
pub other_choice : (n : ℕ) (ts : List Transition) (s k count : ℕ) (build_state : BuildState)
    → ((draft : Draft) → build_state ≡ Builds draft → ⊥) → 0 < length (transitions_of ts s k)
    → IsMade n ts s k count build_state → IsMade n ts s (k + 1) (count + 1) build_state
other_choice n ts s k count (Builds draft) other here made = absurd (other draft refl)
other_choice n ts s k count (Faulty fault) other here made =
    (counted_choice None ts s k count here made.0, fault_more ts s k fault made.1)
other_choice n ts s k count (Crowded i) other here made = counted_choice (Some i) ts s k count here made
other_choice n ts s k count (Gap i j) other here made = (made.0, omega (arith, made.1))
other_choice n ts s k count OutOfMemory other here made = tt

-- 2. One state more.

counted_state : (crowded next : Option ℕ) (ts : List Transition) (s k count : ℕ) → choice_end ts s ≡ k
    → option_or crowded (if_crowded s k) ≡ next → AreCounted crowded ts s k count → AreCounted next ts (s + 1) 0 count
counted_state crowded next ts s k count end is are = record {
  full = ap (λ n. first_gap ts n) (add-one s)
      ∙ no_gap ts s are.full (ap (λ m. least_missing ts s m) end ∙ none_missing ts s k are.there);
  few = ap (λ n. first_crowded ts n) (add-one s) ∙ ap₂ (λ o m. option_or o (if_crowded s m)) are.few end ∙ is;
  there = λ j h. absurd (omega (arith, h));
  total = are.total ∙ ap (λ m. sum_of_first (choice_end ts) s + m) (sym end)
      ∙ ap (λ n. sum_of_first (choice_end ts) n) (sym (add-one s))
      ∙ sym (add-zero (sum_of_first (choice_end ts) (s + 1)));
}

-- the choices of a state, as a game wants them
record AreChoices (n : ℕ) (ts : List Transition) (s : ℕ) (choices : List Distribution) : Type 0 where
  said : state_said ts s ≡ Ok choices
  some : 0 < length choices
  few : length choices ≤ most_choices
  leads : All (LeadsInside n) choices

drafted_state : (n : ℕ) (ts : List Transition) (s k : ℕ) (draft : Draft) (choices : List Distribution)
    → AreChoices n ts s choices → AreDrafted n ts s k draft
    → AreDrafted n ts (s + 1) 0 (between (draft.done ++ choices ∷ []))
drafted_state n ts s k draft choices is are = record {
  done = ap (λ m. states_said ts m) (add-one s) ∙ ap₂ (λ r d. then_push r d) are.done is.said;
  under_way = refl;
  as_many = length_push draft.done choices ∙ ap (λ m. m + 1) are.as_many;
  as_many_under_way = refl;
  some = All-push (λ cs. 0 < length cs) draft.done choices are.some is.some;
  few = All-push (λ cs. length cs ≤ most_choices) draft.done choices are.few is.few;
  inside = All-push (λ cs. All (LeadsInside n) cs) draft.done choices are.inside is.leads;
  inside_under_way = λ i d h. absurd (omega (arith, h));
}

-- a state without a choice
alone : (n : ℕ) (ts : List Transition) (s : ℕ) → s < n → choice_end ts s ≡ 0 → AreChoices n ts s (self_loop s ∷ [])
alone n ts s h end = record {
  said = ap (λ b. cond b (Ok (self_loop s ∷ [])) (choices_said ts s (choice_end ts s)))
      (eq-eqb (choice_end ts s) 0 end);
  some = omega arith;
  few = omega arith;
  leads = All-cons (LeadsInside n) (self_loop s) []
      (All-cons (λ e. e.to < n) (record { to = s; weight = 1 }) [] h (λ k d g. absurd (omega (arith, g))))
      (λ k d g. absurd (omega (arith, g)));
}

-- a state with choices has the first so many
state_of_first : (ts : List Transition) (s m : ℕ) → choice_end ts s ≡ m → 0 < m → state_said ts s ≡ choices_said ts s m
state_of_first ts s m end some =
    ap (λ b. cond b (Ok (self_loop s ∷ [])) (choices_said ts s (choice_end ts s)))
    (ne_eqb (choice_end ts s) 0 (λ z. omega (arith, z, end, some)))
    ∙ ap (λ k. choices_said ts s k) end

-- a state with choices
with_some : (n : ℕ) (ts : List Transition) (s k : ℕ) (draft : Draft) → choice_end ts s ≡ k → 0 < k → k ≤ most_choices
    → AreDrafted n ts s k draft → AreChoices n ts s draft.under_way
with_some n ts s k draft end some few are = record {
  said = state_of_first ts s k end some ∙ are.under_way;
  some = omega (arith, are.as_many_under_way, some);
  few = omega (arith, are.as_many_under_way, few);
  leads = are.inside_under_way;
}

ended_state : (n : ℕ) (ts : List Transition) (s k : ℕ) (draft : Draft) → s < n → choice_end ts s ≡ k → k ≤ most_choices
    → AreDrafted n ts s k draft → AreDrafted n ts (s + 1) 0 (ended s k draft)
ended_state n ts s k draft h end few are = elim (cases_lt 0 k) [
  | inl some ↦
      let P : Draft → Type 0 = λ new. AreDrafted n ts (s + 1) 0 new in
      subst P (sym (ap (λ b. cond b (with_state (with_choice draft (self_loop s))) (with_state draft))
      (ne_eqb k 0 (λ e. omega (arith, e, some)))))
      (drafted_state n ts s k draft draft.under_way (with_some n ts s k draft end some few are) are)
  | inr none ↦
      let P : Draft → Type 0 = λ new. AreDrafted n ts (s + 1) 0 new in
      let nought : k ≡ 0 = omega (arith, none) in
      let empty : draft.under_way ≡ [] = nil_from_length draft.under_way (are.as_many_under_way ∙ nought) in
      subst P
      (sym (ap (λ b. cond b (with_state (with_choice draft (self_loop s))) (with_state draft)) (eq-eqb k 0 nought)
      ∙ ap (λ (ds : List Distribution). between (draft.done ++ (ds ++ self_loop s ∷ []) ∷ [])) empty))
      (drafted_state n ts s k draft (self_loop s ∷ []) (alone n ts s h (end ∙ nought)) are)
]

fault_ended : (ts : List Transition) (s k : ℕ) (fault : TraFault) → choice_end ts s ≡ k → HaveFault ts s k fault
    → HaveFault ts (s + 1) 0 fault
fault_ended ts s k fault end (inl before) =
    inl (ap (λ m. states_said ts m) (add-one s) ∙ ap (λ r. then_push r (state_said ts s)) before)
fault_ended ts s zero fault end (inr here) = cc here.said
fault_ended ts s (suc k) fault end (inr here) = inl (ap (λ m. states_said ts m) (add-one s)
    ∙ ap₂ (λ r d. then_push r d) here.done (state_of_first ts s (suc k) end (omega arith) ∙ here.said))

end_here : (crowded : Option ℕ) (ts : List Transition) (s k count : ℕ) → ((j : ℕ) → k ≤ j → transitions_of ts s j ≡ [])
    → AreCounted crowded ts s k count → choice_end ts s ≡ k
end_here crowded ts s k count none are =
    end_is ts s k (record { none = none; last = λ j e. are.there j (omega (arith, e)) })

-- a state that ends here, behind which this is the first with too many
ends_counted : (crowded next : Option ℕ) (ts : List Transition) (s k count : ℕ)
    → ((j : ℕ) → k ≤ j → transitions_of ts s j ≡ []) → option_or crowded (if_crowded s k) ≡ next
    → AreCounted crowded ts s k count → AreCounted next ts (s + 1) 0 count
ends_counted crowded next ts s k count none is are =
    counted_state crowded next ts s k count (end_here crowded ts s k count none are) is are

not_crowded : (s k : ℕ) → k ≤ most_choices → if_crowded s k ≡ None
not_crowded s k few = ap (λ b. cond b (Some s) None) (le-ltb most_choices k few)

-- the state ends and is built
pub built_state : (n : ℕ) (ts : List Transition) (s k count : ℕ) (draft : Draft) → s < n → k ≤ most_choices
    → ((j : ℕ) → k ≤ j → transitions_of ts s j ≡ []) → IsMade n ts s k count (Builds draft)
    → IsMade n ts (s + 1) 0 count (Builds (ended s k draft))
built_state n ts s k count draft h few none made =
    let end = end_here None ts s k count none made.0 in
    (counted_state None None ts s k count end (not_crowded s k few) made.0, ended_state n ts s k draft h end few made.1)

pub other_state : (n : ℕ) (ts : List Transition) (s k count : ℕ) (build_state : BuildState)
    → ((draft : Draft) → build_state ≡ Builds draft → ⊥) → k ≤ most_choices
    → ((j : ℕ) → k ≤ j → transitions_of ts s j ≡ []) → IsMade n ts s k count build_state
    → IsMade n ts (s + 1) 0 count build_state
other_state n ts s k count (Builds draft) other few none made = absurd (other draft refl)
other_state n ts s k count (Faulty fault) other few none made =
    let end = end_here None ts s k count none made.0 in
    (counted_state None None ts s k count end (not_crowded s k few) made.0, fault_ended ts s k fault end made.1)
other_state n ts s k count (Crowded i) other few none made = ends_counted (Some i) (Some i) ts s k count none refl made
other_state n ts s k count (Gap i j) other few none made = (made.0, omega (arith, made.1, few))
other_state n ts s k count OutOfMemory other few none made = tt

-- the state ends and has too many choices
pub crowded_state : (ts : List Transition) (s k count : ℕ) → most_choices < k
    → ((j : ℕ) → k ≤ j → transitions_of ts s j ≡ []) → AreCounted None ts s k count
    → AreCounted (Some s) ts (s + 1) 0 count
crowded_state ts s k count many none are =
    ends_counted None (Some s) ts s k count none (ap (λ b. cond b (Some s) None) (lt-ltb most_choices k many)) are

-- a state with too many choices behind one, or behind a gap
pub later_state : (n : ℕ) (ts : List Transition) (s k count : ℕ) (build_state : BuildState)
    → ((draft : Draft) → build_state ≡ Builds draft → ⊥) → ((fault : TraFault) → build_state ≡ Faulty fault → ⊥)
    → k ≤ most_stated_choices → ((j : ℕ) → k ≤ j → transitions_of ts s j ≡ []) → IsMade n ts s k count build_state
    → IsMade n ts (s + 1) 0 count build_state
later_state n ts s k count (Builds draft) building faulty few none made = absurd (building draft refl)
later_state n ts s k count (Faulty fault) building faulty few none made = absurd (faulty fault refl)
later_state n ts s k count (Crowded i) building faulty few none made =
    ends_counted (Some i) (Some i) ts s k count none refl made
later_state n ts s k count (Gap i j) building faulty few none made = (made.0, omega (arith, made.1, few))
later_state n ts s k count OutOfMemory building faulty few none made = tt
