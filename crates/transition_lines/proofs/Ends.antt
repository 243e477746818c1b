-- How many choices a state has, from the transitions of each.
use Rattle.std.proofs.Common.{◌≡◌, ◌∙◌, ◌<◌, ◌≤◌, ◌⊎◌, inl, inr, ℕ, zero, suc, ◌+◌, ◌-◌, ◌==◌, ◌&&◌, max, Bool, true}
use Rattle.std.proofs.Common.{false, cond, List, [], ◌∷◌, length, Option, Some, None, option_map, refl, sym, ap, ap₂}
use Rattle.std.proofs.Common.{subst, arith}
use Rattle.std.proofs.lemmas.Bool.{cases_Bool, cases_lt}
use Rattle.std.proofs.lemmas.Bool.Decides.{nat_tests}
use Rattle.std.specs.List.{filter, All}
use Rattle.std.specs.Option.{option_or}
use Rattle.text_lines.specs.Text.{is_nil}
use Rattle.transition_lines.specs.Limits.{most_stated_choices}
use Rattle.transition_lines.specs.declared.line.Transition.{Transition}
use Rattle.transition_lines.specs.Lines.{is_of}
use Rattle.transition_lines.specs.Choices.{transitions_of, choice_end, least_missing, first_gap, of_state}
use Rattle.transition_lines.specs.Order.{has, place_of, transition_place}
use Rattle.transition_lines.proofs.Rows.{same_place}

-- each transition has a small choice
abbrev pub AreSmall : List Transition → Type 0
AreSmall ts = All (λ t. t.choice < most_stated_choices) ts

pub small_more : (t : Transition) (ts : List Transition) → AreSmall (t ∷ ts) → AreSmall ts
small_more t ts small = λ k d h. small (suc k) d (omega arith)

-- the transitions of a choice are those at its place
pub of_at : (ts : List Transition) (s k : ℕ) → AreSmall ts → k < most_stated_choices
    → transitions_of ts s k ≡ filter (has transition_place (place_of s k)) ts
of_at [] s k small h = refl
of_at (t ∷ ts) s k small h = ap₂ (λ b us. cond b (t ∷ us) us)
    (same_place t.source t.choice s k (small zero t (omega arith)) h) (of_at ts s k (small_more t ts small) h)

high_test : (i c s k : ℕ) → c < 4000000 → 4000000 ≤ k → ((i == s) && (c == k)) ≡ false
high_test i c s k h g = grind (arith, nat_tests)

pub none_of_high : (ts : List Transition) (s k : ℕ) → AreSmall ts → most_stated_choices ≤ k → transitions_of ts s k ≡ []
none_of_high [] s k small h = refl
none_of_high (t ∷ ts) s k small h = ap (λ b. cond b (t ∷ transitions_of ts s k) (transitions_of ts s k))
    (high_test t.source t.choice s k (small zero t (omega arith)) h) ∙ none_of_high ts s k (small_more t ts small) h

other_state : (i c s k : ℕ) → (i == s) ≡ false → ((i == s) && (c == k)) ≡ false
other_state i c s k e = grind (arith, nat_tests)

other_choice : (i c s k : ℕ) → c < k → ((i == s) && (c == k)) ≡ false
other_choice i c s k h = grind (arith, nat_tests)

this_choice : (i c s k : ℕ) → (i == s) ≡ true → c ≡ k → ((i == s) && (c == k)) ≡ true
this_choice i c s k e h = grind (arith, nat_tests)

max_le : (a b c : ℕ) → max a b ≤ c → (a ≤ c) × (b ≤ c)
max_le a b c h = (omega arith, omega arith)

-- no transition is of a choice from the end on
pub end_none : (ts : List Transition) (s k : ℕ) → choice_end ts s ≤ k → transitions_of ts s k ≡ []
end_none [] s k h = refl
end_none (t ∷ ts) s k h = elim (cases_Bool (t.source == s)) [
  | inl e ↦
      let P : ℕ → Type 0 = λ m. m ≤ k in
      let le = max_le (t.choice + 1) (choice_end ts s) k
      (subst P (ap (λ b. cond b (max (t.choice + 1) (choice_end ts s)) (choice_end ts s)) e) h) in
      ap (λ b. cond b (t ∷ transitions_of ts s k) (transitions_of ts s k))
      (other_choice t.source t.choice s k (omega (arith, le.0))) ∙ end_none ts s k le.1
  | inr e ↦
      let P : ℕ → Type 0 = λ m. m ≤ k in
      ap (λ b. cond b (t ∷ transitions_of ts s k) (transitions_of ts s k)) (other_state t.source t.choice s k e)
      ∙ end_none ts s k (subst P (ap (λ b. cond b (max (t.choice + 1) (choice_end ts s)) (choice_end ts s)) e) h)
]

longer : (b : Bool) (t : Transition) (ts : List Transition) → 0 < length ts → 0 < length (cond b (t ∷ ts) ts)
longer true t ts h = omega arith
longer false t ts h = h

max_is : (a b c : ℕ) → max a b ≡ c → (a ≡ c) ⊎ (b ≡ c)
max_is a b c h = elim (cases_lt a b) [ inl lt ↦ inr (omega (arith, lt, h)) | inr ge ↦ inl (omega (arith, ge, h)) ]

-- the choice before the end has a transition
pub end_last : (ts : List Transition) (s k : ℕ) → choice_end ts s ≡ k + 1 → 0 < length (transitions_of ts s k)
end_last [] s k e = absurd (omega (arith, e))
end_last (t ∷ ts) s k e = elim (cases_Bool (t.source == s)) [
  | inr other ↦ longer (is_of s k t) t (transitions_of ts s k)
      (end_last ts s k (sym (ap (λ b. cond b (max (t.choice + 1) (choice_end ts s)) (choice_end ts s)) other) ∙ e))
  | inl same ↦
      elim (max_is (t.choice + 1) (choice_end ts s) (k + 1)
      (sym (ap (λ b. cond b (max (t.choice + 1) (choice_end ts s)) (choice_end ts s)) same) ∙ e)) [
        | inr later ↦ longer (is_of s k t) t (transitions_of ts s k) (end_last ts s k later)
        | inl here ↦
            let P : Bool → Type 0 = λ b. 0 < length (cond b (t ∷ transitions_of ts s k) (transitions_of ts s k)) in
            subst P (sym (this_choice t.source t.choice s k same (omega (arith, here)))) (omega arith)
      ]
]

pub empty_not_some : (ts : List Transition) → ts ≡ [] → 0 < length ts → ⊥
empty_not_some ts e h = omega (arith, ap (λ (us : List Transition). length us) e, h)

-- the end, from the transitions of each choice
pub record HasEnd (ts : List Transition) (s m : ℕ) : Type 0 where
  pub none : (k : ℕ) → m ≤ k → transitions_of ts s k ≡ []
  pub last : (k : ℕ) → m ≡ k + 1 → 0 < length (transitions_of ts s k)

less_end : (ts : List Transition) (s m : ℕ) → HasEnd ts s m → m < choice_end ts s → ⊥
less_end ts s m is h = empty_not_some (transitions_of ts s (choice_end ts s - 1))
    (is.none (choice_end ts s - 1) (omega (arith, h))) (end_last ts s (choice_end ts s - 1) (omega (arith, h)))

more_end : (ts : List Transition) (s m : ℕ) → HasEnd ts s m → choice_end ts s < m → ⊥
more_end ts s m is h = empty_not_some (transitions_of ts s (m - 1)) (end_none ts s (m - 1) (omega (arith, h)))
    (is.last (m - 1) (omega (arith, h)))

pub end_is : (ts : List Transition) (s m : ℕ) → HasEnd ts s m → choice_end ts s ≡ m
end_is ts s m is = elim (cases_lt (choice_end ts s) m) [
  | inl lt ↦ absurd (more_end ts s m is lt)
  | inr ge ↦ elim (cases_lt m (choice_end ts s)) [
    | inl gt ↦ absurd (less_end ts s m is gt)
    | inr le ↦ omega (arith, ge, le)
  ]
]

pub above_of : (ts : List Transition) (s k : ℕ) → 0 < length (transitions_of ts s k) → k < choice_end ts s
above_of ts s k some = elim (cases_lt k (choice_end ts s)) [
  | inl lt ↦ lt
  | inr ge ↦ absurd (empty_not_some (transitions_of ts s k) (end_none ts s k ge) some)
]

some_not_nil : (ts : List Transition) → 0 < length ts → is_nil ts ≡ false
some_not_nil [] h = absurd (omega arith)
some_not_nil (t ∷ ts) h = refl

-- where each has a transition none is missing
pub none_missing : (ts : List Transition) (s m : ℕ) → ((k : ℕ) → k < m → 0 < length (transitions_of ts s k))
    → least_missing ts s m ≡ None
none_missing ts s zero all = refl
none_missing ts s (suc k) all =
    ap (λ o. option_or o (cond (is_nil (transitions_of ts s k)) (Some k) None))
    (none_missing ts s k (λ j h. all j (omega (arith, h))))
    ∙ ap (λ b. cond b (Some k) None) (some_not_nil (transitions_of ts s k) (all k (omega arith)))

pub one_missing : (ts : List Transition) (s g m : ℕ) → ((k : ℕ) → k < g → 0 < length (transitions_of ts s k))
    → transitions_of ts s g ≡ [] → g < m → least_missing ts s m ≡ Some g
one_missing ts s g zero all none h = absurd (omega arith)
one_missing ts s g (suc k) all none h = elim (cases_lt g k) [
  | inl lt ↦ ap (λ o. option_or o (cond (is_nil (transitions_of ts s k)) (Some k) None))
      (one_missing ts s g k all none lt)
  | inr ge ↦
      let same : k ≡ g = omega (arith, ge, h) in
      ap (λ o. option_or o (cond (is_nil (transitions_of ts s k)) (Some k) None))
      (none_missing ts s k (λ j i. all j (omega (arith, i, same))))
      ∙ ap (λ b. cond b (Some k) None)
      (ap (λ j. is_nil (transitions_of ts s j)) same ∙ ap (λ (us : List Transition). is_nil us) none)
      ∙ ap (λ j. Some j) same
]

-- the converse: what is known where none is missing
pub all_there : (ts : List Transition) (s m : ℕ) → least_missing ts s m ≡ None → (k : ℕ) → k < m
    → 0 < length (transitions_of ts s k)
all_there ts s zero e k h = absurd (omega arith)
all_there ts s (suc m) e k h =
    let parts = both_none (least_missing ts s m) (cond (is_nil (transitions_of ts s m)) (Some m) None) e in
    elim (cases_lt k m) [
      | inl lt ↦ all_there ts s m parts.0 k lt
      | inr ge ↦
          let same : m ≡ k = omega (arith, ge, h) in
          let P : ℕ → Type 0 = λ j. 0 < length (transitions_of ts s j) in
          subst P same (not_nil (transitions_of ts s m) m parts.1)
    ]
  where
    both_none : (o p : Option ℕ) → option_or o p ≡ None → (o ≡ None) × (p ≡ None)
    both_none None p e = (refl, e)
    both_none (Some x) p e = cc

    not_nil : (us : List Transition) (m : ℕ) → cond (is_nil us) (Some m) None ≡ None → 0 < length us
    not_nil [] m e = cc
    not_nil (u ∷ us) m e = omega arith

-- lists with the same transitions of each choice of a state
pub end_alike : (ts us : List Transition) (s : ℕ) → ((k : ℕ) → transitions_of ts s k ≡ transitions_of us s k)
    → choice_end ts s ≡ choice_end us s
end_alike ts us s same = end_is ts s (choice_end us s) (record {
  none = λ k h. same k ∙ end_none us s k h;
  last = λ k e. let P : List Transition → Type 0 = λ vs. 0 < length vs in subst P (sym (same k)) (end_last us s k e);
})

pub missing_alike : (ts us : List Transition) (s m : ℕ) → ((k : ℕ) → transitions_of ts s k ≡ transitions_of us s k)
    → least_missing ts s m ≡ least_missing us s m
missing_alike ts us s zero same = refl
missing_alike ts us s (suc k) same =
    ap₂ (λ o vs. option_or o (cond (is_nil vs) (Some k) None)) (missing_alike ts us s k same) (same k)

-- a gap, and then the gap of more states
pub gap_here : (ts : List Transition) (s k : ℕ) → first_gap ts s ≡ None → least_missing ts s (choice_end ts s) ≡ Some k
    → first_gap ts (suc s) ≡ Some (s, k)
gap_here ts s k none e = ap₂ (λ o p. option_or o (option_map (of_state s) p)) none e

pub gap_stays : (ts : List Transition) (m n : ℕ) (gap : ℕ × ℕ) → first_gap ts m ≡ Some gap → m ≤ n
    → first_gap ts n ≡ Some gap
gap_stays ts m zero gap e h = ap (λ k. first_gap ts k) zero_is ∙ e
  where
    zero_is : zero ≡ m
    zero_is = omega arith
gap_stays ts m (suc n) gap e h = elim (cases_lt m (suc n)) [
  | inl lt ↦ ap (λ o. option_or o (option_map (of_state n) (least_missing ts n (choice_end ts n))))
      (gap_stays ts m n gap e (omega (arith, lt)))
  | inr ge ↦ let same : suc n ≡ m = omega (arith, ge, h) in ap (λ k. first_gap ts k) same ∙ e
]

pub no_gap : (ts : List Transition) (s : ℕ) → first_gap ts s ≡ None → least_missing ts s (choice_end ts s) ≡ None
    → first_gap ts (suc s) ≡ None
no_gap ts s none e = ap₂ (λ o p. option_or o (option_map (of_state s) p)) none e
