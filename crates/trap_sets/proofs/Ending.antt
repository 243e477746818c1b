-- Parts whose states reach each other, less the states that have no internal choice, are end components.
use Rattle.std.proofs.Common.{◌≡◌, ◌≢◌, ℕ, zero, suc, ◌+◌, ◌-◌, ◌<◌, ◌≤◌, List, arith, sym, ◌∙◌, subst}
use Rattle.std.proofs.Common.{inl, inr, Option}
use Rattle.std.specs.Prelude.{slice_index}
use Rattle.std.proofs.lemmas.Bool.{cases_eq}
use Rattle.game_model.specs.Query.{Query, states}
use Rattle.trap_sets.specs.Moves.{Walk}
use Rattle.trap_sets.specs.inside.Each.{IsEach}
use Rattle.trap_sets.specs.inside.Parts.{IsInternal, IsStep, Comes, IsRooted}
use Rattle.trap_sets.specs.inside.Settled.{KeepsEnds, AreJoined, AreSettled, IsKept}
use Rattle.trap_sets.proofs.Keeping.{ends-internal}
use Rattle.trap_sets.proofs.Zeros.{within}

-- a state that comes to another has an internal choice
first-step : (q : Query) (replies : List (Option ℕ)) (part : List ℕ) (n s t : ℕ) → Walk (IsStep q replies part) n s t
    → s ≢ t → (c : ℕ) × IsInternal q replies part s c
first-step q replies part zero s t walk other = absurd (other walk)
first-step q replies part (suc n) s t walk other =
    let step : IsStep q replies part s walk.0 = walk.1 in
    (step.choice, step.internal)

module _ (q : Query) (replies : List (Option ℕ)) (class part : List ℕ) (h : KeepsEnds q replies class)
    (rooted : IsRooted class) (joined : AreJoined q replies class)
    (k : IsEach (IsKept q replies class) part (states q)) where
  inside : (s : ℕ) → slice_index part s ≢ 0 → s < states q
  inside s some = omega (arith, within part s some, k.many)

  refines : (s : ℕ) → slice_index part s ≢ 0 → slice_index part s ≡ slice_index class s
  refines s some = elim (k.each s (inside s some)) [
    | inl lost ↦ absurd (some lost.0)
    | inr kept ↦ kept.0
  ]

  internal-was : (s : ℕ) → slice_index part s ≢ 0 → (c : ℕ) × IsInternal q replies class s c
  internal-was s some = elim (k.each s (inside s some)) [
    | inl lost ↦ absurd (some lost.0)
    | inr kept ↦ kept.1
  ]

  live : (s : ℕ) → slice_index part s ≢ 0 → slice_index class s ≢ 0
  live s some none = some (refines s some ∙ none)

  -- a state that comes to another has kept its part
  whole : (s t : ℕ) → slice_index part s ≢ 0 → slice_index class t ≡ slice_index class s → slice_index part t ≢ 0
  whole s t some same =
      let there : slice_index class t ≢ 0 = λ none. live s some (sym same ∙ none) in
      elim (k.each t (omega (arith, within class t there, h.many))) [
        | inr kept ↦ λ none. there (sym kept.0 ∙ none)
        | inl lost ↦ elim (cases_eq t s) [
          | inl here ↦
              let one = internal-was s some in
              absurd (lost.1 one.0 (subst (λ u. IsInternal q replies class u one.0) (sym here) one.1))
          | inr other ↦
              let comes : Comes q replies class t s = joined t s there same in
              let one = first-step q replies class comes.0 t s comes.1 other in
              absurd (lost.1 one.0 one.1)
        ]
      ]

  kept-number : (s : ℕ) (c : ℕ) → s < states q → IsInternal q replies class s c
      → slice_index part s ≡ slice_index class s
  kept-number s c ls internal = elim (k.each s ls) [
    | inl lost ↦ absurd (lost.1 c internal)
    | inr kept ↦ kept.0
  ]

  stays-now : (s t : ℕ) → slice_index part s ≢ 0 → slice_index class t ≡ slice_index class s
      → slice_index part t ≡ slice_index part s
  stays-now s t some same = refines t (whole s t some same) ∙ same ∙ sym (refines s some)

  walk-now : (n s t : ℕ) → slice_index part s ≢ 0 → Walk (IsStep q replies class) n s t
      → Walk (IsStep q replies part) n s t
  walk-now zero s t some walk = walk
  walk-now (suc n) s t some walk =
      let step : IsStep q replies class s walk.0 = walk.1 in
      let now : IsStep q replies part s walk.0 = record {
        choice = step.choice;
        state = step.state;
        internal = record {
          some = some;
          mdp = step.internal.mdp;
          stays = λ u leads. stays-now s u some (step.internal.stays u leads);
        };
        leads = step.leads;
      } in
      (walk.0, now, walk-now n walk.0 t (whole s walk.0 some (step.internal.stays walk.0 step.leads)) walk.2)

  pub AreSettled-kept : AreSettled q replies part
  AreSettled-kept = record {
    keeps = record {
      many = k.many;
      free = λ s ls some. h.free s ls (live s some);
      kept = λ member listed component s in' none.
          let one = component.chosen s in' in
          h.kept member listed component s in' (sym (kept-number s one.0 (component.inside s in')
          (ends-internal q replies class member listed s one.0 h component in' one.1 one.2)) ∙ none);
      joined = λ member listed component s t in' in''.
          let one = component.chosen s in' in
          let two = component.chosen t in'' in
          kept-number s one.0 (component.inside s in')
          (ends-internal q replies class member listed s one.0 h component in' one.1 one.2)
          ∙ h.joined member listed component s t in' in''
          ∙ sym (kept-number t two.0 (component.inside t in'')
          (ends-internal q replies class member listed t two.0 h component in'' two.1 two.2));
    };
    rooted = record {
      root = λ s some.
          let root : slice_index class (slice_index class s - 1) ≡ slice_index class s =
          rooted.root s (live s some) in
          subst (λ x. slice_index part (x - 1) ≡ x) (sym (refines s some))
          (refines (slice_index class s - 1) (whole s (slice_index class s - 1) some root) ∙ root);
      least = λ s. elim (cases_eq (slice_index part s) 0) [
        | inl none ↦ let e : slice_index part s ≤ s + 1 = omega (arith, none) in e
        | inr some ↦ let e : slice_index part s ≤ s + 1 = omega (arith, refines s some, rooted.least s) in e
      ];
    };
    internal = λ s ls some.
        let one = internal-was s some in (
          one.0,
          record { some = some; mdp = one.1.mdp; stays = λ t leads. stays-now s t some (one.1.stays t leads) },
        );
    joined = λ s t some is.
        let comes : Comes q replies class s t =
        joined s t (live s some) (sym (refines s some) ∙ is ∙ refines t (λ none. some (is ∙ none))) in
        (comes.0, walk-now comes.0 s t some comes.1);
  }
