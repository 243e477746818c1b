-- No trap has an entry above its best exit.
use Rattle.std.proofs.Common.{◌≡◌, ℕ, ◌≤◌, Bool, true, false, List, length, min, arith, refl, subst, Option}
use Rattle.std.specs.Prelude.{slice_index}
use Rattle.std.proofs.Math.Nat.{min-le_right}
use Rattle.std.proofs.lemmas.Bool.{eq-eqb, eqb-false}
use Rattle.game_model.specs.Query.{Query, states}
use Rattle.trap_sets.specs.Ends.{IsTrap, AreTraps, numbered}
use Rattle.trap_sets.specs.Exits.{IsExit, IsBestExit}
use Rattle.trap_sets.specs.Lowered.{IsLowered, IsCapped}
use Rattle.trap_sets.proofs.Exits.{best-within}

module _ (q : Query) (replies : List (Option ℕ)) (of : List ℕ) (count : ℕ) (h : AreTraps q replies of count) where
  -- every trap is one of the numbered ones
  trap-number : (trap : ℕ → Bool) → IsTrap q replies trap → (i : ℕ) × (1 ≤ i)
      × ((s : ℕ) → trap s ≡ true → slice_index of s ≡ i) × ((s : ℕ) → numbered of i s ≡ true → trap s ≡ true)
  trap-number trap k =
      let one : (i : ℕ) × (1 ≤ i) × (i ≤ count) × ((s : ℕ) → trap s ≡ true → slice_index of s ≡ i) =
      h.all trap k.listed k.component in
      let own : IsTrap q replies (numbered of one.0) = h.traps one.0 one.1 one.2 in (
        one.0,
        one.1,
        one.3,
        k.greatest (numbered of one.0) own.listed own.component
            (λ s in'. eq-eqb (slice_index of s) one.0 (one.3 s in')),
      )

  pub IsCapped-lowered : (upper table : List ℕ) → length upper ≡ states q → IsLowered q of upper table
      → IsCapped q replies upper table
  IsCapped-lowered upper table many lowered trap exit k best s in' =
      let at : (i : ℕ) × (1 ≤ i) × ((s : ℕ) → trap s ≡ true → slice_index of s ≡ i)
      × ((s : ℕ) → numbered of i s ≡ true → trap s ≡ true) = trap-number trap k in
      let i : ℕ = at.0 in
      let own : slice_index of s ≡ i = at.2 s in' in
      let entry : (e : ℕ) × IsBestExit q (slice_index upper) (numbered of (slice_index of s)) e
      × (slice_index table s ≡ min (slice_index upper s) e) =
      (lowered.each s (omega (arith, k.component.inside s in', many))).trapped
      (λ none. absurd (omega (arith, none, own, at.1))) in
      let larger : (t c : ℕ) → IsExit q (numbered of i) t c → IsExit q trap t c = λ t c way. record {
        state = way.state;
        member = at.3 t way.member;
        greatest = way.greatest;
        choice = way.choice;
        leaves = (way.leaves.0, way.leaves.1, outside i at.2 way.leaves.0 way.leaves.2 (trap way.leaves.0) refl);
      } in
      omega (
        arith,
        entry.2,
        min-le_right (slice_index upper s) entry.0,
        best-within q (slice_index upper) (numbered of i) trap entry.0 exit larger
            (subst (λ j. IsBestExit q (slice_index upper) (numbered of j) entry.0) own entry.1) best,
      )
    where
      outside : (i : ℕ) → ((s : ℕ) → trap s ≡ true → slice_index of s ≡ i) → (t : ℕ) → numbered of i t ≡ false
          → (b : Bool) → trap t ≡ b → trap t ≡ false
      outside i inside t other true is = absurd (eqb-false (slice_index of t) i other (inside t is))
      outside i inside t other false is = is
