-- Best exits, choice by choice.
use Rattle.std.proofs.Common.{◌≡◌, ◌⊎◌, ℕ, ◌+◌, ◌<◌, ◌≤◌, Bool, List, length, set, arith, refl, sym, subst, inl, inr}
use Rattle.std.proofs.Common.{◌∙◌}
use Rattle.std.specs.Prelude.{slice_index}
use Rattle.std.proofs.lemmas.Bool.{cases_eq, eq-eqb, eqb-true, eqb-false, ne_eqb}
use Rattle.std.proofs.lemmas.List.{get_or-set_same, get_or-set_other}
use Rattle.game_model.specs.declared.game.Side.TheVariants.{Max}
use Rattle.game_model.specs.Game.{choices_of, choice_of}
use Rattle.game_model.specs.Query.{Query, states, side_at}
use Rattle.game_model.specs.Rounded.{up_value}
use Rattle.trap_sets.specs.Ends.{numbered}
use Rattle.trap_sets.specs.inside.Parts.{Stays, Leaves}
use Rattle.trap_sets.specs.Exits.{IsExit, GivesExit, IsBestExit, IsBestBefore}

-- a choice that leaves the number of its state is an exit of the set of that number
pub exit-leaves : (q : Query) (of : List ℕ) (s c : ℕ) → s < states q → c < length (choices_of q.game s)
    → side_at q s ≡ Max → Leaves q of s c → IsExit q (numbered of (slice_index of s)) s c
exit-leaves q of s c ls lc greatest leaves = record {
  state = ls;
  member = eq-eqb (slice_index of s) (slice_index of s) refl;
  greatest = greatest;
  choice = lc;
  leaves = (leaves.0, leaves.1, ne_eqb (slice_index of leaves.0) (slice_index of s) leaves.2);
}

-- where the exits of one set are exits of another, its best exit is at most the other's
pub best-within : (q : Query) (table : ℕ → ℕ) (set other : ℕ → Bool) (a b : ℕ)
    → ((s c : ℕ) → IsExit q set s c → IsExit q other s c) → IsBestExit q table set a
    → IsBestExit q table other b → a ≤ b
best-within q table set other a b larger h k = elim h.given [
  | inl none ↦ let least : a ≤ b = omega (arith, none) in least
  | inr one ↦ let most : a ≤ b = omega (arith, one.3, k.most one.0 one.1 (larger one.0 one.1 one.2)) in most
]

module _ (q : Query) (table : ℕ → ℕ) (of exits : List ℕ) (s c : ℕ) (h : IsBestBefore q table of exits s c) where
  own-number : (i d : ℕ) → IsExit q (numbered of i) s d → slice_index of s ≡ i
  own-number i d exit = eqb-true (slice_index of s) i exit.member

  -- a choice whose exits are within the best
  more : ((i : ℕ) → 1 ≤ i → IsExit q (numbered of i) s c → up_value table (choice_of q.game s c) ≤ slice_index exits i)
      → IsBestBefore q table of exits s (c + 1)
  more here = record {
    earlier = h.earlier;
    here = λ i d one exit below. elim (cases_eq d c) [
      | inl same ↦ subst (λ e. up_value table (choice_of q.game s e) ≤ slice_index exits i) (sym same)
          (here i one (subst (λ e. IsExit q (numbered of i) s e) same exit))
      | inr other ↦ h.here i d one exit (omega (arith, below, other))
    ];
    given = h.given;
  }

  pub best-stays : Stays q of s c → IsBestBefore q table of exits s (c + 1)
  best-stays stays = more (λ i one exit. absurd (eqb-false (slice_index of exit.leaves.0) i exit.leaves.2
      (stays exit.leaves.0 exit.leaves.1 ∙ own-number i c exit)))

  pub best-less : up_value table (choice_of q.game s c) ≤ slice_index exits (slice_index of s)
      → IsBestBefore q table of exits s (c + 1)
  best-less most = more (λ i one exit.
      subst (λ j. up_value table (choice_of q.game s c) ≤ slice_index exits j) (own-number i c exit) most)

  pub best-raised : (x : ℕ) → s < states q → c < length (choices_of q.game s) → side_at q s ≡ Max
      → Leaves q of s c → slice_index of s < length exits → x ≡ up_value table (choice_of q.game s c)
      → slice_index exits (slice_index of s) < x → IsBestBefore q table of (set exits (slice_index of s) x) s (c + 1)
  best-raised x ls lc greatest leaves room is above =
      let i : ℕ = slice_index of s in
      let new : List ℕ = set exits i x in
      let at : slice_index new i ≡ x = get_or-set_same exits i x 0 room in
      let rises : (j : ℕ) → slice_index exits j ≤ slice_index new j = λ j. elim (cases_eq j i) [
        | inl same ↦
            let e : slice_index exits j ≤ slice_index new j =
            subst (λ k. slice_index exits k ≤ slice_index new k) (sym same) (omega (arith, at, above)) in
            e
        | inr other ↦
            let e : slice_index exits j ≤ slice_index new j = omega (arith, get_or-set_other exits i j x 0 other) in
            e
      ] in
      record {
        earlier = λ j t d one exit below. omega (arith, h.earlier j t d one exit below, rises j);
        here = λ j d one exit below. elim (cases_eq d c) [
          | inl same ↦
              let value : up_value table (choice_of q.game s d) ≡ x =
              subst (λ e. up_value table (choice_of q.game s e) ≡ x) (sym same) (sym is) in
              let e : up_value table (choice_of q.game s d) ≤ slice_index new j =
              subst (λ k. up_value table (choice_of q.game s d) ≤ slice_index new k) (own-number j d exit)
              (omega (arith, value, at)) in
              e
          | inr other ↦
              let e : up_value table (choice_of q.game s d) ≤ slice_index new j =
              omega (arith, h.here j d one exit (omega (arith, below, other)), rises j) in
              e
        ];
        given = λ j. elim (cases_eq j i) [
          | inl same ↦
              let exit : IsExit q (numbered of j) s c =
              subst (λ k. IsExit q (numbered of k) s c) (sym same) (exit-leaves q of s c ls lc greatest leaves) in
              let value : up_value table (choice_of q.game s c) ≡ slice_index new j =
              sym is ∙ sym at ∙ subst (λ k. slice_index new i ≡ slice_index new k) (sym same) refl in
              inr (s, c, exit, value)
          | inr other ↦ subst (λ v. (v ≡ 0) ⊎ GivesExit q table (numbered of j) v)
              (sym (get_or-set_other exits i j x 0 other)) (h.given j)
        ];
      }
