-- Traps are closed sets.
use Rattle.std.proofs.Common.{◌≡◌, ◌≢◌, ℕ, ◌<◌, true, List, arith, refl, sym, subst, Option, None}
use Rattle.std.specs.Prelude.{slice_index, slice_index_or, IsSomeAnd}
use Rattle.std.proofs.lemmas.Bool.{eq-eqb, eqb-true}
use Rattle.game_model.specs.declared.game.Side.TheVariants.{Min}
use Rattle.game_model.specs.Query.{Query, states, side_at}
use Rattle.fixed_bellman.specs.Given.{IsFree}
use Rattle.trap_sets.specs.Ends.{IsTrap, AreTraps, numbered}
use Rattle.trap_sets.specs.Moves.{IsReplyMdp}
use Rattle.trap_sets.specs.inside.Parts.{Stays}

-- a state of a numbered set is neither goal nor dead, and a reply of the minimiser stays in it
pub record IsClosed (q : Query) (replies : List (Option ℕ)) (of : List ℕ) : Type 0 where
  pub free : (s : ℕ) → s < states q → slice_index of s ≢ 0 → IsFree q s
  pub replied : (s : ℕ) → s < states q → slice_index of s ≢ 0 → side_at q s ≡ Min
      → IsSomeAnd (slice_index_or replies s None) (Stays q of s)

module _ (q : Query) (replies : List (Option ℕ)) (of : List ℕ) (count : ℕ) (h : AreTraps q replies of count) where
  trap-at : (s : ℕ) → slice_index of s ≢ 0 → IsTrap q replies (numbered of (slice_index of s))
  trap-at s some = h.traps (slice_index of s) (omega (arith, some)) (h.most s)

  in-trap : (s : ℕ) → numbered of (slice_index of s) s ≡ true
  in-trap s = eq-eqb (slice_index of s) (slice_index of s) refl

  pub IsClosed-traps : IsClosed q replies of
  IsClosed-traps = record {
    free = λ s ls some. (trap-at s some).component.free s (in-trap s);
    replied = λ s ls some least.
        let trap : IsTrap q replies (numbered of (slice_index of s)) = trap-at s some in
        let one = trap.component.chosen s (in-trap s) in
        let mdp : IsReplyMdp q replies s one.0 = trap.component.mdp s one.0 (in-trap s) one.1 one.2 in
        let stays : Stays q of s one.0 = λ t leads. eqb-true (slice_index of t) (slice_index of s)
        (trap.component.closed s one.0 t (in-trap s) one.1 one.2 leads) in
        subst (λ r. IsSomeAnd r (Stays q of s)) (sym (mdp.replied least)) stays;
  }
