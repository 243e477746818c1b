-- A table has one fault at most.
use Rattle.std.proofs.Common.{◌≡◌, ℕ, ◌≤◌, List, arith, refl, ap, subst, sym, ◌∙◌, inl, inr, ◌⊎◌}
use Rattle.std.specs.Prelude.{slice_index}
use Rattle.std.proofs.lemmas.Bool.{both_ways}
use Rattle.game_model.specs.declared.game.Side.TheVariants.{Max, Min}
use Rattle.game_model.specs.Query.{Query, is_goal}
use Rattle.game_model.specs.Rounded.{up_step}
use Rattle.game_model.specs.Tables.{IsFirstOver}
use Rattle.fixed_bellman.proofs.Firsts.{first-one, over-one}
use Rattle.inductive_check.specs.declared.upper.UpperCause.{UpperCause}
use Rattle.inductive_check.specs.declared.upper.UpperCause.TheVariants.{OverOne, Goal, Above, NoReply, Reply}
use Rattle.inductive_check.specs.Held.{IsHeldAt, IsFirstUnheld}
use Rattle.inductive_check.specs.Faults.{IsFirstAbove, IsCauseAt, IsNotInductiveAt, IsUpperFault}

above-one : (q : Query) (table : ℕ → ℕ) (s t : ℕ) → IsFirstAbove q table s → IsFirstAbove q table t → s ≡ t
above-one q table s t h k = first-one (λ r. up_step q table r ≤ table r) s t (λ low. omega (arith, low, h.above))
    (λ low. omega (arith, low, k.above)) h.before k.before

unheld-one : (q : Query) (table : ℕ → ℕ) (s c d : ℕ) → IsFirstUnheld q table s c → IsFirstUnheld q table s d → c ≡ d
unheld-one q table s c d h k = first-one (λ r. IsHeldAt q table s r) c d h.unheld k.unheld h.before k.before

-- a state has one cause at most
cause-one : (q : Query) (table : ℕ → ℕ) (s : ℕ) (cause other : UpperCause) → IsCauseAt q table s cause
    → IsCauseAt q table s other → cause ≡ other
cause-one q table s OverOne other h k = absurd h
cause-one q table s Reply other h k = absurd h
cause-one q table s Goal OverOne h k = absurd k
cause-one q table s Goal Goal h k = refl
cause-one q table s Goal (Above c) h k = let free = k.0 in absurd (both_ways (is_goal q s) free.0 h)
cause-one q table s Goal NoReply h k = let free = k.0 in absurd (both_ways (is_goal q s) free.0 h)
cause-one q table s Goal Reply h k = absurd k
cause-one q table s (Above c) OverOne h k = absurd k
cause-one q table s (Above c) Goal h k = let free = h.0 in absurd (both_ways (is_goal q s) free.0 k)
cause-one q table s (Above c) (Above d) h k = ap Above (unheld-one q table s c d h.2 k.2)
cause-one q table s (Above c) NoReply h k = let side : Max ≡ Min = sym h.1 ∙ k.1 in cc
cause-one q table s (Above c) Reply h k = absurd k
cause-one q table s NoReply OverOne h k = absurd k
cause-one q table s NoReply Goal h k = let free = h.0 in absurd (both_ways (is_goal q s) free.0 k)
cause-one q table s NoReply (Above c) h k = let side : Max ≡ Min = sym k.1 ∙ h.1 in cc
cause-one q table s NoReply NoReply h k = refl
cause-one q table s NoReply Reply h k = absurd k

raised-one : (q : Query) (upper : List ℕ) (s t : ℕ) (cause other : UpperCause) → IsNotInductiveAt q upper s cause
    → IsNotInductiveAt q upper t other → (s ≡ t) × (cause ≡ other)
raised-one q upper s t cause other h k =
    let same : s ≡ t = above-one q (slice_index upper) s t h.first k.first in (
      same,
      cause-one q (slice_index upper) t cause other
          (subst (λ r. IsCauseAt q (slice_index upper) r cause) same h.caused) k.caused,
    )

over-raised : (q : Query) (upper : List ℕ) (s t : ℕ) (cause : UpperCause) → IsFirstOver upper s
    → IsNotInductiveAt q upper t cause → ⊥
over-raised q upper s t cause h k = omega (arith, k.units s 0 h.inside, h.over)

-- a fault is an entry above the unit, or a state that rises
kind : (q : Query) (upper : List ℕ) (s : ℕ) (cause : UpperCause) → IsUpperFault q upper s cause
    → ((cause ≡ OverOne) × IsFirstOver upper s) ⊎ IsNotInductiveAt q upper s cause
kind q upper s OverOne h = inl (refl, h)
kind q upper s Goal h = inr h
kind q upper s (Above c) h = inr h
kind q upper s NoReply h = inr h
kind q upper s Reply h = absurd h

pub upper_fault-one : (q : Query) (upper : List ℕ) (s t : ℕ) (cause other : UpperCause) → IsUpperFault q upper s cause
    → IsUpperFault q upper t other → (s ≡ t) × (cause ≡ other)
upper_fault-one q upper s t cause other h k = elim (kind q upper s cause h) [
  | inl over ↦ elim (kind q upper t other k) [
    | inl over' ↦ (over-one upper s t over.1 over'.1, over.0 ∙ sym over'.0)
    | inr raised ↦ absurd (over-raised q upper s t other over.1 raised)
  ]
  | inr raised ↦ elim (kind q upper t other k) [
    | inl over ↦ absurd (over-raised q upper t s cause over.1 raised)
    | inr raised' ↦ raised-one q upper s t cause other raised raised'
  ]
]
