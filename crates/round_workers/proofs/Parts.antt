-- Two neighbouring parts of a round are one part.
use Rattle.std.proofs.Common.{◌≡◌, ℕ, ◌+◌, ◌/◌, ◌<◌, ◌≤◌, Bool, List, length, arith, inl, inr, le_refl, le_trans, subst}
use Rattle.std.proofs.Common.{zero-le}
use Rattle.std.proofs.lemmas.Bool.{cases_lt}
use Rattle.game_model.specs.Game.{Distribution, IsGame}
use Rattle.game_model.specs.Query.{Query}
use Rattle.game_model.specs.Rounded.{down_step}
use Rattle.step_core.specs.Word.{value_at}
use Rattle.value_words.specs.Passes.{PassSeat, GrewSeat}
use Rattle.value_words.specs.Rule.{other_half}
use Rattle.value_words.proofs.Parts.{other_half-many}
use Rattle.value_words.proofs.Grown.{grew-twice}
use Rattle.round_workers.specs.Share.{BeginsBlock, IsSwept}
use Rattle.round_workers.proofs.Blocks.{worker_of-below}

-- a later worker begins no earlier
pub blocks-rise : (game : List (List Distribution)) (workers worker later m n : ℕ) → worker ≤ later
    → BeginsBlock game workers worker m → BeginsBlock game workers later n → m ≤ n
blocks-rise game workers worker later m n order h k = elim (cases_lt n m) [
  | inl less ↦
      let inside = h.within in
      let late = h.before n less in
      let early = k.behind n (le_refl n) (omega arith) in
      absurd (omega arith)
  | inr more ↦ more
]

-- the first worker begins at the first state
pub first-begins : (game : List (List Distribution)) (workers : ℕ) → BeginsBlock game workers 0 0
first-begins game workers = record { within = zero-le; before = λ s l. absurd (omega arith); behind = λ s _ _. zero-le }

-- behind the last worker are no states
pub last-ends : (game : List (List Distribution)) (workers : ℕ) → IsGame game → 0 < workers
    → BeginsBlock game workers workers (length game)
last-ends game workers h some = record {
  within = le_refl (length game);
  before = λ s l. worker_of-below game workers s h some l;
  behind = λ s from l. absurd (omega arith);
}

-- the parts of a pass that is split, where it has one for each worker
halves-enough : (front back count parts kept given : ℕ) → front ≡ count / 2 → front + back ≡ count
    → 2 ≤ count → count ≤ parts → kept ≡ parts / 2 → given ≡ other_half parts
    → (front ≤ kept) × (back ≤ given) × (kept + given ≡ parts)
halves-enough front back count parts kept given half both some enough kept_is given_is =
    let many = other_half-many parts (omega arith) in (omega arith, omega arith, omega arith)

-- passes that were split and met again
pub parts-meet : (q : Query) (marks : List Bool) (front back count low cut high : ℕ)
    (old split other left right new : PassSeat) (a b raises : ℕ) → GrewSeat old split
    → split.me.0.seen ≡ old.me.0.seen → split.me.0.won ≡ old.me.0.won → other.me.0.seen ≡ old.me.0.seen
    → other.me.0.won ≡ 0 → (split.me.0.parts ≡ old.me.0.parts / 2) × (other.me.0.parts ≡ other_half old.me.0.parts)
    → IsSwept q marks front low cut split left a → IsSwept q marks back cut high other right b → GrewSeat left new
    → ((s : ℕ) → value_at right.me.0.seen s ≤ value_at new.me.0.seen s) → new.me.0.won ≡ left.me.0.won + right.me.0.won
    → new.me.0.parts ≡ left.me.0.parts + right.me.0.parts → raises ≡ a + b → front ≡ count / 2 → front + back ≡ count
    → 2 ≤ count → IsSwept q marks count low high old new raises
parts-meet q marks front back count low cut high old split other left right new a b raises grew seen won other_seen none
    halves early late met over sum parts all half both some =
    let early_won = early.won in
    let late_won = late.won in
    let early_few = early.few in
    let late_few = late.few in
    record {
      grew = grew-twice old split new grew (grew-twice split left new early.grew met);
      step = λ s from to marked. elim (cases_lt s cut) [
        | inl less ↦ le_trans (subst (λ (t : List ℕ). down_step q (value_at t) s ≤ value_at left.me.0.seen s) seen
            (early.step s from less marked)) (met.up s)
        | inr past ↦ le_trans (subst (λ (t : List ℕ). down_step q (value_at t) s ≤ value_at right.me.0.seen s)
            other_seen (late.step s past to marked)) (over s)
      ];
      won = omega arith;
      few = omega arith;
      parts = λ enough.
          let h = halves-enough front back count old.me.0.parts split.me.0.parts other.me.0.parts half both some enough
          halves.0 halves.1 in
          let kept = early.parts h.0 in
          let given = late.parts h.1 in
          let sums = h.2 in
          omega arith;
    }

-- a part that stands from and to the same states
pub swept-same : (q : Query) (marks : List Bool) (count low high low' high' : ℕ) (old new : PassSeat) (raises : ℕ)
    → low ≡ low' → high ≡ high' → IsSwept q marks count low high old new raises
    → IsSwept q marks count low' high' old new raises
swept-same q marks count low high low' high' old new raises from to h =
    let few = h.few in
    record {
      grew = h.grew;
      step = λ s after before marked. h.step s (omega arith) (omega arith) marked;
      won = h.won;
      few = omega arith;
      parts = h.parts;
    }
