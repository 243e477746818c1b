-- Bounds of the formulas inside a state formula say where it surely holds, and where it possibly does.
use Rattle.std.specs.Prelude.{◌+◌, ◌&&◌, ◌||◌, ℕ, Bool, true, false, not, List, slice_index, count_by}
use Rattle.std.specs.List.{range_with_len}
use Rattle.label_lines.specs.Labels.{Labelling, holds_at}
use Rattle.formula_reader.specs.declared.formula.Bound.{Bound}
use Rattle.formula_reader.specs.Formula.{State, True, False, Label, Not, And, Or, Implies, Inner}
use Rattle.verdicts.specs.Verdict.{verdict_of, is_yes, is_no, is_undecided}
use Rattle.verdicts.specs.declared.verdict.Verdict.{Verdict}

-- A band has a lower and an upper bound for each state, in units.
pub record Band : Type 0 where
  pub lower : List ℕ
  pub upper : List ℕ

-- Each formula inside has a band.
abbrev pub Bands : State → Type 0
Bands True = Unit {0}
Bands False = Unit {0}
Bands (Label name) = Unit {0}
Bands (Not x) = Bands x
Bands (And x y) = Bands x × Bands y
Bands (Or x y) = Bands x × Bands y
Bands (Implies x y) = Bands x × Bands y
Bands (Inner team bound kind left right) = Band × Bands left × Bands right

-- A band gives this verdict on a bound at a state.
abbrev pub verdict_at : Bound → Band → ℕ → Verdict
verdict_at bound band s = verdict_of bound (slice_index band.lower s) (slice_index band.upper s)

-- This says where a state formula surely holds, and where it possibly does.
pub record Known : Type 0 where
  pub sure : ℕ → Bool
  pub possible : ℕ → Bool

abbrev mutual
  -- A state formula surely holds at a state. A formula inside does if its band says yes.
  pub surely : Labelling → (x : State) → Bands x → ℕ → Bool
  surely l True b s = true
  surely l False b s = false
  surely l (Label name) b s = holds_at l name s
  surely l (Not x) b s = not (possibly l x b s)
  surely l (And x y) b s = surely l x b.0 s && surely l y b.1 s
  surely l (Or x y) b s = surely l x b.0 s || surely l y b.1 s
  surely l (Implies x y) b s = not (possibly l x b.0 s) || surely l y b.1 s
  surely l (Inner team bound kind left right) b s = is_yes (verdict_at bound b.0 s)

  -- A state formula possibly holds at a state. A formula inside does if its band does not say no.
  pub possibly : Labelling → (x : State) → Bands x → ℕ → Bool
  possibly l True b s = true
  possibly l False b s = false
  possibly l (Label name) b s = holds_at l name s
  possibly l (Not x) b s = not (surely l x b s)
  possibly l (And x y) b s = possibly l x b.0 s && possibly l y b.1 s
  possibly l (Or x y) b s = possibly l x b.0 s || possibly l y b.1 s
  possibly l (Implies x y) b s = not (surely l x b.0 s) || possibly l y b.1 s
  possibly l (Inner team bound kind left right) b s = not (is_no (verdict_at bound b.0 s))

-- A bound surely holds where its band says yes, and possibly holds where it does not say no.
abbrev pub judgement : Bound → Band → Known
judgement bound band = record {
  sure = (λ s. is_yes (verdict_at bound band s));
  possible = (λ s. not (is_no (verdict_at bound band s)));
}

-- A band leaves a bound undecided at this many of the first states.
abbrev pub undecided_at : Bound → Band → ℕ → ℕ
undecided_at bound band states = count_by (λ s. is_undecided (verdict_at bound band s)) (range_with_len 0 states)

-- This many pairs of a formula inside and one of the first states are undecided.
abbrev pub undecided_in : (x : State) → Bands x → ℕ → ℕ
undecided_in True b states = 0
undecided_in False b states = 0
undecided_in (Label name) b states = 0
undecided_in (Not x) b states = undecided_in x b states
undecided_in (And x y) b states = undecided_in x b.0 states + undecided_in y b.1 states
undecided_in (Or x y) b states = undecided_in x b.0 states + undecided_in y b.1 states
undecided_in (Implies x y) b states = undecided_in x b.0 states + undecided_in y b.1 states
undecided_in (Inner team bound kind left right) b states =
    undecided_at bound b.0 states + (undecided_in left b.1 states + undecided_in right b.2 states)

-- Bands say this of a state formula.
abbrev pub known : Labelling → (x : State) → Bands x → Known
known l x b = record { sure = surely l x b; possible = possibly l x b }

-- A formula is known exactly: it surely and possibly holds where it holds.
abbrev pub exactly : (ℕ → Bool) → Known
exactly holds = record { sure = holds; possible = holds }

-- The negation surely holds where the formula does not possibly hold, and possibly holds where it does not surely hold.
abbrev pub negated : Known → Known
negated k = record { sure = (λ s. not (k.possible s)); possible = (λ s. not (k.sure s)) }

-- The conjunction of two formulas surely holds where both surely hold, and possibly holds where both possibly hold.
abbrev pub both : Known → Known → Known
both k l = record { sure = (λ s. k.sure s && l.sure s); possible = (λ s. k.possible s && l.possible s) }

-- The disjunction of two formulas surely holds where either surely holds, and possibly holds where either possibly
-- holds.
abbrev pub either : Known → Known → Known
either k l = record { sure = (λ s. k.sure s || l.sure s); possible = (λ s. k.possible s || l.possible s) }
