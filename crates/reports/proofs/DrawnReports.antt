-- The answer of `make`, from its bracket; and that settled ones agree.
use Rattle.std.proofs.Common.{◌≡◌, ◌<◌, ◌≤◌, ◌^◌, ◌∙◌, inl, inr, ℕ, Bool, true, false, List, [], ◌∷◌, length, Result}
use Rattle.std.proofs.Common.{Ok, Err, refl, sym, ap, subst, arith}
use Rattle.std.specs.Prelude.{All, IfOk, Option, count_by, slice_index, slice_index_or}
use Rattle.std.proofs.lemmas.Bool.{cases_lt}
use Rattle.std.proofs.lemmas.List.{same_lists, get_or_default}
use Rattle.std.proofs.lemmas.List.Sums.{sum_by-le}
use Rattle.game_model.specs.Limits.{unit, most_states}
use Rattle.game_model.specs.Query.{Query}
use Rattle.game_model.specs.Values.{numerator}
use Rattle.game_model.specs.Dual.{IsZeroSet}
use Rattle.formula_reader.specs.declared.formula.Bound.{Bound}
use Rattle.formula_reader.specs.declared.formula.Bound.TheVariants.{AskMax}
use Rattle.verdicts.specs.Verdict.{is_asking}
use Rattle.bracket_engine.specs.declared.bounds.Bracket.{Bracket}
use Rattle.bracket_engine.specs.Bracket.{IsBracket}
use Rattle.bracket_engine.specs.BracketOfRun.{IsBracketOfRun}
use Rattle.bracket_engine.specs.Lower.{IsLowerTable}
use Rattle.bracket_engine.specs.Stop.{AreSettledAt}
use Rattle.output.specs.declared.status.Status.{Status}
use Rattle.output.specs.declared.status.Status.TheVariants.{Fine}
use Rattle.reports.specs.Made.{sum_of, summary_text, status_made, drawn_question, IsMade}

-- 1. A bracket that asks for a value ends early only where it is stable.

never_settled : (lower upper : List ℕ) → AreSettledAt AskMax (0 ∷ []) (slice_index lower) (slice_index upper) → ⊥
never_settled lower upper settled = let first = settled 0 0 (omega arith) in cc (first)

pub all_made : (q : Query) (zero : List Bool) (asked : ℕ) (found : Bracket)
    → IsBracketOfRun q zero AskMax (0 ∷ []) asked found → found.stable ≡ false → found.rounds ≡ asked
all_made q zero asked found is_found unstable = elim (cases_lt found.rounds asked) [
  | inl early ↦ absurd (by_end early)
  | inr late ↦ omega (arith, late, is_found.bounds.near.few)
]
  where
    by_end : found.rounds < asked → ⊥
    by_end early = elim (is_found.bounds.ended.early early) [
      | inl stable ↦ cc (stable, unstable)
      | inr settled ↦ never_settled found.base.items found.plan.upper.items settled
    ]

-- 2. The answer.

pub made : {X E : Type 0} (text : X → List ℕ) (ends : X → Status) (seed states asked : ℕ) (q : Query)
    (zero : List Bool) (found : Bracket) → q ≡ drawn_question seed states → IsZeroSet q zero
    → IsBracketOfRun q zero AskMax (0 ∷ []) asked found → (result : Result X E)
    → IfOk result (λ answer. text answer ≡ summary_text seed states (count_by (λ marked. marked) zero) found.stable
    found.plan.lower.items found.plan.upper.items)
    → IfOk result (λ answer. ends answer ≡ status_made found.stable)
    → IfOk result (λ answer. IsMade seed states asked (text answer) (ends answer))
made text ends seed states asked q zero found same is_zero is_found (Ok answer) written ended = record {
  zero = zero;
  is_zero = subst (λ (p : Query). IsZeroSet p zero) same is_zero;
  found = found;
  is_found = subst (λ (p : Query). IsBracketOfRun p zero AskMax (0 ∷ []) asked found) same is_found;
  written = written;
  ends = ended;
  completed = all_made q zero asked found is_found;
}
made text ends seed states asked q zero found same is_zero is_found (Err error) written ended = tt

-- the sum of a table over all states
pub sum-fits : (table : List ℕ) → length table ≤ most_states → All (λ v. v ≤ unit) table → sum_of table < 2 ^ 128
sum-fits table few units = omega (arith, few, sum_by-le (λ (v : ℕ). v) unit table units)

-- 3. Settled answers agree.

settled-stable : (stable : Bool) → Fine ≡ status_made stable → stable ≡ true
settled-stable true is = refl
settled-stable false is = cc (is)

-- a state is in both zero sets or in none
same_mark : (q : Query) (zero other : List Bool) (s : ℕ) → IsZeroSet q zero → IsZeroSet q other → s < length q.game
    → (a b : Bool) → slice_index_or zero s false ≡ a → slice_index_or other s false ≡ b → a ≡ b
same_mark q zero other s of_zero of_other inside true true is so = refl
same_mark q zero other s of_zero of_other inside false false is so = refl
same_mark q zero other s of_zero of_other inside true false is so =
    let some = of_other.unmarked s inside so in
    let none : numerator q some.0 s ≡ 0 = of_zero.marked s inside is some.0 in
    absurd (omega (arith, none, some.1))
same_mark q zero other s of_zero of_other inside false true is so =
    let some = of_zero.unmarked s inside is in
    let none : numerator q some.0 s ≡ 0 = of_other.marked s inside so some.0 in
    absurd (omega (arith, none, some.1))

same_zero : (q : Query) (zero other : List Bool) → IsZeroSet q zero → IsZeroSet q other → zero ≡ other
same_zero q zero other of_zero of_other =
    same_lists zero other (of_zero.as_many ∙ sym of_other.as_many) (λ s d inside.
    let within : s < length q.game = omega (arith, inside, of_zero.as_many) in
    get_or_default zero s d false inside
    ∙ same_mark q zero other s of_zero of_other within (slice_index_or zero s false)
    (slice_index_or other s false) refl refl
    ∙ get_or_default other s false d (omega (arith, within, of_other.as_many)))

-- the laws of settled brackets
abbrev pub BasesAgree : Type 0
BasesAgree = (q : Query) (zero other_zero : List Bool) (bound other_bound : Bound) (initial other_initial : List ℕ)
    (asked other_asked : ℕ) (base upper other other_upper : List ℕ) (rounds other_rounds : ℕ)
    → IsBracket q zero bound initial asked base upper rounds true
    → IsBracket q other_zero other_bound other_initial other_asked other other_upper other_rounds true → base ≡ other

abbrev pub LowersAgree : Type 0
LowersAgree = (q : Query) (zero : List Bool) (base lower other : List ℕ) (choices other_choices : List (Option ℕ))
    (ranks other_ranks : List ℕ)
    → IsLowerTable q zero base lower choices ranks
    → IsLowerTable q zero base other other_choices other_ranks → lower ≡ other

abbrev pub UppersAgree : Type 0
UppersAgree = (q : Query) (zero : List Bool) (bound other_bound : Bound) (initial other_initial : List ℕ)
    (asked other_asked : ℕ) (base upper other_base other : List ℕ) (rounds other_rounds : ℕ)
    → is_asking bound ≡ true → is_asking other_bound ≡ true
    → IsBracket q zero bound initial asked base upper rounds true
    → IsBracket q zero other_bound other_initial other_asked other_base other other_rounds true → upper ≡ other

-- the bracket of a run that is settled
stable-bracket : (q : Query) (zero : List Bool) (asked : ℕ) (found : Bracket) → found.stable ≡ true
    → IsBracketOfRun q zero AskMax (0 ∷ []) asked found
    → IsBracket q zero AskMax (0 ∷ []) asked found.base.items found.plan.upper.items found.rounds true
stable-bracket q zero asked found stable h = subst (λ (b : Bool).
    IsBracket q zero AskMax (0 ∷ []) asked found.base.items found.plan.upper.items found.rounds b) stable h.bounds

pub settled-agree : BasesAgree → LowersAgree → UppersAgree → (seed states asked other_asked : ℕ) (text other : List ℕ)
    → IsMade seed states asked text Fine → IsMade seed states other_asked other Fine → text ≡ other
settled-agree bases lowers uppers seed states asked other_asked text other a b =
    let q = drawn_question seed states in
    let x = a.found in
    let y = b.found in
    let stable_x = settled-stable x.stable a.ends in
    let stable_y = settled-stable y.stable b.ends in
    let summary = summary_text seed states (count_by (λ marked. marked) b.zero) in
    let zeros = same_zero q a.zero b.zero a.is_zero b.is_zero in
    let beside : IsBracketOfRun q a.zero AskMax (0 ∷ []) other_asked y =
    subst (λ (z : List Bool). IsBracketOfRun q z AskMax (0 ∷ []) other_asked y) (sym zeros) b.is_found in
    let of_x = stable-bracket q a.zero asked x stable_x a.is_found in
    let of_y = stable-bracket q a.zero other_asked y stable_y beside in
    let base : x.base.items ≡ y.base.items = bases q a.zero a.zero AskMax AskMax (0 ∷ []) (0 ∷ []) asked other_asked
    x.base.items x.plan.upper.items y.base.items y.plan.upper.items x.rounds y.rounds of_x of_y in
    let over : IsLowerTable q a.zero y.base.items x.plan.lower.items x.plan.choices.items x.plan.ranks.items =
    subst (λ (l : List ℕ). IsLowerTable q a.zero l x.plan.lower.items x.plan.choices.items x.plan.ranks.items) base
    a.is_found.lower in
    let lower : x.plan.lower.items ≡ y.plan.lower.items = lowers q a.zero y.base.items x.plan.lower.items
    y.plan.lower.items x.plan.choices.items y.plan.choices.items x.plan.ranks.items y.plan.ranks.items over
    beside.lower in
    let upper : x.plan.upper.items ≡ y.plan.upper.items = uppers q a.zero AskMax AskMax (0 ∷ []) (0 ∷ []) asked
    other_asked x.base.items x.plan.upper.items y.base.items y.plan.upper.items x.rounds y.rounds refl refl of_x of_y in
    a.written
    ∙ ap (λ (z : List Bool).
    summary_text seed states (count_by (λ marked. marked) z) x.stable x.plan.lower.items x.plan.upper.items) zeros
    ∙ ap (λ (s : Bool). summary s x.plan.lower.items x.plan.upper.items) (stable_x ∙ sym stable_y)
    ∙ ap (λ (l : List ℕ). summary y.stable l x.plan.upper.items) lower
    ∙ ap (λ (u : List ℕ). summary y.stable y.plan.lower.items u) upper
    ∙ sym b.written
