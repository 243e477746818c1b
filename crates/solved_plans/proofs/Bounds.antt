-- What tables of bounds decide, and when they pass.
use Rattle.std.proofs.Common.{◌≡◌, ℕ, ◌+◌, ◌*◌, ◌^◌, ◌<◌, ◌≤◌, ◌↔◌, Bool, true, false, List, []}
use Rattle.std.proofs.Common.{arith, sym, subst, ◌∙◌, inl, inr}
use Rattle.std.specs.Prelude.{slice_index, slice_index_or}
use Rattle.std.proofs.lemmas.Bool.{cases_Bool}
use Rattle.std.proofs.lemmas.List.{ext_get_or}
use Rattle.std.proofs.Math.Nat.{one-le-pow}
use Rattle.game_model.specs.Query.{Query, IsQuery, states}
use Rattle.game_model.specs.Values.{denominator, numerator}
use Rattle.game_model.specs.Limits.{unit}
use Rattle.game_model.specs.Tables.{IsTable}
use Rattle.game_model.specs.Rounded.{IsInductive}
use Rattle.game_model.specs.Dual.{IsZeroSet}
use Rattle.game_model.proofs.Choices.{denominator-pos}
use Rattle.inductive_check.proofs.Zero.{up_step-zero}
use Rattle.upper_guess.proofs.Steps.{up_step-same, up_step-units}
use Rattle.rank_certificate.specs.Carrying.{CanBeRanked}
use Rattle.almost_sure.specs.Values.{IsAlmostSure, AreAlmostSure}
use Rattle.solved_plans.specs.Bounds.{lower_bound, upper_bound, HasRankedTable, IsLowerOf, IsUpperOf}
use Rattle.solved_plans.specs.Plans.{IsNever}
use Rattle.solved_plans.proofs.Entries.{lower-sure, lower-unsure, lower-zero, lower-none, upper-zero, upper-sure}
use Rattle.solved_plans.proofs.Entries.{upper-some, upper-none}
use Rattle.solved_plans.proofs.SurePlans.{sure-plan}

-- 1. Sets.

-- a state of value 0 is not almost sure
never-unsure : (q : Query) (s : ℕ) → IsQuery q → IsNever q s → IsAlmostSure q s → ⊥
never-unsure q s posed never sure =
    let at : (k : ℕ) × (2 * denominator q.game ^ k ≤ 2 * numerator q k s + denominator q.game ^ k) =
    sure 2 (omega arith) in
    omega (arith, at.1, never at.0, one-le-pow at.0 (denominator q.game) (denominator-pos q.game posed.game))

never-marked : (q : Query) (zero : List Bool) (s : ℕ) → IsZeroSet q zero → s < states q → IsNever q s
    → slice_index_or zero s false ≡ true
never-marked q zero s h inside never = elim (cases_Bool (slice_index_or zero s false)) [
  | inl marked ↦ marked
  | inr unmarked ↦ (let some : (k : ℕ) × (1 ≤ numerator q k s) = h.unmarked s inside unmarked in
      absurd (omega (arith, some.1, never some.0)))
]

-- 2. What the sets decide.

module _ (q : Query) (posed : IsQuery q) (sure zero : List Bool) (almost : AreAlmostSure q sure)
    (none : IsZeroSet q zero) where
  table-sure : (c lower : List ℕ) → IsTable q (lower_bound sure zero c) lower → (s : ℕ) → s < states q
      → (slice_index lower s ≡ unit) ↔ IsAlmostSure q s
  table-sure c lower table s inside = (
    λ one. elim (cases_Bool (slice_index_or sure s false)) [
      | inl marked ↦ (almost.exact s inside).0 marked
      | inr unmarked ↦ absurd (omega (
        arith,
        one,
        table.each s inside,
        lower-unsure (slice_index_or sure s false) (slice_index_or zero s false) (slice_index c s) unmarked,
      ))
    ],
    λ is. table.each s inside ∙ lower-sure (slice_index_or sure s false) (slice_index_or zero s false) (slice_index c s)
        ((almost.exact s inside).1 is),
  )

  table-zero : (c lower : List ℕ) → IsTable q (lower_bound sure zero c) lower → (s : ℕ) → s < states q → IsNever q s
      → slice_index lower s ≡ 0
  table-zero c lower table s inside never = elim (cases_Bool (slice_index_or sure s false)) [
    | inl marked ↦ absurd (never-unsure q s posed never ((almost.exact s inside).0 marked))
    | inr unmarked ↦ table.each s inside ∙ lower-zero (slice_index_or sure s false) (slice_index_or zero s false)
        (slice_index c s) unmarked (never-marked q zero s none inside never)
  ]

  pub lower-exactly : (c lower : List ℕ) → IsLowerOf q sure zero c lower → (s : ℕ) → s < states q
      → (slice_index lower s ≡ unit) ↔ IsAlmostSure q s
  lower-exactly c lower (inl table) = table-sure c lower table
  lower-exactly c lower (inr weakest) = table-sure [] lower weakest.0

  pub lower-never : (c lower : List ℕ) → IsLowerOf q sure zero c lower → (s : ℕ) → s < states q → IsNever q s
      → slice_index lower s ≡ 0
  lower-never c lower (inl table) = table-zero c lower table
  lower-never c lower (inr weakest) = table-zero [] lower weakest.0

  -- an upper table has the unit at almost-sure states
  table-unit : (c upper : List ℕ) → IsTable q (upper_bound sure zero c) upper → (s : ℕ) → s < states q
      → IsAlmostSure q s → slice_index upper s ≡ unit
  table-unit c upper table s inside is = elim (cases_Bool (slice_index_or zero s false)) [
    | inl marked ↦ absurd (never-unsure q s posed (none.marked s inside marked) is)
    | inr unmarked ↦ table.each s inside ∙ upper-sure (slice_index_or zero s false) (slice_index_or sure s false)
        (slice_index_or c s unit) unmarked ((almost.exact s inside).1 is)
  ]

  pub upper-unit : (c upper : List ℕ) → IsUpperOf q sure zero c upper → (s : ℕ) → s < states q → IsAlmostSure q s
      → slice_index upper s ≡ unit
  upper-unit c upper (inl table) = table-unit c upper table
  upper-unit c upper (inr weakest) = table-unit [] upper weakest.0

-- choices and ranks vouch for the one of no entry
pub no-entry-ranked : (q : Query) (sure zero : List Bool) (lower : List ℕ) → IsQuery q → AreAlmostSure q sure
    → IsTable q (lower_bound sure zero []) lower → CanBeRanked q lower
no-entry-ranked q sure zero lower posed almost table = sure-plan q sure lower posed almost (record {
  many = table.many;
  each = λ s inside. table.each s inside ∙ lower-none (slice_index_or sure s false) (slice_index_or zero s false);
  units = table.units;
})

-- tables of the same entries are one
table-one : (q : Query) (entries : ℕ → ℕ) (table other : List ℕ) → IsTable q entries table
    → IsTable q entries other → table ≡ other
table-one q entries table other h k = ext_get_or 0 table other (h.many ∙ sym k.many)
    (λ s inside. let there : s < states q = omega (arith, inside, h.many) in h.each s there ∙ sym (k.each s there))

pub none-ranked : (q : Query) (entries : ℕ → ℕ) (table : List ℕ) → IsTable q entries table → ¬ CanBeRanked q table
    → ¬ HasRankedTable q entries
none-ranked q entries table h refused =
    λ some. refused (subst (CanBeRanked q) (table-one q entries some.0 table some.1 h) some.2)

-- 3. Upper tables.

-- a table of inductive entries is inductive
pub table-inductive : (q : Query) (entries : ℕ → ℕ) (table : List ℕ) → IsQuery q → IsTable q entries table
    → IsInductive q entries → IsInductive q (slice_index table)
table-inductive q entries table posed h inductive = λ s inside.
    omega (arith, inductive s inside, h.each s inside, up_step-same q (slice_index table) entries posed h.each s)

module _ (q : Query) (sure zero : List Bool) (none : IsZeroSet q zero) where
  table-exactly : (c upper : List ℕ) → IsTable q (upper_bound sure zero c) upper → (s : ℕ) → s < states q
      → (slice_index upper s ≡ 0) ↔ IsNever q s
  table-exactly c upper table s inside = (
    λ nothing. elim (cases_Bool (slice_index_or zero s false)) [
      | inl marked ↦ none.marked s inside marked
      | inr unmarked ↦ absurd (omega (
        arith,
        nothing,
        table.each s inside,
        upper-some (slice_index_or zero s false) (slice_index_or sure s false) (slice_index_or c s unit) unmarked,
      ))
    ],
    λ never. table.each s inside ∙ upper-zero (slice_index_or zero s false) (slice_index_or sure s false)
        (slice_index_or c s unit) (never-marked q zero s none inside never),
  )

  pub upper-exactly : (c upper : List ℕ) → IsUpperOf q sure zero c upper → (s : ℕ) → s < states q
      → (slice_index upper s ≡ 0) ↔ IsNever q s
  upper-exactly c upper (inl table) = table-exactly c upper table
  upper-exactly c upper (inr weakest) = table-exactly [] upper weakest.0

  -- the one of no entry is inductive
  pub no-entry-inductive : (upper : List ℕ) → IsQuery q → IsTable q (upper_bound sure zero []) upper
      → IsInductive q (slice_index upper)
  no-entry-inductive upper posed table = λ s inside.
      let units : (t : ℕ) → t < states q → slice_index upper t ≤ unit =
      λ t within. table.units t 0 (omega (arith, within, table.many)) in
      elim (cases_Bool (slice_index_or zero s false)) [
        | inl marked ↦ omega (
          arith,
          up_step-zero q zero (slice_index upper) posed none units
              (λ t within is. table.each t within
              ∙ upper-zero (slice_index_or zero t false) (slice_index_or sure t false) unit is) s inside marked,
        )
        | inr unmarked ↦ omega (
          arith,
          up_step-units q (slice_index upper) posed units s,
          table.each s inside,
          upper-none (slice_index_or zero s false) (slice_index_or sure s false) unmarked,
        )
      ]
