-- What a step leaves of parts of tables, and of whole tables.
use Rattle.std.proofs.Common.{◌≡◌, ℕ, ◌+◌, ◌-◌, ◌/◌, ◌<◌, ◌≤◌, Bool, false, List, [], ◌∷◌, length, ◌++◌, arith, ap}
use Rattle.std.proofs.Common.{refl, sym, subst, ◌∙◌, inl, inr, zero-add, set, ◌≢◌, below_more}
use Rattle.std.specs.Prelude.{slice_index, All}
use mathlib.Core.Bool.{◌||◌}
use Rattle.std.proofs.lemmas.Bool.{cases_lt, or_parts}
use Rattle.std.proofs.Math.ListN.{get_or-map}
use Rattle.std.proofs.lemmas.List.{get_or_append_left, get_or-append_right, ext_get_or, length-map, map-append, map-set}
use Rattle.std.proofs.lemmas.List.{get_or-set_same, get_or-set_other}
use Rattle.std.proofs.lemmas.List.Elements.{All-from_get_or, All-map}
use Rattle.game_model.specs.Query.{Query, IsQuery, states}
use Rattle.game_model.specs.Limits.{unit}
use Rattle.game_model.specs.Rounded.{down_step, up_step}
use Rattle.fixed_bellman.specs.declared.bounds.Bounds.{Bounds}
use Rattle.fixed_bellman.specs.Bounds.{lowers, uppers, AreUnits}
use Rattle.bounded_rounds.specs.Steps.{IsSweep}
use Rattle.bounded_rounds.specs.inside.Parts.{opened, IsBoundsTable, IsStretch, IsStepped}
use Rattle.bounded_rounds.proofs.Stepping.{Agree, steps_from-next, steps_from-rests, steps_from-same}

-- the bounds past the end of a list
abbrev no_bounds : Bounds
no_bounds = record { lower = 0; upper = 0 }

-- the states of two parts in a row
pub IsStretch-both : (step table : ℕ → ℕ) (first second m n : ℕ) (part rest : List ℕ) (front back changed : Bool)
    → length part ≡ m → second ≡ first + m → IsStretch step table first m part front
    → IsStretch step table second n rest back → (changed ≡ false → (front ≡ false) × (back ≡ false))
    → IsStretch step table first (m + n) (part ++ rest) changed
IsStretch-both step table first second m n part rest front back changed many there h k none = record {
  values = each (λ j x. x ≡ step (first + j)) h.values
      (λ j l. subst (λ i. slice_index rest j ≡ step i) (further j) (k.values j l));
  units = each (λ j x. x ≤ unit) h.units k.units;
  same = λ no. each (λ j x. x ≡ table (first + j)) (h.same (none no).0)
      (λ j l. subst (λ i. slice_index rest j ≡ table i) (further j) (k.same (none no).1 j l));
}
  where
    further : (j : ℕ) → second + j ≡ first + (m + j)
    further j = omega arith

    each : (P : ℕ → ℕ → Type 0) → ((j : ℕ) → j < m → P j (slice_index part j))
        → ((j : ℕ) → j < n → P (m + j) (slice_index rest j)) → (j : ℕ) → j < m + n → P j (slice_index (part ++ rest) j)
    each P early late j l = elim (cases_lt j m) [
      | inl before ↦ subst (P j) (sym (get_or_append_left part rest 0 j (omega arith))) (early j before)
      | inr past ↦
          let at : P (m + (j - m)) (slice_index rest (j - m)) = late (j - m) (omega arith) in
          subst (P j) (sym (get_or-append_right part rest m j 0 many past))
          (subst (λ i. P i (slice_index rest (j - m))) (let whole : m + (j - m) ≡ j = omega arith in whole) at)
    ]

pub IsStepped-both : (q : Query) (table : List Bounds) (first second m n count : ℕ) (part rest : List Bounds)
    (front back : Bool) → length part ≡ m → second ≡ first + m → m + n ≡ count → IsStepped q table first m part front
    → IsStepped q table second n rest back → IsStepped q table first count (part ++ rest) (front || back)
IsStepped-both q table first second m n count part rest front back many there all h k =
    let lower : (b : Bounds) → ℕ = λ b. b.lower in
    let upper : (b : Bounds) → ℕ = λ b. b.upper in
    subst (λ (j : ℕ). IsStepped q table first j (part ++ rest) (front || back)) all record {
      down = rw (map-append lower part rest) (IsStretch-both (down_step q (slice_index (lowers table)))
          (slice_index (lowers table)) first second m n (lowers part) (lowers rest) front back (front || back)
          (length-map part lower ∙ many) there h.down k.down (or_parts front back));
      up = rw (map-append upper part rest) (IsStretch-both (up_step q (slice_index (uppers table)))
          (slice_index (uppers table)) first second m n (uppers part) (uppers rest) front back (front || back)
          (length-map part upper ∙ many) there h.up k.up (or_parts front back));
    }

-- one more state
IsStretch-more : (step table : ℕ → ℕ) (first count value : ℕ) (part : List ℕ) (changed new : Bool)
    → count < length part → IsStretch step table first count part changed
    → value ≡ step (first + count) → value ≤ unit → (new ≡ false → value ≡ table (first + count))
    → IsStretch step table first (count + 1) (set part count value) (changed || new)
IsStretch-more step table first count value part changed new there h is small rest = record {
  values = each (λ k x. x ≡ step (first + k)) h.values is;
  units = each (λ k x. x ≤ unit) h.units small;
  same = λ none.
      let apart = or_parts changed new none in
      each (λ k x. x ≡ table (first + k)) (h.same apart.0) (rest apart.1);
}
  where
    each : (P : ℕ → ℕ → Type 0) → ((k : ℕ) → k < count → P k (slice_index part k)) → P count value → (k : ℕ)
        → k < count + 1 → P k (slice_index (set part count value) k)
    each P early last = below_more (λ k. P k (slice_index (set part count value) k)) count
        (λ k l. subst (P k) (sym (get_or-set_other part count k value 0 (let apart : k ≢ count = omega arith in apart)))
        (early k l))
        (subst (P count) (sym (get_or-set_same part count value 0 there)) last)

pub IsStepped-more : (q : Query) (table : List Bounds) (first count : ℕ) (next : List Bounds)
    (changed new : Bool) (b : Bounds) → count < length next → IsStepped q table first count next changed
    → b.lower ≡ down_step q (slice_index (lowers table)) (first + count)
    → b.upper ≡ up_step q (slice_index (uppers table)) (first + count) → AreUnits b → (new ≡ false
    → (b.lower ≡ slice_index (lowers table) (first + count)) × (b.upper ≡ slice_index (uppers table) (first + count)))
    → IsStepped q table first (count + 1) (set next count b) (changed || new)
IsStepped-more q table first count next changed new b there h down up units same =
    let lower : (d : Bounds) → ℕ = λ d. d.lower in
    let upper : (d : Bounds) → ℕ = λ d. d.upper in record {
      down = rw (map-set lower next count b)
          (IsStretch-more (down_step q (slice_index (lowers table))) (slice_index (lowers table)) first count b.lower
          (lowers next) changed new (omega (arith, length-map next lower)) h.down down units.0 (λ no. (same no).0));
      up = rw (map-set upper next count b)
          (IsStretch-more (up_step q (slice_index (uppers table))) (slice_index (uppers table)) first count b.upper
          (uppers next) changed new (omega (arith, length-map next upper)) h.up up units.1 (λ no. (same no).1));
    }

-- whole tables
pub IsBoundsTable-step : (q : Query) (table next : List Bounds) (changed : Bool) → length next ≡ states q
    → IsStepped q table 0 (states q) next changed → IsBoundsTable q next
IsBoundsTable-step q table next changed many h = record {
  many = many;
  units = All-from_get_or AreUnits next no_bounds (λ k l. (
    omega (arith, get_or-map (λ (b : Bounds). b.lower) next k no_bounds, h.down.units k (omega (arith, many, l))),
    omega (arith, get_or-map (λ (b : Bounds). b.upper) next k no_bounds, h.up.units k (omega (arith, many, l))),
  ));
}

-- the table that a sweep opens with
pub lowers-opened : (opening : List ℕ) → lowers (opened opening) ≡ opening
lowers-opened [] = refl
lowers-opened (v ∷ opening) = ap (λ xs. v ∷ xs) (lowers-opened opening)

pub uppers-opened : (opening : List ℕ) → uppers (opened opening) ≡ opening
uppers-opened [] = refl
uppers-opened (v ∷ opening) = ap (λ xs. v ∷ xs) (uppers-opened opening)

pub IsBoundsTable-opened : (q : Query) (opening : List ℕ) → length opening ≡ states q → All (λ v. v ≤ unit) opening
    → IsBoundsTable q (opened opening)
IsBoundsTable-opened q opening many units = record {
  many = length-map opening (λ (v : ℕ). let b : Bounds = record { lower = v; upper = v } in b) ∙ many;
  units = All-map AreUnits (λ (v : ℕ). let b : Bounds = record { lower = v; upper = v } in b) opening
      (λ i d l. (units i d l, units i d l));
}

pub lowers-units : (table : List Bounds) → All AreUnits table → All (λ v. v ≤ unit) (lowers table)
lowers-units table units = All-map (λ v. v ≤ unit) (λ (b : Bounds). b.lower) table (λ i d l. (units i d l).0)

pub uppers-units : (table : List Bounds) → All AreUnits table → All (λ v. v ≤ unit) (uppers table)
uppers-units table units = All-map (λ v. v ≤ unit) (λ (b : Bounds). b.upper) table (λ i d l. (units i d l).1)

Agree-step : (q : Query) (step table : ℕ → ℕ) (next : List ℕ) (changed : Bool)
    → IsStretch step table 0 (states q) next changed → Agree q (slice_index next) step
Agree-step q step table next changed h s inside = h.values s inside ∙ ap step (zero-add s)

Agree-rest : (q : Query) (step table : ℕ → ℕ) (next : List ℕ) (changed : Bool)
    → IsStretch step table 0 (states q) next changed → changed ≡ false → Agree q table step
Agree-rest q step table next changed h none s inside =
    sym (h.same none s inside ∙ ap table (zero-add s)) ∙ Agree-step q step table next changed h s inside

-- one step more
pub IsSweep-next : (q : Query) (opening : ℕ → ℕ) (k : ℕ) (table next : List Bounds) (changed : Bool)
    → IsQuery q → IsSweep q opening k (lowers table) (uppers table) → length next ≡ states q
    → IsStepped q table 0 (states q) next changed → IsSweep q opening (k + 1) (lowers next) (uppers next)
IsSweep-next q opening k table next changed posed sweep many stepped = record {
  lowers = length-map next (λ (b : Bounds). b.lower) ∙ many;
  uppers = length-map next (λ (b : Bounds). b.upper) ∙ many;
  down = steps_from-next (λ x w. x / w) q posed opening (slice_index (lowers table))
      (slice_index (lowers next)) k sweep.down (Agree-step q _ _ (lowers next) changed stepped.down);
  up = steps_from-next (λ x w. (x + (w - 1)) / w) q posed opening (slice_index (uppers table))
      (slice_index (uppers next)) k sweep.up (Agree-step q _ _ (uppers next) changed stepped.up);
}

-- where a step changes nothing, so do all steps behind it
pub IsSweep-rests : (q : Query) (opening : ℕ → ℕ) (k n : ℕ) (table next : List Bounds) (changed : Bool) → IsQuery q
    → k ≤ n → IsSweep q opening k (lowers table) (uppers table) → IsStepped q table 0 (states q) next changed
    → changed ≡ false → IsSweep q opening n (lowers table) (uppers table)
IsSweep-rests q opening k n table next changed posed order sweep stepped none = record {
  lowers = sweep.lowers;
  uppers = sweep.uppers;
  down = steps_from-rests (λ x w. x / w) q posed opening (slice_index (lowers table)) k n order sweep.down
      (Agree-rest q _ _ (lowers next) changed stepped.down none);
  up = steps_from-rests (λ x w. (x + (w - 1)) / w) q posed opening (slice_index (uppers table)) k n order sweep.up
      (Agree-rest q _ _ (uppers next) changed stepped.up none);
}

Agree-one : (q : Query) (value : ℕ → ℕ) (table other : List ℕ) → length table ≡ states q → length other ≡ states q
    → Agree q (slice_index table) value → Agree q (slice_index other) value → table ≡ other
Agree-one q value table other many many' h k = ext_get_or 0 table other (many ∙ sym many')
    (λ s inside. let there : s < states q = omega (arith, inside, many) in h s there ∙ sym (k s there))

-- two sweeps with one opening table are one
pub IsSweep-one : (q : Query) (opening : ℕ → ℕ) (k : ℕ) (lower upper other_lower other_upper : List ℕ)
    → IsSweep q opening k lower upper → IsSweep q opening k other_lower other_upper
    → (lower ≡ other_lower) × (upper ≡ other_upper)
IsSweep-one q opening k lower upper other_lower other_upper h j = (
  Agree-one q _ lower other_lower h.lowers j.lowers h.down j.down,
  Agree-one q _ upper other_upper h.uppers j.uppers h.up j.up,
)

-- so is one of another table with the same values
pub IsSweep-same : (q : Query) (table other : ℕ → ℕ) (k : ℕ) (lower upper : List ℕ) → IsQuery q → Agree q table other
    → IsSweep q table k lower upper → IsSweep q other k lower upper
IsSweep-same q table other k lower upper posed same sweep = record {
  lowers = sweep.lowers;
  uppers = sweep.uppers;
  down = λ s inside. sweep.down s inside ∙ steps_from-same (λ x w. x / w) q posed table other same k s inside;
  up = λ s inside. sweep.up s inside ∙ steps_from-same (λ x w. (x + (w - 1)) / w) q posed table other same k s inside;
}
