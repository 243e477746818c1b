-- Which raised tables can be ranked, and the first of them.
use Rattle.std.proofs.Common.{◌≡◌, ℕ, zero, suc, ◌+◌, ◌-◌, ◌*◌, ◌^◌, ◌<◌, ◌≤◌, Bool, true, false, List, arith, refl}
use Rattle.std.proofs.Common.{sym, subst, ap, ◌∙◌, le_refl, min, Option, add-one, inl, inr}
use Rattle.std.specs.Prelude.{slice_index, slice_index_or}
use Rattle.std.specs.Bool.{if◌then◌else◌}
use Rattle.std.proofs.Math.Nat.{min-le_right, min-eq_left, mul-le-mul_left, mul-le-mul_right, one-le-pow}
use Rattle.game_model.specs.Query.{Query, IsQuery, states, is_goal}
use Rattle.game_model.specs.Values.{denominator}
use Rattle.game_model.specs.Limits.{unit}
use Rattle.game_model.specs.Rounded.{down_step}
use Rattle.game_model.specs.Dual.{IsZeroSet}
use Rattle.game_model.specs.Ranks.{Ranked}
use Rattle.game_model.proofs.Best.{min-cases}
use Rattle.game_model.proofs.Choices.{AreChoicesOf, AreChoicesOf-choices_of, denominator-pos}
use Rattle.game_laws.proofs.Steps.{down_step-le}
use Rattle.game_model.specs.Bounds.{IsNear}
use Rattle.game_model.specs.Tables.{IsTable}
use Rattle.fixed_bellman.proofs.Firsts.{IsTable-one}
use Rattle.rank_certificate.specs.Carrying.{CanBeRanked, Stands}
use Rattle.lower_guess.specs.LowerGuess.{most_steps, first_raised, lesser_step, raised_table, IsRefused}
use Rattle.lower_guess.specs.LowerGuess.{AreRefused}
use Rattle.rank_certificate.proofs.Standing.{Ranked-stands}

-- tables that agree at the states have one down step
pub down_step-same : (q : Query) (v w : ℕ → ℕ) → IsQuery q → ((t : ℕ) → t < states q → v t ≡ w t) → (s : ℕ)
    → down_step q v s ≡ down_step q w s
down_step-same q v w posed same s =
    let chosen : AreChoicesOf q.game _ = AreChoicesOf-choices_of q.game posed.game in
    omega (
      arith,
      down_step-le q v w chosen (λ t inside. omega (arith, same t inside)) s,
      down_step-le q w v chosen (λ t inside. omega (arith, same t inside)) s,
    )

lesser_step-same : (q : Query) (v w : ℕ → ℕ) → IsQuery q → ((t : ℕ) → t < states q → v t ≡ w t) → (s : ℕ) → s < states q
    → lesser_step q v s ≡ lesser_step q w s
lesser_step-same q v w posed same s inside =
    ap (λ x. min x (down_step q v s)) (same s inside) ∙ ap (min (w s)) (down_step-same q v w posed same s)

module _ (q : Query) (marks : List Bool) (base : ℕ → ℕ) (e : ℕ) (posed : IsQuery q) where
  pub IsTable-first : (table : List ℕ) → IsTable q (first_raised q marks base e) table
      → IsTable q (raised_table q marks base e 0) table
  unfolding raised_table
  IsTable-first table h = record { many = h.many; each = h.each; units = h.units }

  pub IsTable-next : (j : ℕ) (table next : List ℕ) → IsTable q (raised_table q marks base e j) table
      → IsTable q (lesser_step q (slice_index table)) next → IsTable q (raised_table q marks base e (j + 1)) next
  unfolding raised_table
  IsTable-next j table next h k = record {
    many = k.many;
    each = λ s inside.
        let step : slice_index next s ≡ raised_table q marks base e (suc j) s = k.each s inside
        ∙ lesser_step-same q (slice_index table) (raised_table q marks base e j) posed h.each s inside in
        subst (λ (n : ℕ). slice_index next s ≡ raised_table q marks base e n s) (sym (add-one j)) step;
    units = k.units;
  }

  raised-goal : (j s : ℕ) → is_goal q s ≡ true → raised_table q marks base e j s ≡ unit
  unfolding raised_table
  raised-goal zero s goal = rw goal refl
  raised-goal (suc j) s goal =
      let step : down_step q (raised_table q marks base e j) s ≡ unit = rw goal refl in
      ap (λ x. min x (down_step q (raised_table q marks base e j) s)) (raised-goal j s goal) ∙ ap (min unit) step
      ∙ min-eq_left (le_refl unit)

  -- where no state of a table falls, later tables are the same
  raised-still : (j : ℕ)
      → ((s : ℕ) → s < states q → raised_table q marks base e j s ≤ down_step q (raised_table q marks base e j) s)
      → (d s : ℕ) → s < states q → raised_table q marks base e (d + j) s ≡ raised_table q marks base e j s
  unfolding raised_table
  raised-still j stand zero s inside =
      let same : zero + j ≡ j = omega arith in
      ap (λ (n : ℕ). raised_table q marks base e n s) same
  raised-still j stand (suc d) s inside =
      let more : suc d + j ≡ suc (d + j) = omega arith in
      ap (λ (n : ℕ). raised_table q marks base e n s) more ∙ lesser_step-same q (raised_table q marks base e (d + j))
      (raised_table q marks base e j) posed (raised-still j stand d) s inside ∙ min-eq_left (stand s inside)

  pub still-refused : (j : ℕ) (table : List ℕ) → IsTable q (raised_table q marks base e j) table
      → ((s : ℕ) → s < states q → Stands q (slice_index table) s) → ¬ CanBeRanked q table → (k : ℕ) → j ≤ k
      → IsRefused q (raised_table q marks base e k)
  still-refused j table h stand none k later other is ranked =
      let stands : (s : ℕ) → s < states q
      → raised_table q marks base e j s ≤ down_step q (raised_table q marks base e j) s =
      λ s inside. omega (
        arith,
        (stand s inside).step,
        h.each s inside,
        down_step-same q (slice_index table) (raised_table q marks base e j) posed h.each s,
      ) in
      let at : k - j + j ≡ k = omega (arith, later) in
      let again : IsTable q (raised_table q marks base e j) other = record {
        many = is.many;
        each = λ s inside. is.each s inside ∙ ap (λ (n : ℕ). raised_table q marks base e n s) (sym at)
            ∙ raised-still j stands (k - j) s inside;
        units = is.units;
      } in
      none (subst (CanBeRanked q) (IsTable-one q (raised_table q marks base e j) other table again h) ranked)

  -- a table that is its lesser step stands
  pub same-stands : (j : ℕ) (table next : List ℕ) → IsTable q (raised_table q marks base e j) table
      → IsTable q (lesser_step q (slice_index table)) next
      → ((s : ℕ) → s < states q → slice_index next s ≡ slice_index table s) → (s : ℕ) → s < states q
      → Stands q (slice_index table) s
  same-stands j table next h k same s inside = record {
    goal = λ goal. h.each s inside ∙ raised-goal j s goal;
    step = omega
        (arith, same s inside, k.each s inside, min-le_right (slice_index table s) (down_step q (slice_index table) s));
  }

-- a table that can be ranked is nowhere above its down step
ranked-above : (q : Query) (entries : ℕ → ℕ) (table : List ℕ) → IsQuery q → IsTable q entries table
    → CanBeRanked q table → (s : ℕ) → s < states q → entries s ≤ down_step q entries s
ranked-above q entries table posed h (choices, ranks, ranked) s inside =
    omega (
      arith,
      (Ranked-stands q table choices ranks posed ranked s inside).step,
      h.each s inside,
      down_step-same q (slice_index table) entries posed h.each s,
    )

pub changed-refused : (q : Query) (entries : ℕ → ℕ) (table next : List ℕ) → IsQuery q
    → IsTable q entries table → IsTable q (lesser_step q (slice_index table)) next
    → (((s : ℕ) → s < states q → slice_index next s ≡ slice_index table s) → ⊥) → IsRefused q entries
changed-refused q entries table next posed h k other list is ranked =
    other (λ s inside.
    let above : slice_index table s ≤ down_step q (slice_index table) s =
    omega (
      arith,
      ranked-above q entries list posed is ranked s inside,
      h.each s inside,
      down_step-same q (slice_index table) entries posed h.each s,
    ) in
    k.each s inside ∙ min-eq_left above)

-- where the table after the most steps falls at a state, each one falls
pub fallen-refused : (q : Query) (marks : List Bool) (base : ℕ → ℕ) (e : ℕ) → IsQuery q → (s : ℕ) → s < states q
    → down_step q (raised_table q marks base e most_steps) s < raised_table q marks base e most_steps s
    → AreRefused q marks base e
fallen-refused q marks base e posed s inside falls j few list is ranked =
    let stands : (t : ℕ) → t < states q
    → raised_table q marks base e j t ≤ down_step q (raised_table q marks base e j) t =
    λ t there. ranked-above q (raised_table q marks base e j) list posed is ranked t there in
    let at : most_steps - j + j ≡ most_steps = omega (arith, few) in
    let same : (t : ℕ) → t < states q → raised_table q marks base e most_steps t ≡ raised_table q marks base e j t =
    λ t there. ap (λ (n : ℕ). raised_table q marks base e n t) (sym at)
    ∙ raised-still q marks base e posed j stands (most_steps - j) t there in
    omega (
      arith,
      falls,
      stands s inside,
      same s inside,
      down_step-same q (raised_table q marks base e most_steps) (raised_table q marks base e j) posed same s,
    )

-- what the values come near to is 0 where they are
zero-near : (v d top : ℕ) → 1 ≤ d → (top + 1) * v * d ≤ top * ((top + 1) * 0 + d) → v ≡ 0
zero-near zero d top some h = refl
zero-near (suc v) d top some h =
    let more : (top + 1) * d ≤ (top + 1) * suc v * d = mul-le-mul_right d (let one : top + 1 ≤ (top + 1) * suc v =
    omega (arith, mul-le-mul_left (top + 1) (let least : 1 ≤ suc v = omega arith in least)) in one) in
    absurd (omega (arith, more, h, some))

pub near-zero : (q : Query) (marks : List Bool) (table : ℕ → ℕ) → IsQuery q → IsZeroSet q marks → IsNear q table
    → (s : ℕ) → s < states q → slice_index_or marks s false ≡ true → table s ≡ 0
near-zero q marks table posed zeros near s inside marked =
    let at = near (unit + 1) (omega arith) in
    zero-near (table s) (denominator q.game ^ at.0) unit
    (one-le-pow at.0 (denominator q.game) (denominator-pos q.game posed.game))
    (subst (λ n. (unit + 1) * table s * denominator q.game ^ at.0 ≤ unit * ((unit + 1) * n + denominator q.game ^ at.0))
    (zeros.marked s inside marked at.0) (at.1 s inside))

least-of : (x a b : ℕ) → x ≤ a → x ≤ b → x ≤ min a b
least-of x a b h k = elim (min-cases a b) [ inl is ↦ rw is h | inr is ↦ rw is k ]

-- no raised table is below a table that can be ranked
module _ (q : Query) (marks : List Bool) (base : List ℕ) (choices : List (Option ℕ))
    (ranks : List ℕ) (e : ℕ) (posed : IsQuery q) (h : Ranked q base choices ranks)
    (none : (s : ℕ) → s < states q → slice_index_or marks s false ≡ true → slice_index base s ≡ 0) where
  first-above : (s : ℕ) → s < states q → (goal mark : Bool) → is_goal q s ≡ goal → slice_index_or marks s false ≡ mark
      → slice_index base s ≤ (if goal then unit else (if mark then 0 else min unit (slice_index base s + e)))
  first-above s inside true mark goal is = h.units s inside
  first-above s inside false true goal is = omega (arith, none s inside is)
  first-above s inside false false goal is =
      least-of (slice_index base s) unit (slice_index base s + e) (h.units s inside) (omega arith)

  pub raised-above : (j s : ℕ) → s < states q → slice_index base s ≤ raised_table q marks (slice_index base) e j s
  unfolding raised_table
  raised-above zero s inside = first-above s inside (is_goal q s) (slice_index_or marks s false) refl refl
  raised-above (suc j) s inside =
      let chosen : AreChoicesOf q.game _ = AreChoicesOf-choices_of q.game posed.game in
      least-of (slice_index base s) (raised_table q marks (slice_index base) e j s)
      (down_step q (raised_table q marks (slice_index base) e j) s) (raised-above j s inside)
      (omega (
        arith,
        (Ranked-stands q base choices ranks posed h s inside).step,
        down_step-le q (slice_index base) (raised_table q marks (slice_index base) e j) chosen (raised-above j) s,
      ))
