-- What is accepted bounds what the game is worth.
use Rattle.std.proofs.Common.{◌≡◌, ℕ, ◌*◌, ◌<◌, ◌≤◌, Bool, true, false, List, [], ◌∷◌, length, map, sum_by}
use Rattle.std.proofs.Common.{get_or, arith, refl, ap, sym, ◌∙◌, inl, inr, Option, Some, None}
use Rattle.std.specs.Bool.{if◌then◌else◌}
use Rattle.std.specs.List.{All}
use Rattle.std.specs.Prelude.{slice_index, slice_index_or, IsSomeAnd}
use Rattle.std.proofs.Math.Nat.{mul-le-mul_left}
use Rattle.std.proofs.lemmas.Bool.{both_ways, cases_lt}
use Rattle.std.proofs.lemmas.List.{get_or-map}
use Rattle.std.proofs.lemmas.List.Elements.{All-head, All-tail}
use Rattle.std.proofs.lemmas.List.Sums.{sum_by-cons}
use Rattle.game_model.specs.declared.game.Edge.{Edge}
use Rattle.game_model.specs.declared.game.Side.TheVariants.{Max, Min}
use Rattle.game_model.specs.Game.{Distribution, choices_of, choice_of, no_edge}
use Rattle.game_model.specs.Limits.{unit}
use Rattle.game_model.specs.Query.{IsQuery, states, is_dead, side_at}
use Rattle.game_model.specs.Ranks.{IsRankedChoice, Ranked}
use Rattle.game_model.specs.Values.{weighted_sum}
use Rattle.game_model.proofs.Choices.{IsChoiceOf, IsChoiceOf-choice_of}
use Rattle.game_laws.proofs.Planned.{planned_place-given}
use Rattle.strategies.proofs.Plans.{plan-reaches}
use Rattle.rank_certificate.proofs.Plans.{Ranked-reached}
use Rattle.expected_rewards.specs.Turned.{turned}
use Rattle.expected_rewards.specs.Tables.{is_finite, MayBeTaken, IsUpperTable, IsLowerTable, AreAwayRanks}
use Rattle.expected_rewards.proofs.Turned.{turned-posed, turned-side, other-min, other-max, ends}
use Rattle.expected_rewards.proofs.Promises.{holds, pays, misses}
use Rattle.reward_check.specs.declared.parts.Part.{Part}
use Rattle.reward_check.specs.declared.parts.Part.TheVariants.{Upper, Ranks, Lower, Infinite}
use Rattle.reward_check.specs.Certificates.{Certificate, IsSound}
use Rattle.reward_check.specs.Parts.{planner_of, plan_of, LooksAt, HasPlan, IsTaken, LeadsDown, IsRight, IsPassedAt}
use Rattle.reward_check.specs.Parts.{IsAccepted}

-- a choice that is given, in range
abbrev IsGiven : Option ℕ → ℕ → Type 0
IsGiven o n = (k : ℕ) × (o ≡ Some k) × (k < n)

given : (o : Option ℕ) (n : ℕ) → IsSomeAnd o (λ k. k < n) → IsGiven o n
given (Some k) n h = (k, refl, h)
given None n h = absurd h

-- where a plan has its choices, what may be taken under it is what the check looks at
taken : (part : Part) (c : Certificate) (s k : ℕ) → HasPlan part c s
    → MayBeTaken c.question (planner_of part) (plan_of part c) s k → IsTaken part c s k
taken part c s k plan may = (
  may.0,
  λ own.
      let has : IsGiven (slice_index_or (plan_of part c) s None) (length (choices_of c.question.game s)) =
      given (slice_index_or (plan_of part c) s None) (length (choices_of c.question.game s)) (plan own) in
      has.1 ∙ ap Some (sym (may.1 own ∙ planned_place-given (plan_of part c) s
      (length (choices_of c.question.game s)) has.0 has.1 has.2)),
)

-- the value of reaching a goal that the minimiser is to have: 1 from the states that have an upper value
abbrev sure_values : List Bool → List ℕ
sure_values marks = map (λ (b : Bool). if b then unit else 0) marks

whole : (b : Bool) → b ≡ true → (if b then unit else 0) ≡ unit
whole true is = refl
whole false is = absurd (cc)

at-most : (b : Bool) (v : ℕ) → v ≡ (if b then unit else 0) → v ≤ unit
at-most true v is = omega (arith, is)
at-most false v is = omega (arith, is)

marked : (b : Bool) (v : ℕ) → v ≡ (if b then unit else 0) → 0 < v → b ≡ true
marked true v is some = refl
marked false v is some = absurd (omega (arith, is, some))

-- an average of entries that are at least a number
average-least : (v : ℕ → ℕ) (m : ℕ) (edges : List Edge) → All (λ e. m ≤ v e.to) edges
    → m * sum_by (λ e. e.weight) edges ≤ weighted_sum v edges
average-least v m [] h = omega arith
average-least v m (e ∷ es) h =
    rw (sum_by-cons (λ (d : Edge). d.weight * v d.to) e es, sum_by-cons (λ (d : Edge). d.weight) e es)
    (omega (
      arith,
      average-least v m es (All-tail (λ (d : Edge). m ≤ v d.to) e es h),
      mul-le-mul_left e.weight (All-head (λ (d : Edge). m ≤ v d.to) e es h),
    ))

enough-factors : (v u t w n : ℕ) → v ≡ u → n ≡ t → u * n ≤ w → v * t ≤ w
enough-factors v u t w n same sums h = rw (same, ← sums) h

nothing-paid : (y t w : ℕ) → y ≤ 0 → y * t ≤ w
nothing-paid y t w h =
    let none : y ≡ 0 = omega (arith, h) in
    rw none (omega arith)

module _ (c : Certificate) (posed : IsQuery c.question)
    (alive : (s : ℕ) → s < states c.question → is_dead c.question s ≡ false)
    (many : length c.bounded ≡ states c.question) (accepted : IsAccepted c) where
  upper-table : IsUpperTable c.question c.high c.bounded c.replies c.upper
  upper-table s inside = record {
    each = λ opened bound k may.
        let at : IsPassedAt Upper c s = accepted.parts Upper s inside in
        at.right (opened, bound) k (taken Upper c s k (at.planned (opened, bound)) may);
  }

  lower-table : IsLowerTable c.question c.low c.finite c.choices c.lower
  lower-table s inside = record {
    goal = λ goal. (accepted.goals s inside goal).lower;
    each = λ opened fin k may. elim (cases_lt 0 (c.lower s)) [
      | inl some ↦
          let at : IsPassedAt Lower c s = accepted.parts Lower s inside in
          at.right (opened, fin, some) k (taken Lower c s k (at.planned (opened, fin, some)) may)
      | inr none ↦ inr (nothing-paid (c.lower s) _ _ none)
    ];
  }

  away-ranks : AreAwayRanks c.question c.finite c.choices (slice_index c.ranks)
  away-ranks s inside = record {
    goal = λ goal. (accepted.goals s inside goal).finite;
    each = λ opened away k may.
        let at : IsPassedAt Infinite c s = accepted.parts Infinite s inside in
        at.right (opened, away) k (taken Infinite c s k (at.planned (opened, away)) may);
  }

  abbrev value : ℕ → ℕ
  value s = slice_index (sure_values c.bounded) s

  value-at : (s : ℕ) → s < states c.question → value s ≡ (if is_finite c.bounded s then unit else 0)
  value-at s inside =
      get_or-map (λ (b : Bool). if b then unit else 0) c.bounded s false 0 (omega (arith, inside, many))

  value-whole : (s : ℕ) → s < states c.question → is_finite c.bounded s ≡ true → value s ≡ unit
  value-whole s inside bound = value-at s inside ∙ whole (is_finite c.bounded s) bound

  ranked-choice : (s k : ℕ) → LooksAt Upper c s → IsTaken Upper c s k
      → IsRankedChoice value (slice_index c.ranks) s (choice_of c.question.game s k)
  ranked-choice s k looked may =
      let m : Distribution = choice_of c.question.game s k in
      let inside : s < states c.question = looked.0.0 in
      let right : IsRight Upper c s k = (accepted.parts Upper s inside).right looked k may in
      let step : LeadsDown (slice_index c.ranks) s (choice_of c.question.game s k) =
      (accepted.parts Ranks s inside).right looked k may in
      let fits : IsChoiceOf c.question.game (choice_of c.question.game s k) =
      IsChoiceOf-choice_of c.question.game s k posed.game inside may.0 in
      let there : (slice_index_or (choice_of c.question.game s k).edges step.place no_edge).to < states c.question =
      fits.inside step.place no_edge step.inside in
      let least : unit * sum_by (λ (e : Edge). e.weight) (choice_of c.question.game s k).edges
      ≤ weighted_sum value (choice_of c.question.game s k).edges =
      average-least value unit (choice_of c.question.game s k).edges
      (λ i d l.
      omega (
        arith,
        value-whole (get_or (choice_of c.question.game s k).edges i d).to (fits.inside i d l) (right.0 i d l),
      )) in
      record {
        enough = enough-factors (value s) unit (choice_of c.question.game s k).total
            (weighted_sum value (choice_of c.question.game s k).edges)
            (sum_by (λ (e : Edge). e.weight) (choice_of c.question.game s k).edges)
            (value-whole s inside looked.1) fits.sums least;
        place = step.place;
        inside = step.inside;
        onward = inr (
          value-whole _ there (right.0 step.place no_edge step.inside) ∙ sym (value-whole s inside looked.1),
          step.down,
        );
      }

  ranked : Ranked (turned c.question) (sure_values c.bounded) c.replies c.ranks
  ranked = record {
    units = λ s inside. at-most (is_finite c.bounded s) (value s) (value-at s inside);
    goals = λ s inside goal. value-whole s inside (accepted.goals s inside goal).bounded;
    deads = λ s inside dead. absurd (both_ways (is_dead c.question s) (alive s inside) dead);
    greatest = λ s inside goal dead some max.
        let own : side_at c.question s ≡ Min =
        other-max (side_at c.question s) (sym (turned-side c.question posed s inside) ∙ max) in
        let bound : is_finite c.bounded s ≡ true =
        marked (is_finite c.bounded s) (value s) (value-at s inside) some in
        let looked : LooksAt Upper c s = ((inside, goal, dead), bound) in
        let has : IsGiven (slice_index_or c.replies s None) (length (choices_of c.question.game s)) =
        given (slice_index_or c.replies s None) (length (choices_of c.question.game s))
        ((accepted.parts Upper s inside).planned ((inside, goal, dead), bound) own) in
        record {
          choice = has.0;
          given = has.1;
          inside = has.2;
          ranked = ranked-choice s has.0 looked (has.2, λ same. has.1);
        };
    least = λ s inside goal dead some min k within.
        let own : side_at c.question s ≡ Max =
        other-min (side_at c.question s) (sym (turned-side c.question posed s inside) ∙ min) in
        let bound : is_finite c.bounded s ≡ true =
        marked (is_finite c.bounded s) (value s) (value-at s inside) some in
        ranked-choice s k ((inside, goal, dead), bound) (within, λ other. absurd (cc));
  }

  pub sound : IsSound c
  sound = record {
    held = holds c.question c.high c.bounded c.replies c.upper posed upper-table;
    ends = ends c.question c.bounded c.replies value posed
        (plan-reaches (turned c.question) c.replies value (turned-posed c.question posed)
        (Ranked-reached (turned c.question) (sure_values c.bounded) c.replies c.ranks
        (turned-posed c.question posed) ranked))
        value-whole;
    assured = pays c.question c.low c.finite c.choices c.lower (slice_index c.ranks) posed lower-table away-ranks;
    endless = misses c.question c.low c.finite c.choices c.lower (slice_index c.ranks) posed lower-table away-ranks;
  }
