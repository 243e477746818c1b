-- The check accepts what the graph alone gives.
use Rattle.std.proofs.Common.{◌≡◌, ℕ, zero, suc, ◌<◌, ◌≤◌, Bool, true}
use Rattle.std.proofs.Common.{false, List, [], ◌∷◌, length, arith, refl, sym, ◌∙◌}
use Rattle.std.proofs.Common.{subst, map, inl, inr, Option, Some, None, min}
use Rattle.std.specs.Prelude.{◌||◌, if◌then◌else◌, slice_get, slice_index, slice_index_or, IsSomeAnd}
use Rattle.std.proofs.lemmas.Bool.{both_ways, cases_lt}
use Rattle.std.proofs.lemmas.List.{get_or_past}
use Rattle.std.proofs.lemmas.List.Elements.{All-weaker}
use Rattle.game_model.specs.declared.game.Edge.{Edge}
use Rattle.game_model.specs.declared.game.Side.TheVariants.{Max}
use Rattle.game_model.specs.Game.{Distribution, choices_of, choice_of, no_edge}
use Rattle.game_model.specs.Limits.{unit}
use Rattle.game_model.specs.Query.{states, is_goal, side_at}
use Rattle.game_laws.proofs.Planned.{planned_place-given}
use Rattle.expected_rewards.specs.Tables.{is_finite, IsOpen, MayBeTaken, Sinks, Lingers, AreAwayRanks}
use Rattle.reward_check.specs.declared.parts.Part.{Part}
use Rattle.reward_check.specs.declared.parts.Part.TheVariants.{Upper, Ranks, Lower, Infinite}
use Rattle.reward_check.specs.Certificates.{Certificate}
use Rattle.reward_check.specs.Parts.{LooksAt, IsTaken, IsRight, IsPassedAt, IsPassed, IsAccepted}
use Rattle.solved_rewards.specs.declared.merge.MergedLists.{MergedLists}
use Rattle.solved_rewards.specs.declared.sources.Sources.{Sources}
use Rattle.solved_rewards.specs.Away.{HasAwayChoices}
use Rattle.solved_rewards.specs.Paid.{lower_side, ArePaid}
use Rattle.solved_rewards.specs.inside.Merged.{ProvesAway, AreMerged, IsRefused, AreFilled, merged}

-- Only goals have an upper value, goals have zeros, the lower values are paid, and infinite states have these choices
-- and ranks.
record IsUnbounded (c : Certificate) (choices : List (Option ℕ)) (ranks : List ℕ) : Type 0 where
  bounded : (s : ℕ) → s < states c.question → is_finite c.bounded s ≡ is_goal c.question s
  lower : (s : ℕ) → s < states c.question → is_goal c.question s ≡ true → c.lower s ≡ 0
  upper : (s : ℕ) → s < states c.question → is_goal c.question s ≡ true → c.upper s ≡ 0
  planned : (s : ℕ) → IsOpen c.question s → side_at c.question s ≡ Max → is_finite c.finite s ≡ false
      → slice_index_or c.choices s None ≡ slice_index_or choices s None
  ranked : (s : ℕ) → is_finite c.finite s ≡ false → slice_index c.ranks s ≡ slice_index ranks s
  paid : IsPassed Lower c

module _ (c : Certificate) (choices : List (Option ℕ)) (ranks : List ℕ)
    (away : AreAwayRanks c.question c.finite choices (slice_index ranks))
    (chosen : HasAwayChoices c.question c.finite choices) (unbounded : IsUnbounded c choices ranks) where
  sinks : (s : ℕ) (m : Distribution) → is_finite c.finite s ≡ false → Sinks c.finite (slice_index ranks) s m
      → Sinks c.finite (slice_index c.ranks) s m
  sinks s m out at = record {
    place = at.place;
    inside = at.inside;
    away = at.away;
    down = omega (
      arith,
      unbounded.ranked (slice_index_or m.edges at.place no_edge).to at.away,
      unbounded.ranked s out,
      at.down,
    );
  }

  lingers : (s : ℕ) (m : Distribution) → is_finite c.finite s ≡ false → Lingers c.finite (slice_index ranks) s m
      → Lingers c.finite (slice_index c.ranks) s m
  lingers s m out at =
      All-weaker (λ (e : Edge). (is_finite c.finite e.to ≡ false) × (slice_index ranks e.to ≤ slice_index ranks s))
      (λ (e : Edge). (is_finite c.finite e.to ≡ false) × (slice_index c.ranks e.to ≤ slice_index c.ranks s))
      (λ e h. (h.0, omega (arith, unbounded.ranked e.to h.0, unbounded.ranked s out, h.1))) m.edges at

  keeps-away : (s k : ℕ) → IsOpen c.question s → is_finite c.finite s ≡ false → IsTaken Infinite c s k
      → IsRight Infinite c s k
  keeps-away s k opened out taken =
      let may : MayBeTaken c.question Max choices s k = (
        taken.0,
        λ own. sym (planned_place-given choices s (length (choices_of c.question.game s)) k
            (sym (unbounded.planned s opened own out) ∙ taken.1 own) taken.0),
      ) in
      elim ((away s opened.0).each opened out k may) [
        | inl at ↦ inl (sinks s (choice_of c.question.game s k) out at)
        | inr at ↦ inr (lingers s (choice_of c.question.game s k) out at)
      ]

  unlooked : (s : ℕ) → LooksAt Upper c s → ⊥
  unlooked s look = both_ways (is_goal c.question s) look.0.1 (sym (unbounded.bounded s look.0.0) ∙ look.1)

  passed : (part : Part) (s : ℕ) → s < states c.question → IsPassedAt part c s
  passed Upper s inside = record {
    planned = λ look. absurd (unlooked s look);
    right = λ look. absurd (unlooked s look);
  }
  passed Ranks s inside = record {
    planned = λ look. absurd (unlooked s look);
    right = λ look. absurd (unlooked s look);
  }
  passed Lower s inside = unbounded.paid s inside
  passed Infinite s inside = record {
    planned = λ look own.
        subst (λ (o : Option ℕ). IsSomeAnd o (λ k. k < length (choices_of c.question.game s)))
        (sym (unbounded.planned s look.0 own look.1)) (chosen s inside own look.1);
    right = λ look k taken. keeps-away s k look.0 look.1 taken;
  }

  unbounded-accepted : IsAccepted c
  unbounded-accepted = record {
    goals = λ s inside goal. record {
      finite = (away s inside).goal goal;
      lower = unbounded.lower s inside goal;
      bounded = unbounded.bounded s inside ∙ goal;
      upper = unbounded.upper s inside goal;
    };
    parts = λ part s inside. passed part s inside;
  }

or-none : (b : Bool) → (b || false) ≡ b
or-none true = refl
or-none false = refl

-- the value that no candidate gives
value-none : (goal number : Bool)
    → ◌≡◌ {A = ℕ} (if goal then 0 else (if number then min 0 unit else 0)) 0
value-none true number = refl
value-none false true = let at : min 0 unit ≡ 0 = omega arith in at
value-none false false = refl

goal-none : (goal number : Bool) (x : ℕ) → goal ≡ true
    → ◌≡◌ {A = ℕ} (if goal then 0 else (if number then x else 0)) 0
goal-none true number x h = refl
goal-none false number x h = absurd (cc)

same-rank : (n : ℕ) (list away : List ℕ) (s : ℕ) → length list ≡ n → length away ≡ n
    → (s < n → slice_index list s ≡ slice_index away s) → slice_index list s ≡ slice_index away s
same-rank n list away s many as_many each = elim (cases_lt s n) [
  | inl inside ↦ each inside
  | inr past ↦
      let one : slice_index list s ≡ 0 = get_or_past list s 0 (omega (arith, many, past)) in
      let other : slice_index away s ≡ 0 = get_or_past away s 0 (omega (arith, as_many, past)) in
      one ∙ sym other
]

-- what is merged without states that were found, and whose lower values are paid
merged-unbounded : (sources : Sources) (below : List ℕ) (lists : MergedLists) → ProvesAway sources
    → AreMerged sources [] below lists → IsPassed Lower (merged sources lists) → IsAccepted (merged sources lists)
merged-unbounded sources below lists away are paid =
    unbounded-accepted (merged sources lists) sources.away_choices.now sources.away_ranks.now away.ranks away.choices
    (record {
      bounded = λ s inside. are.bounded.each s inside ∙ or-none (is_goal sources.question.now s);
      lower = λ s inside goal.
          are.lower.each s inside
          ∙ goal-none (is_goal sources.question.now s) (is_finite sources.finite.now s)
          (min (slice_index below s) unit) goal;
      upper = λ s inside goal.
          are.upper.each s inside
          ∙ goal-none (is_goal sources.question.now s) (is_finite lists.bounded.items s)
          (min (slice_index sources.candidates.now.upper.items s) unit) goal;
      planned = λ s opened own out. (are.choices.each s opened.0).away_one opened.1 own out;
      ranked = λ s out.
          same-rank (states sources.question.now) lists.ranks.items sources.away_ranks.now s are.ranks.many
          sources.many_ranks (λ inside. are.ranks.each s inside out);
      paid = paid;
    })

-- what is merged without a candidate for the lower values pays them
nothing-paid : (sources : Sources) (lists : MergedLists) → AreMerged sources [] [] lists
    → IsPassed Lower (merged sources lists)
nothing-paid sources lists are s inside =
    let none : slice_index lists.lower.items s ≡ 0 =
    are.lower.each s inside ∙ value-none (is_goal sources.question.now s) (is_finite sources.finite.now s) in
    record {
      planned = λ look. absurd (omega (arith, none, look.2));
      right = λ look. absurd (omega (arith, none, look.2));
    }

-- what is merged without candidates
pub merged-accepted : (sources : Sources) (lists : MergedLists) → ProvesAway sources → AreMerged sources [] [] lists
    → IsAccepted (merged sources lists)
merged-accepted sources lists away are =
    merged-unbounded sources [] lists away are (nothing-paid sources lists are)

get-map : (xs : List ℕ) (i : ℕ) → slice_get xs i ≡ slice_index_or (map Some xs) i None
get-map [] i = refl
get-map (x ∷ xs) zero = refl
get-map (x ∷ xs) (suc i) = get-map xs i

-- what is merged with the candidates' lower values pays them if the candidates do
merged-paid : (sources : Sources) (found : List Bool) (lists : MergedLists)
    → AreMerged sources found sources.candidates.now.lower.items lists
    → ArePaid sources.question.now sources.finite.now sources.candidates.now → IsPassed Lower (merged sources lists)
merged-paid sources found lists are pays s inside =
    let q = sources.question.now in
    let side = lower_side q sources.finite.now sources.candidates.now lists.lower.items in
    let at : IsPassedAt Lower side s = pays lists.lower.items are.lower s inside in
    let same : LooksAt Lower (merged sources lists) s → side_at q s ≡ Max
    → slice_index_or lists.choices.items s None ≡ slice_index_or side.choices s None =
    λ look own. (are.choices.each s inside).solver_one look.0.1 own look.1 look.2
    ∙ get-map sources.candidates.now.choices.items s in
    record {
      planned = λ look own.
          subst (λ (o : Option ℕ). IsSomeAnd o (λ k. k < length (choices_of q.game s))) (sym (same look own))
          (at.planned look own);
      right = λ look k taken. at.right look k (taken.0, λ own. sym (same look own) ∙ taken.1 own);
    }

-- if no upper value is claimed, and the check still refuses, the candidates do not pay
refused-unpaid : (sources : Sources) → ProvesAway sources
    → IsRefused sources [] sources.candidates.now.lower.items
    → ¬ ArePaid sources.question.now sources.finite.now sources.candidates.now
refused-unpaid sources away at pays =
    at.refused (merged-unbounded sources sources.candidates.now.lower.items at.lists away at.are
    (merged-paid sources [] at.lists at.are pays))

-- then the lower values give way to 0
pub filled-without : (sources : Sources) (found : List Bool) (lists : MergedLists) → ProvesAway sources
    → IsRefused sources [] sources.candidates.now.lower.items → AreMerged sources found [] lists
    → AreFilled sources lists
filled-without sources found lists away refused are = record {
  found = found;
  below = [];
  are = are;
  lower = inr (are.lower, refused-unpaid sources away refused);
}
