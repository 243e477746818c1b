-- A table that is lowered on closed sets stays inductive, and the replies stay held.
use Rattle.std.proofs.Common.{◌≡◌, ◌≢◌, ℕ, ◌*◌, ◌<◌, ◌≤◌, List, length, get_or, min, arith, refl, sym, ap, subst, inl}
use Rattle.std.proofs.Common.{inr, ◌∙◌, Option, Some, None}
use Rattle.std.specs.Prelude.{slice_index, slice_index_or, IsSomeAnd, All}
use Rattle.std.proofs.Math.Nat.{min-le_left, min-le_right, le-min}
use Rattle.std.proofs.lemmas.Bool.{cases_eq}
use Rattle.std.proofs.lemmas.List.Elements.{All-from_get_or}
use Rattle.std.proofs.lemmas.List.{get_or-map, length-map}
use Rattle.game_model.specs.declared.game.Edge.{Edge}
use Rattle.game_model.specs.declared.game.Side.{Side}
use Rattle.game_model.specs.declared.game.Side.TheVariants.{Max, Min}
use Rattle.game_model.specs.Game.{Distribution, no_distribution, choices_of, choice_of}
use Rattle.game_model.specs.Query.{Query, IsQuery, states, side_at}
use Rattle.game_model.specs.Values.{optimum}
use Rattle.game_model.specs.Rounded.{up_value, up_step, IsBelow, IsInductive}
use Rattle.game_model.proofs.Choices.{IsChoiceOf, AreChoicesOf-choices_of}
use Rattle.game_model.proofs.Best.{weighted_sum-most, optimum-each}
use Rattle.fixed_bellman.specs.Given.{IsFree}
use Rattle.fixed_bellman.proofs.Tables.{choice_fits, weighted_sum-rises}
use Rattle.inductive_check.specs.Held.{IsHeld, IsHeldAt}
use Rattle.inductive_check.specs.Replies.{IsReply, AreReplies}
use Rattle.inductive_check.proofs.UpSteps.{up_value-held, held-up_value, up_step-le, up_step-free}
use Rattle.inductive_check.proofs.Entries.{held-most, most-held, all-held, one-held}
use Rattle.trap_sets.specs.Ends.{numbered}
use Rattle.trap_sets.specs.Moves.{Leads}
use Rattle.trap_sets.specs.inside.Parts.{Stays}
use Rattle.trap_sets.specs.Exits.{IsBestExit}
use Rattle.trap_sets.specs.Lowered.{IsLoweredEntry, IsLowered}
use Rattle.trap_sets.proofs.Leading.{leads-inside, stays-or-leaves}
use Rattle.trap_sets.proofs.Exits.{exit-leaves, best-within}
use Rattle.trap_sets.proofs.Closing.{IsClosed}

-- a greater table gives a choice a greater up value
up_value-rises : (q : Query) (v w : ℕ → ℕ) (m : Distribution) → IsChoiceOf q.game m → IsBelow q v w
    → up_value v m ≤ up_value w m
up_value-rises q v w m fits below =
    let same : up_value w m ≤ up_value w m = omega arith in
    let held : IsHeld w (up_value w m) m = held-up_value w (up_value w m) m fits.positive same in
    up_value-held v (up_value w m) m fits.positive (omega (arith, held, weighted_sum-rises q.game v w m fits below))

-- an inductive table holds each choice of the maximiser
greatest-each : (q : Query) (table : ℕ → ℕ) (s c : ℕ) → IsQuery q → s < states q → IsFree q s → side_at q s ≡ Max
    → c < length (choices_of q.game s) → up_step q table s ≤ table s → IsHeldAt q table s c
greatest-each q table s c posed ls free greatest lc most =
    let step : optimum Max (up_value table) (choices_of q.game s) ≤ table s =
    subst (λ side. optimum side (up_value table) (choices_of q.game s) ≤ table s) greatest
    (subst (λ n. n ≤ table s) (up_step-free q table s free) most) in
    most-held q table s posed ls c lc
    (omega (arith, step, optimum-each (up_value table) (choices_of q.game s) c no_distribution lc))

-- a choice has at most the greatest value of its successors
up_value-most : (q : Query) (table : ℕ → ℕ) (s c b : ℕ) → IsQuery q → s < states q → c < length (choices_of q.game s)
    → ((t : ℕ) → Leads q s c t → table t ≤ b) → up_value table (choice_of q.game s c) ≤ b
up_value-most q table s c b posed ls lc most =
    let m : Distribution = choice_of q.game s c in
    let fits : IsChoiceOf q.game m = choice_fits q s c posed ls lc in
    let each : All (λ (e : Edge). table e.to ≤ b) m.edges =
    λ k d l. most (get_or m.edges k d).to (
      k,
      omega (arith, l, length-map m.edges (λ (e : Edge). e.to)),
      get_or-map (λ (e : Edge). e.to) m.edges k d (get_or m.edges k d).to l,
    ) in
    up_value-held table b m fits.positive
    (omega (arith, weighted_sum-most table b m.edges each, ap (λ n. n * b) fits.sums))

-- in what follows: a question, a table that is inductive, replies to it, closed sets and the lowered table
module _ (q : Query) (upper of lowered : List ℕ) (replies : List (Option ℕ)) (posed : IsQuery q)
    (many : length upper ≡ states q) (h : IsLowered q of upper lowered) where
  entry-below : (s x : ℕ) → IsLoweredEntry q of upper s x → x ≤ slice_index upper s
  entry-below s x entry = elim (cases_eq (slice_index of s) 0) [
    | inl none ↦ omega (arith, entry.other none)
    | inr some ↦
        let at = entry.trapped some in
        omega (arith, at.2, min-le_left (slice_index upper s) at.0)
  ]

  -- nowhere above the table handed in
  pub lowered-below : IsBelow q (slice_index lowered) (slice_index upper)
  lowered-below s inside = entry-below s (slice_index lowered s) (h.each s (omega (arith, inside, many)))

  -- a choice that stays in its trap, or leaves it, is held to the lowered entry
  staying-held : (s c b : ℕ) → s < states q → c < length (choices_of q.game s) → slice_index of s ≢ 0
      → IsBestExit q (slice_index upper) (numbered of (slice_index of s)) b → Stays q of s c
      → up_value (slice_index lowered) (choice_of q.game s c) ≤ b
  staying-held s c b ls lc some best stays = up_value-most q (slice_index lowered) s c b posed ls lc (λ t leads.
      let same : slice_index of t ≡ slice_index of s = stays t leads in
      let inside : t < states q = leads-inside q s c t posed ls lc leads in
      let here : slice_index of t ≢ 0 = λ none. some (sym same ∙ none) in
      let entry : IsLoweredEntry q of upper t (slice_index lowered t) = h.each t (omega (arith, inside, many)) in
      let at = entry.trapped here in
      let exit : at.0 ≤ b =
      best-within q (slice_index upper) (numbered of (slice_index of s)) (numbered of (slice_index of s)) at.0 b
      (λ u d way. way) (subst (λ i. IsBestExit q (slice_index upper) (numbered of i) at.0) same at.1) best in
      omega (arith, at.2, min-le_right (slice_index upper t) at.0, exit))

  -- the up value over the lowered table is at most that over the table
  value-falls : (s c : ℕ) → s < states q → c < length (choices_of q.game s)
      → up_value (slice_index lowered) (choice_of q.game s c) ≤ up_value (slice_index upper) (choice_of q.game s c)
  value-falls s c ls lc = up_value-rises q (slice_index lowered) (slice_index upper) (choice_of q.game s c)
      (choice_fits q s c posed ls lc) lowered-below

  -- where a choice was held to the entry and its value is at most the best exit, it is held to the lowered entry
  capped-held : (s c : ℕ) → s < states q → c < length (choices_of q.game s) → IsHeldAt q (slice_index upper) s c
      → (slice_index of s ≢ 0 → (b : ℕ) → IsBestExit q (slice_index upper) (numbered of (slice_index of s)) b
      → up_value (slice_index lowered) (choice_of q.game s c) ≤ b) → IsHeldAt q (slice_index lowered) s c
  capped-held s c ls lc held exits =
      let value : ℕ = up_value (slice_index lowered) (choice_of q.game s c) in
      let old : value ≤ slice_index upper s =
      omega (arith, value-falls s c ls lc, held-most q (slice_index upper) s posed ls c lc held) in
      let entry : IsLoweredEntry q of upper s (slice_index lowered s) = h.each s (omega (arith, ls, many)) in
      most-held q (slice_index lowered) s posed ls c lc (elim (cases_eq (slice_index of s) 0) [
        | inl none ↦ let same : value ≤ slice_index lowered s = omega (arith, old, entry.other none) in same
        | inr some ↦
            let at = entry.trapped some in
            let least : value ≤ min (slice_index upper s) at.0 = le-min old (exits some at.0 at.1) in
            let good : value ≤ slice_index lowered s = omega (arith, at.2, least) in good
      ])

  module _ (closed : IsClosed q replies of) (held : AreReplies q (slice_index upper) replies) where
    reply-held : (s : ℕ) (reply : Option ℕ) → s < states q → slice_index_or replies s None ≡ reply → side_at q s ≡ Min
        → IsReply q (slice_index upper) s reply → IsReply q (slice_index lowered) s reply
    reply-held s None ls is least good = absurd good
    reply-held s (Some c) ls is least good = (
      good.0,
      capped-held s c ls good.0 good.1 (λ some b best.
          let stays : IsSomeAnd (Some c) (Stays q of s) =
          subst (λ r. IsSomeAnd r (Stays q of s)) is (closed.replied s ls some least) in
          staying-held s c b ls good.0 some best stays),
    )

    -- the same replies are held to the lowered table
    pub AreReplies-lowered : AreReplies q (slice_index lowered) replies
    AreReplies-lowered s ls needs = reply-held s (slice_index_or replies s None) ls refl needs.least (held s ls needs)

    -- a state of the maximiser in a trap
    greatest-held : IsInductive q (slice_index upper) → (s c : ℕ) → s < states q → IsFree q s → side_at q s ≡ Max
        → slice_index of s ≢ 0 → c < length (choices_of q.game s) → IsHeldAt q (slice_index upper) s c
        → IsHeldAt q (slice_index lowered) s c
    greatest-held inductive s c ls free greatest some lc was =
        capped-held s c ls lc was (λ here b best. elim (stays-or-leaves q of s c) [
          | inl stays ↦ staying-held s c b ls lc here best stays
          | inr leaves ↦
              let most : up_value (slice_index lowered) (choice_of q.game s c) ≤ b =
              omega (arith, value-falls s c ls lc, best.most s c (exit-leaves q of s c ls lc greatest leaves)) in
              most
        ])

    trapped-least : (s : ℕ) (reply : Option ℕ) → s < states q → IsFree q s → side_at q s ≡ Min
        → IsReply q (slice_index lowered) s reply → up_step q (slice_index lowered) s ≤ slice_index lowered s
    trapped-least s None ls free least good = absurd good
    trapped-least s (Some c) ls free least good = one-held q (slice_index lowered) s posed ls free least c good.0 good.1

    trapped-side : (s : ℕ) (side : Side) → IsInductive q (slice_index upper) → s < states q → IsFree q s
        → side_at q s ≡ side → slice_index of s ≢ 0 → up_step q (slice_index lowered) s ≤ slice_index lowered s
    trapped-side s Max inductive ls free is some =
        all-held q (slice_index lowered) s posed ls free (λ c lc. greatest-held inductive s c ls free is some lc
        (greatest-each q (slice_index upper) s c posed ls free is lc (inductive s ls)))
    trapped-side s Min inductive ls free is some = trapped-least s (slice_index_or replies s None) ls free is
        (AreReplies-lowered s ls (record { free = free; least = is }))

    -- and the lowered table is inductive
    pub IsInductive-lowered : IsInductive q (slice_index upper) → IsInductive q (slice_index lowered)
    IsInductive-lowered inductive s ls = elim (cases_eq (slice_index of s) 0) [
      | inl none ↦
          let entry : IsLoweredEntry q of upper s (slice_index lowered s) = h.each s (omega (arith, ls, many)) in
          omega (
            arith,
            entry.other none,
            inductive s ls,
            up_step-le q (slice_index lowered) (slice_index upper)
                (AreChoicesOf-choices_of q.game posed.game) lowered-below s,
          )
      | inr some ↦ trapped-side s (side_at q s) inductive ls (closed.free s ls some) refl some
    ]

  -- entries stay within a bound
  pub units-lowered : (bound : ℕ) → All (λ v. v ≤ bound) upper → All (λ v. v ≤ bound) lowered
  units-lowered bound most = All-from_get_or (λ v. v ≤ bound) lowered 0 (λ s l.
      omega (arith, h.many, lowered-below s (omega (arith, l, h.many, many)), most s 0 (omega (arith, l, h.many))))
