-- The almost-sure states have ranks: the number of steps to the goals by choices that stay among them.
use Rattle.std.proofs.Common.{◌≡◌, ℕ, zero, suc, ◌+◌, ◌-◌, ◌*◌, ◌^◌, ◌<◌, ◌≤◌, Bool, true, false, List, length, map}
use Rattle.std.proofs.Common.{get_or, arith, refl, sym, ap, ◌∙◌, subst, inl, inr, not}
use Rattle.std.specs.Prelude.{slice_index_or, ◌&&◌, ◌||◌}
use Rattle.std.specs.List.{All, range_with_len}
use Rattle.std.proofs.lemmas.Bool.{cases_Bool, cases_lt}
use Rattle.std.proofs.lemmas.Nat.{pow-add}
use Rattle.std.proofs.lemmas.List.{get_or-map}
use Rattle.std.proofs.lemmas.List.FromFn.{get_or-map-range_with_len}
use Rattle.std.proofs.Math.Nat.{one-le-pow}
use Rattle.game_model.specs.declared.game.Edge.{Edge}
use Rattle.game_model.specs.declared.game.Side.TheVariants.{Max, Min}
use Rattle.game_model.specs.Game.{Distribution, no_distribution, no_edge, choices_of, choice_of}
use Rattle.game_model.specs.Query.{Query, IsQuery, states, is_goal, side_at}
use Rattle.game_model.specs.Values.{denominator, numerator}
use Rattle.game_model.proofs.Choices.{IsChoiceOf, IsChoiceOf-choice_of, denominator-pos}
use Rattle.attractors.specs.Attractor.{serves, attracts, is_attracted}
use Rattle.attractors.proofs.Tests.{any-place, any-none, all-each}
use Rattle.attractors.proofs.Meeting.{meets-successor}
use Rattle.attractors.proofs.Serving.{serves-both}
use Rattle.almost_sure.specs.Values.{IsAway, AreAlmostSure}
use Rattle.almost_sure.specs.ExcludedSets.{gone_excluded}
use Rattle.almost_sure.proofs.Away.{away-opening, away-step}
use Rattle.solved_plans.proofs.Missing.{IsAwayFor, both-ways, side-left}
use Rattle.solved_plans.proofs.Tests.{or-left, or-right, or-in, or-new, and-second, and-last, not-in, not-out}

-- the states of each number of steps: first the goals, then those that the last layer attracts,
-- by choices that stay among the states that are not gone
abbrev layer : Query → List Bool → ℕ → List Bool
layer q gone zero = map (λ s. is_goal q s) (range_with_len 0 (states q))
layer q gone (suc r) = map (λ s. slice_index_or (layer q gone r) s false
    || (not (slice_index_or gone s false) && is_attracted q (gone_excluded gone) (layer q gone r) s))
    (range_with_len 0 (states q))

-- a choice that stays among the marked states, and has a successor of smaller rank
pub record Nears (q : Query) (marks : List Bool) (rank : ℕ → ℕ) (s : ℕ) (m : Distribution) : Type 0 where
  pub stays : All (λ e. (e.to < states q) × (slice_index_or marks e.to false ≡ true)) m.edges
  pub place : ℕ
  pub within : place < length m.edges
  pub nearer : rank (get_or m.edges place no_edge).to < rank s

-- each marked state that is no goal has such a choice, and for the minimiser each is one
pub record AreNearing (q : Query) (marks : List Bool) (rank : ℕ → ℕ) : Type 0 where
  pub greatest : (s : ℕ) → s < states q → slice_index_or marks s false ≡ true → is_goal q s ≡ false → side_at q s ≡ Max
      → (c : ℕ) × (c < length (choices_of q.game s)) × Nears q marks rank s (choice_of q.game s c)
  pub least : (s : ℕ) → s < states q → slice_index_or marks s false ≡ true → is_goal q s ≡ false → side_at q s ≡ Min
      → (c : ℕ) → c < length (choices_of q.game s) → Nears q marks rank s (choice_of q.game s c)

module _ (q : Query) (posed : IsQuery q) (marks : List Bool) (sure : AreAlmostSure q marks) (gone : List Bool)
    (gone-at : (s : ℕ) → s < states q → slice_index_or gone s false ≡ not (slice_index_or marks s false)) where
  first-at : (s : ℕ) → s < states q → slice_index_or (layer q gone zero) s false ≡ is_goal q s
  first-at s inside = get_or-map-range_with_len (λ t. is_goal q t) 0 (states q) s s false inside (omega arith)

  next-at : (r s : ℕ) → s < states q
      → slice_index_or (layer q gone (suc r)) s false ≡ (slice_index_or (layer q gone r) s false
      || (not (slice_index_or gone s false) && is_attracted q (gone_excluded gone) (layer q gone r) s))
  next-at r s inside = get_or-map-range_with_len (λ t. slice_index_or (layer q gone r) t false
      || (not (slice_index_or gone t false) && is_attracted q (gone_excluded gone) (layer q gone r) t)) 0
      (states q) s s false inside (omega arith)

  -- layers grow from the goals
  has-goals : (r s : ℕ) → s < states q → slice_index_or (layer q gone r) s false ≡ false → is_goal q s ≡ false
  has-goals zero s inside out = sym (first-at s inside) ∙ out
  has-goals (suc r) s inside out = has-goals r s inside (or-left _ _ (sym (next-at r s inside) ∙ out))

  later-layer : (d r k s : ℕ) → d + r ≡ k → s < states q → slice_index_or (layer q gone r) s false ≡ true
      → slice_index_or (layer q gone k) s false ≡ true
  later-layer zero r k s is inside member =
      subst (λ n. slice_index_or (layer q gone n) s false ≡ true) (let at : r ≡ k = omega (arith, is) in at) member
  later-layer (suc d) r zero s is inside member = absurd (omega (arith, is))
  later-layer (suc d) r (suc k) s is inside member =
      next-at k s inside ∙ or-in _ _ (later-layer d r k s (omega (arith, is)) inside member)

  away : (t : ℕ) → t < states q → slice_index_or gone t false ≡ true → IsAway q (states q) t
  away t inside out = sure.unmarked t inside (not-out _ _ (gone-at t inside) out)

  -- a sure state that is not in a layer misses the goals in as many steps
  missed : (r s : ℕ) → s < states q → slice_index_or (layer q gone r) s false ≡ false
      → slice_index_or gone s false ≡ false → IsAwayFor q (suc (states q)) r s
  missed zero s inside out within = away-opening q (suc (states q)) s posed (has-goals zero s inside out)
  missed (suc r) s inside out within =
      let was : slice_index_or (layer q gone r) s false ≡ false = or-left _ _ (sym (next-at r s inside) ∙ out) in
      let apart : is_attracted q (gone_excluded gone) (layer q gone r) s ≡ false =
      and-second _ _ (ap not within) (or-right _ _ (sym (next-at r s inside) ∙ out)) in
      away-step q (states q) r s posed inside (has-goals r s inside was)
      (λ alive. side-left q gone (layer q gone r) (states q) r posed away
      (λ t lt out' within'. missed r t lt out' within') s inside apart)

  -- so it is in some layer
  some-layer : (s : ℕ) → s < states q → slice_index_or marks s false ≡ true
      → (k : ℕ) × (slice_index_or (layer q gone k) s false ≡ true)
  some-layer s inside marked =
      let D : ℕ = denominator q.game in
      let at : (k : ℕ) × ((D ^ suc (states q) + 1) * D ^ k ≤ (D ^ suc (states q) + 1) * numerator q k s + D ^ k) =
      (sure.exact s inside).0 marked (D ^ suc (states q) + 1) (omega arith) in
      let within : slice_index_or gone s false ≡ false = gone-at s inside ∙ ap not marked in
      elim (cases_Bool (slice_index_or (layer q gone at.0) s false)) [
        | inl member ↦ (at.0, member)
        | inr out ↦ absurd (both-ways (D ^ suc (states q)) (numerator q at.0 s) (D ^ at.0)
            (one-le-pow at.0 D (denominator-pos q.game posed.game))
            (subst (λ x. numerator q at.0 s * D ^ suc (states q) + D ^ at.0 ≤ x) (pow-add D (suc (states q)) at.0)
            (missed at.0 s inside out within)) at.1)
      ]

  -- the first layer that has a state
  abbrev IsFirst : ℕ → ℕ → Type 0
  IsFirst s r = (slice_index_or (layer q gone r) s false ≡ true)
      × ((j : ℕ) → slice_index_or (layer q gone j) s false ≡ true → r ≤ j)

  least : (k s : ℕ) → s < states q → slice_index_or (layer q gone k) s false ≡ true → (r : ℕ) × IsFirst s r
  least zero s inside member = (0, (member, λ j there. omega arith))
  least (suc k) s inside member = elim (cases_Bool (slice_index_or (layer q gone k) s false)) [
    | inl earlier ↦ least k s inside earlier
    | inr none ↦ (
      suc k,
      (
        member,
        λ j there. elim (cases_lt k j) [
          | inl more ↦ omega (arith, more)
          | inr few ↦
              let is : slice_index_or (layer q gone k) s false ≡ true =
              later-layer (k - j) j k s (omega (arith, few)) inside there in
              absurd (cc)
        ],
      ),
    )
  ]

  ranking : (s : ℕ) → (r : ℕ) × (s < states q → slice_index_or marks s false ≡ true → IsFirst s r)
  ranking s = elim (cases_lt s (states q)) [
    | inl inside ↦ elim (cases_Bool (slice_index_or marks s false)) [
      | inl marked ↦
          let one = some-layer s inside marked in
          let first = least one.0 s inside one.1 in
          (first.0, λ _ _. first.1)
      | inr unmarked ↦ (0, λ _ marked. absurd (cc))
    ]
    | inr past ↦ (0, λ inside. absurd (omega (arith, inside, past)))
  ]

  -- the first layer of a sure state that is no goal is a later one, and the one before attracts it
  before : (s : ℕ) → s < states q → slice_index_or marks s false ≡ true → is_goal q s ≡ false → (r : ℕ) → IsFirst s r
      → (j : ℕ) × (suc j ≡ r) × (is_attracted q (gone_excluded gone) (layer q gone j) s ≡ true)
  before s inside marked other zero first =
      absurd (let is : is_goal q s ≡ true = sym (first-at s inside) ∙ first.0 in cc)
  before s inside marked other (suc j) first = (
    j,
    refl,
    and-last _ _ (or-new _ _ (elim (cases_Bool (slice_index_or (layer q gone j) s false)) [
      | inl early ↦ absurd (omega (arith, first.1 j early))
      | inr none ↦ none
    ]) (sym (next-at j s inside) ∙ first.0)),
  )

  -- a choice that serves a layer
  nears : (s j : ℕ) → suc j ≡ (ranking s).0 → (m : Distribution) → IsChoiceOf q.game m
      → serves (gone_excluded gone) (layer q gone j) m ≡ true → Nears q marks (λ t. (ranking t).0) s m
  nears s j is m fits h =
      let both = serves-both (gone_excluded gone) (layer q gone j) m h in
      let one = meets-successor (layer q gone j) m both.1 in
      let kept = any-none (λ (e : Edge). slice_index_or gone e.to false) m.edges both.0 in
      let all : All (λ e. (e.to < states q) × (slice_index_or marks e.to false ≡ true)) m.edges =
      λ i d l. let within = fits.inside i d l in (within, not-in _ _ (gone-at _ within) (kept i d l)) in
      let there = all one.0 no_edge one.1 in
      let few : (ranking (get_or m.edges one.0 no_edge).to).0 ≤ j =
      ((ranking (get_or m.edges one.0 no_edge).to).1 there.0 there.1).1 j one.2 in
      record { stays = all; place = one.0; within = one.1; nearer = omega (arith, few, is) }

  nearing : AreNearing q marks (λ t. (ranking t).0)
  nearing = record {
    greatest = λ s inside marked other side.
        let last = before s inside marked other (ranking s).0 ((ranking s).1 inside marked) in
        let attracted : attracts Max (gone_excluded gone) (layer q gone last.0) (choices_of q.game s) ≡ true =
        sym (ap (λ p. attracts p (gone_excluded gone) (layer q gone last.0) (choices_of q.game s)) side) ∙ last.2 in
        let one =
        any-place (serves (gone_excluded gone) (layer q gone last.0))
        (choices_of q.game s) no_distribution attracted in (
          one.0,
          one.1,
          nears s last.0 last.1 (choice_of q.game s one.0)
              (IsChoiceOf-choice_of q.game s one.0 posed.game inside one.1) one.2,
        );
    least = λ s inside marked other side c within.
        let last = before s inside marked other (ranking s).0 ((ranking s).1 inside marked) in
        let attracted : attracts Min (gone_excluded gone) (layer q gone last.0) (choices_of q.game s) ≡ true =
        sym (ap (λ p. attracts p (gone_excluded gone) (layer q gone last.0) (choices_of q.game s)) side) ∙ last.2 in
        nears s last.0 last.1 (choice_of q.game s c) (IsChoiceOf-choice_of q.game s c posed.game inside within)
        (all-each (serves (gone_excluded gone) (layer q gone last.0)) (choices_of q.game s) attracted
        c no_distribution within);
  }

-- so the almost-sure states have ranks
pub sure-ranks : (q : Query) (marks : List Bool) → IsQuery q → AreAlmostSure q marks
    → (rank : ℕ → ℕ) × AreNearing q marks rank
sure-ranks q marks posed sure =
    let gone-at : (s : ℕ) → s < states q → slice_index_or (map not marks) s false ≡ not (slice_index_or marks s false) =
    λ s inside. get_or-map not marks s false false (omega (arith, inside, sure.as_many)) in (
      (λ t. (ranking q posed marks sure (map not marks) gone-at t).0),
      nearing q posed marks sure (map not marks) gone-at,
    )
