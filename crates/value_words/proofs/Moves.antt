-- Each step of a pass may be made: what it leaves is an event of the core.
use Rattle.std.proofs.Common.{◌≡◌, ◌≢◌, ◌⊎◌, inl, inr, ℕ, ◌+◌, ◌<◌, ◌≤◌, true, List, [], length, get_or, set, eqb, refl}
use Rattle.std.proofs.Common.{sym, ap, ◌∙◌, subst, le_refl, arith, length-set}
use Rattle.std.proofs.lemmas.Bool.{cases_eq}
use mathlib.Core.Option.{none}
use prog.Atomic.{either}
use Rattle.atomic_table.specs.Table.{Act, keeps, step, stepped, opening, carried_after, Valid, Allows, Splits, Joins}
use Rattle.atomic_table.specs.Table.{Final, Seen}
use Rattle.atomic_table.proofs.Lists.{at_set, exchanged}
use Rattle.game_model.specs.Query.{Query, IsQuery, states}
use Rattle.game_model.specs.Limits.{unit}
use Rattle.game_model.specs.Rounded.{down_steps, IsBelow}
use Rattle.step_core.specs.Word.{value_in, value_at, opening_words, greater_words}
use Rattle.step_core.specs.Sound.{Sees}
use Rattle.step_core.specs.declared.event.Event.TheVariants.{Split, Join}
use Rattle.step_core.proofs.Kept.{opening-keeps, opening-within}
use Rattle.step_core.proofs.Sights.{value_at-here, value_at-else, value_at-rises, greater_words-at}
use Rattle.step_core.proofs.Words.{AreSoundWords-units}
use Rattle.value_words.specs.declared.rule.Sight.{Sight}
use Rattle.value_words.specs.Shown.{Shared, Seated, IsPassOf}
use Rattle.value_words.specs.Rule.{all_parts, opening_sight, halved, copied, joined, spent, MeetsRule, saw, Loaded}
use Rattle.value_words.specs.Rule.{WonOrLost}
use Rattle.value_words.specs.Steps.{IsOffer, after_split, after_join}
use Rattle.value_words.proofs.Parts.{parts-same, parts-alone, parts-split, parts-join, parts-opening}
use Rattle.value_words.proofs.Events.{event-meets, pass-sees, load-event, won-event, lost-event, split-event}
use Rattle.value_words.proofs.Events.{join-event}

-- what was seen is no greater than what is found
pub found-rises : (seen : List ℕ) (i found : ℕ)
    → (found ≡ get_or seen i 0) ⊎ (value_in (get_or seen i 0) < value_in found) → value_at seen i ≤ value_in found
found-rises seen i found h = elim h [
  | inl same ↦ subst (λ n. value_in n ≤ value_in found) same (le_refl (value_in found))
  | inr less ↦ omega arith
]

-- a load may be made
pub load-allowed : (q : Query) (slots id : ℕ) (m : Seated) (i : ℕ) → m.0.live ≡ true → i < states q
    → Allows (MeetsRule q) slots id m i (λ n. n) (Loaded (step slots i 0 0 none) m)
load-allowed q slots id m i live inside s k many at small =
    let p : IsPassOf s id m.0 = record { there = at; live = live } in
    let n : Seated = saw m i (get_or s.words i 0) m.0.won in
    let told : Loaded (step slots i 0 0 none) m (get_or s.words i 0) n =
    (refl, (pass-sees q s id m.0 p k).each i, AreSoundWords-units q s.words k.world.words i inside) in (
      n.0,
      keeps,
      tt,
      event-meets q s _ _ k (load-event q s id slots i m n keeps p inside told)
          (parts-same s.views k.parts id m.0 at n.0 live refl),
      told,
    )

-- an exchange may be made
module _ (q : Query) (slots id : ℕ) (m : Seated) (i from to : ℕ) (live : m.0.live ≡ true)
    (offer : IsOffer q m.0.seen i from to) (units : value_in to ≤ unit) where
  module _ (s : Shared) (k : MeetsRule q s) (p : IsPassOf s id m.0) where
    abbrev found : ℕ
    found = get_or s.words i 0

    told-won : found ≡ from → WonOrLost (step slots i from to none) m found (saw m i to (m.0.won + 1))
    told-won hit = (
      (λ _. refl),
      (λ miss. absurd (miss hit)),
      (
        to,
        m.0.won + 1,
        refl,
        subst (λ n. value_in n ≤ value_in to) (sym offer.is_from) (omega (arith, offer.raised)),
        units,
      ),
    )

    told-lost : found ≢ from → WonOrLost (step slots i from to none) m found (saw m i found m.0.won)
    told-lost miss =
        let each = (pass-sees q s id m.0 p k).each i in (
          (λ hit. absurd (miss hit)),
          (λ _. (refl, elim each [ inl same ↦ absurd (miss (same ∙ offer.is_from)) | inr less ↦ less ])),
          (
            found,
            m.0.won,
            refl,
            found-rises m.0.seen i found each,
            AreSoundWords-units q s.words k.world.words i offer.inside,
          ),
        )

  pub exchange-allowed : Allows (MeetsRule q) slots id m i (λ n. either (eqb n from) to n)
      (WonOrLost (step slots i from to none) m)
  exchange-allowed s k many at small =
      let p : IsPassOf s id m.0 = record { there = at; live = live } in
      let word = get_or s.words i 0 in
      exchanged word from to
      (λ (x : ℕ). (w : Sight) × (a : Act (Unit {0})) × Valid s.homes m.1 a × MeetsRule q (stepped s i x id m.1 w a)
      × WonOrLost (step slots i from to none) m word (w, carried_after m.1 a))
      (λ (hit : word ≡ from).
      let told = told-won s k p hit in (
        (saw m i to (m.0.won + 1)).0,
        keeps,
        tt,
        event-meets q s _ _ k (won-event q s id slots i m (saw m i to (m.0.won + 1)) keeps p from to offer told k hit)
            (parts-same s.views k.parts id m.0 at (saw m i to (m.0.won + 1)).0 live refl),
        told,
      ))
      (λ (miss : word ≢ from).
      let told = told-lost s k p miss in (
        (saw m i word m.0.won).0,
        keeps,
        tt,
        event-meets q s _ _ k (lost-event q s id slots i m (saw m i word m.0.won) keeps p from to offer told miss)
            (parts-same s.views k.parts id m.0 at (saw m i word m.0.won).0 live refl),
        told,
      ))

-- a split
pub split-allowed : (q : Query) (id : ℕ) (v : Sight) → v.live ≡ true → Splits (MeetsRule q) id v (halved v) (copied v)
split-allowed q id v live s k at = event-meets q s (after_split s id v) (Split id) k
    (split-event q s id v (record { there = at; live = live })) (parts-split s.views k.parts id v at live)

-- a join
pub join-allowed : (q : Query) (id : ℕ) (v : Sight) (other : ℕ) (w : Sight) → v.live ≡ true → w.live ≡ true
    → Joins (MeetsRule q) id v other w (joined v w) spent
join-allowed q id v other w live live' s k at apart there =
    elim (at_set s.views id other (joined v w) w there) [
      | inl same ↦ absurd (apart same.0)
      | inr own ↦
          event-meets q s (after_join s id v other w) (Join id other) k
          (join-event q s id other v w (record { there = at; live = live }) (record { there = own.1; live = live' })
          (λ same. apart (sym same)))
          (parts-join s.views k.parts id v at live other w there)
    ]

-- the opening table
pub opening-meets : (q : Query) (xs : List (Unit {0})) → IsQuery q
    → MeetsRule q (opening (opening_words q) xs (opening_sight q))
opening-meets q xs h =
    record { world = opening-keeps q h; within = opening-within q; parts = parts-opening (opening_sight q) refl }

-- the words at the end
module _ (q : Query) (id : ℕ) (v : Sight) (words : List ℕ) (xs : List (Unit {0}))
    (final : Final (Seen (MeetsRule q) id v) words xs) where
  pub closed-sees : v.live ≡ true → Sees q words v.seen
  closed-sees live = subst (λ (l : List ℕ). Sees q l v.seen) final.2
      (pass-sees q final.0 id v (record { there = final.1.1; live = live }) final.1.0)

  pub closed-within : v.parts ≡ all_parts → IsBelow q (value_at words) (down_steps q v.won)
  closed-within whole =
      let k = final.1.0 in
      subst (λ (l : List ℕ). IsBelow q (value_at l) (down_steps q v.won)) final.2
      (subst (λ n. IsBelow q (value_at final.0.words) (down_steps q n))
      (parts-alone final.0.views k.parts id v final.1.1 whole) k.within)

-- the greater of two values of units
pub joined-units : (xs ys : List ℕ) (s : ℕ) → length xs ≡ length ys → value_at xs s ≤ unit → value_at ys s ≤ unit
    → value_at (greater_words xs ys) s ≤ unit
joined-units xs ys s same h k = elim (greater_words-at xs ys s same).one [
  | inl is ↦ subst (λ n. value_in n ≤ unit) (sym is) h
  | inr is ↦ subst (λ n. value_in n ≤ unit) (sym is) k
]

-- the pass after a step that shows it a word of no smaller value
module _ (q : Query) (m n : Seated) (i word won : ℕ) (is : n ≡ saw m i word won) (inside : i < length m.0.seen)
    (up : value_in (get_or m.0.seen i 0) ≤ value_in word) where
  pub saw-empty : m.1 ≡ [] → n.1 ≡ []
  saw-empty e = ap (λ (x : Seated). x.1) is ∙ e

  pub saw-live : m.0.live ≡ true → n.0.live ≡ true
  saw-live e = ap (λ (x : Seated). x.0.live) is ∙ e

  pub saw-as_many : length m.0.seen ≡ states q → length n.0.seen ≡ states q
  saw-as_many e = ap (λ (x : Seated). length x.0.seen) is ∙ length-set m.0.seen i word ∙ e

  pub saw-rises : (s : ℕ) → value_at m.0.seen s ≤ value_at n.0.seen s
  saw-rises s = subst (λ (x : Seated). value_at m.0.seen s ≤ value_at x.0.seen s) (sym is)
      (value_at-rises m.0.seen i word inside up s)

  pub saw-units : value_in word ≤ unit → ((s : ℕ) → s < states q → value_at m.0.seen s ≤ unit) → (s : ℕ) → s < states q
      → value_at n.0.seen s ≤ unit
  saw-units units before s l = subst (λ (x : Seated). value_at x.0.seen s ≤ unit) (sym is) (elim (cases_eq s i) [
    | inl same ↦ subst (λ k. value_at (set m.0.seen i word) k ≤ unit) (sym same)
        (omega (arith, value_at-here m.0.seen i word inside, units))
    | inr other ↦ omega (arith, value_at-else m.0.seen i word s other, before s l)
  ])
