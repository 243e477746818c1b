-- Each step of a pass is an event of the core, and so keeps the rule.
use Rattle.std.proofs.Common.{◌≡◌, ◌≢◌, ℕ, zero, suc, ◌+◌, ◌<◌, arith, true, List, [], ◌∷◌, ◌++◌, map, length, get_or}
use Rattle.std.proofs.Common.{set, sym, ap, ◌∙◌, subst}
use Rattle.std.specs.Prelude.{Option, Some, None, is_some, unwrap_or, if◌then◌else◌}
use Rattle.std.proofs.lemmas.List.{get_or-set_same, set-get_or, set_comm, map-set, map-append}
use Rattle.std.proofs.lemmas.List.Sums.{sum_by_push}
use mathlib.Core.Option.{none, some, some-injective, some-ne-none}
use lib.ListN.{get_elem?}
use Rattle.atomic_table.specs.Table.{Act, step, stepped}
use Rattle.atomic_table.proofs.Lists.{set_again, set_else}
use Rattle.game_model.specs.Query.{Query, states}
use Rattle.game_model.specs.Rounded.{down_steps, IsBelow}
use Rattle.step_core.specs.declared.event.Event.{Event}
use Rattle.step_core.specs.declared.event.Event.TheVariants.{Load, Won, Lost, Split, Join}
use Rattle.step_core.specs.Word.{value_in, choice_in, value_at, greater_words}
use Rattle.step_core.specs.Sound.{Sees}
use Rattle.step_core.specs.Configuration.{Configuration, IsWorld, view_of, seen_by}
use Rattle.step_core.specs.Events.{IsLive, after, wins}
use Rattle.step_core.proofs.Kept.{after-keeps, after-within}
use Rattle.fixed_bellman.specs.Given.{IsGivenBy}
use Rattle.value_words.specs.declared.rule.Sight.{Sight}
use Rattle.value_words.specs.Shown.{Shared, Seated, view_shown, shown, all_won, IsPassOf, IsEvent}
use Rattle.value_words.specs.Rule.{halved, copied, joined, spent, AreParts, MeetsRule, saw, Loaded, WonOrLost}
use Rattle.value_words.specs.Steps.{IsOffer, after_split, after_join}
use Rattle.value_words.proofs.Parts.{sum-set}

-- an event keeps the rule, where the passes share the parts
pub event-meets : (q : Query) (s later : Shared) (event : Event) → MeetsRule q s → IsEvent q s later event
    → AreParts later.views → MeetsRule q later
event-meets q s later event k e shares = record {
  world = subst IsWorld (sym e.effect) (after-keeps (shown q s) event k.world e.lawful);
  within = subst (λ n. IsBelow q (value_at later.words) (down_steps q n)) (sym e.won)
      (subst (λ (c : Configuration). IsBelow q (value_at c.words) (down_steps q (all_won s + wins event)))
      (sym e.effect) (after-within (shown q s) event (all_won s) k.world e.lawful k.within));
  parts = shares;
}

view-found : (views : List Sight) (id : ℕ) (v : Sight) → get_elem? views id ≡ some v
    → get_or (map view_shown views) id None ≡ view_shown v
view-found [] id v at = absurd (some-ne-none v (sym at))
view-found (u ∷ us) zero v at = ap view_shown (some-injective u v at)
view-found (u ∷ us) (suc id) v at = view-found us id v at

view-live : (v : Sight) → v.live ≡ true → view_shown v ≡ Some v.seen
view-live v live = ap (λ l. if l then Some v.seen else None) live

-- a live pass as a view
module _ (q : Query) (s : Shared) (id : ℕ) (v : Sight) (p : IsPassOf s id v) where
  pub view-shown : view_of (shown q s) id ≡ Some v.seen
  view-shown = view-found s.views id v p.there ∙ view-live v p.live

  pub seen-shown : seen_by (shown q s) id ≡ v.seen
  seen-shown = ap (λ (o : Option (List ℕ)). unwrap_or o []) view-shown

  pub live-shown : IsLive (shown q s) id
  live-shown = ap (λ (o : Option (List ℕ)). is_some o) view-shown

  -- what it has seen, while the rule is kept
  pub pass-sees : MeetsRule q s → Sees q s.words v.seen
  pass-sees k = k.world.views id v.seen view-shown

-- the pass has seen a word
module _ (q : Query) (s : Shared) (id : ℕ) (m : Seated) (p : IsPassOf s id m.0) (i : ℕ) where
  saw-shown : (n : Seated) (word won : ℕ) → n ≡ saw m i word won → map view_shown (set s.views id n.0)
      ≡ set (map view_shown s.views) id (Some (set (seen_by (shown q s) id) i word))
  saw-shown n word won is =
      let view : view_shown n.0 ≡ Some (set (seen_by (shown q s) id) i word) =
      view-live n.0 (ap (λ (x : Seated). x.0.live) is ∙ p.live) ∙ ap (λ (x : Seated). Some x.0.seen) is
      ∙ ap (λ (xs : List ℕ). Some (set xs i word)) (sym (seen-shown q s id m.0 p)) in
      map-set view_shown s.views id n.0 ∙ ap (set (map view_shown s.views) id) view

  -- a look at the word as it is
  looked-effect : (act : Act (Unit {0})) (n : Seated) (won : ℕ) → n ≡ saw m i (get_or s.words i 0) won
      → shown q (stepped s i (get_or s.words i 0) id m.1 n.0 act) ≡ after (shown q s) (Load id i)
  looked-effect act n won is =
      λ e. record { question = q; words = set-get_or s.words i 0 e; views = saw-shown n (get_or s.words i 0) won is e }

  -- a look at one's own word
  won-effect : (act : Act (Unit {0})) (n : Seated) (from to won : ℕ) → i < length s.words → n ≡ saw m i to won
      → shown q (stepped s i to id m.1 n.0 act) ≡ after (shown q s) (Won id i from to)
  won-effect act n from to won inside is =
      let own : set (map view_shown s.views) id (Some (set (seen_by (shown q s) id) i to))
      ≡ set (map view_shown s.views) id (Some (set (seen_by (shown q s) id) i (get_or (set s.words i to) i 0))) =
      ap (λ (word : ℕ). set (map view_shown s.views) id (Some (set (seen_by (shown q s) id) i word)))
      (sym (get_or-set_same s.words i to 0 inside)) in
      λ e. record { question = q; words = set s.words i to; views = (saw-shown n to won is ∙ own) e }

module _ (q : Query) (s : Shared) (id slots state : ℕ) (m n : Seated) (act : Act (Unit {0}))
    (p : IsPassOf s id m.0) where
  abbrev found : ℕ
  found = get_or s.words state 0

  won-by : (word to won : ℕ) → n ≡ saw m state to won
      → all_won (stepped s state word id m.1 n.0 act) + m.0.won ≡ all_won s + won
  won-by word to won is =
      omega (arith, sum-set (λ (v : Sight). v.won) s.views id m.0 n.0 p.there, ap (λ (x : Seated). x.0.won) is)

  pub load-event : state < states q → Loaded (step slots state 0 0 none) m found n
      → IsEvent q s (stepped s state found id m.1 n.0 act) (Load id state)
  load-event inside told = record {
    lawful = (live-shown q s id m.0 p, inside);
    effect = looked-effect q s id m p state act n m.0.won told.0;
    won = omega (arith, won-by found found m.0.won told.0);
  }

  module _ (from to : ℕ) (offer : IsOffer q m.0.seen state from to)
      (told : WonOrLost (step slots state from to none) m found n) where
    pub won-event : MeetsRule q s → found ≡ from
        → IsEvent q s (stepped s state to id m.1 n.0 act) (Won id state from to)
    won-event k hit = record {
      lawful = record {
        live = live-shown q s id m.0 p;
        inside = offer.inside;
        free = offer.free;
        is_from = hit;
        raised = offer.raised;
        given = subst (λ (seen : List ℕ). IsGivenBy q (value_at seen) state (value_in to) (choice_in to))
            (sym (seen-shown q s id m.0 p)) offer.given;
      };
      effect = won-effect q s id m p state act n from to (m.0.won + 1)
          (subst (λ k. state < k) (sym k.world.words.as_many) offer.inside) (told.0 hit);
      won = omega (arith, won-by to to (m.0.won + 1) (told.0 hit));
    }

    pub lost-event : found ≢ from → IsEvent q s (stepped s state found id m.1 n.0 act) (Lost id state)
    lost-event miss = record {
      lawful = (
        live-shown q s id m.0 p,
        offer.inside,
        (λ same. miss (same ∙ ap (λ (seen : List ℕ). get_or seen state 0) (seen-shown q s id m.0 p) ∙ offer.is_from)),
      );
      effect = looked-effect q s id m p state act n m.0.won (told.1 miss).0;
      won = omega (arith, won-by found found m.0.won (told.1 miss).0);
    }

pub split-event : (q : Query) (s : Shared) (id : ℕ) (v : Sight) → IsPassOf s id v
    → IsEvent q s (after_split s id v) (Split id)
split-event q s id v p = record {
  lawful = live-shown q s id v p;
  effect =
      let same : map view_shown (set s.views id (halved v)) ≡ map view_shown s.views =
      map-set view_shown s.views id (halved v) ∙ sym (map-set view_shown s.views id v)
      ∙ ap (map view_shown) (set_again s.views id v p.there) in
      let copy : view_shown (copied v) ≡ Some (seen_by (shown q s) id) =
      view-live v p.live ∙ sym (ap Some (seen-shown q s id v p)) in
      ap (λ (vs : List (Option (List ℕ))). record { question = q; words = s.words; views = vs })
      (map-append view_shown (set s.views id (halved v)) (copied v ∷ []) ∙ (λ e. same e ++ copy e ∷ []));
  won = omega (
    arith,
    sum_by_push (λ (v : Sight). v.won) (set s.views id (halved v)) (copied v),
    sum-set (λ (v : Sight). v.won) s.views id v (halved v) p.there,
  );
}

pub join-event : (q : Query) (s : Shared) (id other : ℕ) (v w : Sight) → IsPassOf s id v → IsPassOf s other w
    → id ≢ other → IsEvent q s (after_join s id v other w) (Join id other)
join-event q s id other v w p there apart = record {
  lawful = (live-shown q s id v p, live-shown q s other w there, apart);
  effect =
      let views : List (Option (List ℕ)) = map view_shown s.views in
      let both : view_shown (joined v w) ≡ Some (greater_words (seen_by (shown q s) id) (seen_by (shown q s) other)) =
      view-live (joined v w) p.live
      ∙ (λ e. Some (greater_words (sym (seen-shown q s id v p) e) (sym (seen-shown q s other w there) e))) in
      ap (λ (vs : List (Option (List ℕ))). record { question = q; words = s.words; views = vs })
      (map-set view_shown (set s.views id (joined v w)) other spent
      ∙ ap (λ (vs : List (Option (List ℕ))). set vs other None) (map-set view_shown s.views id (joined v w))
      ∙ set_comm views id other (view_shown (joined v w)) None apart
      ∙ ap (set (set views other None) id) both);
  won =
      let still : get_elem? (set s.views id (joined v w)) other ≡ some w =
      set_else s.views id other (joined v w) (λ same. apart (sym same)) ∙ there.there in
      omega (
        arith,
        sum-set (λ (v : Sight). v.won) s.views id v (joined v w) p.there,
        sum-set (λ (v : Sight). v.won) (set s.views id (joined v w)) other w spent still,
      );
}
