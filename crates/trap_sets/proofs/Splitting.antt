-- Parts that are broken up.
use Rattle.std.proofs.Common.{◌≡◌, ◌≢◌, ◌⊎◌, ℕ, ◌+◌, ◌-◌, ◌<◌, ◌≤◌, Bool, true, false, List, length, set, arith, refl}
use Rattle.std.proofs.Common.{sym, ◌∙◌, ap, subst, inl, inr, Option}
use Rattle.std.specs.Prelude.{slice_index, slice_index_or}
use Rattle.std.proofs.lemmas.Bool.{cases_eq, cases_lt, cases_Bool}
use Rattle.std.proofs.lemmas.List.{get_or-set_same, get_or-set_other, length-set}
use Rattle.game_model.specs.Query.{Query}
use Rattle.trap_sets.specs.Ends.{IsMove, IsEndComponent}
use Rattle.trap_sets.specs.declared.internal.Internal.{Internal}
use Rattle.trap_sets.specs.declared.reach.Way.{Way}
use Rattle.trap_sets.specs.declared.reach.Way.TheVariants.{On, Back}
use Rattle.trap_sets.specs.Moves.{Reach}
use Rattle.trap_sets.specs.inside.Parts.{IsRooted, root_of}
use Rattle.trap_sets.specs.inside.Settled.{KeepsEnds, AreJoined}
use Rattle.trap_sets.specs.inside.Roots.{roots, roots_below}
use Rattle.trap_sets.specs.inside.Breaking.{IsBreak, IsSplit}
use Rattle.trap_sets.specs.inside.OfInternal.{IsStepOf}
use Rattle.trap_sets.specs.inside.Reaching.{Passes, AreReached}
use Rattle.trap_sets.proofs.Keeping.{walk-internal}
use Rattle.trap_sets.proofs.Roots.{roots-more}
use Rattle.trap_sets.proofs.Reaching.{walk-turned, closed-on, closed-back}
use Rattle.trap_sets.proofs.Walking.{reach-join}
use Rattle.trap_sets.proofs.Zeros.{within}

module _ (internal : Internal)
    (h : KeepsEnds internal.mdp.question.now internal.mdp.replies.now internal.part.now)
    (rooted : IsRooted internal.part.now) where
  -- no end component crosses the marks of a search
  uncrossed : (way : Way) (marks : List Bool) → AreReached internal way marks → (member : ℕ → Bool)
      (listed : ℕ → ℕ → Bool) → IsEndComponent internal.mdp.question.now internal.mdp.replies.now member listed
      → (t u : ℕ)
      → member t ≡ true → member u ≡ true → slice_index_or marks t false ≡ true → slice_index_or marks u false ≡ true
  uncrossed On marks k member listed component t u in' in'' is =
      let forth : Reach (IsMove internal.mdp.question.now listed) t u = component.joined t u in' in'' in
      closed-on internal marks k forth.0 t u
      (walk-internal internal.mdp.question.now internal.mdp.replies.now internal.part.now h
      member listed component forth.0 t u in' forth.1) is
  uncrossed Back marks k member listed component t u in' in'' is =
      let around : Reach (IsMove internal.mdp.question.now listed) u t = component.joined u t in'' in' in
      closed-back internal marks k around.0 u t
      (walk-internal internal.mdp.question.now internal.mdp.replies.now internal.part.now h
      member listed component around.0 u t in'' around.1) is

  -- where a search does not come to a state, its marks break up the part of the state
  pub IsBreak-missed : (way : Way) (marks : List Bool) (s : ℕ) → AreReached internal way marks
      → (slice_index internal.part.now s ≢ 0) × (slice_index_or marks s false ≡ false)
      × ((t : ℕ) → t < s → slice_index internal.part.now t ≢ 0 → slice_index_or marks t false ≡ true)
      → IsBreak internal.mdp.question.now internal.mdp.replies.now internal.part.now marks s
  IsBreak-missed way marks s k missed =
      let some : slice_index internal.part.now s ≢ 0 = missed.0 in
      let root : slice_index internal.part.now (root_of internal.part.now s) ≡ slice_index internal.part.now s =
      rooted.root s some in
      let there : root_of internal.part.now s < length internal.part.now =
      within internal.part.now (root_of internal.part.now s) (λ none. some (sym root ∙ none)) in
      record {
        many = k.reached.many;
        inside = omega (arith, within internal.part.now s some, h.many);
        some = some;
        root = k.reached.roots (root_of internal.part.now s) (omega (arith, there, h.many)) (omega (arith, root, some));
        apart = missed.1;
        first = λ t has out. elim (cases_lt t s) [
          | inl before ↦
              let is : slice_index_or marks t false ≡ true = missed.2 t before has in
              absurd (cc)
          | inr behind ↦ behind
        ];
        whole = uncrossed way marks k;
      }

  -- where searches both ways come to all states of the parts, these reach each other
  pub AreJoined-met : (back on : List Bool) → AreReached internal Back back → AreReached internal On on
      → ((s : ℕ) → slice_index internal.part.now s ≢ 0 → slice_index_or back s false ≡ true)
      → ((s : ℕ) → slice_index internal.part.now s ≢ 0 → slice_index_or on s false ≡ true)
      → AreJoined internal.mdp.question.now internal.mdp.replies.now internal.part.now
  AreJoined-met back on k j all-back all-on = λ s t some same.
      let home : Reach (Passes internal Back) (root_of internal.part.now s) s = k.reached.met s (all-back s some) in
      let away : Reach (IsStepOf internal) (root_of internal.part.now t) t =
      j.reached.met t (all-on t (λ none. some (same ∙ none))) in
      reach-join (IsStepOf internal) s (root_of internal.part.now s) t
      (walk-turned internal home.0 (root_of internal.part.now s) s home.1)
      (subst (λ x. Reach (IsStepOf internal) (x - 1) t) (sym same) away)

-- nothing has been split
pub IsSplit-none : (old : List ℕ) (marks : List Bool) (own name : ℕ) → IsSplit old marks own name 0 old
IsSplit-none old marks own name = record {
  many = refl;
  moved = λ s l. absurd (omega (arith, l));
  marked = λ s is. refl;
  others = λ s is. refl;
  later = λ s l. refl;
}

module _ (old : List ℕ) (marks : List Bool) (own name n : ℕ) (new : List ℕ) (h : IsSplit old marks own name n new) where
  -- a state is passed over
  pub IsSplit-stays : (slice_index old n ≡ own → slice_index_or marks n false ≡ false → ⊥)
      → IsSplit old marks own name (n + 1) new
  IsSplit-stays other = record {
    many = h.many;
    moved = λ s l is out. elim (cases_eq s n) [
      | inl same ↦ absurd (other (sym (ap (slice_index old) same) ∙ is)
          (sym (ap (λ u. slice_index_or marks u false) same) ∙ out))
      | inr apart ↦ h.moved s (omega (arith, l, apart)) is out
    ];
    marked = h.marked;
    others = h.others;
    later = λ s l. h.later s (omega (arith, l));
  }

  -- a state is moved
  pub IsSplit-moves : n < length old → slice_index old n ≡ own → slice_index_or marks n false ≡ false
      → IsSplit old marks own name (n + 1) (set new n name)
  IsSplit-moves inside is out =
      let other : (s : ℕ) → s ≢ n → slice_index (set new n name) s ≡ slice_index new s =
      λ s apart. get_or-set_other new n s name 0 apart in
      record {
        many = length-set new n name ∙ h.many;
        moved = λ s l is' out'. elim (cases_eq s n) [
          | inl same ↦ ap (slice_index (set new n name)) same
              ∙ get_or-set_same new n name 0 (omega (arith, inside, h.many))
          | inr apart ↦ other s apart ∙ h.moved s (omega (arith, l, apart)) is' out'
        ];
        marked = λ s mark. other s (λ same.
            let e : slice_index_or marks n false ≡ true = sym (ap (λ u. slice_index_or marks u false) same) ∙ mark in
            cc) ∙ h.marked s mark;
        others = λ s apart. other s (λ same. apart (ap (slice_index old) same ∙ is)) ∙ h.others s apart;
        later = λ s l. other s (λ same. absurd (omega (arith, l, same))) ∙ h.later s (omega (arith, l));
      }

-- the states of a part that are not marked have a part of their own
module _ (q : Query) (replies : List (Option ℕ)) (old : List ℕ) (marks : List Bool) (state n : ℕ) (new : List ℕ)
    (h : KeepsEnds q replies old) (rooted : IsRooted old) (b : IsBreak q replies old marks state)
    (all : length old ≤ n) (k : IsSplit old marks (slice_index old state) (state + 1) n new) where
  at-state : (s : ℕ) → (slice_index new s ≡ slice_index old s)
      ⊎ ((slice_index old s ≡ slice_index old state) × (slice_index_or marks s false ≡ false)
      × (slice_index new s ≡ state + 1))
  at-state s = elim (cases_eq (slice_index old s) (slice_index old state)) [
    | inr other ↦ inl (k.others s other)
    | inl same ↦ elim (cases_Bool (slice_index_or marks s false)) [
      | inl mark ↦ inl (k.marked s mark)
      | inr out ↦
          let ls : s < length old = within old s (λ none. b.some (sym same ∙ none)) in
          inr (same, out, k.moved s (omega (arith, ls, all)) same out)
    ]
  ]

  -- no part has the name of the new one
  unnamed : (s : ℕ) → slice_index old s ≡ state + 1 → ⊥
  unnamed s is =
      let some : slice_index old s ≢ 0 = λ none. absurd (omega (arith, is, none)) in
      let at : root_of old s ≡ state = omega (arith, is) in
      let root : slice_index old state ≡ state + 1 = sym (ap (slice_index old) at) ∙ rooted.root s some ∙ is in
      let here : root_of old state ≡ state = omega (arith, root) in
      let mark : slice_index_or marks state false ≡ true =
      sym (ap (λ u. slice_index_or marks u false) here) ∙ b.root in
      let out : slice_index_or marks state false ≡ false = b.apart in
      cc

  live : (s : ℕ) → slice_index new s ≢ 0 → slice_index old s ≢ 0
  live s some = elim (at-state s) [
    | inl same ↦ λ none. some (same ∙ none)
    | inr moved ↦ λ none. b.some (sym moved.0 ∙ none)
  ]

  KeepsEnds-split : KeepsEnds q replies new
  KeepsEnds-split = record {
    many = k.many ∙ h.many;
    free = λ s ls some. h.free s ls (live s some);
    kept = λ member listed component s in' none. elim (at-state s) [
      | inl same ↦ h.kept member listed component s in' (sym same ∙ none)
      | inr moved ↦ absurd (omega (arith, moved.2, none))
    ];
    joined = λ member listed component s t in' in''.
        let same : slice_index old s ≡ slice_index old t = h.joined member listed component s t in' in'' in
        elim (at-state s) [
          | inl stays ↦ elim (at-state t) [
            | inl stays' ↦ stays ∙ same ∙ sym stays'
            | inr moved ↦ elim (cases_Bool (slice_index_or marks s false)) [
              | inl mark ↦
                  let e : slice_index_or marks t false ≡ true =
                  b.whole member listed component s t in' in'' mark in
                  let f : slice_index_or marks t false ≡ false = moved.1 in
                  absurd (cc)
              | inr out ↦ k.moved s (omega (arith, component.inside s in', h.many, all)) (same ∙ moved.0) out
                  ∙ sym moved.2
            ]
          ]
          | inr moved ↦ elim (cases_Bool (slice_index_or marks t false)) [
            | inl mark ↦
                let e : slice_index_or marks s false ≡ true = b.whole member listed component t s in'' in' mark in
                let f : slice_index_or marks s false ≡ false = moved.1 in
                absurd (cc)
            | inr out ↦ moved.2
                ∙ sym (k.moved t (omega (arith, component.inside t in'', h.many, all)) (sym same ∙ moved.0) out)
          ]
        ];
  }

  -- the root of a part is not moved
  root-stays : (s : ℕ) → slice_index old s ≢ 0 → slice_index new (root_of old s) ≡ slice_index old s
  root-stays s some = elim (at-state (root_of old s)) [
    | inl stays ↦ stays ∙ rooted.root s some
    | inr moved ↦
        let same : slice_index old s ≡ slice_index old state = sym (rooted.root s some) ∙ moved.0 in
        let mark : slice_index_or marks (root_of old s) false ≡ true =
        subst (λ x. slice_index_or marks (x - 1) false ≡ true) (sym same) b.root in
        let out : slice_index_or marks (root_of old s) false ≡ false = moved.1 in
        absurd (cc)
  ]

  IsRooted-split : IsRooted new
  IsRooted-split = record {
    root = λ s some. elim (at-state s) [
      | inl stays ↦
          subst (λ x. slice_index new (x - 1) ≡ x) (sym stays) (root-stays s (λ none. some (stays ∙ none)))
      | inr moved ↦
          let at : state + 1 - 1 ≡ state = omega arith in
          let here : slice_index new state ≡ state + 1 =
          k.moved state (omega (arith, b.inside, h.many, all)) refl b.apart in
          subst (λ x. slice_index new (x - 1) ≡ x) (sym moved.2) (ap (slice_index new) at ∙ here)
    ];
    least = λ s. elim (at-state s) [
      | inl stays ↦ let e : slice_index new s ≤ s + 1 = omega (arith, stays, rooted.least s) in e
      | inr moved ↦
          let behind : state ≤ s = b.first s (λ none. b.some (sym moved.0 ∙ none)) moved.1 in
          let e : slice_index new s ≤ s + 1 = omega (arith, moved.2, behind) in
          e
    ];
  }

  -- a root stays one, and the state becomes one
  roots-split : roots old < roots new
  roots-split = subst (λ n. roots old < roots_below new n) (sym k.many) (roots-more old new (λ s root.
      let some : slice_index old s ≢ 0 = λ none. absurd (omega (arith, root, none)) in
      let at : root_of old s ≡ s = omega (arith, root) in
      sym (ap (slice_index new) at) ∙ root-stays s some ∙ root) (length old) state (omega (arith, b.inside, h.many))
      (k.moved state (omega (arith, b.inside, h.many, all)) refl b.apart) (λ is. unnamed state is))

  pub split-all : KeepsEnds q replies new × IsRooted new × (roots old < roots new)
  split-all = (KeepsEnds-split, IsRooted-split, roots-split)
