-- Parts that cut no end component.
use Rattle.std.proofs.Common.{◌≡◌, ◌≢◌, ℕ, zero, suc, ◌+◌, ◌-◌, ◌<◌, ◌≤◌, Bool, true, List, length, set, arith, sym}
use Rattle.std.proofs.Common.{◌∙◌, ap, subst, inl, inr, Option}
use Rattle.std.specs.Prelude.{slice_index}
use Rattle.std.proofs.lemmas.Bool.{cases_lt}
use Rattle.std.proofs.lemmas.List.{get_or-set_same, get_or-set_other, get_or_past, length-set}
use Rattle.game_model.specs.Game.{choices_of}
use Rattle.game_model.specs.Query.{Query, states}
use Rattle.trap_sets.specs.Ends.{IsMove, IsEndComponent}
use Rattle.trap_sets.specs.Moves.{Leads, Walk, Reach}
use Rattle.trap_sets.specs.inside.Parts.{IsInternal, IsStep, IsRooted}
use Rattle.trap_sets.specs.inside.Settled.{KeepsEnds}
use Rattle.trap_sets.specs.inside.Each.{IsEach}
use Rattle.trap_sets.specs.inside.Naming.{IsClass, IsNaming}
use Rattle.trap_sets.proofs.Zeros.{within}

-- the listed choices of an end component are internal
pub ends-internal : (q : Query) (replies : List (Option ℕ)) (part : List ℕ) (member : ℕ → Bool) (listed : ℕ → ℕ → Bool)
    (s c : ℕ) → KeepsEnds q replies part → IsEndComponent q replies member listed → member s ≡ true
    → c < length (choices_of q.game s) → listed s c ≡ true → IsInternal q replies part s c
ends-internal q replies part member listed s c h component in' lc chosen = record {
  some = h.kept member listed component s in';
  mdp = component.mdp s c in' lc chosen;
  stays = λ t leads. h.joined member listed component t s (component.closed s c t in' lc chosen leads) in';
}

-- a state that has no internal choice loses its part
module _ (q : Query) (replies : List (Option ℕ)) (part : List ℕ) (s : ℕ) (inside : s < states q)
    (h : KeepsEnds q replies part) (none : (c : ℕ) → ¬ IsInternal q replies part s c) where
  gone-now : slice_index (set part s 0) s ≡ 0
  gone-now = get_or-set_same part s 0 0 (omega (arith, inside, h.many))

  at-other : (t : ℕ) → t ≢ s → slice_index (set part s 0) t ≡ slice_index part t
  at-other t other = get_or-set_other part s t 0 0 other

  outside : (member : ℕ → Bool) (listed : ℕ → ℕ → Bool) → IsEndComponent q replies member listed → (t : ℕ)
      → member t ≡ true → t ≢ s
  outside member listed component t in' same =
      let here : member s ≡ true = subst (λ u. member u ≡ true) same in' in
      let one = component.chosen s here in
      none one.0 (ends-internal q replies part member listed s one.0 h component here one.1 one.2)

  pub KeepsEnds-without : KeepsEnds q replies (set part s 0)
  KeepsEnds-without = record {
    many = length-set part s 0 ∙ h.many;
    free = λ t lt some.
        let other : t ≢ s = λ same. some (ap (slice_index (set part s 0)) same ∙ gone-now) in
        h.free t lt (λ gone. some (at-other t other ∙ gone));
    kept = λ member listed component t in' gone.
        h.kept member listed component t in' (sym (at-other t (outside member listed component t in')) ∙ gone);
    joined = λ member listed component t u in' in''. at-other t (outside member listed component t in')
        ∙ h.joined member listed component t u in' in'' ∙ sym (at-other u (outside member listed component u in''));
  }

module _ (q : Query) (replies : List (Option ℕ)) (part : List ℕ) (h : KeepsEnds q replies part) where
  -- a walk of listed moves within an end component is one of internal moves
  pub walk-internal : (member : ℕ → Bool) (listed : ℕ → ℕ → Bool) → IsEndComponent q replies member listed → (n s t : ℕ)
      → member s ≡ true → Walk (IsMove q listed) n s t → Walk (IsStep q replies part) n s t
  walk-internal member listed component zero s t in' walk = walk
  walk-internal member listed component (suc n) s t in' walk =
      let move : IsMove q listed s walk.0 = walk.1 in
      let step : IsStep q replies part s walk.0 = record {
        choice = move.choice;
        state = component.inside s in';
        internal = ends-internal q replies part member listed s move.choice h component in' move.inside move.chosen;
        leads = move.leads;
      } in (
        walk.0,
        step,
        walk-internal member listed component n walk.0 t
            (component.closed s move.choice walk.0 in' move.inside move.chosen move.leads) walk.2,
      )

  -- of components in the order of play one has all states of an end component
  module _ (component : List ℕ) (order : (s d t : ℕ) → s < states q → IsInternal q replies part s d → Leads q s d t
      → slice_index component t ≤ slice_index component s) where
    walk-falls : (n s t : ℕ) → Walk (IsStep q replies part) n s t → slice_index component t ≤ slice_index component s
    walk-falls zero s t walk = omega (arith, ap (slice_index component) walk)
    walk-falls (suc n) s t walk =
        let step : IsStep q replies part s walk.0 = walk.1 in
        omega (arith, walk-falls n walk.0 t walk.2, order s step.choice walk.0 step.state step.internal step.leads)

    pub KeepsEnds-classes : (class : List ℕ)
        → IsEach (λ s. IsClass (slice_index part s) (slice_index component s)) class (states q)
        → KeepsEnds q replies class
    KeepsEnds-classes class k =
        let counted : (s : ℕ) → s < states q → slice_index part s ≢ 0
        → slice_index class s ≡ slice_index component s + 1 = λ s ls. (k.each s ls).counted in
        record {
          many = k.many;
          free = λ s ls some. h.free s ls (λ none. some ((k.each s ls).out none));
          kept = λ member listed ends s in' none. absurd (omega (
            arith,
            counted s (ends.inside s in') (h.kept member listed ends s in'),
            none,
          ));
          joined = λ member listed ends s t in' in''.
              let forth : Reach (IsMove q listed) s t = ends.joined s t in' in'' in
              let around : Reach (IsMove q listed) t s = ends.joined t s in'' in' in
              omega (
                arith,
                walk-falls forth.0 s t (walk-internal member listed ends forth.0 s t in' forth.1),
                walk-falls around.0 t s (walk-internal member listed ends around.0 t s in'' around.1),
                counted s (ends.inside s in') (h.kept member listed ends s in'),
                counted t (ends.inside t in'') (h.kept member listed ends t in''),
              );
        }

-- parts keep end components under other names
pub KeepsEnds-renamed : (q : Query) (replies : List (Option ℕ)) (part names class : List ℕ) → KeepsEnds q replies part
    → IsNaming part names class (states q) → KeepsEnds q replies class
KeepsEnds-renamed q replies part names class h k =
    let each = k.each.each in record {
      many = k.each.many;
      free = λ s ls some. h.free s ls (λ none. some ((each s ls).out none));
      kept = λ member listed ends s in'. (each s (ends.inside s in')).given (h.kept member listed ends s in');
      joined = λ member listed ends s t in' in''.
          (each s (ends.inside s in')).named (h.kept member listed ends s in')
          ∙ ap (slice_index names) (h.joined member listed ends s t in' in'')
          ∙ sym ((each t (ends.inside t in'')).named (h.kept member listed ends t in''));
    }

-- each class is named after the least of its states
pub IsRooted-named : (part names class : List ℕ) (n : ℕ) → IsNaming part names class n → IsRooted class
IsRooted-named part names class n k = record {
  root = λ s some.
      let is = k.each.each s (omega (arith, within class s some, k.each.many)) in
      let named : slice_index class s ≡ slice_index names (slice_index part s) =
      is.named (λ none. some (is.out none)) in
      ap (λ x. slice_index class (x - 1)) named ∙ k.known (slice_index part s) (λ none. some (named ∙ none))
      ∙ sym named;
  least = λ s. elim (cases_lt s n) [
    | inl below ↦ (k.each.each s below).least
    | inr past ↦
        let e : slice_index class s ≤ s + 1 =
        omega (arith, get_or_past class s 0 (omega (arith, past, k.each.many))) in
        e
  ];
}
