-- A set that grows stays as it must be when a move to a member is followed.
use Rattle.std.proofs.Common.{◌≡◌, ◌≢◌, ℕ, zero, suc, ◌+◌, ◌<◌, ◌≤◌, Bool, true, false, List, [], ◌∷◌, ◌++◌, length}
use Rattle.std.proofs.Common.{set, arith, sym, ap, ◌∙◌, subst, inl, inr}
use Rattle.std.specs.Prelude.{slice_index, slice_index_or, Contains}
use Rattle.std.proofs.lemmas.Bool.{cases_eq, cases_lt}
use Rattle.std.proofs.lemmas.List.{length-set, get_or-set_same, get_or-set_other}
use Rattle.std.proofs.lemmas.List.Elements.{Contains-append_cases}
use Rattle.game_model.specs.declared.game.Side.{Side}
use Rattle.game_model.specs.declared.game.Side.TheVariants.{Max, Min}
use Rattle.game_model.specs.Game.{choices_of, choice_of}
use Rattle.game_model.specs.Query.{Query, states, side_at}
use Rattle.predecessors.specs.declared.lists.Move.{Move}
use Rattle.predecessors.specs.Moves.{move}
use Rattle.attractors.specs.Attractor.{ExcludedSets, meets, serves, is_attracted, with_state}
use Rattle.attractors.specs.Search.{LeadsIn, Awaits, IsLeft, IsAttractorSearch}
use Rattle.attractors.proofs.Meeting.{meets-at, meets-more}
use Rattle.attractors.proofs.Ordering.{IsOrder-joins, stays-member}
use Rattle.attractors.proofs.Serving.{serves-both, serves-by, attracts-one, attracts-all}

-- one move
single : (m x : Move) → Contains (m ∷ []) x → m ≡ x
single m x (zero, l, e) = e
single m x (suc k, l, e) = absurd (omega arith)

-- no state has both sides
pub sides-differ : (side : Side) → side ≡ Max → side ≡ Min → ⊥
sides-differ side a b = cc

-- a choice serves a larger set too
pub serves-more : (excluded : ExcludedSets) (set more : List Bool) (q : Query) (s c : ℕ)
    → ((t : ℕ) → slice_index_or set t false ≡ true → slice_index_or more t false ≡ true)
    → serves excluded set (choice_of q.game s c) ≡ true → serves excluded more (choice_of q.game s c) ≡ true
serves-more excluded set more q s c larger h =
    let both : (excluded.choices (choice_of q.game s c) ≡ false) × (meets set (choice_of q.game s c) ≡ true) =
    serves-both excluded set (choice_of q.game s c) h in
    serves-by excluded more (choice_of q.game s c) both.0 (meets-more set more (choice_of q.game s c) larger both.1)

-- a state of the minimiser waits for another choice from now on
pub IsAttractorSearch-awaits : (q : Query) (excluded : ExcludedSets) (followed : List Move) (members : List Bool)
    (next_choice order : List ℕ) (t next : ℕ) → IsAttractorSearch q excluded followed members next_choice order
    → t < states q → side_at q t ≡ Min → next < length (choices_of q.game t)
    → ((c : ℕ) → c < next → serves excluded members (choice_of q.game t c) ≡ true)
    → serves excluded members (choice_of q.game t next) ≡ false
    → IsAttractorSearch q excluded followed members (set next_choice t next) order
IsAttractorSearch-awaits q excluded followed members next_choice order t next h inside minimiser
    within before unserved =
    let at : slice_index (set next_choice t next) t ≡ next =
    get_or-set_same next_choice t next 0 (omega (arith, inside, h.as_many)) in
    let new : Awaits q excluded followed members t next = record {
      inside = within;
      before = before;
      still = λ stays among.
          let serve : serves excluded members (choice_of q.game t next) ≡ true =
          serves-by excluded members (choice_of q.game t next) stays (h.leads t next among) in
          cc;
    } in
    let here : IsLeft q excluded followed members (set next_choice t next) t = record {
      greatest = λ is_side c lc stays among. sides-differ (side_at q t) is_side minimiser;
      least = λ is_side. subst (Awaits q excluded followed members t) (sym at) new;
    } in
    record {
      many = h.many;
      as_many = length-set next_choice t next ∙ h.as_many;
      ordered = h.ordered;
      grew = h.grew;
      leads = h.leads;
      left = λ s l out within. elim (cases_eq s t) [
        | inl same ↦ subst (IsLeft q excluded followed members (set next_choice t next)) (sym same) here
        | inr other ↦
            let kept : slice_index (set next_choice t next) s ≡ slice_index next_choice s =
            get_or-set_other next_choice t s next 0 other in
            let old : IsLeft q excluded followed members next_choice s = h.left s l out within in
            record {
              greatest = old.greatest;
              least = λ is_side. subst (Awaits q excluded followed members s) (sym kept) (old.least is_side);
            }
      ];
    }

-- a state that is attracted joins
pub IsAttractorSearch-member : (q : Query) (excluded : ExcludedSets) (followed : List Move) (members : List Bool)
    (next_choice order : List ℕ) (t : ℕ) → IsAttractorSearch q excluded followed members next_choice order
    → t < states q
    → slice_index_or members t false ≡ false → excluded.states t ≡ false → is_attracted q excluded members t ≡ true
    → IsAttractorSearch q excluded followed (set members t true) next_choice (order ++ t ∷ [])
IsAttractorSearch-member q excluded followed members next_choice order t h inside out within drawn =
    let place : t < length members = omega (arith, inside, h.many) in
    let larger : (s : ℕ) → slice_index_or members s false ≡ true → slice_index_or (set members t true) s false ≡ true =
    λ s member. stays-member members t s place member in
    record {
      many = length-set members t true ∙ h.many;
      as_many = h.as_many;
      ordered = IsOrder-joins members order t h.ordered place out;
      grew = with_state members t h.grew inside within drawn;
      leads = λ s c among. meets-more members (set members t true) (choice_of q.game s c) larger (h.leads s c among);
      left = λ s l out' inner. elim (cases_eq s t) [
        | inl same ↦
            let member : slice_index_or (set members t true) s false ≡ true =
            ap (λ u. slice_index_or (set members t true) u false) same ∙ get_or-set_same members t true false place in
            absurd (cc)
        | inr other ↦
            let old : IsLeft q excluded followed members next_choice s =
            h.left s l (sym (get_or-set_other members t s true false other) ∙ out') inner in
            record {
              greatest = old.greatest;
              least = λ is_side. record {
                inside = (old.least is_side).inside;
                before = λ c lc. serves-more excluded members (set members t true) q s c larger
                    ((old.least is_side).before c lc);
                still = (old.least is_side).still;
              };
            }
      ];
    }

-- the choices up to the next one that a state waits for
pub before-next : (q : Query) (excluded : ExcludedSets) (members : List Bool) (t choice next : ℕ)
    → ((c : ℕ) → c < choice → serves excluded members (choice_of q.game t c) ≡ true)
    → ((c : ℕ) → choice ≤ c → c < next → serves excluded members (choice_of q.game t c) ≡ true) → (c : ℕ) → c < next
    → serves excluded members (choice_of q.game t c) ≡ true
before-next q excluded members t choice next old passed c l = elim (cases_lt c choice) [
  | inl below ↦ old c below
  | inr upward ↦ passed c upward l
]

module _ (q : Query) (excluded : ExcludedSets) (followed : List Move) (members : List Bool) (next_choice order : List ℕ)
    (m : Move)
    (leads : LeadsIn q.game members m) (h : IsAttractorSearch q excluded followed members next_choice order) where
  meets-here : meets members (choice_of q.game m.state m.choice) ≡ true
  meets-here = meets-at members (choice_of q.game m.state m.choice) leads.to leads.leads.successor leads.member

  leads-more : (s c : ℕ) → Contains (followed ++ m ∷ []) (move s c) → meets members (choice_of q.game s c) ≡ true
  leads-more s c among = elim (Contains-append_cases followed (m ∷ []) (move s c) among) [
    | inl earlier ↦ h.leads s c earlier
    | inr last ↦ subst (λ (x : Move). meets members (choice_of q.game x.state x.choice) ≡ true)
        (single m (move s c) last) meets-here
  ]

  -- a state of which no choice that it minds is that of the move is left as it was
  left-still : (s : ℕ)
      → (side_at q s ≡ Max → (c : ℕ) → excluded.choices (choice_of q.game s c) ≡ false → m ≡ move s c → ⊥)
      → (side_at q s ≡ Min → excluded.choices (choice_of q.game s (slice_index next_choice s)) ≡ false
      → m ≡ move s (slice_index next_choice s) → ⊥) → IsLeft q excluded followed members next_choice s
      → IsLeft q excluded (followed ++ m ∷ []) members next_choice s
  left-still s greatest least old = record {
    greatest = λ is_side c lc stays among. elim (Contains-append_cases followed (m ∷ []) (move s c) among) [
      | inl earlier ↦ old.greatest is_side c lc stays earlier
      | inr last ↦ greatest is_side c stays (single m (move s c) last)
    ];
    least = λ is_side. record {
      inside = (old.least is_side).inside;
      before = (old.least is_side).before;
      still = λ stays among. elim (Contains-append_cases followed (m ∷ []) (move s (slice_index next_choice s)) among) [
        | inl earlier ↦ (old.least is_side).still stays earlier
        | inr last ↦ least is_side stays (single m (move s (slice_index next_choice s)) last)
      ];
    };
  }

  -- a move that changes nothing: its state is a member or gone, its choice excluded, or its state one of the minimiser
  -- that waits for another choice
  pub IsAttractorSearch-noted : (slice_index_or members m.state false ≡ false
      → excluded.states m.state ≡ false → excluded.choices (choice_of q.game m.state m.choice) ≡ false
      → (side_at q m.state ≡ Min) × (slice_index next_choice m.state ≢ m.choice))
      → IsAttractorSearch q excluded (followed ++ m ∷ []) members next_choice order
  IsAttractorSearch-noted idle = record {
    many = h.many;
    as_many = h.as_many;
    ordered = h.ordered;
    grew = h.grew;
    leads = leads-more;
    left = λ s l out within. left-still s
        (λ is_side c stays is.
        let at : m.state ≡ s = ap (λ (x : Move). x.state) is in
        let stays' : excluded.choices (choice_of q.game m.state m.choice) ≡ false =
        subst (λ (x : Move). excluded.choices (choice_of q.game x.state x.choice) ≡ false) (sym is) stays in
        sides-differ (side_at q s) is_side (ap (side_at q) (sym at)
        ∙ (idle (ap (λ t. slice_index_or members t false) at ∙ out) (ap (λ t. excluded.states t) at
        ∙ within) stays').0))
        (λ is_side stays is.
        let at : m.state ≡ s = ap (λ (x : Move). x.state) is in
        let stays' : excluded.choices (choice_of q.game m.state m.choice) ≡ false =
        subst (λ (x : Move). excluded.choices (choice_of q.game x.state x.choice) ≡ false) (sym is) stays in
        (idle (ap (λ t. slice_index_or members t false) at ∙ out) (ap (λ t. excluded.states t) at ∙ within) stays').1
        (ap (slice_index next_choice) at ∙ sym (ap (λ (x : Move). x.choice) is)))
        (h.left s l out within);
  }

  serves-here : excluded.choices (choice_of q.game m.state m.choice) ≡ false
      → serves excluded members (choice_of q.game m.state m.choice) ≡ true
  serves-here stays = serves-by excluded members (choice_of q.game m.state m.choice) stays meets-here

  -- one choice of the maximiser attracts its state
  pub attracted-greatest : side_at q m.state ≡ Max → excluded.choices (choice_of q.game m.state m.choice) ≡ false
      → is_attracted q excluded members m.state ≡ true
  attracted-greatest maximiser stays =
      attracts-one q excluded members m.state m.choice maximiser leads.leads.choice (serves-here stays)

  -- the choices before the next one
  passed-here : slice_index_or members m.state false ≡ false → excluded.states m.state ≡ false → side_at q m.state ≡ Min
      → slice_index next_choice m.state ≡ m.choice → excluded.choices (choice_of q.game m.state m.choice) ≡ false
      → (next : ℕ)
      → ((c : ℕ) → m.choice + 1 ≤ c → c < next → serves excluded members (choice_of q.game m.state c) ≡ true) → (c : ℕ)
      → c < next → serves excluded members (choice_of q.game m.state c) ≡ true
  passed-here out within minimiser is_next_choice stays next passed =
      let old : Awaits q excluded followed members m.state m.choice = subst (Awaits q excluded followed members m.state)
      is_next_choice ((h.left m.state leads.leads.state out within).least minimiser) in
      before-next q excluded members m.state m.choice next old.before (λ c from upto. elim (cases_eq c m.choice) [
        | inl same ↦ ap (λ k. serves excluded members (choice_of q.game m.state k)) same ∙ serves-here stays
        | inr later ↦ passed c (omega arith) upto
      ])

  -- the last choice of the minimiser attracts its state
  pub attracted-least : slice_index_or members m.state false ≡ false → excluded.states m.state ≡ false
      → side_at q m.state ≡ Min → slice_index next_choice m.state ≡ m.choice
      → excluded.choices (choice_of q.game m.state m.choice) ≡ false → ((c : ℕ) → m.choice + 1 ≤ c
      → c < length (choices_of q.game m.state) → serves excluded members (choice_of q.game m.state c) ≡ true)
      → is_attracted q excluded members m.state ≡ true
  attracted-least out within minimiser is_next_choice stays passed = attracts-all q excluded members m.state minimiser
      (passed-here out within minimiser is_next_choice stays (length (choices_of q.game m.state)) passed)

-- the state of the move joins
pub IsAttractorSearch-joins : (q : Query) (excluded : ExcludedSets) (followed : List Move)
    (members : List Bool) (next_choice order : List ℕ) (m : Move) → LeadsIn q.game members m
    → IsAttractorSearch q excluded followed members next_choice order → slice_index_or members m.state false ≡ false
    → excluded.states m.state ≡ false → is_attracted q excluded members m.state ≡ true
    → IsAttractorSearch q excluded (followed ++ m ∷ []) (set members m.state true) next_choice (order ++ m.state ∷ [])
IsAttractorSearch-joins q excluded followed members next_choice order m leads h out within drawn =
    let inside : m.state < length members = omega (arith, leads.leads.state, h.many) in
    let leads' : LeadsIn q.game (set members m.state true) m =
    record { to = leads.to; leads = leads.leads; member = stays-member members m.state leads.to inside leads.member } in
    IsAttractorSearch-noted q excluded followed (set members m.state true) next_choice (order ++ m.state ∷ []) m leads'
    (IsAttractorSearch-member q excluded followed members next_choice order m.state h leads.leads.state out
    within drawn)
    (λ out' within' stays. let member : slice_index_or (set members m.state true) m.state false ≡ true =
    get_or-set_same members m.state true false inside in absurd (cc))

-- the state of the move waits for another choice
pub IsAttractorSearch-waits : (q : Query) (excluded : ExcludedSets) (followed : List Move) (members : List Bool)
    (next_choice order : List ℕ)
    (m : Move) (next : ℕ) → LeadsIn q.game members m → IsAttractorSearch q excluded followed members next_choice order
    → slice_index_or members m.state false ≡ false → excluded.states m.state ≡ false → side_at q m.state ≡ Min
    → slice_index next_choice m.state ≡ m.choice → excluded.choices (choice_of q.game m.state m.choice) ≡ false
    → m.choice < next → next < length (choices_of q.game m.state)
    → ((c : ℕ) → m.choice + 1 ≤ c → c < next → serves excluded members (choice_of q.game m.state c) ≡ true)
    → serves excluded members (choice_of q.game m.state next) ≡ false
    → IsAttractorSearch q excluded (followed ++ m ∷ []) members (set next_choice m.state next) order
IsAttractorSearch-waits q excluded followed members next_choice order m next leads h out within minimiser is_next_choice
    stays later
    inside passed unserved =
    let before : (c : ℕ) → c < next → serves excluded members (choice_of q.game m.state c) ≡ true =
    passed-here q excluded followed members next_choice order m leads h out within minimiser is_next_choice stays next
    passed in
    let at : slice_index (set next_choice m.state next) m.state ≡ next =
    get_or-set_same next_choice m.state next 0 (omega (arith, leads.leads.state, h.as_many)) in
    IsAttractorSearch-noted q excluded followed members (set next_choice m.state next) order m leads
    (IsAttractorSearch-awaits q excluded followed
    members next_choice order m.state next h leads.leads.state minimiser inside before unserved)
    (λ out' within' stays'. (minimiser, λ e. omega (arith, e, at, later)))
