-- Testing the states that are no members.
use Rattle.std.proofs.Common.{◌≡◌, ◌≢◌, ℕ, suc, ◌+◌, ◌<◌, Bool, true, false, List, [], ◌∷◌, length, set, take, arith}
use Rattle.std.proofs.Common.{refl, sym, ap, ◌∙◌, subst, inl, inr}
use Rattle.std.specs.Prelude.{slice_index, slice_index_or, Contains}
use Rattle.std.proofs.lemmas.Bool.{cases_eq, cases_Bool}
use Rattle.std.proofs.lemmas.List.{take_all, take-append-le, get_or_default}
use Rattle.std.proofs.lemmas.List.Elements.{Contains-append_cases}
use Rattle.game_model.specs.Growing.{IsLonger}
use Rattle.game_model.specs.Game.{choice_of}
use Rattle.game_model.specs.Query.{Query, states}
use Rattle.predecessors.specs.declared.lists.Move.{Move}
use Rattle.predecessors.specs.Moves.{move, LeadsTo}
use Rattle.predecessors.specs.Lists.{ArePredecessors}
use Rattle.predecessors.proofs.Listed.{listed-exactly}
use Rattle.attractors.specs.Attractor.{ExcludedSets, meets, serves}
use Rattle.attractors.specs.Search.{moves_into, IsOrder, IsAttractorSearch, IsLarger, IsTested, AreTested}
use Rattle.attractors.proofs.Meeting.{meets-at, meets-more}
use Rattle.attractors.proofs.Serving.{serves-by}
use Rattle.attractors.proofs.Following.{serves-more}

smaller-fails : (q : Query) (excluded : ExcludedSets) (set more : List Bool) (s c : ℕ) → IsLarger set more
    → serves excluded more (choice_of q.game s c) ≡ false → serves excluded set (choice_of q.game s c) ≡ false
smaller-fails q excluded set more s c larger fails = elim (cases_Bool (serves excluded set (choice_of q.game s c))) [
  | inl serve ↦
      let too : serves excluded more (choice_of q.game s c) ≡ true = serves-more excluded set more q s c larger serve in
      absurd (cc)
  | inr not_ ↦ not_
]

-- a state that a set does not attract is not attracted by a smaller one
IsTested-smaller : (q : Query) (excluded : ExcludedSets) (set more : List Bool) (next_choice : List ℕ) (s : ℕ)
    → IsLarger set more
    → IsTested q excluded more next_choice s → IsTested q excluded set next_choice s
IsTested-smaller q excluded set more next_choice s larger h = record {
  greatest = λ is_side c lc. smaller-fails q excluded set more s c larger (h.greatest is_side c lc);
  least = λ is_side. smaller-fails q excluded set more s (slice_index next_choice s) larger (h.least is_side);
}

-- what the state waits for is all that counts
IsTested-in : (q : Query) (excluded : ExcludedSets) (set : List Bool) (next_choice next_choice' : List ℕ) (s : ℕ)
    → slice_index next_choice' s ≡ slice_index next_choice s → IsTested q excluded set next_choice s
    → IsTested q excluded set next_choice' s
IsTested-in q excluded set next_choice next_choice' s same h = record {
  greatest = h.greatest;
  least = λ is_side. subst (λ c. serves excluded set (choice_of q.game s c) ≡ false) (sym same) (h.least is_side);
}

-- a state tested before the next one was
pub AreTested-more : (q : Query) (excluded : ExcludedSets) (old members members' : List Bool)
    (next_choice next_choice' : List ℕ) (t : ℕ) → IsLarger old members → IsLarger members members'
    → AreTested q excluded old members next_choice t
    → ((s : ℕ) → s ≢ t → slice_index next_choice' s ≡ slice_index next_choice s)
    → (slice_index_or members' t false ≡ false → excluded.states t ≡ false → IsTested q excluded members next_choice' t)
    → AreTested q excluded old members' next_choice' (t + 1)
AreTested-more q excluded old members members' next_choice next_choice' t larger grown before others here s l
    out within =
    elim (cases_eq s t) [
      | inl same ↦
          subst
          (λ u. slice_index_or members' u false ≡ false → excluded.states u ≡ false
          → IsTested q excluded old next_choice' u)
          (sym same)
          (λ out' within'. IsTested-smaller q excluded old members next_choice' t larger (here out' within')) out within
      | inr other ↦
          let was_out : slice_index_or members s false ≡ false = elim (cases_Bool (slice_index_or members s false)) [
            | inl member ↦ let still : slice_index_or members' s false ≡ true = grown s member in absurd (cc)
            | inr left ↦ left
          ] in
          IsTested-in q excluded old next_choice next_choice' s (others s other) (before s (omega arith) was_out within)
    ]

-- a move in these lists is in one of them
moves_into-cases : (lists : List (List Move)) (order : List ℕ) (m : Move) → Contains (moves_into lists order) m
    → (u : ℕ) × Contains order u × Contains (slice_index_or lists u []) m
moves_into-cases lists [] m among = absurd (omega (arith, among.1))
moves_into-cases lists (u ∷ order) m among =
    elim (Contains-append_cases (slice_index_or lists u []) (moves_into lists order) m among) [
      | inl here ↦ (u, (0, omega arith, refl), here)
      | inr later ↦
          let rest : (v : ℕ) × Contains order v × Contains (slice_index_or lists v []) m =
          moves_into-cases lists order m later in
          (rest.0, (suc rest.1.0, omega (arith, rest.1.1), rest.1.2), rest.2)
    ]

-- the choice of such a move meets the set of these states
move-meets : (q : Query) (lists : List (List Move)) (set : List Bool) (order : List ℕ) (s c : ℕ)
    → ArePredecessors q.game lists → length set ≡ states q → IsOrder set order
    → Contains (moves_into lists order) (move s c) → meets set (choice_of q.game s c) ≡ true
move-meets q lists set order s c are many ordered among =
    let one : (u : ℕ) × Contains order u × Contains (slice_index_or lists u []) (move s c) =
    moves_into-cases lists order (move s c) among in
    let at : slice_index order one.1.0 ≡ one.0 = get_or_default order one.1.0 0 one.0 one.1.1 ∙ one.1.2 in
    let inside : one.0 < length set = subst (λ u. u < length set) at (ordered.inside one.1.0 one.1.1) in
    let member : slice_index_or set one.0 false ≡ true =
    subst (λ u. slice_index_or set u false ≡ true) at (ordered.joined one.1.0 one.1.1) in
    let leads : LeadsTo q.game s c one.0 = (listed-exactly are s c one.0 (omega (arith, inside, many))).0 one.2 in
    meets-at set (choice_of q.game s c) one.0 leads.successor member

-- where each state that is left was tested, the moves to the tested set may count as followed
pub IsAttractorSearch-tested : (q : Query) (excluded : ExcludedSets) (lists : List (List Move))
    (old members : List Bool)
    (next_choice order order' : List ℕ) → ArePredecessors q.game lists → length old ≡ states q
    → IsOrder old order → IsLarger old members → AreTested q excluded old members next_choice (states q)
    → IsAttractorSearch q excluded [] members next_choice order'
    → IsAttractorSearch q excluded (moves_into lists order) members next_choice order'
IsAttractorSearch-tested q excluded lists old members next_choice order order' are many ordered larger tested h =
    record {
      many = h.many;
      as_many = h.as_many;
      ordered = h.ordered;
      grew = h.grew;
      leads = λ s c among.
          let meets = move-meets q lists old order s c are many ordered among in
          meets-more old members (choice_of q.game s c) larger meets;
      left = λ s l out within. record {
        greatest = λ is_side c lc free among.
            let meets = move-meets q lists old order s c are many ordered among in
            let serve : serves excluded old (choice_of q.game s c) ≡ true =
            serves-by excluded old (choice_of q.game s c) free meets in
            let fails : serves excluded old (choice_of q.game s c) ≡ false =
            (tested s l out within).greatest is_side c lc in
            cc;
        least = λ is_side. record {
          inside = ((h.left s l out within).least is_side).inside;
          before = ((h.left s l out within).least is_side).before;
          still = λ free among.
              let c : ℕ = slice_index next_choice s in
              let meets = move-meets q lists old order s c are many ordered among in
              let serve : serves excluded old (choice_of q.game s c) ≡ true =
              serves-by excluded old (choice_of q.game s c) free meets in
              let fails : serves excluded old (choice_of q.game s c) ≡ false = (tested s l out within).least is_side in
              cc;
        };
      };
    }

-- a longer list begins with the shorter one
pub take-longer : (xs ys : List ℕ) → IsLonger xs ys → take (length xs) ys ≡ xs
take-longer xs ys h =
    ap (take (length xs)) h.1 ∙ take-append-le (length xs) xs h.0 (omega arith) ∙ take_all (length xs) xs (omega arith)
