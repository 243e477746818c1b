-- Successors of a choice, and whether they stay.
use Rattle.std.proofs.Common.{◌≡◌, ◌⊎◌, ℕ, ◌<◌, true, List, [], length, get_or, arith, sym, subst, inl, inr, ◌∙◌}
use Rattle.std.specs.List.{list_all}
use Rattle.std.specs.Prelude.{slice_index, slice_index_or, Contains}
use Rattle.std.proofs.lemmas.Bool.{cases_Bool, eqb-true, eqb-false}
use Rattle.std.proofs.lemmas.List.{get_or_default, get_or-map, length-map}
use Rattle.std.proofs.lemmas.List.Elements.{All-contains, Contains-get_or}
use Rattle.std.proofs.lemmas.List.Sums.{AllPass-from_list_all}
use Rattle.attractors.proofs.Tests.{all-place}
use Rattle.game_model.specs.declared.game.Edge.{Edge}
use Rattle.game_model.specs.Game.{Distribution, no_edge, destinations, choices_of, choice_of}
use Rattle.game_model.specs.Query.{Query, IsQuery, states}
use Rattle.predecessors.specs.declared.lists.Move.{Move}
use Rattle.predecessors.specs.Moves.{LeadsTo}
use Rattle.predecessors.proofs.Listed.{listed-exactly}
use Rattle.trap_sets.specs.declared.reply_mdp.ReplyMdp.{ReplyMdp}
use Rattle.trap_sets.specs.Ends.{numbered}
use Rattle.trap_sets.specs.Moves.{Leads}
use Rattle.trap_sets.specs.inside.Parts.{Stays, Leaves}

-- what a list of the successors has
pub listed-leads : (q : Query) (s c k : ℕ) (to : List ℕ) (game : List (List Distribution))
    → to ≡ destinations (choice_of game s c).edges → game ≡ q.game → k < length to → Leads q s c (get_or to k 0)
listed-leads q s c k to game is same l =
    subst (λ g. Contains (destinations (choice_of g s c).edges) (get_or to k 0)) same
    (subst (λ xs. Contains xs (get_or to k 0)) is (Contains-get_or to k 0 l))

pub leads-listed : (q : Query) (s c t : ℕ) (to : List ℕ) (game : List (List Distribution))
    → to ≡ destinations (choice_of game s c).edges → game ≡ q.game → Leads q s c t
    → (k : ℕ) × (k < length to) × (get_or to k 0 ≡ t)
leads-listed q s c t to game is same h =
    let at : Contains to t = subst (λ xs. Contains xs t) (sym is)
    (subst (λ g. Contains (destinations (choice_of g s c).edges) t) (sym same) h) in
    (at.0, at.1, get_or_default to at.0 0 t at.1 ∙ at.2)

-- a move in the list of a state leads to it
pub listed-move : (mdp : ReplyMdp) (items : List Move) (t i : ℕ) (d : Move) → t < states mdp.question.now
    → items ≡ slice_index_or mdp.predecessors.now t [] → i < length items
    → LeadsTo mdp.question.now.game (get_or items i d).state (get_or items i d).choice t
listed-move mdp items t i d inside same l =
    (listed-exactly mdp.lists (get_or items i d).state (get_or items i d).choice t inside).0
    (subst (λ (xs : List Move). Contains xs (get_or items i d)) same (Contains-get_or items i d l))

-- an edge of a choice that leads to a state
pub leads-edge : (q : Query) (s c t : ℕ) → Leads q s c t → (k : ℕ) × (k < length (choice_of q.game s c).edges)
    × ((get_or (choice_of q.game s c).edges k no_edge).to ≡ t)
leads-edge q s c t h =
    let edges : List Edge = (choice_of q.game s c).edges in
    let within : h.0 < length edges = omega (arith, h.1, length-map edges (λ (e : Edge). e.to)) in
    (h.0, within, sym (get_or-map (λ (e : Edge). e.to) edges h.0 no_edge t within) ∙ h.2)

-- a successor is a state
pub leads-inside : (q : Query) (s c t : ℕ) → IsQuery q → s < states q → c < length (choices_of q.game s)
    → Leads q s c t → t < states q
leads-inside q s c t posed ls lc h =
    let at = leads-edge q s c t h in omega (arith, sym at.2, posed.game.inside s c ls lc at.0 no_edge at.1)

-- each choice stays or leaves
pub stays-or-leaves : (q : Query) (of : List ℕ) (s c : ℕ) → Stays q of s c ⊎ Leaves q of s c
stays-or-leaves q of s c =
    let to : List ℕ = destinations (choice_of q.game s c).edges in
    let own : ℕ = slice_index of s in
    elim (cases_Bool (list_all (numbered of own) to)) [
      | inl all ↦ inl (λ t leads. eqb-true (slice_index of t) own
          (All-contains (λ u. numbered of own u ≡ true) to t (AllPass-from_list_all (numbered of own) to all) leads))
      | inr fails ↦
          let one = all-place (numbered of own) to 0 fails in
          let t : ℕ = get_or to one.0 0 in
          inr (t, Contains-get_or to one.0 0 one.1, eqb-false (slice_index of t) own one.2)
    ]
