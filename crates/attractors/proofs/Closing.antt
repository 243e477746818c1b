-- Where a search begins, and where it ends.
use Rattle.std.proofs.Common.{◌≡◌, ℕ, zero, suc, ◌+◌, ◌<◌, Bool, true, false, List, [], ◌∷◌, ◌++◌, length, get_or, take}
use Rattle.std.proofs.Common.{replicate, append_assoc, arith, refl, sym, ap, ◌∙◌, subst}
use Rattle.std.specs.Prelude.{slice_index, slice_index_or, Contains}
use Rattle.std.proofs.lemmas.List.{length-replicate, get_or-replicate, take_more}
use Rattle.std.proofs.lemmas.List.Elements.{Contains-append_left, Contains-append_right, Contains-get_or}
use Rattle.game_model.specs.declared.game.Side.{Side}
use Rattle.game_model.specs.declared.game.Side.TheVariants.{Max, Min}
use Rattle.game_model.specs.Game.{Distribution, choices_of, choice_of, no_edge}
use Rattle.game_model.specs.Query.{Query, IsQuery, states, side_at}
use Rattle.game_model.specs.Growing.{IsLonger}
use Rattle.game_model.proofs.Longer.{longer-at, longer-length}
use Rattle.predecessors.specs.declared.lists.Move.{Move}
use Rattle.predecessors.specs.Moves.{move, LeadsTo}
use Rattle.predecessors.specs.Lists.{ArePredecessors}
use Rattle.predecessors.proofs.Listed.{listed-exactly}
use Rattle.attractors.specs.Attractor.{ExcludedSets, meets, is_attracted, AreGoals, from_goals, IsAttractor}
use Rattle.attractors.specs.Search.{moves_into, LeadsIn, IsOrder, IsLeft, IsAttractorSearch}
use Rattle.attractors.proofs.Meeting.{meets-successor, destination-at}
use Rattle.attractors.proofs.Serving.{serves-both, unserved-by, left-by-none, left-by-one}

-- the goals alone have grown from no move
pub IsAttractorSearch-goals : (q : Query) (excluded : ExcludedSets) (members : List Bool) (next_choice order : List ℕ)
    → IsQuery q → AreGoals q members → IsOrder members order → next_choice ≡ replicate (states q) 0
    → IsAttractorSearch q excluded [] members next_choice order
IsAttractorSearch-goals q excluded members next_choice order posed goals ordered first = record {
  many = goals.many;
  as_many = ap length first ∙ length-replicate (states q) 0;
  ordered = ordered;
  grew = from_goals members goals;
  leads = λ s c among. absurd (omega (arith, among.1));
  left = λ s l out within. record {
    greatest = λ is_side c lc free among. omega (arith, among.1);
    least = λ is_side.
        let at : slice_index next_choice s ≡ 0 =
        ap (λ list. slice_index list s) first ∙ get_or-replicate (states q) s 0 0 l in
        record {
          inside = omega (arith, at, posed.game.chosen s l);
          before = λ c lc. absurd (omega (arith, lc, at));
          still = λ free among. omega (arith, among.1);
        };
  };
}

-- a move to one of the states is among the moves to them
pub Contains-moves_into : (lists : List (List Move)) (order : List ℕ) (u : ℕ) (m : Move) → Contains order u
    → Contains (slice_index_or lists u []) m → Contains (moves_into lists order) m
Contains-moves_into lists [] u m among listed = absurd (omega (arith, among.1))
Contains-moves_into lists (t ∷ order) u m (zero, l, same) listed =
    Contains-append_left (slice_index_or lists t []) (moves_into lists order) m
    (subst (λ v. Contains (slice_index_or lists v []) m) (sym same) listed)
Contains-moves_into lists (t ∷ order) u m (suc k, l, same) listed =
    Contains-append_right (slice_index_or lists t []) (moves_into lists order) m
    (Contains-moves_into lists order u m (k, omega arith, same) listed)

-- a choice that meets the members has been followed, once all moves to members have
all-followed : (q : Query) (excluded : ExcludedSets) (lists : List (List Move)) (members : List Bool)
    (next_choice order : List ℕ) (s c : ℕ) → IsQuery q → ArePredecessors q.game lists
    → IsAttractorSearch q excluded (moves_into lists order) members next_choice order → s < states q
    → c < length (choices_of q.game s)
    → meets members (choice_of q.game s c) ≡ true → Contains (moves_into lists order) (move s c)
all-followed q excluded lists members next_choice order s c posed are h ls lc meet =
    let one : (k : ℕ) × (k < length (choice_of q.game s c).edges)
    × (slice_index_or members (get_or (choice_of q.game s c).edges k no_edge).to false ≡ true) =
    meets-successor members (choice_of q.game s c) meet in
    let u : ℕ = (get_or (choice_of q.game s c).edges one.0 no_edge).to in
    let inside : u < length q.game = posed.game.inside s c ls lc one.0 no_edge one.1 in
    let leads : LeadsTo q.game s c u =
    record { state = ls; choice = lc; successor = destination-at (choice_of q.game s c) one.0 one.1 } in
    Contains-moves_into lists order u (move s c) (h.ordered.listed u (omega (arith, inside, h.many)) one.2)
    ((listed-exactly are s c u inside).1 leads)

-- and then the side of a state that is left is not attracted
side-left : (q : Query) (excluded : ExcludedSets) (lists : List (List Move)) (members : List Bool)
    (next_choice order : List ℕ) (s : ℕ) (side : Side) → side_at q s ≡ side → IsQuery q → ArePredecessors q.game lists
    → IsAttractorSearch q excluded (moves_into lists order) members next_choice order → s < states q
    → IsLeft q excluded (moves_into lists order) members next_choice s → is_attracted q excluded members s ≡ false
side-left q excluded lists members next_choice order s Max is_side posed are h l left =
    left-by-none q excluded members s is_side (λ c lc serve.
    let both : (excluded.choices (choice_of q.game s c) ≡ false) × (meets members (choice_of q.game s c) ≡ true) =
    serves-both excluded members (choice_of q.game s c) serve in
    left.greatest is_side c lc both.0
    (all-followed q excluded lists members next_choice order s c posed are h l lc both.1))
side-left q excluded lists members next_choice order s Min is_side posed are h l left =
    left-by-one q excluded members s (slice_index next_choice s) is_side (left.least is_side).inside
    (unserved-by excluded members (choice_of q.game s (slice_index next_choice s))
    (λ free meet. (left.least is_side).still free (all-followed q excluded lists members next_choice order s
    (slice_index next_choice s) posed are h l (left.least is_side).inside meet)))

-- and no other state is
pub IsAttractor-grown : (q : Query) (excluded : ExcludedSets) (lists : List (List Move))
    (members : List Bool) (next_choice order : List ℕ) → IsQuery q → ArePredecessors q.game lists
    → IsAttractorSearch q excluded (moves_into lists order) members next_choice order → IsAttractor q excluded members
IsAttractor-grown q excluded lists members next_choice order posed are h = record {
  many = h.many;
  grew = h.grew;
  closed = λ s l out within.
      side-left q excluded lists members next_choice order s (side_at q s) refl posed are h l (h.left s l out within);
}

-- a move in the list of a member leads to it
pub leads-in : (game : List (List Distribution)) (lists : List (List Move)) (members : List Bool) (old order : List ℕ)
    (place member k : ℕ) (list : List Move) (d : Move) → ArePredecessors game lists → length members ≡ length game
    → IsOrder members order → IsLonger old order → place < length old → member ≡ slice_index old place
    → list ≡ slice_index_or lists member [] → k < length list → LeadsIn game members (get_or list k d)
leads-in game lists members old order place member k list d are many ordered longer lp is_member is_list lk =
    let at : slice_index order place ≡ member = longer-at old order longer place lp ∙ sym is_member in
    let there : place < length order = omega (arith, lp, longer-length old order longer) in
    let inside : member < length members = subst (λ u. u < length members) at (ordered.inside place there) in
    let m : Move = get_or list k d in
    record {
      to = member;
      leads = (listed-exactly are m.state m.choice member (omega (arith, inside, many))).0
          (subst (λ (l : List Move). Contains l m) is_list (Contains-get_or list k d lk));
      member = subst (λ u. slice_index_or members u false ≡ true) at (ordered.joined place there);
    }

-- one more move was followed
pub take-one : (before list : List Move) (k : ℕ) (d : Move) → k < length list
    → (before ++ take k list) ++ get_or list k d ∷ [] ≡ before ++ take (k + 1) list
take-one before list k d l =
    append_assoc before (take k list) (get_or list k d ∷ []) ∙ ap (λ r. before ++ r) (sym (take_more list k d l))

pub longer-more : (xs ys zs : List ℕ) → IsLonger xs ys → IsLonger ys zs → IsLonger xs zs
longer-more xs ys zs h k = (h.0 ++ k.0, k.1 ∙ ap (λ l. l ++ k.0) h.1 ∙ append_assoc xs h.0 k.0)
