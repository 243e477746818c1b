-- Choices that meet a set.
use Rattle.std.proofs.Common.{◌≡◌, ℕ, ◌<◌, Bool, true, false, List, [], ◌∷◌, length, map, get_or, arith, refl, sym, ap}
use Rattle.std.proofs.Common.{◌∙◌, ◌||◌}
use Rattle.std.specs.Prelude.{slice_index_or, Contains}
use Rattle.std.specs.List.{list_any}
use Rattle.std.proofs.lemmas.List.{get_or-map, length-map}
use Rattle.std.proofs.lemmas.List.Folds.{list_any_at}
use Rattle.game_model.specs.declared.game.Edge.{Edge}
use Rattle.game_model.specs.Game.{Distribution, IsGame, no_edge, destinations, choices_of, choice_of}
use Rattle.attractors.specs.Attractor.{meets}
use Rattle.attractors.proofs.Tests.{any-place}

-- a choice meets a set by a successor in it
pub meets-at : (set : List Bool) (m : Distribution) (u : ℕ) → Contains (destinations m.edges) u
    → slice_index_or set u false ≡ true → meets set m ≡ true
meets-at set m u h member =
    let within : h.0 < length m.edges = omega (arith, h.1, length-map m.edges (λ (e : Edge). e.to)) in
    let at : (get_or m.edges h.0 no_edge).to ≡ u =
    sym (get_or-map (λ (e : Edge). e.to) m.edges h.0 no_edge u within) ∙ h.2 in
    list_any_at (λ (e : Edge). slice_index_or set e.to false) m.edges h.0 no_edge within
    (ap (λ t. slice_index_or set t false) at ∙ member)

pub meets-successor : (set : List Bool) (m : Distribution) → meets set m ≡ true
    → (k : ℕ) × (k < length m.edges) × (slice_index_or set (get_or m.edges k no_edge).to false ≡ true)
meets-successor set m h = any-place (λ (e : Edge). slice_index_or set e.to false) m.edges no_edge h

pub destination-at : (m : Distribution) (k : ℕ) → k < length m.edges
    → Contains (destinations m.edges) (get_or m.edges k no_edge).to
destination-at m k l = (
  k,
  omega (arith, l, length-map m.edges (λ (e : Edge). e.to)),
  get_or-map (λ (e : Edge). e.to) m.edges k no_edge (get_or m.edges k no_edge).to l,
)

-- and a larger set too
pub meets-more : (set more : List Bool) (m : Distribution)
    → ((t : ℕ) → slice_index_or set t false ≡ true → slice_index_or more t false ≡ true) → meets set m ≡ true
    → meets more m ≡ true
meets-more set more m larger h =
    let one : (k : ℕ) × (k < length m.edges) × (slice_index_or set (get_or m.edges k no_edge).to false ≡ true) =
    meets-successor set m h in
    list_any_at (λ (e : Edge). slice_index_or more e.to false) m.edges one.0 no_edge one.1
    (larger (get_or m.edges one.0 no_edge).to one.2)

-- the successors that the code reads
any-map : {X Y : Type 0} (p : Y → Bool) (f : X → Y) (xs : List X) → list_any p (map f xs) ≡ list_any (λ x. p (f x)) xs
any-map p f [] = refl
any-map p f (x ∷ xs) = ap (λ b. p (f x) || b) (any-map p f xs)

pub meets-read : (set : List Bool) (m : Distribution) (to : List ℕ) → to ≡ destinations m.edges
    → list_any (λ t. slice_index_or set t false) to ≡ meets set m
meets-read set m to same = ap (list_any (λ t. slice_index_or set t false)) same
    ∙ any-map (λ t. slice_index_or set t false) (λ (e : Edge). e.to) m.edges

pub successor-within : (game : List (List Distribution)) (s c k : ℕ) (to : List ℕ) → IsGame game → s < length game
    → c < length (choices_of game s) → to ≡ destinations (choice_of game s c).edges → k < length to
    → get_or to k 0 < length game
successor-within game s c k to h ls lc same lk =
    let edges : List Edge = (choice_of game s c).edges in
    let within : k < length edges = omega (arith, lk, ap length same, length-map edges (λ (e : Edge). e.to)) in
    let at : get_or to k 0 ≡ (get_or edges k no_edge).to =
    ap (λ l. get_or l k 0) same ∙ get_or-map (λ (e : Edge). e.to) edges k no_edge 0 within in
    omega (arith, at, h.inside s c ls lc k no_edge within)
