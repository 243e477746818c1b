-- This module defines how the lists of a builder grow, and which part of them does not change.
use Rattle.std.specs.Prelude.{◌≡◌, ℕ, ◌+◌, ◌-◌, List, [], ◌∷◌, ◌++◌, length, map, take, replicate, slice_index}
use Rattle.std.specs.Prelude.{slice_index_or, ◌<◌, ◌/◌, ◌%◌, ◌^◌}
use Rattle.game_model.specs.declared.game.Edge.{Edge}
use Rattle.game_model.specs.Game.{no_edge, total_of}
use Rattle.game_model.specs.Flat.{kept_total, last_of}

-- The list ys begins with xs.
abbrev pub IsLonger : List ℕ → List ℕ → Type 0
IsLonger xs ys = (zs : List ℕ) × (ys ≡ xs ++ zs)

-- The first n entries of both lists are the same.
abbrev pub IsSameBelow : ℕ → List ℕ → List ℕ → Type 0
IsSameBelow n xs ys = (i : ℕ) → i < n → slice_index ys i ≡ slice_index xs i

-- From place n on, the list holds the high words of the weights of these edges.
abbrev pub HasHighWords : ℕ → List Edge → List ℕ → Type 0
HasHighWords n edges xs = (i : ℕ) → i < length edges
    → slice_index xs (n + i) ≡ (slice_index_or edges i no_edge).weight / 2 ^ 64

-- The list ys is xs and then zeros.
abbrev pub IsPadded : List ℕ → List ℕ → Type 0
IsPadded xs ys = (n : ℕ) × (ys ≡ xs ++ replicate n 0)

-- The edges of one more choice are added to the lists.
abbrev pub IsPushed : List ℕ → List ℕ → List ℕ → List ℕ → List ℕ → List Edge → List ℕ → List ℕ → List ℕ → List ℕ
    → List ℕ → Type 0
IsPushed fe totals to low high edges fe' totals' to' low' high' =
    (fe' ≡ fe ++ (last_of fe + length edges) ∷ [])
    × (totals' ≡ take (length fe - 1) totals ++ kept_total (total_of edges) ∷ [])
    × (to' ≡ take (last_of fe) to ++ map (λ e. e.to) edges)
    × (low' ≡ take (last_of fe) low ++ map (λ e. e.weight % 2 ^ 64) edges)
    × IsSameBelow (last_of fe) high high' × HasHighWords (last_of fe) edges high'

-- The parts of the lists that are in use are as before.
abbrev pub IsStill : List ℕ → List ℕ → List ℕ → List ℕ → List ℕ → List ℕ → List ℕ → List ℕ → List ℕ → List ℕ → Type 0
IsStill fe totals to low high fe' totals' to' low' high' =
    (fe' ≡ fe) × IsLonger (take (length fe - 1) totals) totals' × IsLonger (take (last_of fe) to) to'
    × IsLonger (take (last_of fe) low) low' × IsSameBelow (last_of fe) high high'
