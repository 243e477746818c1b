-- This module defines what labels and owners keep of the names in their maps.
use Rattle.std.specs.Prelude.{◌≡◌, ◌<◌, ◌^◌, ℕ, Bool, List, length, Option, unwrap_or, Vec, All}
use Rattle.std.specs.declared.alloc.Global.{Global}

-- There are as many sets as names, each with a mark for each state.
pub record AreNamed (states : ℕ) (entries : List (Vec ℕ Global × ℕ)) (sets : List (List Bool)) : Type 0 where
  pub small : states < 2 ^ 32
  pub count : length sets ≡ length entries
  pub lengths : All (λ marks. length marks ≡ states) sets

-- The place of each owner has a name. If no owner is named, the place is 0.
pub record AreOwned (entries : List (Vec ℕ Global × ℕ)) (owners : List (Option ℕ)) : Type 0 where
  pub known : All (λ owner. unwrap_or owner 0 < length entries) owners
