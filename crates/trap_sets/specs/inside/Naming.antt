-- Parts are divided into components, and named after their first states.
use Rattle.std.specs.Prelude.{◌≡◌, ◌≢◌, ℕ, ◌+◌, ◌-◌, ◌≤◌, List, slice_index}
use Rattle.trap_sets.specs.inside.Each.{IsEach}

-- A state with a part has the number of its component, counted from 1, and any other state has none.
pub record IsClass (own component class : ℕ) : Type 0 where
  pub out : own ≡ 0 → class ≡ 0
  pub counted : own ≢ 0 → class ≡ component + 1

-- A state with a part has the name of its part, which is named after this state or an earlier one. Any other state has
-- no name.
pub record IsNamed (part names : List ℕ) (s name : ℕ) : Type 0 where
  pub out : slice_index part s ≡ 0 → name ≡ 0
  pub named : slice_index part s ≢ 0 → name ≡ slice_index names (slice_index part s)
  pub least : name ≤ s + 1
  pub given : slice_index part s ≢ 0 → name ≢ 0

-- Each of the first states has its name, and each part with a name is named after one of them.
pub record IsNaming (part names class : List ℕ) (n : ℕ) : Type 0 where
  pub each : IsEach (IsNamed part names) class n
  pub known : (p : ℕ) → slice_index names p ≢ 0 → slice_index class (slice_index names p - 1) ≡ slice_index names p
