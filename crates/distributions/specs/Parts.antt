-- This module defines the distribution that the parts of a choice add up to.
use Rattle.std.specs.Prelude.{◌≡◌, ◌≤◌, ℕ, zero, suc, ◌+◌, ◌-◌, ◌*◌, ◌/◌, ◌==◌, nat_lt, max, List, [], ◌∷◌, map, All}
use Rattle.std.specs.Prelude.{Result, Ok, Err, if◌then◌else◌}
use Prim.Native.Nat.{◌∣◌}
use Rattle.game_model.specs.declared.game.Edge.{Edge}
use Rattle.game_model.specs.Game.{Distribution, IsRising, weight_to, total_of}
use Rattle.distributions.specs.declared.choice.Part.{Part}
use Rattle.distributions.specs.declared.choice.ChoiceFault.{ChoiceFault}
use Rattle.distributions.specs.declared.choice.ChoiceFault.TheVariants.{OutOfMemory, TooFine, BadSum}
use Rattle.fractions.specs.Limits.{finest}
use Rattle.distributions.specs.Limits.{tolerance}
use Rattle.fractions.specs.Divisors.{lcm}

-- This edge has the successor of a part, and its share of the common denominator as a whole weight.
abbrev pub edge_of_part : ℕ → Part → Edge
edge_of_part common part = record { to = part.to; weight = part.share.num * common / part.share.den }

-- These are the edges of the parts, one for each part, with their shares as whole weights over a common denominator.
abbrev pub weighted : ℕ → List Part → List Edge
weighted common parts = map (λ part. edge_of_part common part) parts

-- This is the distance of two numbers.
abbrev pub distance : ℕ → ℕ → ℕ
distance a b = (a - b) + (b - a)

-- 1. These definitions give the distribution as a relation, for which the order of the parts does not matter.

-- This is the least common multiple of the denominators.
pub record IsCommonDenominator (common : ℕ) (parts : List Part) : Type 0 where
  pub positive : 1 ≤ common
  pub multiple : All (λ part. part.share.den ∣ common) parts
  pub least : (m : ℕ) → All (λ part. part.share.den ∣ m) parts → common ∣ m

-- This is the distribution of these parts. A weight is the sum of the shares of its successor, counted in parts of
-- their least common denominator, and the sum of the weights misses 1 by at most one part in 100,000.
pub record DenotesChoice (parts : List Part) (distribution : Distribution) : Type 0 where
  pub common : ℕ
  pub denominator : IsCommonDenominator common parts
  pub fine : common ≤ finest
  pub rising : IsRising distribution.edges
  pub weighty : All (λ e. 1 ≤ e.weight) distribution.edges
  pub weights : (to : ℕ) → weight_to distribution.edges to ≡ weight_to (weighted common parts) to
  pub total : distribution.total ≡ total_of distribution.edges
  pub near_one : distance distribution.total common * tolerance ≤ common

-- 2. These definitions give the distribution or the first fault, by cases on the parts.

-- This is the least common multiple of a number and the denominators, or the first fault, that it is too fine.
abbrev pub denominator_said : ℕ → List Part → Result ℕ ChoiceFault
denominator_said common [] = Ok common
denominator_said common (part ∷ parts) =
    if nat_lt finest (lcm common part.share.den) then Err (TooFine common part.share.den) else denominator_said
    (lcm common part.share.den) parts

-- An edge is kept, unless its weight is 0.
abbrev pub keep_edge : ℕ → ℕ → List Edge → List Edge
keep_edge to weight edges = if weight == 0 then edges else record { to = to; weight = weight } ∷ edges

-- These are the edges with these weights to this many successors, from `first` on.
unfoldable pub edges_from : (ℕ → ℕ) → ℕ → ℕ → List Edge
edges_from weight first zero = []
edges_from weight first (suc more) = keep_edge first (weight first) (edges_from weight (first + 1) more)

-- This number is above each successor.
unfoldable pub span : List Edge → ℕ
span [] = 0
span (e ∷ edges) = max (e.to + 1) (span edges)

-- These are the edges in the order of their successors. The edges to one successor are added up.
unfoldable pub gathered : List Edge → List Edge
gathered edges = edges_from (weight_to edges) 0 (span edges)

-- This is the distribution with these edges and this total.
abbrev pub with_total : List Edge → ℕ → Distribution
with_total edges total = record { total = total; edges = edges }

-- This is the distribution with these edges, if the sum of their weights is near the common denominator, or else the
-- fault.
abbrev pub sum_said : ℕ → List Edge → Result Distribution ChoiceFault
sum_said common edges =
    if nat_lt common (distance (total_of edges) common * tolerance) then Err (BadSum (total_of edges) common) else Ok
    (record { total = total_of edges; edges = edges })

-- This is the distribution of these parts over a common denominator, or the first fault. A fault of the denominator
-- comes first.
abbrev pub choice_over : Result ℕ ChoiceFault → List Part → Result Distribution ChoiceFault
choice_over (Ok common) parts = sum_said common (gathered (weighted common parts))
choice_over (Err fault) parts = Err fault

-- This is the distribution of a choice with these parts, or the first fault.
abbrev pub choice_said : List Part → Result Distribution ChoiceFault
choice_said parts = choice_over (denominator_said 1 parts) parts

-- Memory ran out, which is no fault of the parts.
abbrev pub IsOutOfMemory : ChoiceFault → Type 0
IsOutOfMemory fault = fault ≡ OutOfMemory
