-- This module defines the plays of two strategies, each with the number of ways in which it comes about.
use Rattle.std.specs.Prelude.{◌≡◌, ℕ, zero, suc, ◌*◌, ◌/◌, ◌^◌, Bool, false, ◌&&◌, ◌||◌, not, List, [], ◌∷◌, flat_map}
use Rattle.std.specs.Prelude.{map, sum_by, if◌then◌else◌}
use Rattle.std.specs.List.{range_with_len}
use Rattle.game_model.specs.Game.{choice_of}
use Rattle.game_model.specs.Query.{Query, is_goal, is_dead, side_at}
use Rattle.game_model.specs.Values.{denominator}
use Rattle.strategies.specs.Strategies.{Turn, Strategy, of_side, reach, avoid}

-- A play has the states that it comes through, the first one first, and the number of ways in which it comes about.
pub record Play : Type 0 where
  pub through : List ℕ
  pub ways : ℕ

-- One more state is put before a play, from which it goes on in this many ways.
abbrev pub begun_at : ℕ → ℕ → Play → Play
begun_at s ways play = record { through = s ∷ play.through; ways = ways * play.ways }

-- These are all plays of k turns, one for each throw and edge of each turn, so the same states may occur more than
-- once. A turn has as many ways as faces times denominator: each throw of the die and each of the equal parts of the
-- choice, of which an edge has its share.
unfoldable pub plays : Query → ℕ → Strategy → Strategy → ℕ → List Turn → ℕ → List Play
plays q faces greatest least zero past s = record { through = s ∷ []; ways = 1 } ∷ []
plays q faces greatest least (suc k) past s =
    flat_map (λ throw. let choice = of_side (side_at q s) greatest least past s throw in
    flat_map (λ e. map (begun_at s (denominator q.game / (choice_of q.game s choice).total * e.weight))
    (plays q faces greatest least k (record { state = s; throw = throw; choice = choice } ∷ past) e.to))
    (choice_of q.game s choice).edges) (range_with_len 0 faces)

-- A play is won if it comes through a goal, and through no dead state before.
abbrev pub is_won : Query → List ℕ → Bool
is_won q [] = false
is_won q (s ∷ later) = is_goal q s || (not (is_dead q s) && is_won q later)

-- Plays are won in this many ways.
abbrev pub ways_won : Query → List Play → ℕ
ways_won q all = sum_by (λ play. if is_won q play.through then play.ways else 0) all

-- Plays are not won in this many ways.
abbrev pub ways_lost : Query → List Play → ℕ
ways_lost q all = sum_by (λ play. if is_won q play.through then 0 else play.ways) all

-- Of all the ways in which k turns can go, `reach` gives the number that are won, and `avoid` the number that are not.
pub record AreWays (q : Query) (faces : ℕ) (greatest least : Strategy) (k s : ℕ) : Type 0 where
  pub all : sum_by (λ play. play.ways) (plays q faces greatest least k [] s) ≡ (faces * denominator q.game) ^ k
  pub won : ways_won q (plays q faces greatest least k [] s) ≡ reach q faces greatest least k [] s
  pub lost : ways_lost q (plays q faces greatest least k [] s) ≡ avoid q faces greatest least k s
