-- These definitions give what `sure` says of a question.
use Rattle.std.specs.Prelude.{◌≡◌, ℕ, Bool, false, List, ◌++◌, length, count_by, codes, decimal, slice_index_or}
use Rattle.std.specs.List.{filter, flat_map, list_all, range_with_len}
use Rattle.game_model.specs.Query.{Query}
use Rattle.almost_sure.specs.Values.{AreAlmostSure}
use Rattle.almost_sure.specs.Strategies.{HaveStrategies}

-- The state has a mark.
abbrev pub is_marked : List Bool → ℕ → Bool
is_marked marks s = slice_index_or marks s false

-- The line `sure C of N` says that C of N states are marked.
abbrev pub head_line : List Bool → List ℕ
head_line marks = codes "sure " ++ (decimal (count_by (λ marked. marked) marks)
    ++ (codes " of " ++ (decimal (length marks) ++ codes "\n")))

-- The marked states are listed in rising order.
abbrev pub marked_states : List Bool → List ℕ
marked_states marks = filter (is_marked marks) (range_with_len 0 (length marks))

-- The line holds the number of a state.
abbrev pub state_line : ℕ → List ℕ
state_line s = decimal s ++ codes "\n"

-- Each marked state has a line.
abbrev pub marked_lines : List Bool → List ℕ
marked_lines marks = flat_map state_line (marked_states marks)

-- The text lists the states from which a goal is reached almost surely, by values and by strategies, and `all` says
-- whether all initial states are among them.
pub record IsSure (q : Query) (initial text : List ℕ) (all : Bool) : Type 0 where
  pub marks : List Bool
  pub exact : AreAlmostSure q marks
  pub strategies : HaveStrategies q marks
  pub written : text ≡ head_line marks ++ marked_lines marks
  pub listed : all ≡ list_all (is_marked marks) initial
