-- A text denotes lines that give rewards, and a table has these rewards. These definitions are relations.
use Rattle.std.specs.Prelude.{◌≡◌, ◌≤◌, ℕ, List, [], ◌∷◌, ◌++◌, length, codes, All, AllPairs, Option, Some, None}
use Rattle.std.specs.List.{AllZip}
use Rattle.text_lines.specs.Text.{lines_of, fields_of, number_of, significant}
use Rattle.fractions.specs.Fraction.{Fraction}
use Rattle.game_model.specs.Game.{Distribution}
use Rattle.rewards_reader.specs.declared.line.RewardLine.{RewardLine}
use Rattle.rewards_reader.specs.Limits.{most_lines}
use Rattle.rewards_reader.specs.Amounts.{DenotesAmount, no_reward}
use Rattle.rewards_reader.specs.Rewards.{IsOfGame, reward_in}

-- The fields are the header of a game's rewards, which states so many lines.
pub record IsHeader (game : List (List Distribution)) (fields : List (List ℕ)) (count : ℕ) : Type 0 where
  pub states : List ℕ
  pub lines : List ℕ
  pub form : fields ≡ codes "rewards" ∷ states ∷ lines ∷ []
  pub states_spelled : number_of states ≡ Some (length game)
  pub lines_spelled : number_of lines ≡ Some count
  pub few : count ≤ most_lines

-- The fields spell this choice: there is none, or there is one field, which spells its number.
abbrev pub SpellsChoice : List (List ℕ) → Option ℕ → Type 0
SpellsChoice fields None = fields ≡ []
SpellsChoice fields (Some choice) = (field : List ℕ) × ((fields ≡ field ∷ []) × (number_of field ≡ Some choice))

-- The fields are `STATE REWARD` or `STATE CHOICE REWARD`, and say this line. The game has the state and the choice.
pub record IsLine (game : List (List Distribution)) (fields : List (List ℕ)) (line : RewardLine) : Type 0 where
  pub state : List ℕ
  pub choice : List (List ℕ)
  pub reward : List ℕ
  pub form : fields ≡ state ∷ (choice ++ reward ∷ [])
  pub state_spelled : number_of state ≡ Some line.state
  pub choice_spelled : SpellsChoice choice line.choice
  pub reward_spelled : DenotesAmount reward line.reward
  pub of_game : IsOfGame game line.state line.choice

-- Each line of the text says the line in its place.
abbrev pub AreLines : List (List Distribution) → List (List ℕ) → List RewardLine → Type 0
AreLines game others lines = AllZip (λ bytes line. IsLine game (fields_of bytes) line) others lines

-- The line is not about this state, or not about this choice of it.
abbrev pub IsNotAbout : ℕ → Option ℕ → RewardLine → Type 0
IsNotAbout state choice line = line.state ≡ state → line.choice ≡ choice → ⊥

-- No two lines are about the same state, or about the same choice.
abbrev pub AreSingle : List RewardLine → Type 0
AreSingle lines = AllPairs (λ line other. IsNotAbout other.state other.choice line) lines

-- A text denotes these lines of a game: its header states how many there are, and no two are about the same.
pub record DenotesLines (game : List (List Distribution)) (text : List ℕ) (lines : List RewardLine) : Type 0 where
  pub header : List ℕ
  pub others : List (List ℕ)
  pub parts : significant (lines_of text) ≡ header ∷ others
  pub is_header : IsHeader game (fields_of header) (length lines)
  pub are_lines : AreLines game others lines
  pub single : AreSingle lines

-- A text denotes the rewards in a table: those of its lines, and 0 for each state and choice that no line is about.
pub record DenotesRewards (game : List (List Distribution)) (text : List ℕ) (table : List (Option Fraction))
    : Type 0 where
  pub lines : List RewardLine
  pub denoted : DenotesLines game text lines
  pub paid : All (λ line. reward_in game table line.state line.choice ≡ line.reward) lines
  pub others : (state : ℕ) (choice : Option ℕ) → IsOfGame game state choice → All (IsNotAbout state choice) lines
      → reward_in game table state choice ≡ no_reward
