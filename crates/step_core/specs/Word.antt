-- A word is a value and a choice in one number.
use Rattle.std.specs.Prelude.{ℕ, ◌+◌, ◌*◌, ◌/◌, ◌%◌, Bool, List, [], ◌∷◌, map, slice_index, Option, Some, if◌then◌else◌}
use Rattle.std.specs.Prelude.{nat_lt}
use Rattle.game_model.specs.Limits.{unit}
use Rattle.game_model.specs.Query.{Query, is_goal}

-- A word can name this many choices in its low 14 bits. The value above them has at most 50 bits.
abbrev pub choice_space : ℕ
choice_space = 16384

-- This is the word of a value, in units, and of a choice that is below the choice space.
abbrev pub packed : ℕ → ℕ → ℕ
packed value choice = value * choice_space + choice

-- This is the value in a word, in units.
abbrev pub value_in : ℕ → ℕ
value_in word = word / choice_space

-- This is the number of the choice in a word.
abbrev pub choice_in : ℕ → ℕ
choice_in word = word % choice_space

-- The values of the states' words are a table of units.
abbrev pub value_at : List ℕ → ℕ → ℕ
value_at words s = value_in (slice_index words s)

-- These are the values of words.
abbrev pub values_of : List ℕ → List ℕ
values_of words = map value_in words

-- This plan of the maximiser takes at each state the choice that its word names.
abbrev pub picks_of : List ℕ → List (Option ℕ)
picks_of words = map (λ word. Some (choice_in word)) words

-- This is the word of a state in the opening table: a goal has the unit, and each choice is 0.
abbrev pub opening_word : Bool → ℕ
opening_word goal = if goal then packed unit 0 else 0

-- These are the words of the opening table.
abbrev pub opening_words : Query → List ℕ
opening_words q = map opening_word q.goals

-- Each state has the word of greater value, or the first word at a tie.
abbrev pub greater_words : List ℕ → List ℕ → List ℕ
greater_words [] ys = []
greater_words (x ∷ xs) [] = x ∷ xs
greater_words (x ∷ xs) (y ∷ ys) = (if nat_lt (value_in x) (value_in y) then y else x) ∷ greater_words xs ys
