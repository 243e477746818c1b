-- Contracts see a world as a configuration of the transition system of the shared words.
use Rattle.std.specs.Prelude.{◌≡◌, ℕ, List, [], ◌∷◌, slice_index_or, Option, Some, None, unwrap_or}
use Rattle.game_model.specs.Query.{Query, IsQuery}
use Rattle.step_core.specs.Word.{opening_words}
use Rattle.step_core.specs.Sound.{AreSoundWords, Sees}

-- A configuration has a question, its words, and the words that each view has seen: none if the view is spent.
pub record Configuration : Type 0 where
  pub question : Query
  pub words : List ℕ
  pub views : List (Option (List ℕ))

-- These are the words that a view has seen: none if it is spent, or if there is no such view.
abbrev pub view_of : Configuration → ℕ → Option (List ℕ)
view_of w view = slice_index_or w.views view None

-- These are the words that a live view has seen.
abbrev pub seen_by : Configuration → ℕ → List ℕ
seen_by w view = unwrap_or (view_of w view) []

-- The words are those of the opening table, and one view has seen them.
abbrev pub opening_configuration : Query → Configuration
opening_configuration q = record { question = q; words = opening_words q; views = Some (opening_words q) ∷ [] }

-- This is the invariant of every world.
pub record IsWorld (w : Configuration) : Type 0 where
  pub question : IsQuery w.question
  pub words : AreSoundWords w.question w.words
  pub views : (view : ℕ) (seen : List ℕ) → view_of w view ≡ Some seen → Sees w.question w.words seen
