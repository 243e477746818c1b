-- When some states are gone, states and choices are excluded from the inner set.
use Rattle.std.specs.Prelude.{◌≡◌, Bool, false, List, slice_index_or}
use Rattle.game_model.specs.Game.{Distribution, choice_of}
use Rattle.attractors.specs.Attractor.{ExcludedSets, meets}
use Rattle.predecessors.specs.Flags.{AreAnswers}

-- The states that are gone are excluded, and so are the choices that have a successor that is gone.
abbrev pub gone_excluded : List Bool → ExcludedSets
gone_excluded gone = record { states = λ s. slice_index_or gone s false; choices = meets gone }

-- Each choice is flagged exactly if some successor is gone.
abbrev pub AreLeaving : List (List Distribution) → List Bool → List Bool → Type 0
AreLeaving game gone leaving = AreAnswers game (λ s c b. b ≡ meets gone (choice_of game s c)) leaving
