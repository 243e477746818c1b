-- This module defines what contracts see of a builder.
use Rattle.game_model.specs.declared.builder.GameBuilder.TheInside.{Inside}
use Rattle.game_model.specs.Flat.{game_at, under_way_at, AreFlatLists}
use Rattle.game_model.specs.Draft.{Draft}

-- The lists of a builder hold this draft.
abbrev pub draft_of : Inside → Draft
draft_of b = record {
  done = game_at b.first_choice.items b.first_edge.items b.totals.items b.to.items b.low.items b.high.items;
  under_way = under_way_at b.first_choice.items b.first_edge.items b.totals.items b.to.items b.low.items b.high.items;
}

-- The lists of a builder hold a draft.
abbrev pub IsBuilder : Inside → Type 0
IsBuilder b = AreFlatLists b.first_choice.items b.first_edge.items b.totals.items b.to.items b.low.items b.high.items
