use Rattle.std.proofs.Common.{◌≡◌, ℕ, ◌<◌, List, length}
use Rattle.rank_certificate.specs.inside.OfAsked.{states_in, AreRankLayersIn, IsApartIn}
use Rattle.rank_certificate.proofs.layers.RankLayers.look_at_all.Given as goal

abbrev pub invariant-loop-state : goal.invariant-loop-state
invariant-loop-state l = record {
  ranks : length l.self.ranks.items ≡ states_in l.asked;
  choices : length l.self.choices.items ≡ states_in l.asked;
  layers : (begin : ℕ) (old : List ℕ) → AreRankLayersIn l.asked l.level begin old l.fn.self
      → AreRankLayersIn l.asked l.level begin old l.self;
  apart : (begin : ℕ) (old : List ℕ) → AreRankLayersIn l.asked l.level begin old l.fn.self → (s : ℕ) → s < l.state
      → IsApartIn l.asked l.level l.self s;
}
