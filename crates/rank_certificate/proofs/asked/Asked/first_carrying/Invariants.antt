use Rattle.std.proofs.Common.{ℕ, ◌<◌}
use Rattle.rank_certificate.specs.inside.RankLayers.{HasRankWithin}
use Rattle.rank_certificate.specs.inside.OfAsked.{CarriesIn}
use Rattle.rank_certificate.proofs.asked.Asked.first_carrying.Given as goal

abbrev pub invariant-loop-choice : goal.invariant-loop-choice
invariant-loop-choice l = (c : ℕ) → c < l.choice → ¬ CarriesIn l.self (HasRankWithin l.ranks l.level) l.state c
