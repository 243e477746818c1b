use Rattle.std.proofs.Common.{◌≡◌, length, replicate, rules, ap, ◌∙◌, None, false}
use Rattle.std.proofs.lemmas.List.{length-replicate}
use Rattle.std.proofs.lemmas.List.Elements.{All-same, All-nil}
use Rattle.game_model.specs.Query.{states}
use Rattle.away_ranks.specs.inside.Ranked.{HasGone}
use Rattle.away_ranks.proofs.Beginning.{AreRanked-none, AreWaits-none}
use Rattle.away_ranks.proofs.search.AwaySearch.of_states.Goals as goal

pub returns : goal.returns
returns c =
    let q = c.args.question.now in
    let gone : c.in_ok-gone.gone.items ≡ replicate (states q) false = search rules in
    let choices : c.in_ok-choices.choices.items ≡ replicate (states q) None = search rules in
    let ranks : c.in_ok-ranks.ranks.items ≡ replicate (states q) 0 = search rules in
    let waits : c.in_ok-waits.waits.items ≡ replicate (states q) 0 = search rules in
    record {
      ranked = AreRanked-none q c.in_ok-gone.gone.items c.in_ok-choices.choices.items c.in_ok-ranks.ranks.items gone
          (ap length choices ∙ length-replicate (states q) None) (ap length ranks ∙ length-replicate (states q) 0);
      waits = AreWaits-none q c.in_ok-gone.gone.items c.in_ok-waits.waits.items waits;
      todo = All-same (HasGone c.in_ok-gone.gone.items) c.new.result.items _ c.new.ensures.items
          (All-nil (HasGone c.in_ok-gone.gone.items));
    }
