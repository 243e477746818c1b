use Rattle.std.proofs.Common.{◌<◌, All, ap, sym, subst}
use Rattle.std.specs.Prelude.{length}
use Rattle.game_model.specs.Query.{Query, states}
use Rattle.game_model.specs.Rounded.{IsBelow}
use Rattle.step_core.specs.Word.{value_at}
use Rattle.verdicts.specs.Stop.{bound_of}
use Rattle.marked_rounds.specs.DirtySet.{read_of}
use Rattle.marked_rounds.specs.Rounds.{IsClosed}
use Rattle.bracket_engine.proofs.Uppers.{IsSettlingGuess-raised}
use Rattle.bracket_engine.proofs.race.race.Goals as goal

pub returns : goal.returns
returns g c =
    let q : Query = g.P.Posing.posed in
    let ending = c.args.rounds.now.ending.now in
    let racers = c.in_ok-racers.racers in
    let racing = c.in_ok-racers.ensures in
    let read = read_of racers.lower.dirty in
    let swapped_read = read_of racers.swapped.dirty in
    let words = c.in_ok-words.words in
    let swapped_words = c.in_ok-swapped_words.swapped_words in
    let one : IsClosed q words racers.rounds read = c.in_ok-words.ensures racers.rounds racing.lower in
    let two : IsClosed g.C.Posing.posed swapped_words racers.rounds swapped_read =
    c.in_ok-swapped_words.ensures racers.rounds racing.swapped in
    let inside : All (λ s. s < states q) ending.initial.now =
    subst (λ (p : Query). All (λ s. s < states p) ending.initial.now) c.requires.posed ending.inside in
    let swapped_rise : IsBelow q swapped_read (value_at swapped_words) =
    λ s there. two.below s (subst (λ n. s < n) (sym (ap length c.requires.game)) there) in
    record {
      words = one.raced;
      swapped_words = two.raced;
      end = record {
        few = racing.end.few;
        quiet = λ is. (one.settled (racing.end.quiet is).0, two.settled (racing.end.quiet is).1);
        kept = IsSettlingGuess-raised q ending.zero.now
            (bound_of ending.rule.now) ending.initial.now read (value_at words) swapped_read
            (value_at swapped_words) racers.kept inside one.below swapped_rise racing.end.kept;
        none = racing.end.none;
        early = racing.end.early;
        in_time = racing.end.in_time;
      };
    }
