use Rattle.std.proofs.Common.{◌+◌}
use Rattle.upper_guess.specs.Guess.{AreWitnesses}
use Rattle.verdicts.specs.Stop.{bound_of}
use Rattle.marked_rounds.specs.Rounds.{IsRacing}
use Rattle.bracket_engine.specs.Stop.{EndsWhereSettled}
use Rattle.bracket_engine.proofs.race.run_rounds.Given as goal

abbrev pub invariant-loop-turn : goal.invariant-loop-turn
invariant-loop-turn g l = record {
  lower : IsRacing g.P.Posing.posed l.turn l.lower.pass l.lower.dirty;
  swapped : IsRacing g.C.Posing.posed l.turn l.swapped.pass l.swapped.dirty;
  in_time : EndsWhereSettled g.P.Posing.posed g.C.Posing.posed
      (bound_of l.rounds.ending.now.rule.now) l.rounds.ending.now.initial.now (l.turn + 1);
  witnesses : AreWitnesses g.P.Posing.posed l.witnesses.states;
}
