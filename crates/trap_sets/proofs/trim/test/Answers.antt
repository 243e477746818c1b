use Rattle.std.proofs.Common.{length, arith, ap}
use Rattle.game_model.specs.Game.{choices_of}
use Rattle.trap_sets.proofs.Keeping.{KeepsEnds-without}
use Rattle.trap_sets.proofs.trim.test.Goals as goal

pub returns-clause-keeps : goal.returns-clause-keeps
returns-clause-keeps c = KeepsEnds-without c.args.mdp.now.question.now c.args.mdp.now.replies.now c.args.part.now
    c.args.state c.requires.state c.requires.keeps
    (λ d internal. c.next_internal.ensures.before d (omega arith) (omega (
      arith,
      internal.mdp.inside,
      c.if-next_internal-choices.false,
      c.choices_of-choices.ensures,
      ap (λ g. length (choices_of g c.args.state)) c.game.ensures,
    )) internal)
