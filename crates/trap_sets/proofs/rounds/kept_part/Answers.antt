use Rattle.std.proofs.Common.{length, arith, refl, ap, inl}
use Rattle.game_model.specs.Game.{choices_of}
use Rattle.trap_sets.proofs.rounds.kept_part.Goals as goal

pub returns-else-next_internal-choices_of : goal.returns-else-next_internal-choices_of
returns-else-next_internal-choices_of c = inl (
  refl,
  λ d internal. c.next_internal.ensures.before d (omega arith) (omega (
    arith,
    internal.mdp.inside,
    c.if-next_internal-choices_of.false,
    c.choices_of.ensures,
    ap (λ g. length (choices_of g c.args.state)) c.game.ensures,
  )) internal,
)
