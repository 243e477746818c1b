use Rattle.std.proofs.Common.{arith, refl}
use Rattle.std.specs.Prelude.{slice_index}
use Rattle.game_model.specs.Game.{Distribution, choice_of}
use Rattle.rank_certificate.specs.Ranking.{IsEnough, LeadsOnward}
use Rattle.rank_certificate.proofs.choice.check_choice.Goals as goal

pub returns-clause-ok : goal.returns-clause-ok
returns-clause-ok c = (
  λ ok.
      let m : Distribution = choice_of c.args.question.now.game c.args.state c.args.choice in
      let enough : IsEnough (slice_index c.args.values.now) c.args.state m =
      rw c.row.ensures at (c.if-not-gives.ensures.0 refl) in
      let on : LeadsOnward (slice_index c.args.values.now) (slice_index c.args.ranks.now) c.args.state m =
      grind (arith, c.if-not-leads_onward.false, c.leads_onward.ensures) in
      record {
        enough = enough;
        place = on.place;
        inside = on.inside;
        onward = on.onward;
      },
  λ ranked. refl,
)
