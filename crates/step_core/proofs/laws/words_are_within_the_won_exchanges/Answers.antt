use Rattle.std.proofs.Common.{refl, zero-add, subst, sum_by}
use Rattle.game_model.specs.Rounded.{down_steps, IsBelow}
use Rattle.step_core.specs.Word.{value_at}
use Rattle.step_core.specs.Configuration.{opening_configuration}
use Rattle.step_core.specs.Events.{wins}
use Rattle.step_core.proofs.Kept.{after-within, Leads-within, opening-keeps, opening-within}
use Rattle.step_core.proofs.laws.words_are_within_the_won_exchanges.Goals as goal

pub returns-clause-one : goal.returns-clause-one
returns-clause-one c = after-within

pub returns-clause-all : goal.returns-clause-all
returns-clause-all c = λ q events w h leads.
    subst (λ n. IsBelow q (value_at w.words) (down_steps q n)) (zero-add (sum_by wins events))
    (Leads-within q (opening_configuration q) w events 0 refl (opening-keeps q h) leads (opening-within q))
