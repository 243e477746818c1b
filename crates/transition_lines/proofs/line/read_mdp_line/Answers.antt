use Rattle.transition_lines.proofs.Refusals.{mdp_refused}
use Rattle.transition_lines.proofs.line.read_mdp_line.Goals as goal

pub returns-in-Err-clause-said : goal.returns-in-Err-clause-said
returns-in-Err-clause-said c =
    mdp_refused c.args.states c.args.line.now _ _ _ _ _ _ _ c.in-Some-first_field.rest.now
    c.in-Some-last_field.action c.in-Err.cause
    c.in-Some.ensures c.in-Some-first_number.ensures c.in-Some-first_number-2.ensures c.in-Some-first_field.ensures
    c.in-Some-last_field.ensures c.in-Err.ensures.said
