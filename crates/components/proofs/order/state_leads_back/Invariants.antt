use Rattle.components.specs.Order.{StateLeadsBack}
use Rattle.components.proofs.order.state_leads_back.Given as goal

abbrev pub invariant-loop-choice : goal.invariant-loop-choice
invariant-loop-choice g l = StateLeadsBack l.question (g.K.Keeps.kept l.kept l.question) l.component l.state l.choice
