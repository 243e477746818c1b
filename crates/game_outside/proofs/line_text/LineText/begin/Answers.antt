use Rattle.std.proofs.Common.{rules}
use Rattle.game_outside.proofs.Streams.{if_ok}
use Rattle.game_outside.proofs.line_text.LineText.begin.Goals as goal

pub returns-clause-rest : goal.returns-clause-rest
returns-clause-rest g c = if_ok (c.begin.result) c.begin.ensures.text (search rules)

pub returns-clause-shelf : goal.returns-clause-shelf
returns-clause-shelf g c = record {
  read_fault = search rules;
  steadily = search rules;
  too_long = search rules;
  taken = search rules;
  kept = search rules;
  quiet = λ steady holds. (c.begin.ensures.steadily steady holds).1;
}
