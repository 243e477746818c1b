use Rattle.std.proofs.Common.{append_assoc, rules}
use Rattle.std.proofs.lemmas.List.{get_or_read}
use Rattle.std.proofs.lemmas.Result.{IfOk-equal}
use Rattle.reward_text.proofs.write.append_entry.Goals as goal

pub returns : goal.returns
returns c = search (rules, IfOk-equal, append_assoc, get_or_read)
