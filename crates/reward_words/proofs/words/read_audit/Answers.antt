use Rattle.std.proofs.Common.{map}
use Rattle.std.specs.String.{string_bytes}
use Rattle.reward_words.proofs.Denoting.{audit_denoted}
use Rattle.reward_words.proofs.words.read_audit.Goals as goal

pub returns-in-Some : goal.returns-in-Some
returns-in-Some c =
    let found = rw c.in-Some.is at c.in_ok-matches.ensures in
    audit_denoted c.in_ok-audit_reward_command.field-0 c.in-Some.matches (map string_bytes c.args.words.now)
    c.audit_reward_words.result c.in_ok-audit_reward_command.ensures found c.audit_reward_words.ensures
