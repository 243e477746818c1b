use Rattle.std.proofs.Common.{◌≡◌, rules, map, Some, None, MatchOption}
use Rattle.std.specs.String.{string_bytes}
use Rattle.reward_words.specs.declared.words.RewardWords.TheVariants as variant
use Rattle.reward_words.proofs.Naming.{named, audit_kind, solve_kind}
use Rattle.reward_words.proofs.words.read_command.Goals as goal

pub returns-in_ok-read_audit-in-audit : goal.returns-in_ok-read_audit-in-audit
returns-in_ok-read_audit-in-audit c =
    let mapped : MatchOption c.in_ok-read_audit-in-audit.field-0 (c.map.result ≡ None)
    (λ audit. c.map.result ≡ Some (variant.Audit audit)) = search rules in
    named audit_kind c.args.name.now (map string_bytes c.args.words.now) c.in_ok-read_audit-in-audit.field-0
    c.map.result c.in-audit.is mapped c.in_ok-read_audit-in-audit.ensures

pub returns-in_ok-read_solve-in-solve : goal.returns-in_ok-read_solve-in-solve
returns-in_ok-read_solve-in-solve c =
    let mapped : MatchOption c.in_ok-read_solve-in-solve.field-0 (c.map-in-solve.result ≡ None)
    (λ solve. c.map-in-solve.result ≡ Some (variant.Solve solve)) = search rules in
    named solve_kind c.args.name.now (map string_bytes c.args.words.now) c.in_ok-read_solve-in-solve.field-0
    c.map-in-solve.result c.in-solve.is mapped c.in_ok-read_solve-in-solve.ensures
