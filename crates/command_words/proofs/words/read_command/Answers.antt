use Rattle.std.proofs.Common.{◌≡◌, rules, map, Some, None, MatchOption}
use Rattle.std.specs.String.{string_bytes}
use Rattle.command_words.specs.declared.words.CommandWords.TheVariants as variant
use Rattle.command_words.proofs.Naming.{named, audit_kind, check_kind, solve_kind, sure_kind}
use Rattle.command_words.proofs.words.read_command.Goals as goal

pub returns-in_ok-read_check-in-check : goal.returns-in_ok-read_check-in-check
returns-in_ok-read_check-in-check c =
    let mapped : MatchOption c.in_ok-read_check-in-check.field-0 (c.map.result ≡ None)
    (λ check. c.map.result ≡ Some (variant.Check check)) = search rules in
    named check_kind c.args.name.now (map string_bytes c.args.words.now) c.in_ok-read_check-in-check.field-0
    c.map.result c.in-check.is mapped c.in_ok-read_check-in-check.ensures

pub returns-in_ok-read_audit-in-audit : goal.returns-in_ok-read_audit-in-audit
returns-in_ok-read_audit-in-audit c =
    let mapped : MatchOption c.in_ok-read_audit-in-audit.field-0 (c.map-in-audit.result ≡ None)
    (λ audit. c.map-in-audit.result ≡ Some (variant.Audit audit)) = search rules in
    named audit_kind c.args.name.now (map string_bytes c.args.words.now) c.in_ok-read_audit-in-audit.field-0
    c.map-in-audit.result c.in-audit.is mapped c.in_ok-read_audit-in-audit.ensures

pub returns-in_ok-read_solve-in-solve : goal.returns-in_ok-read_solve-in-solve
returns-in_ok-read_solve-in-solve c =
    let mapped : MatchOption c.in_ok-read_solve-in-solve.field-0 (c.map-in-solve.result ≡ None)
    (λ solve. c.map-in-solve.result ≡ Some (variant.Solve solve)) = search rules in
    named solve_kind c.args.name.now (map string_bytes c.args.words.now) c.in_ok-read_solve-in-solve.field-0
    c.map-in-solve.result c.in-solve.is mapped c.in_ok-read_solve-in-solve.ensures

pub returns-in_ok-read_sure-in-sure : goal.returns-in_ok-read_sure-in-sure
returns-in_ok-read_sure-in-sure c =
    let mapped : MatchOption c.in_ok-read_sure-in-sure.field-0 (c.map-in-sure.result ≡ None)
    (λ asked. c.map-in-sure.result ≡ Some (variant.Sure asked)) = search rules in
    named sure_kind c.args.name.now (map string_bytes c.args.words.now) c.in_ok-read_sure-in-sure.field-0
    c.map-in-sure.result c.in-sure.is mapped c.in_ok-read_sure-in-sure.ensures
