use Rattle.std.proofs.Common.{◌≡◌, ◌≤◌, ◌^◌, ℕ, Option, None, rules, codes, subst, arith}
use Rattle.clap.specs.Words.{Text}
use Rattle.command_words.specs.Grammar.{value_in}
use Rattle.command_words.specs.Words.{GivesNumber}
use Rattle.command_words.proofs.said.make_words.Goals as goal

pub returns-in_err-given_number : goal.returns-in_err-given_number
returns-in_err-given_number c =
    let none : c.from_residual-in_err-given_number.result ≡ None = search rules in
    let large : (n : ℕ) → GivesNumber (value_in c.args.matches.now (codes "seed")) n → 2 ^ 32 ≤ n =
    subst (λ (value : Option Text). (n : ℕ) → GivesNumber value n → 2 ^ 32 ≤ n) c.get_str.ensures
    c.in_err-given_number.ensures in
    rw none (λ make said range. absurd (omega (arith, large make.seed said.seed)))

pub returns-in_err-given_number-2 : goal.returns-in_err-given_number-2
returns-in_err-given_number-2 c =
    let none : c.from_residual-in_err-given_number-2.result ≡ None = search rules in
    let large : (n : ℕ) → GivesNumber (value_in c.args.matches.now (codes "states")) n → 2 ^ 32 ≤ n =
    subst (λ (value : Option Text). (n : ℕ) → GivesNumber value n → 2 ^ 32 ≤ n) c.get_str-2.ensures
    c.in_err-given_number-2.ensures in
    rw none (λ make said range. absurd (omega (arith, large make.states said.states)))
