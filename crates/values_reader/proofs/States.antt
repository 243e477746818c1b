-- The state of a line, as far as 64 bits go.
use Rattle.std.proofs.Common.{◌≡◌, ◌<◌, ◌^◌, ◌∙◌, ℕ, Bool, true, Option, Some, None, Ok, Err, ap, cond, arith}
use Rattle.std.specs.Prelude.{nat_lt, option_map}
use Rattle.std.proofs.lemmas.Bool.Decides.{nat_tests}
use Rattle.text_lines.specs.Text.{saturated}
use Rattle.values_reader.specs.declared.fault.ValuesCause.TheVariants.{DoubleState, StateOutOfRange}
use Rattle.values_reader.specs.Faults.{new_state}

-- a state below the number of states is new where it is not named
pub new_state-inside : (n : ℕ) (named : ℕ → Bool) (said : Option ℕ) (s : ℕ) (is_named : Bool)
    → option_map saturated said ≡ Some s → s < n → n < 2 ^ 32 → named s ≡ is_named
    → new_state n named said ≡ cond is_named (Err DoubleState) (Ok s)
new_state-inside n named None s is_named is below few flag = cc (is)
new_state-inside n named (Some m) s is_named is below few flag =
    let at : saturated m ≡ s = cc (is) in
    let same : m ≡ s = omega (arith, at) in
    let inside : nat_lt s n ≡ true = grind (arith, nat_tests) in
    ap (λ (k : ℕ). new_state n named (Some k)) same
    ∙ ap (λ t. cond t (cond (named s) (Err DoubleState) (Ok s)) (Err StateOutOfRange)) inside
    ∙ ap (λ t. cond t (Err DoubleState) (Ok s)) flag
