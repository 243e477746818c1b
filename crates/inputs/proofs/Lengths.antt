-- What a text says, by how long it is.
use Rattle.std.proofs.Common.{◌≡◌, ◌<◌, ◌≤◌, ℕ, suc, Bool, true, false, cond, List, length, replicate, Option, Some}
use Rattle.std.proofs.Common.{None, refl, sym, ap, subst, arith}
use Rattle.std.specs.Prelude.{nat_lt}
use Rattle.std.proofs.lemmas.Bool.Decides.{nat_tests}
use Rattle.std.proofs.lemmas.List.{length-replicate}
use Rattle.text_lines.specs.Limits.{most_bytes}
use Rattle.output.specs.declared.refusal.Text.{Text}
use Rattle.output.specs.declared.refusal.Refusal.TheVariants.{TooLong}
use Rattle.inputs.specs.Said.{Refuses, Denoted}
use Rattle.inputs.specs.Texts.{text_said}

pub test_le : (a b : ℕ) → b ≤ a → nat_lt a b ≡ false
test_le a b h = grind (arith, nat_tests)

pub test_lt : (a b : ℕ) → a < b → nat_lt a b ≡ true
test_lt a b h = grind (arith, nat_tests)

pub le_test : (a b : ℕ) → nat_lt a b ≡ false → b ≤ a
le_test a b e = grind (arith, nat_tests)

-- a text within the limit says its bytes
pub short_says : (text : Text) (bytes : List ℕ) → length bytes ≤ most_bytes
    → text_said text (Some bytes) ≡ Denoted bytes
short_says text bytes short =
    ap (λ b. cond b (Refuses (TooLong text)) (Denoted bytes)) (test_le most_bytes (length bytes) short)

-- a longer one is refused
pub long_refuses : (text : Text) (bytes : List ℕ) → most_bytes < length bytes
    → text_said text (Some bytes) ≡ Refuses (TooLong text)
long_refuses text bytes long =
    ap (λ b. cond b (Refuses (TooLong text)) (Denoted bytes)) (test_lt most_bytes (length bytes) long)

-- a source that says bytes is a text of these, within the limit
pub says_short : (text : Text) (source : Option (List ℕ)) (bytes : List ℕ) → text_said text source ≡ Denoted bytes
    → (source ≡ Some bytes) × (length bytes ≤ most_bytes)
says_short text None bytes says = cc (says)
says_short text (Some other) bytes says = by_test (nat_lt most_bytes (length other)) refl says
  where
    by_test : (b : Bool) → nat_lt most_bytes (length other) ≡ b
        → cond b (Refuses (TooLong text)) (Denoted other) ≡ Denoted bytes
        → (Some other ≡ Some bytes) × (length bytes ≤ most_bytes)
    by_test true is says = cc (says)
    by_test false is says =
        let same : other ≡ bytes = cc (says) in (
          ap (λ (b : List ℕ). Some b) same,
          subst (λ (b : List ℕ). length b ≤ most_bytes) same (le_test most_bytes (length other) is),
        )

-- there is a text of more bytes than any number
pub longer : (n : ℕ) → (bytes : List ℕ) × (n < length bytes)
longer n = (replicate (suc n) 0, subst (λ (m : ℕ). n < m) (sym (length-replicate (suc n) 0)) (omega arith))
