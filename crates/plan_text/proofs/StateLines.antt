-- The lines of the states, one after another, and what stands behind them.
use Rattle.std.proofs.Common.{◌≡◌, ◌<◌, ◌+◌, ℕ, Bool, true, false, cond, List, [], ◌∷◌, ◌++◌, length, Ok, Err, Result}
use Rattle.std.proofs.Common.{ap, ◌∙◌, refl, arith, eqb, eq-eqb}
use Rattle.std.proofs.lemmas.Bool.Decides.{nat_tests}
use Rattle.text_lines.specs.Text.{fields_of, is_nil, keep_line, significant}
use Rattle.plan_text.specs.declared.fault.PlanFault.{PlanFault}
use Rattle.plan_text.specs.declared.fault.PlanCause.{PlanCause}
use Rattle.plan_text.specs.declared.fault.PlanCause.TheVariants.{BadLine, MissingLine}
use Rattle.plan_text.specs.Said.{fault_at, then_at, entries_from_by}
use Rattle.plan_text.specs.Parts.{first_said_by, end_said}

-- one more entry is read
abbrev pub more_from : {Entry : Type 0} → (ℕ → List ℕ → Result Entry PlanCause) → ℕ → List Entry → ℕ
    → List (List ℕ) → Entry → Result (List Entry) PlanFault
more_from line_said states before number lines entry =
    entries_from_by line_said states (before ++ entry ∷ []) (number + 1) lines

-- an entry, and what stands behind it
abbrev with_rest : {Entry : Type 0} → List (List ℕ) → Entry → Result (Entry × List (List ℕ)) PlanFault
with_rest lines entry = Ok (entry, lines)

module _ (Entry : Type 0) (line_said : ℕ → List ℕ → Result Entry PlanCause) (states : ℕ) (before : List Entry)
    (s : ℕ) (count : length before ≡ s) (some : s < states) where
  not_all : eqb s states ≡ false
  not_all = grind (arith, nat_tests)

  entries_from-line : (number : ℕ) (line : List ℕ) (lines : List (List ℕ))
      → entries_from_by line_said states before number (line ∷ lines)
      ≡ then_at number (line_said s line) (more_from line_said states before number lines)
  entries_from-line number line lines = simp (count, not_all)

  pub entries_from-more : (number : ℕ) (lines rest : List (List ℕ)) (entry : Entry)
      → first_said_by line_said s number lines ≡ Ok (entry, rest)
      → entries_from_by line_said states before number lines ≡ more_from line_said states before number rest entry
  entries_from-more number [] rest entry said = cc
  entries_from-more number (line ∷ lines) rest entry said =
      entries_from-line number line lines ∙ by (line_said s line) said
    where
      by : (r : Result Entry PlanCause) → then_at number r (with_rest lines) ≡ with_rest rest entry
          → then_at number r (more_from line_said states before number lines)
          ≡ more_from line_said states before number rest entry
      by (Ok e) same =
          let pair : (e, lines) ≡ (entry, rest) = cc in
          ap (λ (p : Entry × List (List ℕ)). more_from line_said states before number p.1 p.0) pair
      by (Err cause) same = cc

  pub entries_from-fault : (number : ℕ) (lines : List (List ℕ)) (fault : PlanFault)
      → first_said_by line_said s number lines ≡ Err fault
      → entries_from_by line_said states before number lines ≡ Err fault
  entries_from-fault number [] fault said =
      let same : fault_at number MissingLine ≡ fault = cc in
      simp (count, not_all) (ap (λ f. Err f) same)
  entries_from-fault number (line ∷ lines) fault said =
      entries_from-line number line lines ∙ by (line_said s line) said
    where
      by : (r : Result Entry PlanCause) → then_at number r (with_rest lines) ≡ Err fault
          → then_at number r (more_from line_said states before number lines) ≡ Err fault
      by (Ok e) same = cc
      by (Err cause) same =
          let is : fault_at number cause ≡ fault = cc in
          ap (λ f. Err f) is

-- all states are read
abbrev pub all_read : {Entry : Type 0} → List Entry → Result (Unit {0}) PlanFault → Result (List Entry) PlanFault
all_read entries (Ok done) = Ok entries
all_read entries (Err fault) = Err fault

module _ (Entry : Type 0) (line_said : ℕ → List ℕ → Result Entry PlanCause) (states : ℕ) (before : List Entry)
    (all : length before ≡ states) where
  all_is : eqb (length before) states ≡ true
  all_is = eq-eqb (length before) states all

  abbrev behind : ℕ → List (List ℕ) → Bool → Result (List Entry) PlanFault
  behind number lines blank =
      cond blank (entries_from_by line_said states before (number + 1) lines) (Err (fault_at number BadLine))

  entries_from-behind : (number : ℕ) (line : List ℕ) (lines : List (List ℕ))
      → entries_from_by line_said states before number (line ∷ lines) ≡ behind number lines (is_nil (fields_of line))
  entries_from-behind number line lines = ap (λ v. cond v (behind number lines (is_nil (fields_of line)))
      (then_at number (line_said (length before) line) (more_from line_said states before number lines))) all_is

  pub entries_from-end : (number : ℕ) (lines : List (List ℕ))
      → entries_from_by line_said states before number (significant lines) ≡ all_read before (end_said number lines)
  entries_from-end number [] = simp all_is
  entries_from-end number (line ∷ lines) =
      kept (significant lines) (is_nil (fields_of line)) refl (entries_from-end (number + 1) lines)
    where
      kept : (others : List (List ℕ)) (v : Bool) → is_nil (fields_of line) ≡ v
          → entries_from_by line_said states before (number + 1) others ≡ all_read before (end_said (number + 1) lines)
          → entries_from_by line_said states before number (keep_line line others)
          ≡ all_read before (cond v (end_said (number + 1) lines) (Err (fault_at number BadLine)))
      kept [] true blank rest = simp (blank, all_is) (simp all_is at rest)
      kept [] false blank rest = simp (blank, all_is)
      kept (other ∷ others) true blank rest =
          entries_from-behind number line (other ∷ others) ∙ ap (behind number (other ∷ others)) blank ∙ rest
      kept (other ∷ others) false blank rest =
          entries_from-behind number line (other ∷ others) ∙ ap (behind number (other ∷ others)) blank
