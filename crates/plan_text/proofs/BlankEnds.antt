-- Lines of which the last are blank.
use Rattle.std.proofs.Common.{◌≡◌, ◌∙◌, ◌+◌, ℕ, Bool, true, false, cond, List, [], ◌∷◌, Result, Ok, Err, refl, ap}
use Rattle.std.proofs.Common.{arith}
use Rattle.std.specs.Prelude.{All}
use Rattle.std.proofs.lemmas.List.Elements.{All-nil, All-cons, All-tail}
use Rattle.text_lines.specs.Text.{fields_of, keep_line, is_nil}
use Rattle.plan_text.specs.declared.fault.PlanFault.{PlanFault}
use Rattle.plan_text.specs.declared.fault.PlanCause.TheVariants.{BadLine}
use Rattle.plan_text.specs.Said.{fault_at}
use Rattle.plan_text.specs.Parts.{end_said}

-- no field stands in the line
abbrev pub IsBlank : List ℕ → Type 0
IsBlank line = fields_of line ≡ []

-- a line that is not blank stays
pub keep_line-some : (line : List ℕ) (lines : List (List ℕ)) → is_nil (fields_of line) ≡ false
    → keep_line line lines ≡ line ∷ lines
keep_line-some line [] some = rw some refl
keep_line-some line (next ∷ lines) some = refl

-- a line stays where what is said of its place has no fault
pub kept : (X : Type 0) (say : List (List ℕ) → Result X PlanFault) (x : X) (fault : PlanFault) (line : List ℕ)
    (lines : List (List ℕ)) → say [] ≡ Err fault → say (keep_line line lines) ≡ Ok x → say (line ∷ lines) ≡ Ok x
kept X say x fault line (next ∷ lines) none said = said
kept X say x fault line [] none said = by (is_nil (fields_of line)) said
  where
    by : (v : Bool) → say (cond v [] (line ∷ [])) ≡ Ok x → say (line ∷ []) ≡ Ok x
    by true same = cc
    by false same = same

pub blank-end : (number : ℕ) (lines : List (List ℕ)) → end_said number lines ≡ Ok tt → All IsBlank lines
blank-end number [] said = All-nil IsBlank
blank-end number (line ∷ lines) said = by (fields_of line) refl said (blank-end (number + 1) lines)
  where
    by : (fields : List (List ℕ)) → fields_of line ≡ fields
        → cond (is_nil fields) (end_said (number + 1) lines) (Err (fault_at number BadLine)) ≡ Ok tt
        → (end_said (number + 1) lines ≡ Ok tt → All IsBlank lines) → All IsBlank (line ∷ lines)
    by [] is rest behind = All-cons IsBlank line lines is (behind rest)
    by (field ∷ fields) is rest behind = cc

pub end_said-blank : (number : ℕ) (lines : List (List ℕ)) → All IsBlank lines → end_said number lines ≡ Ok tt
end_said-blank number [] are = refl
end_said-blank number (line ∷ lines) are =
    let is : fields_of line ≡ [] = are 0 line (omega arith) in
    ap (λ fields. cond (is_nil fields) (end_said (number + 1) lines) (Err (fault_at number BadLine))) is
    ∙ end_said-blank (number + 1) lines (All-tail IsBlank line lines are)
