-- Lines behind blank ones.
use Rattle.std.proofs.Common.{◌≡◌, ◌≢◌, ℕ, List, [], ◌∷◌, ◌++◌, sym, ap, ◌∙◌, refl, subst, arith, append_assoc}
use Rattle.std.proofs.Common.{if◌then◌else◌, ◌+◌, ◌<◌}
use Rattle.std.proofs.lemmas.List.{append-nil, length-append}
use Rattle.text_lines.specs.Text.{fields_of, is_nil, keep_line, significant}
use Rattle.text_lines.specs.Blank.{AreBlank, BehindBlanks}

blank_dropped : (line : List ℕ) → fields_of line ≡ [] → keep_line line [] ≡ []
blank_dropped line none = ap (λ fields. if is_nil fields then [] else line ∷ []) none

significant-blank : (blanks : List (List ℕ)) → AreBlank blanks → significant blanks ≡ []
significant-blank [] are = refl
significant-blank (line ∷ blanks) are =
    ap (λ more. keep_line line more) (significant-blank blanks are.1) ∙ blank_dropped line are.0

AreBlank-append : (blanks : List (List ℕ)) (line : List ℕ) → AreBlank blanks → fields_of line ≡ []
    → AreBlank (blanks ++ line ∷ [])
AreBlank-append [] line are none = (none, tt)
AreBlank-append (first ∷ blanks) line are none = (are.0, AreBlank-append blanks line are.1 none)

-- a line with a field counts
counted : (line : List ℕ) (more : List (List ℕ)) → fields_of line ≢ [] → keep_line line more ≡ line ∷ more
counted line [] some = with_fields (fields_of line) some
  where
    with_fields : (fields : List (List ℕ)) → fields ≢ [] → (if is_nil fields then [] else line ∷ []) ≡ line ∷ []
    with_fields [] some = absurd (some refl)
    with_fields (field ∷ fields) some = refl
counted line (next ∷ more) some = refl

-- some line counts
abbrev IsSome : List (List ℕ) → Type 0
IsSome [] = ⊥
IsSome (line ∷ lines) = Unit {0}

kept : (line : List ℕ) (more : List (List ℕ)) → IsSome more → keep_line line more ≡ line ∷ more
kept line [] some = absurd some
kept line (next ∷ more) some = refl

some_counts : (blanks : List (List ℕ)) (line : List ℕ) (lines : List (List ℕ)) → fields_of line ≢ []
    → IsSome (significant (blanks ++ line ∷ lines))
some_counts [] line lines some = subst (λ more. IsSome more) (sym (counted line (significant lines) some)) tt
some_counts (first ∷ blanks) line lines some =
    subst (λ more. IsSome more)
    (sym (kept first (significant (blanks ++ line ∷ lines)) (some_counts blanks line lines some))) tt

module _ (Holds : List (List ℕ) → Type 0) where
  pub at_end : (count : ℕ) → Holds [] → BehindBlanks count [] Holds
  at_end count holds blanks are many =
      subst Holds (sym (ap significant (append-nil blanks) ∙ significant-blank blanks are)) holds

  pub blank_waits : (count : ℕ) (line : List ℕ) (lines : List (List ℕ)) → fields_of line ≡ []
      → BehindBlanks (count + 1) lines Holds → BehindBlanks count (line ∷ lines) Holds
  blank_waits count line lines none behind blanks are many =
      subst (λ text. Holds (significant text)) (append_assoc blanks (line ∷ []) lines)
      (behind (blanks ++ line ∷ []) (AreBlank-append blanks line are none)
      (omega (arith, length-append blanks (line ∷ []), many)))

  pub blank_refused : (count : ℕ) (line : List ℕ) (lines : List (List ℕ)) → 0 < count → fields_of line ≢ []
      → ((blank : List ℕ) (more : List (List ℕ)) → fields_of blank ≡ [] → Holds (blank ∷ more))
      → BehindBlanks count (line ∷ lines) Holds
  blank_refused count line lines positive some refused [] are many = absurd (omega (arith, many, positive))
  blank_refused count line lines positive some refused (blank ∷ blanks) are many =
      subst Holds (sym (kept blank (significant (blanks ++ line ∷ lines)) (some_counts blanks line lines some)))
      (refused blank (significant (blanks ++ line ∷ lines)) are.0)
