-- The lines of the states are read, and all that they tell.
use Rattle.std.proofs.Common.{◌≡◌, ◌∙◌, ◌+◌, ℕ, Bool, true, false, List, [], ◌∷◌, ◌++◌, length, Result, Ok, Err, refl}
use Rattle.std.proofs.Common.{ap, sym, subst, arith, eqb, append_assoc}
use Rattle.std.specs.Prelude.{All}
use Rattle.std.proofs.lemmas.Bool.{eqb-true}
use Rattle.std.proofs.lemmas.Bool.Decides.{nat_tests}
use Rattle.std.proofs.lemmas.List.{append-nil, length_push}
use Rattle.text_lines.specs.Text.{fields_of, is_nil, significant}
use Rattle.plan_text.specs.declared.fault.PlanFault.{PlanFault}
use Rattle.plan_text.specs.declared.fault.PlanCause.{PlanCause}
use Rattle.plan_text.specs.declared.fault.PlanCause.TheVariants.{MissingLine}
use Rattle.plan_text.specs.Said.{fault_at, then_at, entries_from_by}
use Rattle.plan_text.specs.Parts.{end_said}
use Rattle.plan_text.specs.Certificate.{AreLinesBy}
use Rattle.plan_text.proofs.StateLines.{more_from, all_read, entries_from-end}
use Rattle.plan_text.proofs.BlankEnds.{IsBlank, keep_line-some, kept, blank-end, end_said-blank}

-- what is said of a line is what it is
pub record AreSaid (Entry : Type 0) (line_said : ℕ → List ℕ → Result Entry PlanCause)
    (IsLine : ℕ → List ℕ → Entry → Type 0) : Type 0 where
  pub one : (s : ℕ) (line : List ℕ) (entry : Entry) → line_said s line ≡ Ok entry → IsLine s line entry
  pub told : (s : ℕ) (line : List ℕ) (entry : Entry) → IsLine s line entry → line_said s line ≡ Ok entry
  pub some : (s : ℕ) (line : List ℕ) (entry : Entry) → IsLine s line entry → is_nil (fields_of line) ≡ false

-- lines of which the first are those of these entries, and the others blank
pub record HasLines (Entry : Type 0) (IsLine : ℕ → List ℕ → Entry → Type 0) (s : ℕ) (lines : List (List ℕ))
    (entries : List Entry) : Type 0 where
  pub states : List (List ℕ)
  pub behind : List (List ℕ)
  pub whole : lines ≡ states ++ behind
  pub tells : AreLinesBy IsLine s states entries
  pub blank : All IsBlank behind

-- the entries before, and those of the lines
pub record AreRead (Entry : Type 0) (IsLine : ℕ → List ℕ → Entry → Type 0) (states : ℕ) (before : List Entry)
    (lines : List (List ℕ)) (entries : List Entry) : Type 0 where
  pub more : List Entry
  pub all : entries ≡ before ++ more
  pub count : length before + length more ≡ states
  pub has : HasLines Entry IsLine (length before) lines more

module _ (Entry : Type 0) (line_said : ℕ → List ℕ → Result Entry PlanCause)
    (IsLine : ℕ → List ℕ → Entry → Type 0) (law : AreSaid Entry line_said IsLine) where
  -- all states are read: the lines are blank
  read_end : (states : ℕ) (before : List Entry) (number : ℕ)
      (lines : List (List ℕ)) (entries : List Entry) → length before ≡ states
      → entries_from_by line_said states before number (significant lines) ≡ Ok entries
      → AreRead Entry IsLine states before lines entries
  read_end states before number lines entries full said =
      by (end_said number lines) refl (sym (entries_from-end Entry line_said states before full number lines) ∙ said)
    where
      by : (r : Result (Unit {0}) PlanFault) → end_said number lines ≡ r → all_read before r ≡ Ok entries
          → AreRead Entry IsLine states before lines entries
      by (Err fault) end same = cc
      by (Ok done) end same =
          let is : before ≡ entries = cc in
          record {
            more = [];
            all = sym is ∙ sym (append-nil before);
            count = omega (arith, full);
            has = record { states = []; behind = lines; whole = refl; tells = tt; blank = blank-end number lines end };
          }

  -- one line more
  read_more : (states : ℕ) (before : List Entry) (line : List ℕ) (lines : List (List ℕ))
      (entry : Entry) (entries : List Entry) → IsLine (length before) line entry
      → AreRead Entry IsLine states (before ++ entry ∷ []) lines entries
      → AreRead Entry IsLine states before (line ∷ lines) entries
  read_more states before line lines entry entries is read =
      let one_more = length_push before entry in
      record {
        more = entry ∷ read.more;
        all = read.all ∙ append_assoc before (entry ∷ []) read.more;
        count = omega (arith, one_more, read.count);
        has = record {
          states = line ∷ read.has.states;
          behind = read.has.behind;
          whole = ap (λ ls. line ∷ ls) read.has.whole;
          tells = (is, subst (λ s. AreLinesBy IsLine s read.has.states read.more) one_more read.has.tells);
          blank = read.has.blank;
        };
      }

  -- a line that is read
  read_line : (states : ℕ) (before : List Entry) (number : ℕ) (line : List ℕ)
      (lines rest : List (List ℕ)) (entries : List Entry) → eqb (length before) states ≡ false
      → entries_from_by line_said states before number (line ∷ rest) ≡ Ok entries
      → ((entry : Entry) → entries_from_by line_said states (before ++ entry ∷ []) (number + 1) rest ≡ Ok entries
      → AreRead Entry IsLine states (before ++ entry ∷ []) lines entries)
      → AreRead Entry IsLine states before (line ∷ lines) entries
  read_line states before number line lines rest entries fewer said behind =
      by (line_said (length before) line) refl (sym from ∙ said)
    where
      from : entries_from_by line_said states before number (line ∷ rest)
          ≡ then_at number (line_said (length before) line) (more_from line_said states before number rest)
      from = simp fewer

      by : (r : Result Entry PlanCause) → line_said (length before) line ≡ r
          → then_at number r (more_from line_said states before number rest) ≡ Ok entries
          → AreRead Entry IsLine states before (line ∷ lines) entries
      by (Ok entry) told same = read_more states before line lines entry entries
          (law.one (length before) line entry told) (behind entry same)
      by (Err cause) told same = cc

  pub entries_from-one : (states : ℕ) (before : List Entry) (number : ℕ) (lines : List (List ℕ))
      (entries : List Entry) → entries_from_by line_said states before number (significant lines) ≡ Ok entries
      → AreRead Entry IsLine states before lines entries
  entries_from-one states before number [] entries said = by (eqb (length before) states) refl
    where
      by : (v : Bool) → eqb (length before) states ≡ v → AreRead Entry IsLine states before [] entries
      by true full = read_end states before number [] entries (eqb-true (length before) states full) said
      by false fewer =
          let missing : entries_from_by line_said states before number [] ≡ Err (fault_at number MissingLine) =
          simp fewer in
          cc
  entries_from-one states before number (line ∷ lines) entries said =
      by (eqb (length before) states) refl
      (λ entry. entries_from-one states (before ++ entry ∷ []) (number + 1) lines entries)
    where
      by : (v : Bool) → eqb (length before) states ≡ v
          → ((entry : Entry) → entries_from_by line_said states (before ++ entry ∷ []) (number + 1) (significant lines)
          ≡ Ok entries → AreRead Entry IsLine states (before ++ entry ∷ []) lines entries)
          → AreRead Entry IsLine states before (line ∷ lines) entries
      by true full behind =
          read_end states before number (line ∷ lines) entries (eqb-true (length before) states full) said
      by false fewer behind =
          let missing : entries_from_by line_said states before number [] ≡ Err (fault_at number MissingLine) =
          simp fewer in
          let all = kept (List Entry) (λ ls. entries_from_by line_said states before number ls) entries
          (fault_at number MissingLine) line (significant lines) missing said in
          read_line states before number line lines (significant lines) entries fewer all behind

  -- the lines of these entries are read
  pub entries_from-told : (states : ℕ) (before : List Entry) (number : ℕ)
      (lines behind : List (List ℕ)) (entries : List Entry) → length before + length entries ≡ states
      → AreLinesBy IsLine (length before) lines entries → All IsBlank behind
      → entries_from_by line_said states before number (significant (lines ++ behind)) ≡ Ok (before ++ entries)
  entries_from-told states before number [] behind [] full tells blank =
      entries_from-end Entry line_said states before (omega (arith, full)) number behind
      ∙ ap (λ r. all_read before r) (end_said-blank number behind blank)
      ∙ ap (λ es. Ok es) (sym (append-nil before))
  entries_from-told states before number (line ∷ lines) behind (entry ∷ entries) full tells blank =
      let one_more = length_push before entry in
      let fewer : eqb (length before) states ≡ false = grind (arith, nat_tests) in
      let told = law.told (length before) line entry tells.0 in
      let rest : AreLinesBy IsLine (length (before ++ entry ∷ [])) lines entries =
      subst (λ s. AreLinesBy IsLine s lines entries) (sym one_more) tells.1 in
      let all = entries_from-told states (before ++ entry ∷ []) (number + 1) lines behind entries
      (omega (arith, one_more, full)) rest blank in
      ap (λ ls. entries_from_by line_said states before number ls)
      (keep_line-some line (significant (lines ++ behind)) (law.some (length before) line entry tells.0))
      ∙ (simp (fewer, told) all)
      ∙ ap (λ es. Ok es) (append_assoc before (entry ∷ []) entries)
  entries_from-told states before number [] behind (entry ∷ entries) full tells blank = elim tells [ ]
  entries_from-told states before number (line ∷ lines) behind [] full tells blank = elim tells [ ]
