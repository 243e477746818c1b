-- A line of an owner file behind those before it.
use Rattle.std.proofs.Common.{◌≡◌, ◌<◌, ◌++◌, ◌∷◌, [], ℕ, Bool, true, false, cond, List, length, get_or, set, All}
use Rattle.std.proofs.Common.{Option, Some, None, Ok, Err, Result, MatchResult, sym, ◌∙◌, refl, subst}
use Rattle.std.specs.Option.{unwrap_or}
use Rattle.label_lines.specs.declared.kind.FileKind.TheVariants.{OwnerFile}
use Rattle.label_lines.specs.declared.faults.LabCause.{LabCause}
use Rattle.label_lines.specs.declared.faults.LabCause.TheVariants.{TwoOwners}
use Rattle.label_lines.specs.Header.{Item, and_then}
use Rattle.label_lines.specs.Lines.{StateLine, numbered, state_line, known_fields, with_line, add_line}
use Rattle.label_reader.specs.inside.Owned.{all_at, owner_behind, AreRead}
use Rattle.label_reader.proofs.Bodies.{IsAdded, add_line-known, add_line-unknown}
use Rattle.label_lines.proofs.KnownLines.{line_with, known_line-known, known_line-fault, known_fields-all}
use Rattle.label_reader.proofs.Owning.{owner_next, owner_next-known, with_line-agrees, with_line-clashes, AreRead-line}

owner_is : (k : Result (Unit {0}) LabCause) (v : Bool) (next owner : Option ℕ) (s : ℕ)
    → Ok owner ≡ and_then {X = Unit {0}} k (λ _. cond v (Ok next) (Err (TwoOwners s))) → owner ≡ next
owner_is (Err cause) v next owner s e = cc
owner_is (Ok u) false next owner s e = cc
owner_is (Ok u) true next owner s e = cc

-- the owner behind a line is one of the players
pub owner_behind-known : (items : List Item) (owners : List (Option ℕ)) (s : ℕ) (fields : List (List ℕ))
    (owner : Option ℕ) → s < length owners → Ok owner ≡ owner_behind items s (get_or owners s None) fields
    → All (λ o. unwrap_or o 0 < length items) owners → All (λ o. unwrap_or o 0 < length items) (set owners s owner)
owner_behind-known items owners s fields owner small e known =
    let next = owner_next items owners s fields in
    let P : Option ℕ → Type 0 = λ o. All (λ p. unwrap_or p 0 < length items) (set owners s o) in
    subst P (sym (owner_is (known_fields items fields) (all_at items next fields) next owner s e))
    (owner_next-known items owners s fields small known)

module _ (n : ℕ) (items : List Item) (line : List ℕ) (s : ℕ) (fields : List (List ℕ))
    (is : state_line line ≡ numbered (Some s) fields) (range : s < n)
    (read : List StateLine) (owners : List (Option ℕ)) (before : AreRead n items read owners) where
  abbrev pub Owns : Option ℕ → List StateLine → Type 0
  Owns owner more = AreRead n items more (set owners s owner)

  abbrev next : Option ℕ
  next = owner_next items owners s fields

  known : known_fields items fields ≡ Ok tt
      → add_line OwnerFile n items read line ≡ with_line OwnerFile read (line_with s fields)
  known k = add_line-known OwnerFile n items read line (line_with s fields)
      (known_line-known n items line s fields is range k)

  agrees : known_fields items fields ≡ Ok tt → all_at items next fields ≡ true
      → IsAdded OwnerFile n items read line (Owns next)
  agrees k agreed =
      let all = known_fields-all items fields k in
      record {
        more = read ++ line_with s fields ∷ [];
        is = known k ∙ with_line-agrees n items s fields read owners range all before agreed;
        holds = AreRead-line n items s fields read owners range all before agreed;
      }

  clashes : known_fields items fields ≡ Ok tt → all_at items next fields ≡ false
      → add_line OwnerFile n items read line ≡ Err (TwoOwners s)
  clashes k clash = known k
      ∙ with_line-clashes n items s fields read owners range (known_fields-all items fields k) before clash

  abbrev Answers : Result (Option ℕ) LabCause → Type 0
  Answers r = MatchResult r (λ owner. IsAdded OwnerFile n items read line (Owns owner))
      (λ cause. add_line OwnerFile n items read line ≡ Err cause)

  by : (k : Result (Unit {0}) LabCause) (v : Bool) → k ≡ known_fields items fields → v ≡ all_at items next fields
      → Answers (and_then k (λ _. cond v (Ok next) (Err (TwoOwners s))))
  by (Err cause) v e a =
      add_line-unknown OwnerFile n items read line cause (known_line-fault n items line s fields cause is range (sym e))
  by (Ok u) true e a = agrees (sym e) (sym a)
  by (Ok u) false e a = clashes (sym e) (sym a)

  -- the owner behind a line is that of the lines with it, or the line has the fault that is found
  pub owner_behind-line : (r : Result (Option ℕ) LabCause)
      → r ≡ owner_behind items s (get_or owners s None) fields → Answers r
  owner_behind-line r e =
      let P : Result (Option ℕ) LabCause → Type 0 = λ t. Answers t in
      subst P (sym e) (by (known_fields items fields) (all_at items next fields) refl refl)
