-- Actions that stand behind one another among the bytes of all.
use Rattle.std.proofs.Common.{◌≡◌, ◌∙◌, ◌≤◌, ℕ, ◌-◌, ◌==◌, Bool, true, false, cond, List, ◌++◌, length, take, drop}
use Rattle.std.proofs.Common.{Option, Some, None, option_map, refl, ap, arith, length-append, length-drop}
use Rattle.std.proofs.lemmas.List.{take-append-le, drop-append-le}
use Rattle.std.proofs.Math.Seq.{take-length, drop-append_seam}
use Rattle.std.specs.List.{slice_range}
use Rattle.std.specs.Option.{ForSome}
use Rattle.tra_reader.specs.declared.actions.Span.{Span}

-- bytes that are put behind the others change none of the others' spans
span_kept : (xs ys : List ℕ) (i j : ℕ) → i ≤ j → j ≤ length xs → slice_range (xs ++ ys) i j ≡ slice_range xs i j
span_kept xs ys i j some within =
    ap (λ l. take (j - i) l) (drop-append-le i xs ys (omega arith))
    ∙ take-append-le (j - i) (drop i xs) ys (omega (arith, length-drop i xs))

span_new : (xs ys : List ℕ) (i j : ℕ) → i ≡ length xs → j ≡ length (xs ++ ys) → slice_range (xs ++ ys) i j ≡ ys
span_new xs ys i j first last =
    let size : j - i ≡ length ys = omega (arith, length-append xs ys) in
    ap (λ k. take (j - i) (drop k (xs ++ ys))) first ∙ ap (λ l. take (j - i) l) (drop-append_seam xs ys)
    ∙ ap (λ k. take k ys) size ∙ take-length ys

abbrev pub in_bytes : List ℕ → Option Span → Option (List ℕ)
in_bytes bytes o = option_map (λ (span : Span). slice_range bytes span.start span.end) o

kept : (xs ys : List ℕ) (old : Option Span) → ForSome old (λ span. (span.start ≤ span.end) × (span.end ≤ length xs))
    → in_bytes (xs ++ ys) old ≡ in_bytes xs old
kept xs ys None inside = refl
kept xs ys (Some span) inside =
    let is = inside span refl in
    ap (λ l. Some l) (span_kept xs ys span.start span.end is.0 is.1)

-- one action more
pub put_behind : (xs ys zs : List ℕ) (i j place q : ℕ) (old new : Option Span) → zs ≡ xs ++ ys
    → i ≡ length xs → j ≡ length zs → new ≡ cond (place == q) (Some (record { start = i; end = j })) old
    → ForSome old (λ span. (span.start ≤ span.end) × (span.end ≤ length xs))
    → in_bytes zs new ≡ cond (place == q) (Some ys) (in_bytes xs old)
put_behind xs ys zs i j place q old new all first last is inside =
    ap (λ l. in_bytes l new) all ∙ ap (λ o. in_bytes (xs ++ ys) o) is ∙ by_place (place == q)
  where
    by_place : (b : Bool)
        → in_bytes (xs ++ ys) (cond b (Some (record { start = i; end = j })) old) ≡ cond b (Some ys) (in_bytes xs old)
    by_place true = ap (λ l. Some l) (span_new xs ys i j first (last ∙ ap (λ (l : List ℕ). length l) all))
    by_place false = kept xs ys old inside
