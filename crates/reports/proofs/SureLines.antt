-- The lines of the marked states below a state.
use Rattle.std.proofs.Common.{◌≡◌, ◌∙◌, ℕ, ◌+◌, Bool, true, false, List, [], ◌∷◌, ◌++◌, map, cond, ap, sym, refl, arith}
use Rattle.std.proofs.Common.{append-nil}
use Rattle.std.specs.Prelude.{if◌then◌else◌}
use Rattle.std.specs.List.{filter, flat_map, range_with_len}
use Rattle.std.proofs.lemmas.Grind.{flat_map-append}
use Rattle.std.proofs.lemmas.List.FromFn.{filter_of_map_range_with_len_more}
use Rattle.reports.specs.Sure.{is_marked, state_line}

-- the lines of the marked states below this one
abbrev pub lines_before : List Bool → ℕ → List ℕ
lines_before marks s = flat_map state_line (filter (is_marked marks) (range_with_len 0 s))

all-same : (xs : List ℕ) → map (λ x. x) xs ≡ xs
all-same [] = refl
all-same (x ∷ xs) = ap (λ ys. x ∷ ys) (all-same xs)

one_line : (marked : Bool) (s : ℕ)
    → flat_map state_line (cond marked (s ∷ []) []) ≡ (if marked then state_line s else [])
one_line true s = append-nil (state_line s)
one_line false s = refl

-- one state more
pub lines-more : (marks : List Bool) (s : ℕ)
    → lines_before marks (s + 1) ≡ lines_before marks s ++ (if is_marked marks s then state_line s else [])
lines-more marks s =
    let p : ℕ → Bool = is_marked marks in
    let more : filter p (range_with_len 0 (s + 1)) ≡ filter p (range_with_len 0 s) ++ cond (p s) (s ∷ []) [] =
    ap (filter p) (sym (all-same (range_with_len 0 (s + 1))))
    ∙ filter_of_map_range_with_len_more p (λ x. x) 0 s s (omega arith)
    ∙ ap (λ ys. filter p ys ++ cond (p s) (s ∷ []) []) (all-same (range_with_len 0 s)) in
    ap (flat_map state_line) more ∙ flat_map-append state_line (filter p (range_with_len 0 s)) (cond (p s) (s ∷ []) [])
    ∙ ap (λ ys. lines_before marks s ++ ys) (one_line (p s) s)
