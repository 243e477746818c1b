-- The initial states are states.
use Rattle.std.proofs.Common.{◌≡◌, ◌<◌, ◌≤◌, ◌+◌, ℕ, Bool, true, false, List, [], ◌∷◌, length, All, if◌then◌else◌}
use Rattle.std.proofs.Common.{bytes_eq, arith}
use Rattle.std.proofs.lemmas.List.Elements.{All-nil, All-cons, All-head, All-tail, All-weaker}
use Rattle.label_lines.specs.Labels.{Label, Labelling, IsLabelling, marks_of, marked_from, states_with}

weaker : (n m : ℕ) → n ≤ m → (xs : List ℕ) → All (λ s. s < n) xs → All (λ s. s < m) xs
weaker n m small xs all = All-weaker (λ s. s < n) (λ s. s < m) (λ s low. omega (arith, low, small)) xs all

-- marked states are below the end of the marks
marked_below : (k : ℕ) (marks : List Bool) → All (λ s. s < k + length marks) (marked_from k marks)
marked_below k [] = All-nil (λ s. s < k + 0)
marked_below k (true ∷ marks) =
    All-cons (λ s. s < k + length (true ∷ marks)) k (marked_from (k + 1) marks) (omega arith)
    (weaker (k + 1 + length marks) (k + length (true ∷ marks)) (omega arith) (marked_from (k + 1) marks)
    (marked_below (k + 1) marks))
marked_below k (false ∷ marks) = weaker (k + 1 + length marks) (k + length (false ∷ marks)) (omega arith)
    (marked_from (k + 1) marks) (marked_below (k + 1) marks)

marks_short : (n : ℕ) (name : List ℕ) (labels : List Label) → All (λ label. length label.marks ≡ n) labels
    → length (marks_of labels name) ≤ n
marks_short n name [] all = omega arith
marks_short n name (label ∷ labels) all =
    elim (bytes_eq name label.name) as (λ b. length (if b then label.marks else marks_of labels name) ≤ n) [
      | true ↦ omega (arith, All-head (λ (l : Label). length l.marks ≡ n) label labels all)
      | false ↦ marks_short n name labels (All-tail (λ (l : Label). length l.marks ≡ n) label labels all)
    ]

-- a label has no mark behind the states
pub marks_within : (l : Labelling) (name : List ℕ) → IsLabelling l → length (marks_of l.labels name) ≤ l.states
marks_within l name is = marks_short l.states name l.labels is.lengths

-- the states with a label are states
pub states_inside : (l : Labelling) (name : List ℕ) (n : ℕ) → IsLabelling l → l.states ≡ n
    → All (λ s. s < n) (states_with l name)
states_inside l name n is same =
    let marks = marks_of l.labels name in
    weaker (0 + length marks) n (omega (arith, marks_within l name is, same)) (marked_from 0 marks)
    (marked_below 0 marks)
