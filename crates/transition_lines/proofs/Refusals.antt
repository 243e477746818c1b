-- What is said of the fields of a line whose transition is refused.
use Rattle.std.proofs.Common.{◌≡◌, ◌∙◌, ℕ, List, [], ◌∷◌, ap, sym, Option, Some, Err}
use Rattle.std.specs.Borrow.{Bor}
use Rattle.std.specs.Option.{option_map}
use Rattle.text_lines.specs.Text.{fields_of, number_of, saturated}
use Rattle.text_lines.specs.Numbers.{BeginsWithNumber}
use Rattle.fractions.specs.Number.{number_said}
use Rattle.transition_lines.specs.declared.fault.TraCause.{TraCause}
use Rattle.transition_lines.specs.Lines.{row_with, transition_said, parts_said, mdp_parts}
use Rattle.transition_lines.specs.Answers.{IsLastField}

fields_refused : (n : ℕ) (i k j x : List ℕ) (behind : List (List ℕ)) (action : Bor (List ℕ)) (cause : TraCause)
    → IsLastField (Some action) behind
    → transition_said n (number_of i) (number_of k) (number_of j) (number_said x) ≡ Err cause
    → parts_said n (mdp_parts (i ∷ k ∷ j ∷ x ∷ behind)) ≡ Err cause
fields_refused n i k j x [] action cause last refused = ap (row_with []) refused
fields_refused n i k j x (a ∷ []) action cause last refused = ap (row_with a) refused
fields_refused n i k j x (a ∷ b ∷ fields) action cause last refused = absurd last

pub mdp_refused : (n : ℕ) (line : List ℕ) (i k j : Option ℕ) (behind_i behind_k behind_j x behind : List ℕ)
    (action : Bor (List ℕ)) (cause : TraCause)
    → BeginsWithNumber line i behind_i → BeginsWithNumber behind_i k behind_k → BeginsWithNumber behind_k j behind_j
    → fields_of behind_j ≡ x ∷ fields_of behind → IsLastField (Some action) (fields_of behind)
    → ((source choice destination : Option ℕ) → i ≡ option_map saturated source → k ≡ option_map saturated choice
    → j ≡ option_map saturated destination
    → Err cause ≡ transition_said n source choice destination (number_said x))
    → parts_said n (mdp_parts (fields_of line)) ≡ Err cause
mdp_refused n line i k j behind_i behind_k behind_j x behind action cause at_i at_k at_j at_x last said =
    let fields : fields_of line ≡ at_i.field ∷ at_k.field ∷ at_j.field ∷ x ∷ fields_of behind =
    at_i.fields
    ∙ ap (λ t. at_i.field ∷ t) (at_k.fields ∙ ap (λ t. at_k.field ∷ t) (at_j.fields ∙ ap (λ t. at_j.field ∷ t) at_x)) in
    ap (λ t. parts_said n (mdp_parts t)) fields
    ∙ fields_refused n at_i.field at_k.field at_j.field x (fields_of behind) action cause last
    (sym
    (said (number_of at_i.field) (number_of at_k.field) (number_of at_j.field) at_i.number at_k.number at_j.number))
