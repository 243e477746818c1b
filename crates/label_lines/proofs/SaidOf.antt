-- What the lines say of a state.
use Rattle.std.proofs.Common.{◌≡◌, ℕ, cond, List, [], ◌∷◌, ◌++◌, sym, ap, ◌∙◌, eqb, ◌&&◌, ◌||◌, inl, inr, append_assoc}
use Rattle.std.proofs.lemmas.Bool.{cases_Bool}
use Rattle.std.specs.List.{list_any}
use Rattle.std.proofs.lemmas.List.{append-nil}
use Rattle.std.proofs.lemmas.List.Folds.{list_any-append}
use Rattle.label_lines.specs.Lines.{StateLine, said_of}
use Rattle.label_lines.specs.Texts.{is_said}

-- what one line more says
pub said_of-push : (lines : List StateLine) (line : StateLine) (s : ℕ)
    → said_of (lines ++ line ∷ []) s ≡ said_of lines s ++ cond (eqb line.state s) line.numbers []
said_of-push [] line s = elim (cases_Bool (eqb line.state s)) [
  | inl h ↦ ap (λ v. cond v (line.numbers ++ []) []) h ∙ append-nil line.numbers
      ∙ sym (ap (λ v. cond v line.numbers []) h)
  | inr h ↦ ap (λ v. cond v (line.numbers ++ []) []) h ∙ sym (ap (λ v. cond v line.numbers []) h)
]
said_of-push (first ∷ lines) line s =
    let rest = said_of-push lines line s in
    elim (cases_Bool (eqb first.state s)) [
      | inl h ↦
          ap (λ v. cond v (first.numbers ++ said_of (lines ++ line ∷ []) s) (said_of (lines ++ line ∷ []) s)) h
          ∙ ap (λ (t : List ℕ). first.numbers ++ t) rest
          ∙ sym (append_assoc first.numbers (said_of lines s) (cond (eqb line.state s) line.numbers []))
          ∙ sym (ap (λ v.
          cond v (first.numbers ++ said_of lines s) (said_of lines s) ++ cond (eqb line.state s) line.numbers []) h)
      | inr h ↦
          ap (λ v. cond v (first.numbers ++ said_of (lines ++ line ∷ []) s) (said_of (lines ++ line ∷ []) s)) h
          ∙ rest
          ∙ sym (ap (λ v.
          cond v (first.numbers ++ said_of lines s) (said_of lines s) ++ cond (eqb line.state s) line.numbers []) h)
    ]

pub is_said-push : (lines : List StateLine) (line : StateLine) (number s : ℕ) → is_said (lines ++ line ∷ []) number s
    ≡ (is_said lines number s || (eqb line.state s && list_any (λ other. eqb other number) line.numbers))
is_said-push lines line number s =
    ap (λ (t : List ℕ). list_any (λ other. eqb other number) t) (said_of-push lines line s)
    ∙ list_any-append (λ other. eqb other number) (said_of lines s) (cond (eqb line.state s) line.numbers [])
    ∙ ap (λ v. is_said lines number s || v) (elim (cases_Bool (eqb line.state s)) [
      | inl h ↦ ap (λ v. list_any (λ other. eqb other number) (cond v line.numbers [])) h
          ∙ sym (ap (λ v. v && list_any (λ other. eqb other number) line.numbers) h)
      | inr h ↦ ap (λ v. list_any (λ other. eqb other number) (cond v line.numbers [])) h
          ∙ sym (ap (λ v. v && list_any (λ other. eqb other number) line.numbers) h)
    ])
