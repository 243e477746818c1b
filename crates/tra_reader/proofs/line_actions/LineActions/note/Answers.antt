use Rattle.std.proofs.Common.{rules, ◌≡◌, ◌∙◌, Bool, true, false, List, [], ◌∷◌, ◌++◌, sym, subst}
use Rattle.std.proofs.lemmas.List.{nil_from_length}
use Rattle.std.proofs.lemmas.Result.{IfOk-weaker}
use Rattle.transition_lines.specs.Lines.{Row}
use Rattle.transition_lines.specs.Text.{transitions}
use Rattle.transition_lines.specs.Answers.{clashes_at, row_place}
use Rattle.tra_reader.specs.inside.Noted.{Notes, NotesIf, NotesLines}
use Rattle.tra_reader.proofs.Silence.{silent_clash, silent_push}
use Rattle.tra_reader.proofs.line_actions.LineActions.note.Goals as goal

pub returns-then-is_empty : goal.returns-then-is_empty
returns-then-is_empty c = λ rows row is at says notes.
    let first = c.args.self.now.first in
    let silent : c.args.self.now.silent ≡ true = search rules in
    let none : c.args.action.now ≡ [] = nil_from_length c.args.action.now (search rules) in
    let P : Bool → Type 0 = λ b. NotesIf b first rows in
    let Q : Bool → Type 0 = λ b. NotesIf b first (rows ++ row ∷ []) in
    let parts : NotesIf true first rows = subst P silent notes in (
      sym (silent_clash rows row parts.1 (says ∙ none)),
      subst Q (sym silent) (parts.0, silent_push rows row parts.1 (says ∙ none)),
    )

pub returns : goal.returns
returns c =
    let told : c.note_all.new.self.silent ≡ false = search rules in
    IfOk-weaker c.note.result
    (λ clash. (rows : List Row) (row : Row) → row_place row ≡ c.args.place → row.action ≡ c.args.action.now
    → Notes c.note_all.new.self.first rows → (clash ≡ clashes_at rows row) × Notes c.note.new.self (rows ++ row ∷ []))
    (λ clash. (rows : List Row) (row : Row) → transitions rows ≡ c.args.before.now → row_place row ≡ c.args.place
    → row.action ≡ c.args.action.now → NotesLines c.args.self.now rows
    → (clash ≡ clashes_at rows row) × NotesIf c.note_all.new.self.silent c.note.new.self (rows ++ row ∷ []))
    (λ clash noted rows row is at says notes.
    let more = noted rows row at says (c.in_ok-note_all.ensures.noted rows is notes) in
    let Q : Bool → Type 0 = λ b. NotesIf b c.note.new.self (rows ++ row ∷ []) in
    (more.0, subst Q (sym told) more.1))
    c.note.ensures
