use Rattle.std.proofs.Common.{rules, ◌≡◌, ◌∙◌, List, ◌∷◌, ◌++◌, [], inr, refl, sym, ap}
use Rattle.transition_lines.specs.declared.line.Transition.{Transition}
use Rattle.transition_lines.specs.Lines.{Row}
use Rattle.transition_lines.specs.Order.{IsWithin}
use Rattle.transition_lines.specs.Answers.{row_place}
use Rattle.transition_lines.proofs.Rows.{clashes_is}
use Rattle.std.proofs.lemmas.List.Elements.{All-push}
use Rattle.tra_reader.proofs.Steps.{transitions_push}
use Rattle.tra_reader.proofs.any_order.UnorderedRows.add.Goals as goal

pub returns-then-branch-clause-fault : goal.returns-then-branch-clause-fault
returns-then-branch-clause-fault c = λ rows holds told is.
    let row : Row = record { transition = c.args.transition; action = c.args.action.now } in
    let at : row_place row ≡ c.place-place.result = search rules in
    let noted = c.in_ok-note.ensures rows row (holds.transitions ∙ sym c.deref.ensures.value) at refl holds.notes in
    let same : told ≡ c.of_clash.result = cc in
    inr (
      clashes_is c.args.self.now.header.states rows row holds.within c.requires.choice_in
          ∙ sym noted.0 ∙ c.if-branch.true,
      same ∙ c.of_clash.ensures,
    )

pub returns-clause-ok : goal.returns-clause-ok
returns-clause-ok c =
    let row : Row = record { transition = c.args.transition; action = c.args.action.now } in
    let at : row_place row ≡ c.place-place.result = search rules in
    let pushed : c.push.new.self.items ≡ c.args.self.now.transitions.items ++ c.args.transition ∷ [] = search rules in (
      refl,
      λ rows holds.
          let noted =
          c.in_ok-note.ensures rows row (holds.transitions ∙ sym c.deref.ensures.value) at refl holds.notes in (
            clashes_is c.args.self.now.header.states rows row holds.within c.requires.choice_in ∙ sym noted.0
                ∙ c.if-branch.false,
            record {
              transitions = transitions_push rows row
                  ∙ ap (λ (ts : List Transition). ts ++ c.args.transition ∷ []) holds.transitions ∙ sym pushed;
              within = All-push (λ (r : Row). IsWithin c.args.self.now.header.states r.transition) rows row
                  holds.within c.requires;
              notes = noted.1;
            },
          ),
    )
