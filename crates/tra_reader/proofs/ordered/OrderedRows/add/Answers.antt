use Rattle.std.proofs.Common.{rules, ◌≡◌, ◌∙◌, ◌+◌, List, inr, refl, sym, ap, subst}
use Rattle.std.proofs.lemmas.List.{length_push}
use Rattle.transition_lines.specs.declared.line.Transition.{Transition}
use Rattle.transition_lines.specs.Lines.{Row}
use Rattle.transition_lines.specs.Order.{IsWithin}
use Rattle.transition_lines.specs.Answers.{row_place}
use Rattle.transition_lines.specs.Text.{transitions}
use Rattle.tra_reader.specs.inside.GrowingGames.{HoldsInOrder}
use Rattle.transition_lines.proofs.Rows.{clashes_is}
use Rattle.std.proofs.lemmas.List.Elements.{All-push}
use Rattle.tra_reader.proofs.Steps.{transitions_push}
use Rattle.tra_reader.proofs.UnderWay.{under_way_further}
use Rattle.tra_reader.proofs.ordered.OrderedRows.add.Goals as goal

pub returns-then-branch-clause-fault : goal.returns-then-branch-clause-fault
returns-then-branch-clause-fault c = λ rows holds told is.
    let row : Row = record { transition = c.args.transition.now; action = c.args.action.now } in
    let n = c.args.self.now.header.states in
    let at : row_place row ≡ c.place-place.result = search rules in
    let compares = c.in_ok-compare.ensures n rows row at refl holds.holds holds.first in
    let same : told ≡ c.of_clash.result = cc in
    inr (
      clashes_is n rows row holds.within c.requires.within.choice_in ∙ sym compares.is ∙ c.if-branch.true,
      same ∙ c.of_clash.ensures,
    )

pub returns-clause-ok : goal.returns-clause-ok
returns-clause-ok c =
    let row : Row = record { transition = c.args.transition.now; action = c.args.action.now } in
    let n = c.args.self.now.header.states in
    let at : row_place row ≡ c.place-place.result = search rules in (
      refl,
      λ rows holds.
          let compares = c.in_ok-compare.ensures n rows row at refl holds.holds holds.first in
          let P : List Transition → Type 0 = λ ts. HoldsInOrder c.add.new.self n ts in
          let further = c.in_ok-add.ensures.holds n (transitions rows) holds.holds in (
            clashes_is n rows row holds.within c.requires.within.choice_in ∙ sym compares.is ∙ c.if-branch.false,
            record {
              holds = subst P (sym (transitions_push rows row)) further;
              within = All-push (λ (r : Row). IsWithin n r.transition) rows row holds.within c.requires.within;
              count = length_push rows row ∙ ap (λ k. k + 1) holds.count;
              first = under_way_further c.add.new.self n rows row c.compare.new.kept.items
                  c.in_ok-compare.field-0 further compares;
            },
          ),
    )
