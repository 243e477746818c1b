use Rattle.std.proofs.Common.{rules, ◌≡◌, ◌∙◌, ℕ, ◌==◌, cond, List, Option, Some, None, not, false, sym, ap, nat_eq}
use Rattle.std.specs.Option.{option_map_or}
use Rattle.std.specs.HashMap.{get}
use Rattle.std.specs.Str.{bytes_eq}
use Rattle.std.specs.List.{slice_range}
use Rattle.tra_reader.specs.declared.actions.Span.{Span}
use Rattle.transition_lines.specs.Answers.{action_at}
use Rattle.tra_reader.proofs.Spans.{in_bytes}
use Rattle.tra_reader.proofs.Noting.{noted_stays, newly_noted}
use Rattle.tra_reader.proofs.actions.FirstActions.note.Goals as goal

pub returns-in-Some : goal.returns-in-Some
returns-in-Some c = λ rows row at is notes.
    let actions = c.args.self.now in
    let span = c.in-Some.span in
    let first = slice_range actions.bytes.items span.start span.end in
    let got : get nat_eq actions.spans c.args.place ≡ Some span = search rules in
    let noted : action_at rows c.args.place ≡ Some first =
    sym (notes c.args.place) ∙ ap (λ (o : Option Span). in_bytes actions.bytes.items o) got in
    let compared : c.ne.result ≡ not (bytes_eq first c.args.action.now) = search rules in (
      compared ∙ ap (λ (a : List ℕ). not (bytes_eq first a)) (sym is)
          ∙ ap (λ (o : Option (List ℕ)). option_map_or (λ f. not (bytes_eq f row.action)) o false) (sym noted)
          ∙ ap (λ (p : ℕ). option_map_or (λ f. not (bytes_eq f row.action)) (action_at rows p) false) (sym at),
      λ q. notes q ∙ sym (noted_stays rows row first q (ap (λ p. action_at rows p) at ∙ noted)),
    )

pub returns-in_ok-put-in-None : goal.returns-in_ok-put-in-None
returns-in_ok-put-in-None c = λ rows row at is notes.
    let actions = c.args.self.now in
    let got : get nat_eq actions.spans c.args.place ≡ None = search rules in
    let noted : action_at rows c.args.place ≡ None =
    sym (notes c.args.place) ∙ ap (λ (o : Option Span). in_bytes actions.bytes.items o) got in (
      ap (λ (o : Option (List ℕ)). option_map_or (λ f. not (bytes_eq f row.action)) o false) (sym noted)
          ∙ ap (λ (p : ℕ). option_map_or (λ f. not (bytes_eq f row.action)) (action_at rows p) false) (sym at),
      λ q. c.in_ok-put-in-None.ensures q ∙ ap (λ o. cond (c.args.place == q) (Some c.args.action.now) o) (notes q)
          ∙ ap (λ a. cond (c.args.place == q) (Some a) (action_at rows q)) (sym is)
          ∙ ap (λ p. cond (p == q) (Some row.action) (action_at rows q)) (sym at)
          ∙ sym (newly_noted rows row q (ap (λ p. action_at rows p) at ∙ noted)),
    )
