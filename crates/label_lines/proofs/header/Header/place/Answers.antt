use Rattle.std.proofs.Common.{◌<◌, ◌∙◌, ap, sym, subst, length, List, Option, ℕ}
use Rattle.std.specs.Option.{IfSome}
use Rattle.text_lines.specs.Text.{number_of}
use Rattle.label_lines.specs.Header.{Item, place_of, place_in}
use Rattle.label_lines.specs.Placed.{items_of}
use Rattle.label_lines.proofs.Indexed.{place_in-whole, place_of-within}
use Rattle.label_lines.proofs.header.Header.place.Goals as goal

pub returns-in-Some-clause-value : goal.returns-in-Some-clause-value
returns-in-Some-clause-value c =
    c.copied.ensures ∙ c.get.ensures.value ∙ c.self.invariant.at c.in-Some.index
    ∙ place_in-whole (items_of c.self.inside.names.entries) c.in-Some.index
    (number_of c.args.field.now) c.self.invariant.single.small c.in-Some.ensures
    ∙ ap (λ (items : List Item). place_in items c.args.field.now) c.self.view_is

pub returns-in-Some-clause-within : goal.returns-in-Some-clause-within
returns-in-Some-clause-within c =
    let P : Option ℕ → Type 0 = λ p. IfSome p (λ k. k < length c.args.self.now) in
    let Q : List Item → Type 0 =
    λ items. IfSome (place_of (items_of c.self.inside.names.entries) c.in-Some.index) (λ k. k < length items) in
    subst P (sym (c.copied.ensures ∙ c.get.ensures.value ∙ c.self.invariant.at c.in-Some.index))
    (subst Q c.self.view_is (place_of-within (items_of c.self.inside.names.entries) c.in-Some.index))
