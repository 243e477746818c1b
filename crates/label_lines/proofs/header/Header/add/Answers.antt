use Rattle.std.proofs.Common.{◌≡◌, ◌∙◌, ◌++◌, ◌∷◌, [], ℕ, List, Some, Ok, Err, Result, MatchResult, sym, inl, inr}
use Rattle.std.proofs.Common.{rules}
use Rattle.std.specs.Option.{option_map}
use Rattle.label_lines.specs.declared.faults.LabCause.{LabCause}
use Rattle.label_lines.specs.declared.faults.LabCause.TheVariants.{OutOfMemory}
use Rattle.label_lines.specs.Header.{Item, item_of, saturated_item}
use Rattle.label_lines.specs.Texts.{IsOutOfMemoryCause}
use Rattle.game_outside.specs.Answers.{AnswersOrWants}
use Rattle.label_lines.proofs.HeaderSteps.{with_item-saturated, is_over, is_double_index, is_double_name, is_added}
use Rattle.label_lines.proofs.header.Header.add.Goals as goal

abbrev named : ℕ → List ℕ → Item
named index name = record { index = index; name = name }

gives_added : (r : Result (List Item) LabCause) (said : Result (List Item) LabCause) (items : List Item)
    → MatchResult r (λ h. h ≡ items) (λ cause. cause ≡ OutOfMemory) → said ≡ Ok items
    → AnswersOrWants IsOutOfMemoryCause (λ x. x) r said
gives_added (Ok h) said items m s = cc
gives_added (Err cause) said items m s = inl m

pub returns-then-is_over : goal.returns-then-is_over
returns-then-is_over c =
    let item = named c.in-Some.index c.in-Some.name.now in
    let read : option_map saturated_item (item_of c.args.kind c.args.field.now) ≡ Some item = search rules in
    inr (with_item-saturated c.args.kind c.args.self _ item read
    ∙ is_over c.args.kind c.args.self item (sym c.is_over.ensures ∙ c.if-is_over.true))

pub returns-then-has_index : goal.returns-then-has_index
returns-then-has_index c =
    let item = named c.in-Some.index c.in-Some.name.now in
    let read : option_map saturated_item (item_of c.args.kind c.args.field.now) ≡ Some item = search rules in
    inr (with_item-saturated c.args.kind c.args.self _ item read ∙ is_double_index c.args.kind c.args.self item
    (sym c.is_over.ensures ∙ c.if-is_over.false) (sym c.has_index.ensures ∙ c.if-has_index.true))

pub returns-then-has_name : goal.returns-then-has_name
returns-then-has_name c =
    let item = named c.in-Some.index c.in-Some.name.now in
    let read : option_map saturated_item (item_of c.args.kind c.args.field.now) ≡ Some item = search rules in
    inr (with_item-saturated c.args.kind c.args.self _ item read
    ∙ is_double_name c.args.kind c.args.self item (sym c.is_over.ensures ∙ c.if-is_over.false)
    (sym c.has_index.ensures ∙ c.if-has_index.false) (sym c.has_name.ensures ∙ c.if-has_name.true))

pub returns : goal.returns
returns c =
    let item = named c.in-Some.index c.in-Some.name.now in
    let read : option_map saturated_item (item_of c.args.kind c.args.field.now) ≡ Some item = search rules in
    gives_added c.with.result _ (c.args.self ++ item ∷ []) c.with.ensures
    (with_item-saturated c.args.kind c.args.self _ item read
    ∙ is_added c.args.kind c.args.self item (sym c.is_over.ensures ∙ c.if-is_over.false)
    (sym c.has_index.ensures ∙ c.if-has_index.false) (sym c.has_name.ensures ∙ c.if-has_name.false))
