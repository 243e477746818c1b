use Rattle.std.proofs.Common.{◌≡◌, ◌<◌, None, Ok, Err, List, Option, ℕ, length, set, get_or, ap, ◌∙◌, arith}
use Rattle.std.proofs.lemmas.List.{length-set, get_or_default}
use Rattle.text_lines.specs.Text.{fields_of}
use Rattle.label_lines.specs.declared.kind.FileKind.TheVariants.{OwnerFile}
use Rattle.label_reader.specs.inside.Owned.{owner_behind, AreRead}
use Rattle.label_lines.specs.Texts.{ownership}
use Rattle.label_reader.proofs.Bodies.{AnswersBehind-line, AnswersBehind-fault}
use Rattle.label_reader.proofs.OwnerLines.{owner_behind-known, owner_behind-line}
use Rattle.label_reader.proofs.owner_table.OwnerTableLineReader.take.Goals as goal

-- the owner of a state that is read there
named_is : (owners : List (Option ℕ)) (n s : ℕ) (read : Option ℕ) → length owners ≡ n → s < n
    → read ≡ get_or owners s read → read ≡ get_or owners s None
named_is owners n s read count small e = e ∙ get_or_default owners s read None (omega (arith, count, small))

pub invariant_of-self : goal.invariant_of-self
invariant_of-self c =
    let self = c.args.self.now in
    let fields = fields_of c.in-Ok.numbers.now in
    let named = named_is self.owners.items self.states c.in-Ok.state c.index.result.now self.count
    c.in-Ok.ensures.range c.index.ensures in
    let owner = c.in-Ok-owner_behind.ensures ∙ ap (λ o. owner_behind self.header c.in-Ok.state o fields) named in
    record {
      count = length-set self.owners.items c.in-Ok.state c.in-Ok-owner_behind.owner ∙ self.count;
      known = owner_behind-known self.header self.owners.items c.in-Ok.state fields c.in-Ok-owner_behind.owner
          (omega (arith, self.count, c.in-Ok.ensures.range)) owner self.known;
    }

pub returns-in-Err-owner_behind-clause-fault : goal.returns-in-Err-owner_behind-clause-fault
returns-in-Err-owner_behind-clause-fault c =
    let self = c.args.self.now in
    let n = self.states in
    let items = self.header in
    let fields = fields_of c.in-Ok.numbers.now in
    let cause = c.in-Err-owner_behind.cause in
    let named =
    named_is self.owners.items n c.in-Ok.state c.index.result.now self.count c.in-Ok.ensures.range c.index.ensures in
    let fault = c.in-Err-owner_behind.ensures ∙ ap (λ o. owner_behind items c.in-Ok.state o fields) named in
    rw c.at-in-Err-owner_behind.ensures
    (λ lines. AnswersBehind-fault OwnerFile n (ownership n) items c.args.number c.args.line.now lines
    (λ read. AreRead n items read self.owners.items) cause
    (λ read before. owner_behind-line n items c.args.line.now c.in-Ok.state fields c.in-Ok.ensures.line
    c.in-Ok.ensures.range read self.owners.items before (Err cause) fault))

pub returns-in-Ok-owner_behind-clause-ok : goal.returns-in-Ok-owner_behind-clause-ok
returns-in-Ok-owner_behind-clause-ok c =
    let self = c.args.self.now in
    let n = self.states in
    let items = self.header in
    let fields = fields_of c.in-Ok.numbers.now in
    let owner = c.in-Ok-owner_behind.owner in
    let named =
    named_is self.owners.items n c.in-Ok.state c.index.result.now self.count c.in-Ok.ensures.range c.index.ensures in
    let is = c.in-Ok-owner_behind.ensures ∙ ap (λ o. owner_behind items c.in-Ok.state o fields) named in
    λ lines answer rest. AnswersBehind-line OwnerFile n (ownership n) items c.args.number c.args.line.now lines
    (λ read. AreRead n items read self.owners.items)
    (λ read. AreRead n items read (set self.owners.items c.in-Ok.state owner))
    answer
    (λ read before. owner_behind-line n items c.args.line.now c.in-Ok.state fields c.in-Ok.ensures.line
    c.in-Ok.ensures.range read self.owners.items before (Ok owner) is)
    rest
