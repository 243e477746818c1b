use Rattle.std.proofs.Common.{List, Result, Ok, Err, Some, refl}
use Rattle.game_model.specs.Game.{Distribution}
use Rattle.transition_lines.specs.declared.fault.TraFault.{TraFault}
use Rattle.tra_reader.specs.inside.AnyOrder.{unordered_header, HoldsUnordered}
use Rattle.game_outside.specs.Answers.{AnswersOrWants}
use Rattle.transition_lines.specs.Faults.{IsOutOfMemory}
use Rattle.tra_reader.specs.inside.Reading.{IsAnswer}
use Rattle.tra_reader.proofs.Taking.{answer_told, right_end}
use Rattle.tra_reader.proofs.any_order.UnorderedReaderLineReader.finish.Goals as goal

pub returns-in-Some : goal.returns-in-Some
returns-in-Some c = right_end unordered_header HoldsUnordered (λ (f : TraFault). Some f) c.args.self.held c.in-Some.held
    c.finish.result c.finish.result c.in-Some.is c.finish.ensures (given_is c.finish.result)
  where
    given_is : (made said : Result (List (List Distribution)) TraFault)
        → AnswersOrWants {X = List (List Distribution)} IsOutOfMemory (λ g. g) made said
        → IsAnswer (λ (f : TraFault). Some f) made said
    given_is (Ok game) said is = is
    given_is (Err fault) said is = answer_told (λ (f : TraFault). Some f) fault fault said refl is
