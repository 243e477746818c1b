use Rattle.transition_lines.proofs.TextLaws.{text_found, text_again}
use Rattle.transition_lines.proofs.laws.said_is_denoted.Goals as goal

pub returns : goal.returns
returns c =
    let number = c.numbers_are_those_that_a_text_denotes.ensures in
    let choice = c.said_is_denoted.ensures in
    λ text game. (
      text_found (λ t f. (number t f).0) (λ parts d kept. (choice parts d kept).0) text game,
      text_again (λ t f. (number t f).1) (λ parts d kept. (choice parts d kept).1) text game,
    )
