use Rattle.transition_lines.proofs.Permutations.{text_moved}
use Rattle.transition_lines.proofs.laws.order_of_lines.Goals as goal

pub returns : goal.returns
returns c =
    let number = c.numbers_are_those_that_a_text_denotes.ensures in
    text_moved (λ text f. (number text f).0) (λ text f. (number text f).1) c.order_of_parts.ensures
