use Rattle.text_lines.proofs.NumberLaws.{number_of-decimal, number_of-zero}
use Rattle.text_lines.proofs.laws.numbers_are_read_back.Goals as goal

pub returns : goal.returns
returns c = record { written = number_of-decimal; zero = number_of-zero }
