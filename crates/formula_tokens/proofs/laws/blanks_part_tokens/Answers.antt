use Rattle.formula_tokens.proofs.Blanks.{parted_spellings, parted_cause}
use Rattle.formula_tokens.proofs.laws.blanks_part_tokens.Goals as goal

pub returns : goal.returns
returns c = record { spellings = parted_spellings; cause = parted_cause }
