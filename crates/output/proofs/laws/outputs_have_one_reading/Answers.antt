use Rattle.output.proofs.OneOutput.{output-one}
use Rattle.output.proofs.laws.outputs_have_one_reading.Goals as goal

pub returns : goal.returns
returns c = output-one c.reports_have_one_reading.ensures c.certificates_have_one_reading.ensures
    c.spellings_have_one_reading.ensures
