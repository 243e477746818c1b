use Rattle.verdicts.proofs.Reading.{report-one}
use Rattle.verdicts.proofs.laws.reports_have_one_reading.Goals as goal

pub returns : goal.returns
returns c = report-one c.fixed_text_has_one_reading.ensures
