use Rattle.reports.proofs.DrawnReports.{settled-agree}
use Rattle.reports.proofs.laws.settled_games_agree.Goals as goal

pub returns : goal.returns
returns c = settled-agree c.settled_bases_agree.ensures c.lower_tables_agree.ensures
    c.settled_upper_bounds_agree.ensures
