use Rattle.reports.proofs.Rests.{mirrored-sound}
use Rattle.reports.proofs.laws.mirrored_bounds_are_sound.Goals as goal

pub returns : goal.returns
returns c = mirrored-sound
