use Rattle.reward_inputs.proofs.RewardFiles.{table_read, wanting, file_refused, file_too_long}
use Rattle.reward_inputs.proofs.load.load_rewards.Goals as goal

pub returns-in-Ok-clause-says : goal.returns-in-Ok-clause-says
returns-in-Ok-clause-says g c =
    table_read (g.H.Shelf.held c.args.shelf.now) (g.H.Shelf.steady c.args.shelf.now) c.args.name.now c.args.game.now
    c.in-Ok.rewards c.in-Ok.ensures.reads

pub returns-in-Err-OutOfMemory-clause-says : goal.returns-in-Err-OutOfMemory-clause-says
returns-in-Err-OutOfMemory-clause-says g c =
    wanting (g.H.Shelf.held c.args.shelf.now) (g.H.Shelf.steady c.args.shelf.now) c.args.name.now c.args.game.now

pub returns-in-Err-TooLong-clause-says : goal.returns-in-Err-TooLong-clause-says
returns-in-Err-TooLong-clause-says g c =
    file_too_long (g.H.Shelf.held c.args.shelf.now) (g.H.Shelf.steady c.args.shelf.now) c.args.name.now
    c.args.game.now _ c.in-Err-TooLong.field-0-is c.in-Err-TooLong.ensures.reads

pub returns-in-Err-Refused-clause-says : goal.returns-in-Err-Refused-clause-says
returns-in-Err-Refused-clause-says g c =
    file_refused (g.H.Shelf.held c.args.shelf.now) (g.H.Shelf.steady c.args.shelf.now) c.args.name.now c.args.game.now
    _ c.in-Err-Refused.fault c.in-Err-Refused.field-0-is
    c.in-Err-Refused.ensures.reads
