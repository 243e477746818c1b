-- Reading a file ends in one of these ways if it gives no rewards.
use Rattle.game_outside.specs.declared.file.FileEnd.{FileEnd}
use Rattle.game_outside.specs.declared.file.FileEnd.TheVariants as file
use Rattle.rewards_reader.specs.declared.fault.RewardsFault.{RewardsFault}
use Rattle.rewards_reader.specs.declared.fault.RewardsEnd.{RewardsEnd}
use Rattle.rewards_reader.specs.declared.fault.RewardsEnd.TheVariants.{OutOfMemory, Refused}

-- That memory ran out is no refusal of the text, but an end of its own.
abbrev pub end_of_file : FileEnd RewardsEnd → FileEnd RewardsFault
end_of_file file.OutOfMemory = file.OutOfMemory
end_of_file file.ReadFault = file.ReadFault
end_of_file file.TooLong = file.TooLong
end_of_file (file.Refused OutOfMemory) = file.OutOfMemory
end_of_file (file.Refused (Refused fault)) = file.Refused fault
