-- Answers that are right for the lines to come.
use Rattle.std.proofs.Common.{◌≡◌, ◌+◌, ℕ, List, [], ◌∷◌, ◌++◌, Option, Some, Result, Ok, Err, sym, ap, subst}
use Rattle.std.specs.Prelude.{MatchResult, IfErr}
use Rattle.text_lines.specs.Text.{fields_of}
use Rattle.fractions.specs.Fraction.{Fraction}
use Rattle.game_model.specs.Game.{Distribution}
use Rattle.rewards_reader.specs.declared.fault.RewardsCause.{RewardsCause}
use Rattle.rewards_reader.specs.declared.fault.RewardsFault.{RewardsFault}
use Rattle.rewards_reader.specs.declared.fault.RewardsEnd.{RewardsEnd}
use Rattle.rewards_reader.specs.declared.fault.RewardsEnd.TheVariants.{OutOfMemory, Refused}
use Rattle.rewards_reader.specs.declared.line.RewardLine.{RewardLine}
use Rattle.rewards_reader.specs.declared.kept.KeptLines.{KeptLines}
use Rattle.rewards_reader.specs.Lines.{next_line}
use Rattle.rewards_reader.specs.Rewards.{IsAnswer}
use Rattle.rewards_reader.specs.Texts.{then_at, lines_from}
use Rattle.rewards_reader.specs.inside.Kept.{IsEndAt, RefusesLine, IsRightBehind, IsRight}

end-answer : {X : Type 0} (game : List (List Distribution)) (number : ℕ) (said : Result X RewardsCause)
    (more : X → Result (List RewardLine) RewardsFault) (end : RewardsEnd) → IsEndAt number said end
    → IsAnswer game (then_at number said more) (Err end)
end-answer game number said more OutOfMemory is = tt
end-answer game number (Ok x) more (Refused fault) is = absurd is
end-answer game number (Err cause) more (Refused fault) is = ap (λ f. Err f) (sym is)

-- a line that is refused is the answer, whatever follows it
pub right-fault : (table : KeptLines) (number : ℕ) (line : List ℕ) (lines : List (List ℕ)) (end : RewardsEnd)
    → RefusesLine table number (fields_of line) end → IsRightBehind table number (line ∷ lines) (Err end)
right-fault table number line lines end refuses = λ before kept.
    end-answer table.game.now number (next_line table.game.now table.stated before (fields_of line))
    (λ next. lines_from table.game.now table.stated (before ++ next ∷ []) (number + 1) lines) end
    (refuses before kept)

-- so is a blank line that is refused
pub right-blank : (table : KeptLines) (number : ℕ) (line : List ℕ) (lines : List (List ℕ)) (end : RewardsEnd)
    → fields_of line ≡ [] → RefusesLine table number [] end → IsRightBehind table number (line ∷ lines) (Err end)
right-blank table number line lines end blank refuses =
    let P : List (List ℕ) → Type 0 = λ fields. RefusesLine table number fields end in
    right-fault table number line lines end (subst P (sym blank) refuses)

-- what is right behind a table is right for the reader that has it
pub right-along : (game : List (List Distribution)) (held : Option KeptLines) (table : KeptLines) (number : ℕ)
    (lines : List (List ℕ)) (answer : Result (List (Option Fraction)) RewardsEnd) → held ≡ Some table
    → IsRightBehind table number lines answer → IsRight game held number lines answer
right-along game held table number lines answer is right =
    let P : Option KeptLines → Type 0 = λ h. IsRight game h number lines answer in
    subst P (sym is) right

-- what holds of an end implies another thing of it
pub end-further : {X : Type 0} (result : Result X RewardsEnd) (P Q : RewardsEnd → Type 0)
    → ((end : RewardsEnd) → P end → Q end) → IfErr result P → MatchResult result (λ _. Unit {0}) Q
end-further (Ok x) P Q further holds = tt
end-further (Err end) P Q further holds = further end holds
