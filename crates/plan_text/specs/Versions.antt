-- The version of a certificate says how many decimals its values have.
use Rattle.std.specs.Prelude.{ℕ, bytes_eq, List, Option, Some, None, codes, if◌then◌else◌}
use Rattle.plan_text.specs.declared.version.Version.{Version}
use Rattle.plan_text.specs.declared.version.Version.TheVariants.{One, Two}

-- A value has this many digits after its point.
abbrev pub decimals_of : Version → ℕ
decimals_of One = 12
decimals_of Two = 15

-- The last of these digits counts this many units.
abbrev pub units_of_last_digit : Version → ℕ
units_of_last_digit One = 1000
units_of_last_digit Two = 1

-- The second field of the first line is this text.
abbrev pub version_text : Version → List ℕ
version_text One = codes "1"
version_text Two = codes "2"

-- The field names this version, if any.
abbrev pub version_in : List ℕ → Option Version
version_in field = if bytes_eq field (codes "1") then Some One else
    (if bytes_eq field (codes "2") then Some Two else None)
