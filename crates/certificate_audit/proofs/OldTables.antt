-- Tables of old units, and the same as they are read.
use Rattle.std.proofs.Common.{◌≡◌, ℕ, ◌*◌, ◌≤◌, List, arith}
use Rattle.std.specs.Prelude.{◌↔◌, Option, All, slice_index}
use Rattle.game_model.specs.Limits.{unit}
use Rattle.game_model.specs.Query.{Query, IsQuery}
use Rattle.game_model.specs.Rounded.{IsInductive, IsInductiveIn}
use Rattle.game_model.specs.Ranks.{Ranked, RankedIn}
use Rattle.inductive_check.specs.Replies.{AreReplies}
use Rattle.certificate_audit.specs.OldUnits.{old_unit, thousandfold}
use Rattle.certificate_audit.proofs.Multiples.{slice_index-times, units-times, times-units, inductive-times}
use Rattle.certificate_audit.proofs.Multiples.{times-inductive, replies-times, times-replies, ranked-times}
use Rattle.certificate_audit.proofs.Multiples.{times-ranked}

each : (xs : List ℕ) (t : ℕ) → slice_index (thousandfold xs) t ≡ 1000 * slice_index xs t
each xs t = slice_index-times 1000 xs t

pub old_upper : (q : Query) (upper : List ℕ) → IsQuery q
    → (All (λ v. v ≤ old_unit) upper × IsInductiveIn old_unit q (slice_index upper))
    ↔ (All (λ v. v ≤ unit) (thousandfold upper) × IsInductive q (slice_index (thousandfold upper)))
old_upper q upper posed = (
  λ is. (
    units-times 1000 old_unit upper is.0,
    inductive-times 1000 (omega arith) (slice_index upper) (slice_index (thousandfold upper))
        (each upper) q old_unit posed is.1,
  ),
  λ is. (
    times-units 1000 old_unit upper (omega arith) is.0,
    times-inductive 1000 (omega arith) (slice_index upper) (slice_index (thousandfold upper))
        (each upper) q old_unit posed is.1,
  ),
)

pub old_replies : (q : Query) (upper : List ℕ) (replies : List (Option ℕ))
    → AreReplies q (slice_index upper) replies ↔ AreReplies q (slice_index (thousandfold upper)) replies
old_replies q upper replies = (
  replies-times 1000 (omega arith) (slice_index upper) (slice_index (thousandfold upper)) (each upper) q replies,
  times-replies 1000 (omega arith) (slice_index upper) (slice_index (thousandfold upper)) (each upper) q replies,
)

pub old_ranked : (q : Query) (values : List ℕ) (choices : List (Option ℕ)) (ranks : List ℕ)
    → RankedIn old_unit q values choices ranks ↔ Ranked q (thousandfold values) choices ranks
old_ranked q values choices ranks = (
  ranked-times 1000 (omega arith) values (thousandfold values) (each values) q old_unit choices ranks,
  times-ranked 1000 (omega arith) values (thousandfold values) (each values) q old_unit choices ranks,
)
