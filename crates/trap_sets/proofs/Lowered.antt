-- What is known of a table that is lowered on the traps.
use Rattle.std.proofs.Common.{◌≡◌, ℕ, ◌≤◌, List, length, subst, Option}
use Rattle.std.specs.Prelude.{slice_index, All}
use Rattle.game_model.specs.Query.{Query, IsQuery, states}
use Rattle.game_model.specs.Rounded.{IsInductive}
use Rattle.inductive_check.specs.Replies.{AreReplies}
use Rattle.trap_sets.specs.Ends.{AreTraps}
use Rattle.trap_sets.specs.Lowered.{IsLowered, IsCapped}
use Rattle.trap_sets.proofs.Capping.{IsCapped-lowered}
use Rattle.trap_sets.proofs.Closing.{IsClosed-traps}
use Rattle.trap_sets.proofs.Lowering.{IsInductive-lowered, AreReplies-lowered, units-lowered}

module _ (q : Query) (upper of read table : List ℕ) (replies : List (Option ℕ)) (count : ℕ) (posed : IsQuery q)
    (many : length upper ≡ states q) (same : read ≡ of) (h : IsLowered q read upper table) where
  pub units-from : (bound : ℕ) → All (λ v. v ≤ bound) upper → All (λ v. v ≤ bound) table
  units-from bound most = units-lowered q upper read table replies posed many h bound most

  module _ (traps : AreTraps q replies of count) (held : AreReplies q (slice_index upper) replies) where
    pub capped-from : IsCapped q replies upper table
    capped-from = IsCapped-lowered q replies of count traps upper table many
        (subst (λ (xs : List ℕ). IsLowered q xs upper table) same h)

    pub replies-from : AreReplies q (slice_index table) replies
    replies-from = AreReplies-lowered q upper of table replies posed many
        (subst (λ (xs : List ℕ). IsLowered q xs upper table) same h) (IsClosed-traps q replies of count traps) held

    pub inductive-from : IsInductive q (slice_index upper) → IsInductive q (slice_index table)
    inductive-from inductive = IsInductive-lowered q upper of table replies posed many
        (subst (λ (xs : List ℕ). IsLowered q xs upper table) same h)
        (IsClosed-traps q replies of count traps) held inductive
