-- Plans with the same entries have the same lists, and the same faults.
use Rattle.std.proofs.Common.{◌≡◌, ◌∙◌, ◌<◌, ◌≤◌, ℕ, List, length, get_or, None, ap, sym, subst, inl, inr, arith}
use Rattle.std.specs.Prelude.{slice_index, All}
use Rattle.std.proofs.lemmas.List.{same_lists, get_or_default}
use Rattle.std.proofs.lemmas.List.FromFn.{get_or-map-range_with_len}
use Rattle.game_model.specs.Query.{Query}
use Rattle.game_model.specs.Limits.{unit}
use Rattle.game_model.specs.Rounded.{IsInductive}
use Rattle.inductive_check.specs.declared.upper.UpperFault.{UpperFault}
use Rattle.inductive_check.specs.Faults.{IsUpperFault}
use Rattle.inductive_check.specs.Replies.{AreReplies, IsFirstWithoutReply}
use Rattle.rank_certificate.specs.declared.check.RankFault.{RankFault}
use Rattle.rank_certificate.specs.Faults.{IsRankFault}
use Rattle.plan_text.specs.declared.plan.Plan.{Plan}
use Rattle.plan_text.specs.Entries.{Entry, HasStates, entry_at, entries_of}
use Rattle.certificate_audit.specs.declared.fault.AuditFault.{AuditFault}
use Rattle.certificate_audit.specs.declared.fault.AuditFault.TheVariants.{Text, Upper, Ranks}
use Rattle.certificate_audit.specs.Refused.{IsReplyFault, IsLowerFault, IsFaultOf}

-- the five lists are the same
pub record SameLists (plan other : Plan) : Type 0 where
  pub lower : plan.lower.items ≡ other.lower.items
  pub choices : plan.choices.items ≡ other.choices.items
  pub ranks : plan.ranks.items ≡ other.ranks.items
  pub upper : plan.upper.items ≡ other.upper.items
  pub replies : plan.replies.items ≡ other.replies.items

-- lists of this length with the same items, where d stands past the end
same_column : {X : Type 0} (xs ys : List X) (d : X) (n : ℕ) → length xs ≡ n → length ys ≡ n
    → ((k : ℕ) → k < n → get_or xs k d ≡ get_or ys k d) → xs ≡ ys
same_column xs ys d n long as_long same =
    same_lists xs ys (long ∙ sym as_long)
    (λ k e inside. get_or_default xs k e d inside ∙ same k (omega (arith, inside, long))
    ∙ get_or_default ys k d e (omega (arith, inside, long, as_long)))

same_entries : (plan other : Plan) (n : ℕ) → HasStates plan n → HasStates other n → entries_of plan ≡ entries_of other
    → (k : ℕ) → k < n → entry_at plan k ≡ entry_at other k
same_entries plan other n has has_other same k inside =
    let none : Entry = entry_at plan 0 in
    sym (get_or-map-range_with_len (entry_at plan) 0 (length plan.lower.items) k k none
    (omega (arith, inside, has.lower)) (omega arith))
    ∙ ap (λ entries. get_or entries k none) same
    ∙ get_or-map-range_with_len (entry_at other) 0 (length other.lower.items) k k none
    (omega (arith, inside, has_other.lower)) (omega arith)

pub same_lists_of : (plan other : Plan) (n : ℕ) → HasStates plan n → HasStates other n
    → entries_of plan ≡ entries_of other → SameLists plan other
same_lists_of plan other n has has_other same =
    let each = same_entries plan other n has has_other same in
    record {
      lower = same_column plan.lower.items other.lower.items 0 n has.lower has_other.lower
          (λ k inside. ap (λ (e : Entry). e.lower) (each k inside));
      choices = same_column plan.choices.items other.choices.items None n has.choices has_other.choices
          (λ k inside. ap (λ (e : Entry). e.choice) (each k inside));
      ranks = same_column plan.ranks.items other.ranks.items 0 n has.ranks has_other.ranks
          (λ k inside. ap (λ (e : Entry). e.rank) (each k inside));
      upper = same_column plan.upper.items other.upper.items 0 n has.upper has_other.upper
          (λ k inside. ap (λ (e : Entry). e.upper) (each k inside));
      replies = same_column plan.replies.items other.replies.items None n has.replies has_other.replies
          (λ k inside. ap (λ (e : Entry). e.reply) (each k inside));
    }

module _ (q : Query) (plan other : Plan) (same : SameLists plan other) where
  same_units : All (λ v. v ≤ unit) plan.upper.items → All (λ v. v ≤ unit) other.upper.items
  same_units = subst (λ upper. All (λ v. v ≤ unit) upper) same.upper

  same_inductive : IsInductive q (slice_index plan.upper.items) → IsInductive q (slice_index other.upper.items)
  same_inductive = subst (λ upper. IsInductive q (slice_index upper)) same.upper

  same_reply_fault : (fault : UpperFault) → IsReplyFault q plan fault → IsReplyFault q other fault
  same_reply_fault fault is = record {
    units = same_units is.units;
    inductive = same_inductive is.inductive;
    cause = is.cause;
    first = subst (λ replies. IsFirstWithoutReply q (slice_index other.upper.items) replies fault.state) same.replies
        (subst (λ upper. IsFirstWithoutReply q (slice_index upper) plan.replies.items fault.state) same.upper is.first);
  }

  same_lower_fault : (fault : RankFault) → IsLowerFault q plan fault → IsLowerFault q other fault
  same_lower_fault fault is = record {
    units = same_units is.units;
    inductive = same_inductive is.inductive;
    replies = subst (λ replies. AreReplies q (slice_index other.upper.items) replies) same.replies
        (subst (λ upper. AreReplies q (slice_index upper) plan.replies.items) same.upper is.replies);
    first =
        subst (λ ranks. IsRankFault q other.lower.items other.choices.items ranks fault.state fault.cause) same.ranks
        (subst (λ choices. IsRankFault q other.lower.items choices plan.ranks.items fault.state fault.cause)
        same.choices
        (subst (λ lower. IsRankFault q lower plan.choices.items plan.ranks.items fault.state fault.cause)
        same.lower is.first));
  }

  pub same_fault : (fault : AuditFault) → IsFaultOf q plan fault → IsFaultOf q other fault
  same_fault (Text fault) is = absurd is
  same_fault (Upper fault) (inl is) = inl (subst (λ upper. IsUpperFault q upper fault.state fault.cause) same.upper is)
  same_fault (Upper fault) (inr is) = inr (same_reply_fault fault is)
  same_fault (Ranks fault) is = same_lower_fault fault is
