-- What an audit hands out says a certificate.
use Rattle.std.specs.Prelude.{slice_index}
use Rattle.game_model.specs.Query.{Query}
use Rattle.reward_check.specs.Certificates.{Certificate, flat_rewards}
use Rattle.reward_audit.specs.declared.audited.AuditedRewards.{AuditedRewards}

-- The lists say this certificate of a question.
abbrev pub audited_certificate : Query → AuditedRewards → Certificate
audited_certificate q audited = record {
  question = q;
  low = flat_rewards q.game audited.low.items;
  high = flat_rewards q.game audited.high.items;
  finite = audited.plan.finite.items;
  bounded = audited.plan.bounded.items;
  lower = slice_index audited.plan.lower.items;
  upper = slice_index audited.plan.upper.items;
  choices = audited.plan.choices.items;
  replies = audited.plan.replies.items;
  ranks = audited.plan.ranks.items;
}
