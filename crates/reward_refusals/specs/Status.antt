-- These definitions give the status of a run that is refused.
use Rattle.output.specs.declared.refusal.Text.TheVariants.{Cert}
use Rattle.output.specs.declared.refusal.Refusal.{Refusal}
use Rattle.output.specs.declared.refusal.Refusal.TheVariants as shared
use Rattle.output.specs.declared.status.Status.{Status}
use Rattle.output.specs.declared.status.Status.TheVariants.{ModelRefused, CertificateRefused}
use Rattle.reward_refusals.specs.declared.refusal.RewardRefusal.{RewardRefusal}
use Rattle.reward_refusals.specs.declared.refusal.RewardRefusal.TheVariants.{Shared, OfRewards, RewardsTooLong}
use Rattle.reward_refusals.specs.declared.refusal.RewardRefusal.TheVariants.{OfCertificateText, OfCertificate}

-- This is the status of a refusal that questions of probabilities have too.
abbrev pub shared_status : Refusal → Status
shared_status (shared.OfCertificate fault) = CertificateRefused
shared_status (shared.TooLong Cert) = CertificateRefused
shared_status refusal = ModelRefused

-- This is the status of a refusal. One of the certificate has a status of its own.
abbrev pub reward_status : RewardRefusal → Status
reward_status (Shared refusal) = shared_status refusal
reward_status (OfRewards fault) = ModelRefused
reward_status RewardsTooLong = ModelRefused
reward_status (OfCertificateText fault) = CertificateRefused
reward_status (OfCertificate fault) = CertificateRefused
