-- These are the statuses of a report of `sure` and of a refusal.
use Rattle.std.specs.Prelude.{◌≡◌, ◌⊎◌, Bool, if◌then◌else◌}
use Rattle.output.specs.declared.refusal.Refusal.{Refusal}
use Rattle.output.specs.declared.refusal.Refusal.TheVariants.{OfCertificate, TooLong}
use Rattle.output.specs.declared.refusal.Text.TheVariants.{Cert}
use Rattle.output.specs.declared.status.Status.{Status}
use Rattle.output.specs.declared.status.Status.TheVariants.{Fine, SomeFalse, ModelRefused, CertificateRefused}

-- The status is `Fine` if every initial state is sure, and else `SomeFalse`.
abbrev pub sure_status : Bool → Status
sure_status all = if all then Fine else SomeFalse

-- This is the status of a refusal. A refused certificate has a status of its own.
abbrev pub refused_status : Refusal → Status
refused_status (OfCertificate fault) = CertificateRefused
refused_status (TooLong Cert) = CertificateRefused
refused_status refusal = ModelRefused

-- With this status the line of a refusal was written.
abbrev pub IsRefusal : Status → Type 0
IsRefusal status = (status ≡ ModelRefused) ⊎ (status ≡ CertificateRefused)
