use Rattle.reward_text.proofs.Certificates.{what_is_read, what_is_told}
use Rattle.reward_text.proofs.laws.reward_certificates_are_what_is_read.Goals as goal

pub returns : goal.returns
returns c =
    λ text states certificate. (
      what_is_read text states certificate,
      λ is. what_is_told text states certificate is.0 is.1,
    )
