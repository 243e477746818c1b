-- The check accepts the same lists again.
use Rattle.std.proofs.Common.{◌≡◌, ℕ, Bool, List, Option, sym, subst}
use Rattle.std.specs.Prelude.{slice_index}
use Rattle.game_model.specs.Query.{Query}
use Rattle.reward_check.specs.Certificates.{Certificate, flat_rewards}
use Rattle.reward_check.specs.Parts.{IsAccepted}

-- the certificate of these lists
abbrev pub listed : Query → List ℕ → List ℕ → List Bool → List Bool → List ℕ → List ℕ → List (Option ℕ)
    → List (Option ℕ) → List ℕ → Certificate
listed q low high finite bounded lower upper choices replies ranks = record {
  question = q;
  low = flat_rewards q.game low;
  high = flat_rewards q.game high;
  finite = finite;
  bounded = bounded;
  lower = slice_index lower;
  upper = slice_index upper;
  choices = choices;
  replies = replies;
  ranks = ranks;
}

pub accepted-same : (q : Query) (finite : List Bool) (low low' high high' : List ℕ) (bounded bounded' : List Bool)
    (lower lower' upper upper' : List ℕ) (choices choices' replies replies' : List (Option ℕ)) (ranks ranks' : List ℕ)
    → low ≡ low'
    → high ≡ high'
    → bounded ≡ bounded'
    → lower ≡ lower'
    → upper ≡ upper'
    → choices ≡ choices'
    → replies ≡ replies'
    → ranks ≡ ranks'
    → IsAccepted (listed q low' high' finite bounded' lower' upper' choices' replies' ranks')
    → IsAccepted (listed q low high finite bounded lower upper choices replies ranks)
accepted-same q finite low low' high high' bounded bounded' lower lower' upper upper' choices choices' replies replies'
    ranks ranks' of_low of_high of_bounded of_lower of_upper of_choices of_replies of_ranks is =
    subst (λ (list : List ℕ). IsAccepted (listed q list high finite bounded lower
    upper choices replies ranks)) (sym of_low) (
    subst (λ (list : List ℕ). IsAccepted (listed q low' list finite bounded lower
    upper choices replies ranks)) (sym of_high) (
    subst (λ (list : List Bool). IsAccepted (listed q low' high' finite list lower
    upper choices replies ranks)) (sym of_bounded) (
    subst (λ (list : List ℕ). IsAccepted (listed q low' high' finite bounded' list
    upper choices replies ranks)) (sym of_lower) (
    subst (λ (list : List ℕ). IsAccepted (listed q low' high' finite bounded' lower'
    list choices replies ranks)) (sym of_upper) (
    subst (λ (list : List (Option ℕ)). IsAccepted (listed q low' high' finite bounded' lower'
    upper' list replies ranks)) (sym of_choices) (
    subst (λ (list : List (Option ℕ)). IsAccepted (listed q low' high' finite bounded' lower'
    upper' choices' list ranks)) (sym of_replies) (
    subst (λ (list : List ℕ). IsAccepted (listed q low' high' finite bounded' lower'
    upper' choices' replies' list)) (sym of_ranks) is)))))))
