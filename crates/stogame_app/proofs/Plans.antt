-- What a verdict says is so, where it is so of yes and no.
use Rattle.std.proofs.Common.{◌≡◌, ℕ, refl}
use Rattle.game_model.specs.Query.{Query}
use Rattle.formula_reader.specs.declared.formula.Bound.{Bound}
use Rattle.verdicts.specs.Truth.{IsTrueOf, IsFalseOf, VerdictIsRight}
use Rattle.verdicts.specs.declared.verdict.Verdict.{Verdict}
use Rattle.verdicts.specs.declared.verdict.Verdict.TheVariants.{Yes, No, Undecided, Bracket}

pub is-told : (q : Query) (bound : Bound) (s : ℕ) (verdict : Verdict) → (verdict ≡ Yes → IsTrueOf q bound s)
    → (verdict ≡ No → IsFalseOf q bound s) → VerdictIsRight q bound s verdict
is-told q bound s Yes if_yes if_no = if_yes refl
is-told q bound s No if_yes if_no = if_no refl
is-told q bound s Undecided if_yes if_no = tt
is-told q bound s Bracket if_yes if_no = tt
