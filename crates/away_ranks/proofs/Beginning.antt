-- No state has gone yet.
use Rattle.std.proofs.Common.{◌≡◌, ℕ, Bool, false, List, length, replicate, arith, ap, ◌∙◌, inl, inr}
use Rattle.std.proofs.Common.{Option}
use Rattle.std.specs.Prelude.{slice_index, slice_index_or}
use Rattle.std.proofs.lemmas.Bool.{cases_lt}
use Rattle.std.proofs.lemmas.List.{length-replicate, get_or-replicate, get_or_past}
use Rattle.game_model.specs.Query.{Query, states}
use Rattle.away_ranks.specs.inside.Ranked.{HasGone, AreRanked}
use Rattle.away_ranks.specs.inside.Search.{AreWaits}

none-gone : (n s : ℕ) (gone : List Bool) → gone ≡ replicate n false → HasGone gone s → ⊥
none-gone n s gone is out =
    let none : slice_index_or (replicate n false) s false ≡ false = elim (cases_lt s n) [
      | inl below ↦ get_or-replicate n s false false below
      | inr past ↦ get_or_past (replicate n false) s false (omega (arith, past, length-replicate n false))
    ] in
    let at : slice_index_or gone s false ≡ false = ap (λ list. slice_index_or list s false) is ∙ none in
    cc

pub AreRanked-none : (q : Query) (gone : List Bool) (choices : List (Option ℕ)) (ranks : List ℕ)
    → gone ≡ replicate (states q) false → length choices ≡ states q → length ranks ≡ states q
    → AreRanked q gone choices ranks 0
AreRanked-none q gone choices ranks is planned ranked = record {
  many = ap length is ∙ length-replicate (states q) false;
  planned = planned;
  ranked = ranked;
  few = omega arith;
  apart = λ s out. absurd (none-gone (states q) s gone is out);
  away = λ s inside out. absurd (none-gone (states q) s gone is out);
  low = λ s out. absurd (none-gone (states q) s gone is out);
  each = λ s out. absurd (none-gone (states q) s gone is out);
}

pub AreWaits-none : (q : Query) (gone : List Bool) (waits : List ℕ) → waits ≡ replicate (states q) 0
    → AreWaits q gone waits
AreWaits-none q gone waits is = record {
  many = ap length is ∙ length-replicate (states q) 0;
  before = λ s c inside below.
      let at : slice_index waits s ≡ 0 =
      ap (λ list. slice_index list s) is ∙ get_or-replicate (states q) s 0 0 inside in
      absurd (omega (arith, at, below));
}
