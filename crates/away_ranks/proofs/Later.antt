-- What leads away still does so when more states go.
use Rattle.std.proofs.Common.{◌≡◌, ◌≢◌, ℕ, ◌+◌, ◌<◌, Bool, true, false, cond, List, length, get_or, set, arith, refl}
use Rattle.std.proofs.Common.{sym, ap}
use Rattle.std.proofs.Common.{◌∙◌, inl, inr, Option, None}
use Rattle.std.specs.Prelude.{slice_index, slice_index_or}
use Rattle.std.proofs.lemmas.List.Sums.{sum_by-set}
use Rattle.game_model.specs.Game.{Distribution, no_edge}
use Rattle.game_model.specs.Query.{Query}
use Rattle.away_ranks.specs.inside.Ranked.{how_many, HasGone, LeadsAway, IsRankedAt}

-- more states have gone, and the choices and the ranks of the others are as they were
pub record IsLater (gone more : List Bool) (choices later : List (Option ℕ)) (ranks higher : List ℕ) : Type 0 where
  pub larger : (s : ℕ) → HasGone gone s → HasGone more s
  pub choice : (s : ℕ) → HasGone gone s → slice_index_or later s None ≡ slice_index_or choices s None
  pub rank : (s : ℕ) → HasGone gone s → slice_index higher s ≡ slice_index ranks s

module _ (gone more : List Bool) (choices later : List (Option ℕ)) (ranks higher : List ℕ)
    (h : IsLater gone more choices later ranks higher) (s : ℕ) (out : HasGone gone s) where
  leads-later : (m : Distribution) → LeadsAway gone (slice_index ranks) s m
      → LeadsAway more (slice_index higher) s m
  leads-later m (inl sinks) =
      let t : ℕ = (get_or m.edges sinks.place no_edge).to in
      inl (record {
        place = sinks.place;
        inside = sinks.inside;
        member = h.larger t sinks.member;
        down = omega (arith, sinks.down, h.rank s out, h.rank t sinks.member);
      })
  leads-later m (inr lingers) = inr (λ k d l.
      let at = lingers k d l in
      let t : ℕ = (get_or m.edges k d).to in
      (h.larger t at.0, omega (arith, at.1, h.rank s out, h.rank t at.0)))

  pub IsRankedAt-later : (q : Query) → IsRankedAt q gone choices (slice_index ranks) s
      → IsRankedAt q more later (slice_index higher) s
  IsRankedAt-later q r = record {
    greatest = λ is_side.
        let one = r.greatest is_side in
        (one.0, h.choice s out ∙ one.1, one.2, leads-later _ one.3);
    least = λ is_side c l. leads-later _ (r.least is_side c l);
  }

none-counts : (b : Bool) → b ≡ false → ◌≡◌ {A = ℕ} (cond b 1 0) 0
none-counts b h = rw h refl

-- one more has gone
pub how_many-set : (gone : List Bool) (s : ℕ) → s < length gone → slice_index_or gone s false ≡ false
    → how_many (set gone s true) ≡ how_many gone + 1
how_many-set gone s inside within = omega (
  arith,
  sum_by-set (λ (x : Bool). cond x 1 0) gone s true false inside,
  none-counts (slice_index_or gone s false) within,
)

-- a state that has gone is another than one that has not
pub differ : (gone : List Bool) (s t : ℕ) → slice_index_or gone s false ≡ false → HasGone gone t → t ≢ s
differ gone s t within out same =
    let is : slice_index_or gone s false ≡ true = ap (λ u. slice_index_or gone u false) (sym same) ∙ out in
    cc
