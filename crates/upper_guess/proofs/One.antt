-- There is one first guess.
use Rattle.std.proofs.Common.{◌≡◌, ℕ, Bool, List, arith, subst}
use Rattle.game_model.specs.Query.{Query}
use Rattle.game_model.specs.Rounded.{IsInductive}
use Rattle.game_model.specs.Tables.{IsTable}
use Rattle.fixed_bellman.proofs.Firsts.{first-one, IsTable-one}
use Rattle.upper_guess.specs.Guess.{excess, guess_table, IsRefused, AreRefused, IsFirstAt, IsFirstGuess}

-- no table is both refused and accepted
not-both : (q : Query) (table : ℕ → ℕ) → IsRefused q table → IsInductive q table → ⊥
not-both q table refused accepted = omega (arith, refused.2, accepted refused.0 refused.1)

-- one excess
module _ (q : Query) (marks : List Bool) (lower : ℕ → ℕ) (e : ℕ) where
  IsFirstAt-one : (table other : List ℕ) → IsFirstAt q marks lower e table
      → IsFirstAt q marks lower e other → table ≡ other
  IsFirstAt-one table other h k =
      let same : h.steps ≡ k.steps = first-one (λ j. IsRefused q (guess_table q marks lower e j)) h.steps k.steps
      (λ no. not-both q (guess_table q marks lower e h.steps) no h.accepted)
      (λ no. not-both q (guess_table q marks lower e k.steps) no k.accepted) h.refused k.refused in
      IsTable-one q (guess_table q marks lower e k.steps) table other
      (subst (λ j. IsTable q (guess_table q marks lower e j) table) same h.entries) k.entries

-- all of them
module _ (q : Query) (marks : List Bool) (lower : ℕ → ℕ) where
  not-refused : (e : ℕ) (table : List ℕ) → IsFirstAt q marks lower e table → ¬ AreRefused q marks lower e
  not-refused e table h refused =
      not-both q (guess_table q marks lower e h.steps) (refused h.steps h.few) h.accepted

  pub one-first-guess : (table other : List ℕ) → IsFirstGuess q marks lower table
      → IsFirstGuess q marks lower other → table ≡ other
  one-first-guess table other h k =
      let same : h.place ≡ k.place = first-one (λ i. AreRefused q marks lower (excess i)) h.place k.place
      (not-refused (excess h.place) table h.here) (not-refused (excess k.place) other k.here) h.earlier k.earlier in
      IsFirstAt-one q marks lower (excess k.place) table other
      (subst (λ i. IsFirstAt q marks lower (excess i) table) same h.here) k.here
