-- Upper tables: the lesser of two, and what settles stays settled.
use Rattle.std.proofs.Common.{◌≡◌, ℕ, ◌-◌, ◌<◌, All, List, length, arith, sym, ap, ◌∙◌, subst, le_trans, min, get_or}
use Rattle.std.specs.Prelude.{slice_index, Bool, Option, Some, None, IfSome}
use Rattle.std.proofs.lemmas.List.{length-map, get_or-map, get_or_default}
use Rattle.game_model.specs.Query.{Query, IsQuery, states}
use Rattle.game_model.specs.Limits.{unit}
use Rattle.game_model.specs.Rounded.{IsBelow, IsInductive}
use Rattle.formula_reader.specs.declared.formula.Bound.{Bound}
use Rattle.verdicts.proofs.Staying.{settled-on}
use Rattle.inductive_check.proofs.UpSteps.{IsInductive-min}
use Rattle.upper_guess.specs.Guess.{IsFirstGuess}
use Rattle.upper_guess.proofs.Steps.{up_step-same}
use Rattle.bracket_engine.specs.declared.stopping.SettlingGuess.{SettlingGuess}
use Rattle.bracket_engine.specs.Bracket.{complements_of, AreLesser}
use Rattle.bracket_engine.specs.Stop.{upper_from, IsUpper, IsSettlingGuess, IsLeastGuess, IsUpperFrom}

-- a table that agrees with an inductive one is inductive
IsInductive-same : (q : Query) (table : List ℕ) (other : ℕ → ℕ) → IsQuery q
    → ((s : ℕ) → s < states q → slice_index table s ≡ other s) → IsInductive q other → IsInductive q (slice_index table)
IsInductive-same q table other h same inductive s inside =
    omega (arith, same s inside, inductive s inside, up_step-same q (slice_index table) other h same s)

-- the lesser of two upper tables is one
pub IsUpper-lesser : (q : Query) (one other table : List ℕ) → IsQuery q → IsUpper q one → IsUpper q other
    → AreLesser one other table → IsUpper q table
IsUpper-lesser q one other table h first second lesser =
    let each : (s : ℕ) → s < states q → slice_index table s ≡ min (slice_index one s) (slice_index other s) =
    λ s inside. lesser.each s (subst (λ n. s < n) (sym first.many) inside) in
    let many : length table ≡ states q = lesser.many ∙ first.many in
    record {
      many = many;
      units = λ s d inside.
          let there : s < states q = subst (λ n. s < n) many inside in
          omega (
            arith,
            get_or_default table s d 0 inside,
            each s there,
            get_or_default one s d 0 (subst (λ n. s < n) (sym first.many) there),
            first.units s d (subst (λ n. s < n) (sym first.many) there),
          );
      inductive = IsInductive-same q table (λ t. min (slice_index one t) (slice_index other t)) h each
          (IsInductive-min q (slice_index one) (slice_index other) h first.inductive second.inductive);
    }

-- a guess and one that was kept
pub IsLeastGuess-both : (q : Query) (zero : List Bool) (lower : ℕ → ℕ) (kept : SettlingGuess) (guess least : List ℕ)
    → IsQuery q → IsFirstGuess q zero lower guess → IsUpper q guess → IsUpper q kept.guess.items
    → AreLesser guess kept.guess.items least → IsLeastGuess q zero lower (Some kept) least
IsLeastGuess-both q zero lower kept guess least h first one other lesser = record {
  guess = guess;
  first = first;
  each = λ s inside. lesser.each s (subst (λ n. s < n) (sym one.many) inside);
  upper = IsUpper-lesser q guess kept.guess.items least h one other lesser;
}

-- the unit less the swapped values, where that is inductive
complement-at : (swapped_values unlost : List ℕ) (s : ℕ) → unlost ≡ complements_of swapped_values
    → s < length swapped_values → slice_index unlost s ≡ unit - slice_index swapped_values s
complement-at swapped_values unlost s is inside =
    ap (λ (l : List ℕ). slice_index l s) is ∙ get_or-map (λ (v : ℕ). unit - v) swapped_values s 0 0 inside

IsUpper-complements : (q : Query) (swapped_values unlost : List ℕ) → IsQuery q
    → length swapped_values ≡ states q → unlost ≡ complements_of swapped_values
    → IsInductive q (λ s. unit - slice_index swapped_values s) → IsUpper q unlost
IsUpper-complements q swapped_values unlost h as_many is inductive =
    let each : (s : ℕ) → s < states q → slice_index unlost s ≡ unit - slice_index swapped_values s =
    λ s inside. complement-at swapped_values unlost s is (subst (λ n. s < n) (sym as_many) inside) in
    let many : length unlost ≡ states q = ap length is ∙ length-map swapped_values (λ (v : ℕ). unit - v) ∙ as_many in
    record {
      many = many;
      units = λ s d inside. omega (arith, get_or_default unlost s d 0 inside, each s (subst (λ n. s < n) many inside));
      inductive = IsInductive-same q unlost (λ s. unit - slice_index swapped_values s) h each inductive;
    }

pub IsUpperFrom-lesser : (q : Query) (zero : List Bool) (lower : ℕ → ℕ) (swapped_values unlost least upper : List ℕ)
    (kept : Option SettlingGuess) → IsQuery q → length swapped_values ≡ states q
    → unlost ≡ complements_of swapped_values → IsInductive q (λ s. unit - slice_index swapped_values s)
    → IsLeastGuess q zero lower kept least → AreLesser unlost least upper
    → IsUpperFrom q zero lower (slice_index swapped_values) kept upper
IsUpperFrom-lesser q zero lower swapped_values unlost least upper kept h as_many is inductive guessed lesser =
    let complements : IsUpper q unlost = IsUpper-complements q swapped_values unlost h as_many is inductive in
    record {
      guess = guessed.guess;
      first = guessed.first;
      each = λ s inside. omega (
        arith,
        lesser.each s (subst (λ n. s < n) (sym complements.many) inside),
        complement-at swapped_values unlost s is (subst (λ n. s < n) (sym as_many) inside),
        guessed.each s inside,
      );
      table = IsUpper-lesser q unlost least upper h complements guessed.upper lesser;
    }

-- what a guess settles stays settled where lower bounds and swapped values rise
pub IsSettlingGuess-raised : (q : Query) (zero : List Bool) (bound : Bound)
    (initial : List ℕ) (lower higher swapped_value more : ℕ → ℕ) (kept : Option SettlingGuess)
    → All (λ s. s < states q) initial → IsBelow q lower higher → IsBelow q swapped_value more
    → IfSome kept (IsSettlingGuess q zero bound initial lower swapped_value)
    → IfSome kept (IsSettlingGuess q zero bound initial higher more)
IsSettlingGuess-raised q zero bound initial lower higher swapped_value more None inside rise swapped_rise h = tt
IsSettlingGuess-raised q zero bound initial lower higher swapped_value more (Some kept) inside rise swapped_rise h =
    record {
      below = λ s there. le_trans (h.below s there) (rise s there);
      first = h.first;
      upper = h.upper;
      settles = λ i d within.
          let s : ℕ = get_or initial i d in
          let there : s < states q = inside i d within in
          let guess = slice_index kept.guess.items in
          settled-on bound (lower s) (higher s) (upper_from swapped_value guess s)
          (upper_from more guess s) (rise s there)
          (omega (arith, swapped_rise s there)) (h.settles i d within);
    }
