-- The tables of two races are a bracket.
use Rattle.std.proofs.Common.{◌≡◌, ℕ, ◌+◌, ◌-◌, ◌*◌, ◌^◌, ◌<◌, ◌≤◌, Bool, true, false, List, length, arith, refl, sym}
use Rattle.std.proofs.Common.{ap, ◌∙◌, subst, inl, inr, le_refl, le_trans, get_or}
use Rattle.std.specs.Prelude.{All, slice_index, ◌↔◌, ◌⊎◌, Option, Some, None, IfSome, is_some, if◌then◌else◌}
use Rattle.std.proofs.lemmas.Bool.{cases_lt}
use Rattle.std.proofs.lemmas.List.{length-map, get_or_default}
use Rattle.std.proofs.Math.Nat.{mul-le-mul_left, mul-le-mul_right}
use Rattle.game_model.specs.Game.{choices_of}
use Rattle.game_model.specs.Query.{Query, IsQuery, states, is_goal}
use Rattle.game_model.specs.Limits.{unit}
use Rattle.game_model.specs.Values.{denominator, numerator}
use Rattle.game_model.specs.Rounded.{down_steps, opening, IsBelow, IsSettled}
use Rattle.game_model.specs.Ranks.{Ranked}
use Rattle.game_model.specs.Bounds.{IsLow}
use Rattle.game_model.specs.Dual.{IsZeroSet, swapped}
use Rattle.game_model.proofs.Choices.{AreChoicesOf, AreChoicesOf-choices_of}
use Rattle.game_model.proofs.Marked.{marked-goal}
use Rattle.game_laws.proofs.Steps.{down_steps-settled}
use Rattle.game_laws.proofs.Low.{down_steps-below, down_steps-near}
use Rattle.game_laws.proofs.High.{IsHigh-up_step}
use Rattle.game_laws.proofs.Near.{swapped-value-near}
use Rattle.step_core.specs.Word.{value_in, value_at, values_of, picks_of}
use Rattle.step_core.proofs.Words.{values_of-is, AreSoundWords-goals, AreSoundWords-units}
use Rattle.formula_reader.specs.declared.formula.Bound.{Bound}
use Rattle.verdicts.proofs.Staying.{settled-on}
use Rattle.bracket_engine.specs.declared.stopping.SettlingGuess.{SettlingGuess}
use Rattle.bracket_engine.specs.Stop.{AreSettledAt, upper_from, with_kept, IsSettlingGuess}
use Rattle.bracket_engine.specs.Stop.{IsKeptGuess, AreUpperParts, IsUpperFrom}
use Rattle.bracket_engine.specs.Bracket.{IsBracket, IsCloseBelow, IsNarrow, IsSweptAbove, IsLeastSettled}
use Rattle.bracket_engine.specs.declared.race.Raced.{Raced}
use Rattle.marked_rounds.specs.Rounds.{IsRaced}
use Rattle.bracket_engine.specs.inside.Race.{AreOver}
use Rattle.bracket_engine.proofs.Rests.{IsInductive-rest}

-- a table that is nowhere above an r-fold down step is low
below-low : (q : Query) (table : ℕ → ℕ) (r : ℕ) → AreChoicesOf q.game (choices_of q.game)
    → IsBelow q table (down_steps q r) → IsLow q table
below-low q table r chosen below = record {
  horizon = r;
  below = λ s inside.
      omega (arith, mul-le-mul_right (denominator q.game ^ r) (below s inside), down_steps-below q chosen r s);
}

near-from : (v w r p x : ℕ) → x ≤ p * (v + r) → v ≤ w → x ≤ (w + r) * p
near-from v w r p x near below = omega (arith, near, mul-le-mul_left p below)

-- a table that is nowhere below r down steps is near the r-step values
near-down_steps : (q : Query) (table : ℕ → ℕ) (r : ℕ) → AreChoicesOf q.game (choices_of q.game)
    → IsBelow q (down_steps q r) table → IsCloseBelow q r table
near-down_steps q table r chosen below = λ s inside. near-from (down_steps q r s) (table s) r (denominator q.game ^ r)
    (unit * numerator q r s) (down_steps-near q chosen r s) (below s inside)

-- a table with the unit at goals is nowhere below the opening table
opening-if : (goal : Bool) (x : ℕ) → (goal ≡ true → x ≡ unit) → (if goal then unit else 0) ≤ x
opening-if true x h = let at = h refl in omega arith
opening-if false x h = omega arith

-- what a race leaves, as a table
record IsRun (q : Query) (table : ℕ → ℕ) (rounds : ℕ) : Type 0 where
  opens : IsBelow q (opening q) table
  horizon : ℕ
  top : IsBelow q table (down_steps q horizon)
  within : IsBelow q table (down_steps q (rounds * states q))
  swept : IsBelow q (down_steps q rounds) table

module _ (q : Query) (words values : List ℕ) (rounds : ℕ) (raced : IsRaced q words rounds)
    (is : values ≡ values_of words) where
  table-is : slice_index values ≡ value_at words
  table-is = ap slice_index is ∙ values_of-is words

  length-raced : length values ≡ states q
  length-raced = ap length is ∙ length-map words value_in ∙ raced.sound.as_many

  units-raced : (s : ℕ) → s < states q → slice_index values s ≤ unit
  units-raced s inside = omega (arith, ap (λ t. t s) table-is, AreSoundWords-units q words raced.sound s inside)

  pub all-units-raced : All (λ v. v ≤ unit) values
  all-units-raced = λ s d inside.
      omega (arith, get_or_default values s d 0 inside, units-raced s (subst (λ n. s < n) length-raced inside))

  settled-raced : IsSettled q (value_at words) → IsSettled q (slice_index values)
  settled-raced settled = subst (IsSettled q) (sym table-is) settled

  IsRun-raced : IsRun q (slice_index values) rounds
  IsRun-raced = subst (λ (t : ℕ → ℕ). IsRun q t rounds) (sym table-is) (record {
    opens = λ s inside.
        opening-if (is_goal q s) (value_at words s) (λ goal. AreSoundWords-goals q words raced.sound s inside goal);
    horizon = raced.sound.rounds;
    top = raced.sound.below;
    within = raced.within;
    swept = raced.swept;
  })

-- a table of a race that is settled is nowhere below any down steps, and it is the least settled one
module _ (q : Query) (table : ℕ → ℕ) (rounds : ℕ) (chosen : AreChoicesOf q.game (choices_of q.game))
    (run : IsRun q table rounds) (settled : IsSettled q table) where
  swept-settled : (r : ℕ) → IsBelow q (down_steps q r) table
  swept-settled r = down_steps-settled q table chosen run.opens settled r

  IsLeastSettled-run : IsLeastSettled q table
  IsLeastSettled-run = record {
    opens = run.opens;
    settled = settled;
    least = λ other over is_settled s inside.
        le_trans (run.top s inside) (down_steps-settled q other chosen over is_settled run.horizon s inside);
  }

-- what was kept is a guess, and inductive
kept-upper : (q : Query) (zero : List Bool) (bound : Bound) (initial : List ℕ) (lower swapped_value : ℕ → ℕ)
    (kept : Option SettlingGuess) → IfSome kept (IsSettlingGuess q zero bound initial lower swapped_value)
    → IsKeptGuess q zero kept
kept-upper q zero bound initial lower swapped_value None h = tt
kept-upper q zero bound initial lower swapped_value (Some one) h = (h.first, h.upper)

-- what two races leave that are over
module _ (q swapped_question : Query) (zero : List Bool) (bound : Bound) (initial : List ℕ) (asked : ℕ)
    (races : Raced) (lower swapped_values : List ℕ) (posed : IsQuery q)
    (is_zero : IsZeroSet q zero) (same : swapped_question ≡ swapped q zero)
    (ended : AreOver q swapped_question zero bound initial asked races) (lower_is : lower ≡ values_of races.words)
    (swapped_are : swapped_values ≡ values_of races.swapped_words) where
  pub quiet-over : races.quiet ≡ true
      → IsSettled q (slice_index lower) × IsSettled swapped_question (slice_index swapped_values)
  quiet-over is = (
    settled-raced q races.words lower races.rounds ended.words lower_is (ended.end.quiet is).0,
    settled-raced swapped_question races.swapped_words swapped_values races.rounds ended.swapped_words swapped_are
        (ended.end.quiet is).1,
  )

  over : AreOver q (swapped q zero) zero bound initial asked races
  over = subst (λ (p : Query). AreOver q p zero bound initial asked races) same ended

  chosen : AreChoicesOf q.game (choices_of q.game)
  chosen = AreChoicesOf-choices_of q.game posed.game

  run : IsRun q (slice_index lower) races.rounds
  run = IsRun-raced q races.words lower races.rounds over.words lower_is

  swapped_run : IsRun (swapped q zero) (slice_index swapped_values) races.rounds
  swapped_run =
      IsRun-raced (swapped q zero) races.swapped_words swapped_values races.rounds over.swapped_words swapped_are

  swapped-unit : (s : ℕ) → s < states q → slice_index swapped_values s ≤ unit
  swapped-unit =
      units-raced (swapped q zero) races.swapped_words swapped_values races.rounds over.swapped_words swapped_are

  -- the values of the words are those of the tables
  kept-over : IfSome races.kept
      (IsSettlingGuess q zero bound initial (slice_index lower) (slice_index swapped_values))
  kept-over =
      subst (λ (t : ℕ → ℕ). IfSome races.kept (IsSettlingGuess q zero bound initial (slice_index lower) t))
      (sym (ap slice_index swapped_are ∙ values_of-is races.swapped_words)) (subst (λ (t : ℕ → ℕ).
      IfSome races.kept (IsSettlingGuess q zero bound initial t (value_at races.swapped_words)))
      (sym (ap slice_index lower_is ∙ values_of-is races.words)) over.end.kept)

  pub AreUpperParts-over : AreUpperParts q zero swapped_values races.kept
  AreUpperParts-over =
      let sound = over.swapped_words.sound in
      record {
        many = length-raced (swapped q zero) races.swapped_words swapped_values races.rounds
            over.swapped_words swapped_are;
        unlost = IsInductive-rest q zero swapped_values (picks_of races.swapped_words) sound.ranks
            (λ s. unit - slice_index swapped_values s) posed is_zero (subst (λ (l : List ℕ).
            Ranked (swapped q zero) l (picks_of races.swapped_words) sound.ranks) (sym swapped_are) sound.ranked)
            (λ s inside. omega (arith, swapped-unit s inside));
        kept_guess = kept-upper q zero bound initial (slice_index lower) (slice_index swapped_values) races.kept
            kept-over;
      }

  module _ (upper : List ℕ) (stable : Bool) (inside_all : All (λ s. s < states q) initial)
      (from : IsUpperFrom q zero (slice_index lower) (slice_index swapped_values) races.kept upper)
      (is_stable : (stable ≡ true)
      ↔ (IsSettled q (slice_index lower) × IsSettled swapped_question (slice_index swapped_values))) where
    settled : (stable ≡ true)
        ↔ (IsSettled q (slice_index lower) × IsSettled (swapped q zero) (slice_index swapped_values))
    settled = subst (λ (p : Query). (stable ≡ true)
        ↔ (IsSettled q (slice_index lower) × IsSettled p (slice_index swapped_values))) same is_stable

    -- tables that are nowhere below the down steps of both questions are narrow
    IsNarrow-swept : (r : ℕ) → IsBelow q (down_steps q r) (slice_index lower)
        → IsBelow (swapped q zero) (down_steps (swapped q zero) r) (slice_index swapped_values)
        → IsNarrow q zero r (slice_index lower) (slice_index upper)
    IsNarrow-swept r swept swept_above =
        let within : IsSweptAbove q zero r (slice_index upper) =
        λ s inside. omega (arith, swept_above s inside, from.each s inside, swapped-unit s inside) in
        record {
          swept = swept;
          near = near-down_steps q (slice_index lower) r chosen swept;
          swept_above = within;
          near_above = λ s inside. swapped-value-near q zero chosen posed.sides
              (marked-goal q zero is_zero) r s (slice_index upper s) inside (omega (arith, within s inside));
        }

    -- a guess that was kept settles the threshold, and so do the upper bounds
    settled-kept : (one : Option SettlingGuess) → races.kept ≡ one → is_some one ≡ true
        → AreSettledAt bound initial (slice_index lower) (slice_index upper)
    settled-kept None is some = absurd (cc)
    settled-kept (Some one) is some = λ i d within.
        let settles : IsSettlingGuess q zero bound initial (slice_index lower) (slice_index swapped_values) one =
        subst (λ k. IfSome k
        (IsSettlingGuess q zero bound initial (slice_index lower) (slice_index swapped_values))) is kept-over in
        let s : ℕ = get_or initial i d in
        let each : slice_index upper s
        ≡ upper_from (slice_index swapped_values) (with_kept (Some one) (slice_index from.guess)) s =
        subst (λ k. slice_index upper s
        ≡ upper_from (slice_index swapped_values) (with_kept k (slice_index from.guess)) s) is
        (from.each s (inside_all i d within)) in
        settled-on bound (slice_index lower s) (slice_index lower s)
        (upper_from (slice_index swapped_values) (slice_index one.guess.items) s) (slice_index upper s) (le_refl _)
        (omega (arith, each)) (settles.settles i d within)

    early : races.rounds < asked → (stable ≡ true) ⊎ AreSettledAt bound initial (slice_index lower) (slice_index upper)
    early less = elim (over.end.early less) [
      | inl is ↦ inl (is_stable.1 (quiet-over is))
      | inr some ↦ inr (settled-kept races.kept refl some)
    ]

    narrow : IsNarrow q zero races.rounds (slice_index lower) (slice_index upper)
    narrow = IsNarrow-swept races.rounds run.swept swapped_run.swept

    rested : stable ≡ true → IsNarrow q zero asked (slice_index lower) (slice_index upper)
    rested is = IsNarrow-swept asked
        (swept-settled q (slice_index lower) races.rounds chosen run (settled.0 is).0 asked)
        (swept-settled (swapped q zero) (slice_index swapped_values) races.rounds chosen swapped_run (settled.0 is).1
        asked)

    pub IsBracket-over : IsBracket q zero bound initial asked lower upper races.rounds stable
    IsBracket-over = record {
      sound = record {
        base_length = length-raced q races.words lower races.rounds over.words lower_is;
        base_units = all-units-raced q races.words lower races.rounds over.words lower_is;
        low = below-low q (slice_index lower) run.horizon chosen run.top;
        high = IsHigh-up_step q (slice_index upper) chosen from.table.inductive;
      };
      made = record {
        swapped_values = swapped_values;
        swapped_bounds = record {
          units = swapped-unit;
          low = below-low (swapped q zero) (slice_index swapped_values) swapped_run.horizon chosen swapped_run.top;
          swept = swapped_run.swept;
          within = swapped_run.within;
        };
        kept = races.kept;
        least_upper = from;
        kept_over = kept-over;
        none_kept = over.end.none;
      };
      near = record {
        few = over.end.few;
        within = run.within;
        narrow = narrow;
        narrow_asked = elim (cases_lt races.rounds asked) [
          | inl less ↦ elim (early less) [ inl is ↦ inr (rested is) | inr at ↦ inl at ]
          | inr past ↦ inr (subst (λ (n : ℕ). IsNarrow q zero n (slice_index lower) (slice_index upper))
              (let all_made : races.rounds ≡ asked = omega (arith, past, over.end.few) in all_made) narrow)
        ];
      };
      ended = record {
        early = early;
        in_time = over.end.in_time;
        settled = settled;
        least = λ is. IsLeastSettled-run q (slice_index lower) races.rounds chosen run (settled.0 is).0;
        swapped_least = λ is. IsLeastSettled-run (swapped q zero) (slice_index swapped_values) races.rounds chosen
            swapped_run (settled.0 is).1;
      };
    }
