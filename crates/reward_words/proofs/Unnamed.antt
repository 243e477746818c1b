-- Where no word names an option, nothing is found for it.
use Rattle.std.proofs.Common.{◌≡◌, ◌∙◌, ◌+◌, min, ◌||◌, ◌&&◌, ℕ, Bool, cond, true, false, true≢false, zero, suc}
use Rattle.std.proofs.Common.{List, [], ◌∷◌, ◌++◌, length, Option, Some, None, IfSome, is_some, refl, sym, ap}
use Rattle.std.proofs.Common.{inl, inr, fold, slice_get, bytes_eq, chars, nat_lt}
use Rattle.std.specs.List.{list_all}
use Rattle.std.proofs.lemmas.Slice.Eq.{bytes_eq-Decides}
use Rattle.clap.specs.Lexer.{long_of, short_of}
use Rattle.clap.specs.Walk.{Held, Outcome, Row, Rule, Step, Text, Waiting, Walk, done, waits, plain, refused, idle}
use Rattle.clap.specs.Walk.{option, positional, next, trailing, subcommand, value, action_of, after_flag, after_step}
use Rattle.clap.specs.Walk.{arg_by_id, arg_by_index, arg_by_long, at_row, bundle_met, bundle_step, count_of, finished}
use Rattle.clap.specs.Walk.{default_rows, first_of, flag_met, has_row, is_empty, is_multiple}
use Rattle.clap.specs.Walk.{is_pending, long_met, long_or_other, more_values, most_values, new_count, option_met}
use Rattle.clap.specs.Walk.{option_word, pending_count, plain_word, pushed, reacted, reading_by}
use Rattle.clap.specs.Walk.{settled, settled_rows, short_or_plain, started, subcommand_met}
use Rattle.clap.specs.Walk.{takes_several, takes_values, to_positional, used, used_as, used_by_id, values_or_missing}
use Rattle.clap.specs.Walk.{walked, walked_from, with_count, with_default, with_values, without, word_met}
use Rattle.clap.specs.declared.builder.action.ArgAction.{ArgAction}
use Rattle.clap.specs.declared.builder.action.ArgAction.TheVariants.{Set, Append, SetTrue, SetFalse, Count}
use Rattle.clap.specs.declared.parser.matches.ValueSource.{ValueSource}
use Rattle.clap.specs.declared.parser.matches.ValueSource.TheVariants.{CommandLine, DefaultValue}
use Rattle.clap.specs.declared.builder.value_parser.Reading.{Reading}
use Rattle.clap.proofs.WalkLemmas.{both}
use Rattle.reward_words.proofs.ApartRules.{AreApart, Every, IsOtherThan, apart, every_append, first_has, is_apart}
use Rattle.reward_words.proofs.ApartRules.{longs, no_short, not_empty, placed}

-- a command without subcommands meets none
pub no_subcommand : (waiting : Waiting) (word : Text) → subcommand_met [] waiting word ≡ None
no_subcommand idle word = refl
no_subcommand (option id) word = refl
no_subcommand positional word = refl

module _ (name : Text) where
  abbrev IsOther : Text → Type 0
  IsOther = IsOtherThan name

  -- 1. Rows of other names.

  abbrev AreOther : List Row → Type 0
  AreOther = Every (λ (r : Row). IsOther r.id)

  changed : (id : Text) (change : Row → List Row) (missing rows : List Row)
      → ((r : Row) → IsOther r.id → AreOther (change r)) → AreOther missing → AreOther rows
      → AreOther (at_row id change missing rows)
  changed id change missing [] each none every = none
  changed id change missing (r ∷ rs) each none every =
      go (bytes_eq r.id id) (changed id change missing rs each none every.1)
    where
      go : (b : Bool) → AreOther (at_row id change missing rs)
          → AreOther (cond b (change r ++ rs) (r ∷ at_row id change missing rs))
      go true later = every_append (λ (row : Row). IsOther row.id) (change r) rs (each r every.0) every.1
      go false later = (every.0, later)

  valued : (id : Text) (how : Reading) (s : ValueSource) (values : List Text) (rows : List Row) → IsOther id
      → AreOther rows → AreOther (with_values id how s values rows)
  valued id how s values rows is every =
      changed id (more_values s values) _ rows (λ r other. (other, tt)) (is, tt) every

  numbered : (id : Text) (how : Reading) (n : ℕ) (rows : List Row) → IsOther id → AreOther rows
      → AreOther (with_count id how CommandLine n rows)
  numbered id how n rows is every =
      changed id (new_count CommandLine n) _ rows (λ r other. (other, tt)) (is, tt) every

  emptied : (id : Text) (rows : List Row) → AreOther rows → AreOther (without id rows)
  emptied id rows every = changed id (λ _. []) [] rows (λ r other. tt) tt every

  acted : (action : ArgAction) (id : Text) (how : Reading) (values : List Text) (rows : List Row) → IsOther id
      → AreOther rows → AreOther (used_as action id how values rows)
  acted Set id how values rows is every = valued id how CommandLine values (without id rows) is (emptied id rows every)
  acted SetTrue id how values rows is every =
      valued id how CommandLine values (without id rows) is (emptied id rows every)
  acted SetFalse id how values rows is every =
      valued id how CommandLine values (without id rows) is (emptied id rows every)
  acted Append id how values rows is every = valued id how CommandLine values rows is every
  acted Count id how [] rows is every =
      numbered id how (min (count_of id rows + 1) 255) (without id rows) is (emptied id rows every)
  acted Count id how (v ∷ vs) rows is every =
      valued id how CommandLine (v ∷ vs) (without id rows) is (emptied id rows every)
  acted _ id how values rows is every = every

  used_other : (a : Rule) (values : List Text) (rows : List Row) → IsOther a.id → AreOther rows
      → AreOther (used a values rows)
  used_other a values rows is every = acted (action_of a) a.id (reading_by a) (values_or_missing a values) rows is every

  defaulted : (rules : List Rule) (rows : List Row) → list_all (is_apart name) rules ≡ true
      → AreOther rows → AreOther (fold with_default rows rules)
  defaulted [] rows apart every = every
  defaulted (a ∷ rest) rows are every =
      defaulted rest (with_default rows a) (both _ _ are).1 (go (has_row a.id rows))
    where
      rule : (vs : List Text) → ((is_empty vs ≡ true → ⊥) → IsOther a.id)
          → AreOther (default_rows a.id (reading_by a) vs rows)
      rule [] is = every
      rule (v ∷ vs) is =
          valued a.id (reading_by a) DefaultValue (v ∷ vs) rows (is (not_empty v vs)) every

      go : (b : Bool) → AreOther (cond b rows (default_rows a.id (reading_by a) a.defaults rows))
      go true = every
      go false = rule a.defaults (λ some. elim (apart name a (both _ _ are).0) [
        | inl another ↦ another
        | inr only ↦ absurd (some only.defaults)
      ])

  -- nothing is found in rows of other names
  no_value : (rows : List Row) → AreOther rows → first_of name rows ≡ None
  no_value [] every = refl
  no_value (r ∷ rs) every = go (bytes_eq r.id name) refl (no_value rs every.1)
    where
      go : (b : Bool) → bytes_eq r.id name ≡ b → first_of name rs ≡ None → first_of name (r ∷ rs) ≡ None
      go true same later = absurd (every.0 ((bytes_eq-Decides r.id name).0 same))
      go false unlike later = rw unlike later

  -- 2. What is held has other names.

  abbrev IsOtherPending : Option (Text × List Text) → Type 0
  IsOtherPending pending = IfSome pending (λ p. IsOther p.0)

  pub record IsOtherHeld (h : Held) : Type 0 where
    pub rows : AreOther h.rows
    pub pending : IsOtherPending h.pending

  same_id : (id : Text) (rules : List Rule) → Every (λ (a : Rule). bytes_eq a.id id ≡ true → a.id ≡ id) rules
  same_id id [] = tt
  same_id id (a ∷ rest) = ((bytes_eq-Decides a.id id).0, same_id id rest)

  settled_other : (c : List Rule) (h : Held) → IsOtherHeld h → IsOtherHeld (settled c h)
  settled_other c h other = record { rows = go h.pending other.pending; pending = tt }
    where
      by_id : (p : Text × List Text) (found : Option Rule) → IsOther p.0 → IfSome found (λ a. a.id ≡ p.0)
          → AreOther (used_by_id found p.1 h.rows)
      by_id p None is same = other.rows
      by_id p (Some a) is same = used_other a p.1 h.rows (λ e. is (sym same ∙ e)) other.rows

      go : (pending : Option (Text × List Text)) → IsOtherPending pending → AreOther (settled_rows c pending h.rows)
      go None is = other.rows
      go (Some p) is = by_id p (arg_by_id c p.0) is (first_has (λ (a : Rule). a.id ≡ p.0) _ c (same_id p.0 c))

  reacted_other : (c : List Rule) (a : Rule) (values : List Text) (h : Held) → IsOther a.id → IsOtherHeld h
      → IsOtherHeld (reacted c a values h)
  reacted_other c a values h is other =
      record { rows = used_other a values (settled c h).rows is (settled_other c h other).rows; pending = tt }

  pushed_other : (id word : Text) (h : Held) → IsOther id → IsOtherHeld h → IsOtherHeld (pushed id word h)
  pushed_other id word h is other = record { rows = other.rows; pending = go h.pending other.pending }
    where
      go : (pending : Option (Text × List Text)) → IsOtherPending pending → IsOther (started id pending).0
      go None none = is
      go (Some p) kept = kept

  -- 3. What a word comes to has other names.

  abbrev IsOtherOutcome : Outcome → Type 0
  IsOtherOutcome (waits id) = IsOther id
  IsOtherOutcome _ = Unit {0}

  abbrev IsOtherWaiting : Waiting → Type 0
  IsOtherWaiting (option id) = IsOther id
  IsOtherWaiting _ = Unit {0}

  -- a word that is no subcommand, and not `--`
  abbrev IsOtherStep : Step → Type 0
  IsOtherStep (next waiting) = IsOtherWaiting waiting
  IsOtherStep value = Unit {0}
  IsOtherStep _ = ⊥

  abbrev IsOtherMet : Held × Outcome → Type 0
  IsOtherMet met = IsOtherHeld met.0 × IsOtherOutcome met.1

  abbrev IsOtherTurn : Held × Step → Type 0
  IsOtherTurn met = IsOtherHeld met.0 × IsOtherStep met.1

  option_other : (c : List Rule) (a : Rule) (v : Option Text) (h : Held) → IsOther a.id → IsOtherHeld h
      → IsOtherMet (option_met c a v h)
  option_other c a (Some v) h is other = (reacted_other c a (v ∷ []) h is other, tt)
  option_other c a None h is other = (record { rows = (settled_other c h other).rows; pending = is }, is)

  flag_other : (c : List Rule) (a : Rule) (v : Option Text) (h : Held) → IsOther a.id → IsOtherHeld h
      → IsOtherMet (flag_met c a v h)
  flag_other c a (Some v) h is other = (other, tt)
  flag_other c a None h is other = (reacted_other c a [] h is other, tt)

  long_other : (c : List Rule) (found : Option Rule) (v : Option Text) (h : Held) → IfSome found (λ a. IsOther a.id)
      → IsOtherHeld h → IsOtherMet (long_met c found v h)
  long_other c None v h is other = (other, tt)
  long_other c (Some a) v h is other = go (takes_values a)
    where
      go : (b : Bool) → IsOtherMet (cond b (option_met c a v h) (flag_met c a v h))
      go true = option_other c a v h is other
      go false = flag_other c a v h is other

  plain_other : (c : List Rule) (waiting : Waiting) (word : Text) (h : Held) → IsOtherWaiting waiting → IsOtherHeld h
      → IsOtherTurn (plain_word c waiting word h)
  plain_other c idle word h is other = (other, tt)
  plain_other c positional word h is other = (other, tt)
  plain_other c (option id) word h is other = go (arg_by_id c id)
    where
      waits_on : (b : Bool) → IsOtherWaiting (cond b (option id) idle)
      waits_on true = is
      waits_on false = tt

      go : (found : Option Rule) → IsOtherTurn ((option_word found id word h).0, next (option_word found id word h).1)
      go None = (other, is)
      go (Some a) = (
        pushed_other id word h is other,
        waits_on (nat_lt (pending_count a (pushed id word h).pending) (most_values a)),
      )

  after_other : (c : List Rule) (waiting : Waiting) (word : Text) (h : Held) (outcome : Outcome)
      → IsOtherWaiting waiting → IsOtherHeld h → IsOtherOutcome outcome
      → IsOtherTurn (after_flag c waiting word h outcome)
  after_other c waiting word h done is other out = (other, tt)
  after_other c waiting word h (waits id) is other out = (other, out)
  after_other c waiting word h plain is other out = plain_other c waiting word h is other
  after_other c waiting word h refused is other out = plain_other c waiting word h is other

  -- a walk that found nothing of the name, and met no subcommand
  pub record IsOtherWalk (w : Walk) : Type 0 where
    pub held : IsOtherHeld w.held
    pub waiting : IsOtherWaiting w.waiting
    pub stopped : w.stopped ≡ None

  abbrev pub IsTurned : Walk → Bool → Type 0
  IsTurned w is_trailing = IsOtherWalk w × (w.is_trailing ≡ is_trailing)

  -- the word names another option, or none, where it may name one
  abbrev pub NamesOther : Walk → Text → Type 0
  NamesOther w word = w.is_trailing ≡ false → bytes_eq word (45 ∷ 45 ∷ []) ≡ false
      → IfSome (long_of word) (λ p. IsOther p.0)

  module _ (c : List Rule) (are : AreApart name c) where
    bundle_other : (n : ℕ) (flags : Text) (skip : ℕ) (so_far : Outcome) (h : Held) → IsOtherOutcome so_far
        → IsOtherHeld h → IsOtherMet (bundle_met c n flags skip so_far h)
    unfolding bundle_met
    bundle_other zero flags skip so_far h is other = (other, is)
    bundle_other (suc n) flags skip so_far h is other =
        go (slice_get (chars flags) 0) skip (λ rest less. bundle_other n rest less so_far h is other)
      where
        go : (x : Option ℕ) (many : ℕ)
            → ((rest : Text) (less : ℕ) → IsOtherMet (bundle_met c n rest less so_far h))
            → IsOtherMet (bundle_step c x flags many so_far h (bundle_met c n))
        go None many later = (other, is)
        go (Some x) zero later = rw (no_short name c are x) (other, tt)
        go (Some x) (suc less) later = later _ less

    -- a word that names another option, or none
    word_other : (waiting : Waiting) (word : Text) (found : Option (Text × Option Text)) (h : Held)
        → IsOtherWaiting waiting → IsOtherHeld h → IfSome found (λ p. IsOther p.0)
        → IsOtherTurn (long_or_other c waiting word found h)
    word_other waiting word (Some p) h is other named =
        let met = long_other c (arg_by_long c p.0) p.1 h (longs name c are p.0 named) other in
        after_other c waiting word _ (long_met c (arg_by_long c p.0) p.1 h).1 is met.0 met.1
    word_other waiting word None h is other named = go (short_of word)
      where
        go : (flags : Option Text) → IsOtherTurn (short_or_plain c waiting word flags h)
        go None = plain_other c waiting word h is other
        go (Some flags) =
            let met = bundle_other (length flags) flags h.skip plain (record h { skip = 0 }) tt
            (record { rows = other.rows; pending = other.pending }) in
            after_other c waiting word _ (bundle_met c (length flags) flags h.skip plain (record h { skip = 0 })).1 is
            met.0 met.1

    -- 4. The walk, on words that name other options.

    or_no : (a b : Bool) → b ≡ false → (a || b) ≡ a
    or_no true b e = refl
    or_no false b e = e

    place_other : (found : Option Rule) (w : Walk) (word : Text) (h : Held) → IsOtherWalk w → IsOtherHeld h
        → IfSome found (λ a. IsOther a.id × (a.trailing_var_arg ≡ false))
        → IsTurned (to_positional c found word w h) w.is_trailing
    place_other None w word h is other at =
        (record { held = other; waiting = is.waiting; stopped = is.stopped }, refl)
    place_other (Some a) w word h is other at = (
      record {
        held = pushed_other a.id word _ at.0 (held (is_pending a h.pending && takes_several a));
        waiting = waits_on (is_multiple a);
        stopped = refl;
      },
      or_no w.is_trailing a.trailing_var_arg at.1,
    )
      where
        held : (b : Bool) → IsOtherHeld (cond b h (settled c h))
        held true = other
        held false = settled_other c h other

        waits_on : (b : Bool) → IsOtherWaiting (cond b positional idle)
        waits_on true = tt
        waits_on false = tt

    step_other : (w : Walk) (word : Text) (h : Held) (step : Step) → IsOtherWalk w → IsOtherHeld h → IsOtherStep step
        → IsTurned (after_step c word w h step) w.is_trailing
    step_other w word h (next waiting) is other on =
        (record { held = other; waiting = on; stopped = is.stopped }, refl)
    step_other w word h value is other on =
        place_other (arg_by_index c w.position) w word h is other (placed name c are w.position)
    step_other w word h (trailing position) is other on = absurd on
    step_other w word h (subcommand id) is other on = absurd on

    pub turn : (w : Walk) (word : Text) → IsOtherWalk w → NamesOther w word
        → IsTurned (walked c [] w word) (w.is_trailing || bytes_eq word (45 ∷ 45 ∷ []))
    unfolding walked
    turn w word is named = stops w.stopped is.stopped
      where
        dashes : (b : Bool) → bytes_eq word (45 ∷ 45 ∷ []) ≡ b → w.is_trailing ≡ false
            → (met : Held × Step)
            → met ≡ cond b (w.held, trailing w.position) (long_or_other c w.waiting word (long_of word) w.held)
            → IsTurned (after_step c word w met.0 met.1) b
        dashes true e t met same =
            rw same (record { held = is.held; waiting = is.waiting; stopped = is.stopped }, refl)
        dashes false e t met same =
            let other = word_other w.waiting word (long_of word) w.held is.waiting is.held (named t e) in
            let step = (long_or_other c w.waiting word (long_of word) w.held).1 in
            let turned = step_other w word _ step is other.0 other.1 in
            rw same (turned.0, turned.1 ∙ t)

        ways : (b : Bool) → w.is_trailing ≡ b
            → IsTurned (after_step c word w (word_met c [] b w.waiting w.position word w.held).0
            (word_met c [] b w.waiting w.position word w.held).1) (b || bytes_eq word (45 ∷ 45 ∷ []))
        ways true t =
            let turned = step_other w word w.held value is is.held tt in
            (turned.0, turned.1 ∙ t)
        ways false t = rw (no_subcommand w.waiting word) (dashes _ refl t _ refl)

        stops : (stop : Option (Text × List Text)) → stop ≡ None
            → IsTurned (walked_from c [] stop w word) (w.is_trailing || bytes_eq word (45 ∷ 45 ∷ []))
        stops None e = ways w.is_trailing refl
        stops (Some p) e = absurd (true≢false (ap is_some e))

    -- at the end nothing is found for the option
    pub nothing_found : (h : Held) → IsOtherHeld h → first_of name (finished c h) ≡ None
    nothing_found h is = no_value (finished c h) (defaulted c (settled c h).rows are.apart (settled_other c h is).rows)
