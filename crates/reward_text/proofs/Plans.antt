-- What a plan of rewards says of each state, as it grows.
use Rattle.std.proofs.Common.{◌≡◌, ◌<◌, ◌+◌, ◌-◌, ℕ, Bool, false, cond, List, [], ◌∷◌, ◌++◌, length, map, Option, Some}
use Rattle.std.proofs.Common.{None}
use Rattle.std.proofs.Common.{refl, sym, ap, ◌∙◌, arith, append_assoc, inl, inr}
use Rattle.std.specs.Prelude.{slice_index, slice_index_or}
use Rattle.std.specs.List.{range_with_len}
use Rattle.std.proofs.lemmas.Bool.{cases_lt}
use Rattle.std.proofs.lemmas.List.{length_push, get_or_append_left, get_or_push}
use Rattle.std.proofs.lemmas.List.FromFn.{map-range_with_len_more, fill_by_all, length-map-range_with_len}
use Rattle.std.proofs.lemmas.List.FromFn.{get_or-map-range_with_len}
use Rattle.plan_text.specs.Written.{entry_lines_by}
use Rattle.plan_text.proofs.EntryLines.{lines_more}
use Rattle.reward_text.specs.declared.plan.RewardPlan.{RewardPlan}
use Rattle.reward_text.specs.Entries.{RewardEntry, HasRewardStates, AreZeroElsewhere, value_at, reward_entry_at}
use Rattle.reward_text.specs.Entries.{reward_entries_of}
use Rattle.reward_text.specs.Written.{reward_entry_text}
use Rattle.reward_text.specs.inside.Read.{is_number, units_or_zero}

-- a line was appended, and the others are left
pub line_added : (places : ℕ) (f : ℕ → RewardEntry) (s n : ℕ) (old new whole : List ℕ) → s < n
    → new ≡ old ++ reward_entry_text places s (f s)
    → old ++ entry_lines_by (reward_entry_text places) s (map f (range_with_len s (n - s))) ≡ whole
    → new ++ entry_lines_by (reward_entry_text places) (s + 1) (map f (range_with_len (s + 1) (n - (s + 1)))) ≡ whole
line_added places f s n old new whole within added all =
    let rest = entry_lines_by (reward_entry_text places) (s + 1) (map f (range_with_len (s + 1) (n - (s + 1)))) in
    ap (λ t. t ++ rest) added
    ∙ append_assoc old (reward_entry_text places s (f s)) rest
    ∙ ap (λ t. old ++ t) (sym (lines_more RewardEntry (reward_entry_text places) f s n within))
    ∙ all

-- one more state
pub record IsPushed (old new : RewardPlan) (entry : RewardEntry) : Type 0 where
  pub finite : new.finite.items ≡ old.finite.items ++ is_number entry.lower ∷ []
  pub lower : new.lower.items ≡ old.lower.items ++ units_or_zero entry.lower ∷ []
  pub choices : new.choices.items ≡ old.choices.items ++ entry.choice ∷ []
  pub ranks : new.ranks.items ≡ old.ranks.items ++ entry.rank ∷ []
  pub bounded : new.bounded.items ≡ old.bounded.items ++ is_number entry.upper ∷ []
  pub upper : new.upper.items ≡ old.upper.items ++ units_or_zero entry.upper ∷ []
  pub replies : new.replies.items ≡ old.replies.items ++ entry.reply ∷ []

-- a value that was kept
kept : (value : Option ℕ) → cond (is_number value) (Some (units_or_zero value)) None ≡ value
kept None = refl
kept (Some units) = refl

value_at-before : (numbers : List Bool) (units : List ℕ) (value : Option ℕ) (n k : ℕ) → length numbers ≡ n
    → length units ≡ n → k < n → value_at numbers units k
    ≡ value_at (numbers ++ is_number value ∷ []) (units ++ units_or_zero value ∷ []) k
value_at-before numbers units value n k marked long before =
    let a = get_or_append_left numbers (is_number value ∷ []) false k (omega (arith, marked)) in
    let b = get_or_append_left units (units_or_zero value ∷ []) 0 k (omega (arith, long)) in
    cc

value_at-last : (numbers : List Bool) (units : List ℕ) (value : Option ℕ) (n : ℕ) → length numbers ≡ n
    → length units ≡ n
    → value_at (numbers ++ is_number value ∷ []) (units ++ units_or_zero value ∷ []) n ≡ value
value_at-last numbers units value n marked long =
    rw (get_or_push numbers (is_number value) false n marked, get_or_push units (units_or_zero value) 0 n long)
    (kept value)

zero-none : (value : Option ℕ) → is_number value ≡ false → units_or_zero value ≡ 0
zero-none None none = refl
zero-none (Some units) none = absurd (cc)

zeros-more : (numbers : List Bool) (units : List ℕ) (value : Option ℕ) (n : ℕ) → length numbers ≡ n
    → length units ≡ n → AreZeroElsewhere numbers units
    → AreZeroElsewhere (numbers ++ is_number value ∷ []) (units ++ units_or_zero value ∷ [])
zeros-more numbers units value n marked long zeros s inside out = elim (cases_lt s n) [
  | inl before ↦
      let a = get_or_append_left numbers (is_number value ∷ []) false s (omega (arith, marked, before)) in
      let b = get_or_append_left units (units_or_zero value ∷ []) 0 s (omega (arith, long, before)) in
      b ∙ zeros s (omega (arith, long, before)) (sym a ∙ out)
  | inr past ↦
      let last : s ≡ n = omega (arith, past, inside, length_push units (units_or_zero value), long) in
      let none : is_number value ≡ false = sym (get_or_push numbers (is_number value) false n marked)
      ∙ ap (λ k. slice_index_or (numbers ++ is_number value ∷ []) k false) (sym last) ∙ out in
      ap (λ k. slice_index (units ++ units_or_zero value ∷ []) k) last
      ∙ get_or_push units (units_or_zero value) 0 n long ∙ zero-none value none
]

-- an entry that is no number is 0
pub zeros-push : (numbers more : List Bool) (units others : List ℕ) (value : Option ℕ) (n : ℕ) → length numbers ≡ n
    → length units ≡ n → AreZeroElsewhere numbers units → more ≡ numbers ++ is_number value ∷ []
    → others ≡ units ++ units_or_zero value ∷ [] → AreZeroElsewhere more others
zeros-push numbers more units others value n marked long zeros is_more is_others =
    rw (is_more, is_others) (zeros-more numbers units value n marked long zeros)

-- the states before are as they were
entry_at-before : (old new : RewardPlan) (entry : RewardEntry) (n k : ℕ) → HasRewardStates old n
    → IsPushed old new entry → k < n → reward_entry_at old k ≡ reward_entry_at new k
entry_at-before old new entry n k size pushed before =
    let a = value_at-before old.finite.items old.lower.items entry.lower n k size.finite size.lower before in
    let b = get_or_append_left old.choices.items (entry.choice ∷ []) None k (omega (arith, size.choices)) in
    let d = get_or_append_left old.ranks.items (entry.rank ∷ []) 0 k (omega (arith, size.ranks)) in
    let e = value_at-before old.bounded.items old.upper.items entry.upper n k size.bounded size.upper before in
    let f = get_or_append_left old.replies.items (entry.reply ∷ []) None k (omega (arith, size.replies)) in
    cc

-- the last state has this entry
entry_at-last : (old new : RewardPlan) (entry : RewardEntry) (n : ℕ) → HasRewardStates old n
    → IsPushed old new entry → reward_entry_at new n ≡ entry
entry_at-last old new entry n size pushed = simp (
  pushed.finite,
  pushed.lower,
  pushed.choices,
  pushed.ranks,
  pushed.bounded,
  pushed.upper,
  pushed.replies,
  value_at-last old.finite.items old.lower.items entry.lower n size.finite size.lower,
  get_or_push old.choices.items entry.choice None n size.choices,
  get_or_push old.ranks.items entry.rank 0 n size.ranks,
  value_at-last old.bounded.items old.upper.items entry.upper n size.bounded size.upper,
  get_or_push old.replies.items entry.reply None n size.replies,
)

pub entries_of-push : (old new : RewardPlan) (entry : RewardEntry) (n : ℕ) → HasRewardStates old n
    → IsPushed old new entry → reward_entries_of new ≡ reward_entries_of old ++ entry ∷ []
entries_of-push old new entry n size pushed =
    let before : map (reward_entry_at old) (range_with_len 0 n) ≡ map (reward_entry_at new) (range_with_len 0 n) =
    fill_by_all (reward_entry_at new) (map (reward_entry_at old) (range_with_len 0 n)) n entry
    (length-map-range_with_len (reward_entry_at old) 0 n)
    (λ k h. get_or-map-range_with_len (reward_entry_at old) 0 n k k entry h (omega arith)
    ∙ entry_at-before old new entry n k size pushed h) in
    let length_is : length new.lower.items ≡ n + 1 = ap (λ (xs : List ℕ). length xs) pushed.lower
    ∙ length_push old.lower.items (units_or_zero entry.lower) ∙ ap (λ k. k + 1) size.lower in
    let all : reward_entries_of new ≡ map (reward_entry_at new) (range_with_len 0 n) ++ reward_entry_at new n ∷ [] =
    ap (λ k. map (reward_entry_at new) (range_with_len 0 k)) length_is
    ∙ map-range_with_len_more (reward_entry_at new) 0 n n (omega arith) in
    all
    ∙ ap (λ e. map (reward_entry_at new) (range_with_len 0 n) ++ e ∷ []) (entry_at-last old new entry n size pushed)
    ∙ ap (λ es. es ++ entry ∷ []) (sym before)
    ∙ ap (λ k. map (reward_entry_at old) (range_with_len 0 k) ++ entry ∷ []) (sym size.lower)

pub length-entries_of : (plan : RewardPlan) (n : ℕ) → HasRewardStates plan n → length (reward_entries_of plan) ≡ n
length-entries_of plan n size =
    length-map-range_with_len (reward_entry_at plan) 0 (length plan.lower.items) ∙ size.lower
