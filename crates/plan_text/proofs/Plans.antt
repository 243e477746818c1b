-- What a plan says of each state, as it grows.
use Rattle.std.proofs.Common.{◌≡◌, ◌<◌, ◌+◌, ℕ, List, [], ◌∷◌, ◌++◌, length, map, None, sym, ap, ◌∙◌, arith}
use Rattle.std.specs.List.{range_with_len}
use Rattle.std.proofs.lemmas.List.{length_push, get_or_append_left, get_or_push}
use Rattle.std.proofs.lemmas.List.FromFn.{map-range_with_len_more, fill_by_all, length-map-range_with_len}
use Rattle.std.proofs.lemmas.List.FromFn.{get_or-map-range_with_len}
use Rattle.plan_text.specs.declared.plan.Plan.{Plan}
use Rattle.plan_text.specs.Entries.{Entry, HasStates, entry_at, entries_of}

-- one more state
pub record IsPushed (old new : Plan) (entry : Entry) : Type 0 where
  pub lower : new.lower.items ≡ old.lower.items ++ entry.lower ∷ []
  pub choices : new.choices.items ≡ old.choices.items ++ entry.choice ∷ []
  pub ranks : new.ranks.items ≡ old.ranks.items ++ entry.rank ∷ []
  pub upper : new.upper.items ≡ old.upper.items ++ entry.upper ∷ []
  pub replies : new.replies.items ≡ old.replies.items ++ entry.reply ∷ []

-- the states before are as they were
entry_at-before : (old new : Plan) (entry : Entry) (n k : ℕ) → HasStates old n → IsPushed old new entry → k < n
    → entry_at old k ≡ entry_at new k
entry_at-before old new entry n k size pushed before =
    let a = get_or_append_left old.lower.items (entry.lower ∷ []) 0 k (omega (arith, size.lower)) in
    let b = get_or_append_left old.choices.items (entry.choice ∷ []) None k (omega (arith, size.choices)) in
    let d = get_or_append_left old.ranks.items (entry.rank ∷ []) 0 k (omega (arith, size.ranks)) in
    let e = get_or_append_left old.upper.items (entry.upper ∷ []) 0 k (omega (arith, size.upper)) in
    let f = get_or_append_left old.replies.items (entry.reply ∷ []) None k (omega (arith, size.replies)) in
    cc

-- the last state has this entry
entry_at-last : (old new : Plan) (entry : Entry) (n : ℕ) → HasStates old n → IsPushed old new entry
    → entry_at new n ≡ entry
entry_at-last old new entry n size pushed = simp (
  pushed.lower,
  pushed.choices,
  pushed.ranks,
  pushed.upper,
  pushed.replies,
  get_or_push old.lower.items entry.lower 0 n size.lower,
  get_or_push old.choices.items entry.choice None n size.choices,
  get_or_push old.ranks.items entry.rank 0 n size.ranks,
  get_or_push old.upper.items entry.upper 0 n size.upper,
  get_or_push old.replies.items entry.reply None n size.replies,
)

pub entries_of-push : (old new : Plan) (entry : Entry) (n : ℕ) → HasStates old n → IsPushed old new entry
    → entries_of new ≡ entries_of old ++ entry ∷ []
entries_of-push old new entry n size pushed =
    let before : map (entry_at old) (range_with_len 0 n) ≡ map (entry_at new) (range_with_len 0 n) =
    fill_by_all (entry_at new) (map (entry_at old) (range_with_len 0 n)) n entry
    (length-map-range_with_len (entry_at old) 0 n)
    (λ k h. get_or-map-range_with_len (entry_at old) 0 n k k entry h (omega arith)
    ∙ entry_at-before old new entry n k size pushed h) in
    let length_is : length new.lower.items ≡ n + 1 = ap (λ (xs : List ℕ). length xs) pushed.lower
    ∙ length_push old.lower.items entry.lower ∙ ap (λ k. k + 1) size.lower in
    let all : entries_of new ≡ map (entry_at new) (range_with_len 0 n) ++ entry_at new n ∷ [] =
    ap (λ k. map (entry_at new) (range_with_len 0 k)) length_is
    ∙ map-range_with_len_more (entry_at new) 0 n n (omega arith) in
    all
    ∙ ap (λ e. map (entry_at new) (range_with_len 0 n) ++ e ∷ []) (entry_at-last old new entry n size pushed)
    ∙ ap (λ es. es ++ entry ∷ []) (sym before)
    ∙ ap (λ k. map (entry_at old) (range_with_len 0 k) ++ entry ∷ []) (sym size.lower)

pub length-entries_of : (plan : Plan) (n : ℕ) → HasStates plan n → length (entries_of plan) ≡ n
length-entries_of plan n size = length-map-range_with_len (entry_at plan) 0 (length plan.lower.items) ∙ size.lower
