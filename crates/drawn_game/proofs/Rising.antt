-- The edges that parts add up to: they rise, and one part more is one more sum.
use Rattle.std.proofs.Common.{add-zero, ◌≡◌, ◌≢◌, ◌∙◌, ◌<◌, ◌≤◌, ◌+◌, ◌*◌, ◌==◌, ◌⊎◌, inl, inr, ℕ, zero, suc, cond}
use Rattle.std.proofs.Common.{nat_lt, List, [], ◌∷◌, ◌++◌, refl, sym, ap, subst, length, map, filter, arith, zero-add}
use Rattle.std.specs.Prelude.{All}
use Rattle.std.specs.List.{range_with_len}
use Rattle.std.proofs.lemmas.Bool.{cases_lt, lt-ltb, le-ltb, eq-eqb, ne_eqb}
use Rattle.std.proofs.lemmas.List.Elements.{All-nil, All-cons, All-weaker}
use Rattle.std.proofs.lemmas.List.Sums.{sum_by-cons, sum_by_push}
use Rattle.game_model.specs.declared.game.Edge.{Edge}
use Rattle.game_model.specs.Game.{IsRising, weight_to, total_of}
use Rattle.game_model.specs.Rising.{RiseFrom}
use Rattle.game_model.proofs.RisingEdges.{RiseFrom-less, IsRising-from, weighty-from}
use Rattle.drawn_game.specs.Parts.{added_up}
use Rattle.drawn_game.specs.inside.Adding.{with_part}
use Rattle.drawn_game.proofs.Adding.{with_part-before, with_part-at, with_part-behind, with_part-some}
use Rattle.drawn_game.proofs.Adding.{total_of-with_part}

-- the edges of these weights to n states from `first` on
abbrev pub edges_of : (ℕ → ℕ) → ℕ → ℕ → List Edge
edges_of weight first n = filter (λ (e : Edge). nat_lt 0 e.weight)
    (map (λ to. record { to = to; weight = weight to }) (range_with_len first n))

pub edges_of-some : (weight : ℕ → ℕ) (first n : ℕ) → 0 < weight first
    → edges_of weight first (suc n) ≡ record { to = first; weight = weight first } ∷ edges_of weight (first + 1) n
edges_of-some weight first n h =
    ap (λ b. cond b (record { to = first; weight = weight first } ∷ edges_of weight (first + 1) n)
    (edges_of weight (first + 1) n)) (lt-ltb 0 (weight first) h)

pub edges_of-none : (weight : ℕ → ℕ) (first n : ℕ) → weight first ≡ 0
    → edges_of weight first (suc n) ≡ edges_of weight (first + 1) n
edges_of-none weight first n e =
    ap (λ b. cond b (record { to = first; weight = weight first } ∷ edges_of weight (first + 1) n)
    (edges_of weight (first + 1) n)) (le-ltb 0 (weight first) (omega (arith, e)))

pub none_or_some : (n : ℕ) → (n ≡ 0) ⊎ (0 < n)
none_or_some zero = inl refl
none_or_some (suc n) = inr (omega arith)

-- 1. They rise.

edges_of-rises : (weight : ℕ → ℕ) (first n : ℕ) → RiseFrom first (edges_of weight first n)
edges_of-rises weight first zero = tt
edges_of-rises weight first (suc n) =
    let P : List Edge → Type 0 = λ es. RiseFrom first es in
    let rest = edges_of-rises weight (first + 1) n in
    elim (none_or_some (weight first)) [
      | inl none ↦ subst P (sym (edges_of-none weight first n none))
          (RiseFrom-less first (first + 1) (edges_of weight (first + 1) n) (omega arith) rest)
      | inr some ↦ subst P (sym (edges_of-some weight first n some)) (omega arith, omega (arith, some), rest)
    ]

pub added_up-rises : (n : ℕ) (parts : List Edge) → IsRising (added_up n parts)
unfolding added_up
added_up-rises n parts = IsRising-from 0 (added_up n parts) (edges_of-rises (weight_to parts) 0 n)

pub added_up-weighty : (n : ℕ) (parts : List Edge) → All (λ e. 1 ≤ e.weight) (added_up n parts)
unfolding added_up
added_up-weighty n parts = weighty-from 0 (added_up n parts) (edges_of-rises (weight_to parts) 0 n)

-- 2. They lead to the n states.

edges_of-inside : (weight : ℕ → ℕ) (first n : ℕ) → All (λ e. e.to < first + n) (edges_of weight first n)
edges_of-inside weight first zero = All-nil (λ (e : Edge). e.to < first + zero)
edges_of-inside weight first (suc n) =
    let P : List Edge → Type 0 = λ es. All (λ e. e.to < first + suc n) es in
    let rest : All (λ e. e.to < first + suc n) (edges_of weight (first + 1) n) =
    All-weaker (λ (e : Edge). e.to < first + 1 + n) (λ (e : Edge). e.to < first + suc n) (λ e h. omega (arith, h))
    (edges_of weight (first + 1) n) (edges_of-inside weight (first + 1) n) in
    elim (none_or_some (weight first)) [
      | inl none ↦ subst P (sym (edges_of-none weight first n none)) rest
      | inr some ↦
          subst P (sym (edges_of-some weight first n some))
          (All-cons (λ (e : Edge). e.to < first + suc n) (record { to = first; weight = weight first })
          (edges_of weight (first + 1) n) (omega arith) rest)
    ]

pub added_up-inside : (n : ℕ) (parts : List Edge) → All (λ e. e.to < n) (added_up n parts)
unfolding added_up
added_up-inside n parts =
    let P : ℕ → Type 0 = λ m. All (λ e. e.to < m) (added_up n parts) in
    subst P (zero-add n) (edges_of-inside (weight_to parts) 0 n)

-- 3. One part more.

edges_of-agree : (v w : ℕ → ℕ) (first n : ℕ) → ((to : ℕ) → first ≤ to → v to ≡ w to)
    → edges_of v first n ≡ edges_of w first n
edges_of-agree v w first zero agree = refl
edges_of-agree v w first (suc n) agree =
    let this : v first ≡ w first = agree first (omega arith) in
    let rest : edges_of v (first + 1) n ≡ edges_of w (first + 1) n =
    edges_of-agree v w (first + 1) n (λ to h. agree to (omega arith)) in
    ap (λ k.
    cond (nat_lt 0 k) (record { to = first; weight = k } ∷ edges_of v (first + 1) n) (edges_of v (first + 1) n)) this
    ∙ ap (λ es. cond (nat_lt 0 (w first)) (record { to = first; weight = w first } ∷ es) es) rest

with_part-front : (least : ℕ) (edges : List Edge) (part : Edge) → RiseFrom least edges → part.to < least
    → with_part edges part ≡ part ∷ edges
with_part-front least [] part rise h = refl
with_part-front least (e ∷ edges) part rise h = with_part-before e part edges (omega (arith, rise.0))

-- the weights w are those of v, and the part's at its destination
pub record IsHeavier (v w : ℕ → ℕ) (part : Edge) : Type 0 where
  pub some : 0 < part.weight
  pub there : w part.to ≡ v part.to + part.weight
  pub elsewhere : (to : ℕ) → to ≢ part.to → v to ≡ w to

with_part-edges_of : (v w : ℕ → ℕ) (first n : ℕ) (part : Edge) → IsHeavier v w part → first ≤ part.to
    → part.to < first + n → with_part (edges_of v first n) part ≡ edges_of w first n
with_part-edges_of v w first zero part is low high = absurd (omega (arith, low, high))
with_part-edges_of v w first (suc n) part is low high = elim (cases_lt first part.to) [
  | inl behind ↦ further v w first n part is behind
      (with_part-edges_of v w (first + 1) n part is (omega arith) (omega arith))
  | inr here ↦ reached v w first n part is (omega (arith, low, here))
]
  where
    further : (v w : ℕ → ℕ) (first n : ℕ) (part : Edge) → IsHeavier v w part → first < part.to
        → with_part (edges_of v (first + 1) n) part ≡ edges_of w (first + 1) n
        → with_part (edges_of v first (suc n)) part ≡ edges_of w first (suc n)
    further v w first n part is behind rest =
        let same : v first ≡ w first = is.elsewhere first (λ e. omega (arith, e, behind)) in
        elim (none_or_some (v first)) [
          | inl none ↦ ap (λ es. with_part es part) (edges_of-none v first n none) ∙ rest
              ∙ sym (edges_of-none w first n (sym same ∙ none))
          | inr some ↦
              ap (λ es. with_part es part) (edges_of-some v first n some)
              ∙ with_part-behind (record { to = first; weight = v first }) part (edges_of v (first + 1) n) behind
              ∙ ap (λ es. record { to = first; weight = v first } ∷ es) rest
              ∙ ap (λ k. record { to = first; weight = k } ∷ edges_of w (first + 1) n) same
              ∙ sym (edges_of-some w first n (omega (arith, some, same)))
        ]

    reached : (v w : ℕ → ℕ) (first n : ℕ) (part : Edge) → IsHeavier v w part → first ≡ part.to
        → with_part (edges_of v first (suc n)) part ≡ edges_of w first (suc n)
    reached v w first n part is here =
        let there : w first ≡ v first + part.weight = ap w here ∙ is.there ∙ ap (λ to. v to + part.weight) (sym here) in
        let rest : edges_of v (first + 1) n ≡ edges_of w (first + 1) n =
        edges_of-agree v w (first + 1) n (λ to h. is.elsewhere to (λ e. omega (arith, e, h, here))) in
        let new : edges_of w first (suc n) ≡ record { to = first; weight = w first } ∷ edges_of w (first + 1) n =
        edges_of-some w first n (omega (arith, there, is.some)) in
        elim (none_or_some (v first)) [
          | inl none ↦
              ap (λ es. with_part es part) (edges_of-none v first n none)
              ∙ with_part-front (first + 1) (edges_of v (first + 1) n) part (edges_of-rises v (first + 1) n)
              (omega (arith, here))
              ∙ ap (λ es. part ∷ es) rest
              ∙ ap (λ to. record { to = to; weight = part.weight } ∷ edges_of w (first + 1) n) (sym here)
              ∙ ap (λ k. record { to = first; weight = k } ∷ edges_of w (first + 1) n) (omega (arith, there, none))
              ∙ sym new
          | inr some ↦
              ap (λ es. with_part es part) (edges_of-some v first n some)
              ∙ with_part-at (record { to = first; weight = v first }) part (edges_of v (first + 1) n) (sym here)
              ∙ ap (λ es. record { to = first; weight = v first + part.weight } ∷ es) rest
              ∙ ap (λ k. record { to = first; weight = k } ∷ edges_of w (first + 1) n) (sym there)
              ∙ sym new
        ]

weight_to-push : (parts : List Edge) (part : Edge) (to : ℕ)
    → weight_to (parts ++ part ∷ []) to ≡ weight_to parts to + cond (part.to == to) part.weight 0
weight_to-push parts part to = sum_by_push (λ (e : Edge). cond (e.to == to) e.weight 0) parts part

heavier : (parts : List Edge) (part : Edge) → 0 < part.weight
    → IsHeavier (weight_to parts) (weight_to (parts ++ part ∷ [])) part
heavier parts part some = record {
  some = some;
  there = weight_to-push parts part part.to
      ∙ ap (λ b. weight_to parts part.to + cond b part.weight 0) (eq-eqb part.to part.to refl);
  elsewhere = λ to other. sym (weight_to-push parts part to ∙ ap (λ b. weight_to parts to + cond b part.weight 0)
      (ne_eqb part.to to (λ e. other (sym e))) ∙ add-zero (weight_to parts to));
}

-- one part more is added up as well
pub added_up-push : (n : ℕ) (parts : List Edge) (part : Edge) → 0 < part.weight → part.to < n
    → with_part (added_up n parts) part ≡ added_up n (parts ++ part ∷ [])
unfolding added_up
added_up-push n parts part some inside =
    with_part-edges_of (weight_to parts) (weight_to (parts ++ part ∷ [])) 0 n part (heavier parts part some)
    (omega arith) (omega (arith, inside))

edges_of-nothing : (first n : ℕ) → edges_of (weight_to []) first n ≡ []
edges_of-nothing first zero = refl
edges_of-nothing first (suc n) = edges_of-none (weight_to []) first n refl ∙ edges_of-nothing (first + 1) n

added_up-nothing : (n : ℕ) → added_up n [] ≡ []
unfolding added_up
added_up-nothing n = edges_of-nothing 0 n

-- 4. The edges so far of a choice, of so many parts.

pub record AreOfParts (n : ℕ) (parts : List Edge) (count : ℕ) (edges : List Edge) : Type 0 where
  pub added : edges ≡ added_up n parts
  pub total : total_of edges ≡ total_of parts
  pub small : total_of edges ≤ 9 * count
  pub some : 0 < length edges

-- a part as it is drawn
pub record IsPart (n : ℕ) (part : Edge) : Type 0 where
  pub some : 1 ≤ part.weight
  pub small : part.weight ≤ 9
  pub inside : part.to < n

pub first_of_parts : (n : ℕ) (part : Edge) → IsPart n part → AreOfParts n (part ∷ []) 1 (part ∷ [])
first_of_parts n part is = record {
  added = ap (λ es. with_part es part) (sym (added_up-nothing n))
      ∙ added_up-push n [] part (omega (arith, is.some)) is.inside;
  total = refl;
  small = omega (arith, is.small, sum_by-cons (λ (e : Edge). e.weight) part []);
  some = omega arith;
}

pub more_of_parts : (n : ℕ) (parts : List Edge) (count : ℕ) (edges : List Edge) (part : Edge)
    → AreOfParts n parts count edges → IsPart n part
    → AreOfParts n (parts ++ part ∷ []) (count + 1) (with_part edges part)
more_of_parts n parts count edges part are is = record {
  added = ap (λ es. with_part es part) are.added ∙ added_up-push n parts part (omega (arith, is.some)) is.inside;
  total = total_of-with_part edges part ∙ ap (λ k. k + part.weight) are.total
      ∙ sym (sum_by_push (λ (e : Edge). e.weight) parts part);
  small = omega (arith, total_of-with_part edges part, are.small, is.small);
  some = with_part-some edges part;
}
