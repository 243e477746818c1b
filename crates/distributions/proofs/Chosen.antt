-- The distribution that is said of parts is the one that they denote.
use Rattle.std.proofs.Common.{◌≡◌, ◌∙◌, ◌<◌, ◌≤◌, ◌*◌, inl, inr, ℕ, List, [], ◌∷◌, refl, ap, sym, subst, cond, length}
use Rattle.std.proofs.Common.{get_or, arith, Result, Ok, Err}
use Rattle.std.specs.Prelude.{nat_lt}
use Prim.Native.Nat.{◌∣◌}
use Rattle.std.specs.List.Sorted.{IsPermutation}
use Rattle.std.proofs.lemmas.List.Sorted.{All-permutation, sum_by-IsPermutation, IsPermutation-map, IsPermutation-sym}
use Rattle.std.proofs.lemmas.Bool.{le-ltb, ltb-false}
use Rattle.game_model.specs.declared.game.Edge.{Edge}
use Rattle.game_model.specs.Game.{Distribution, total_of}
use Rattle.game_model.proofs.RisingEdges.{IsRising-from, weighty-from, RiseFrom-rising}
use Rattle.distributions.specs.declared.choice.Part.{Part}
use Rattle.distributions.specs.declared.choice.ChoiceFault.{ChoiceFault}
use Rattle.distributions.specs.declared.choice.ChoiceFault.TheVariants.{BadSum}
use Rattle.fractions.specs.Divisors.{gcd_within, gcd, lcm}
use Rattle.distributions.specs.Limits.{tolerance}
use Rattle.distributions.specs.Parts.{edge_of_part, weighted, distance, DenotesChoice, denominator_said, gathered}
use Rattle.distributions.specs.Parts.{sum_said, with_total, choice_over, choice_said}
use Rattle.distributions.proofs.Gathering.{gives, gathered-rises, gathered-weights, gathered-only}
use Rattle.distributions.proofs.Multiples.{AreKept, over, over-is, common-same, denominator-found}
use Rattle.distributions.proofs.Multiples.{denominator-again, denominator-is}
use Rattle.numerals.proofs.Grammar.{chosen}

ok-same : (d e : Distribution) → ◌≡◌ {A = Result Distribution ChoiceFault} (Ok d) (Ok e) → d ≡ e
ok-same d e h = cc

found-over : (parts : List Part) (d : Distribution) (r : Result ℕ ChoiceFault) → AreKept parts
    → denominator_said 1 parts ≡ r → choice_over r parts ≡ Ok d → DenotesChoice parts d
found-over parts d (Err fault) kept said is = cc
found-over parts d (Ok common) kept said is =
    let edges : List Edge = gathered (weighted common parts) in
    elim (chosen (nat_lt common (distance (total_of edges) common * tolerance)) (Err (BadSum (total_of edges) common))
    (Ok (record { total = total_of edges; edges = edges })) (Ok d) is) [
      | inl t ↦ cc t.1
      | inr t ↦
          let P : Distribution → Type 0 = λ x. DenotesChoice parts x in
          subst P (ok-same (record { total = total_of edges; edges = edges }) d t.1) (record {
            common = common;
            denominator = denominator-is parts common kept said;
            fine = (denominator-found 1 parts common (omega arith) said).1;
            rising = IsRising-from 0 edges (gathered-rises (weighted common parts));
            weighty = weighty-from 0 edges (gathered-rises (weighted common parts));
            weights = gathered-weights (weighted common parts);
            total = refl;
            near_one = ltb-false common (distance (total_of edges) common * tolerance) t.0;
          })
    ]

pub choice-found : (parts : List Part) (d : Distribution) → AreKept parts → choice_said parts ≡ Ok d
    → DenotesChoice parts d
choice-found parts d kept is = found-over parts d (denominator_said 1 parts) kept refl is

pub choice-again : (parts : List Part) (d : Distribution) → AreKept parts → DenotesChoice parts d
    → choice_said parts ≡ Ok d
choice-again parts d kept h =
    let same : h.common ≡ over 1 parts = common-same h.common (over 1 parts) parts h.denominator (over-is parts kept) in
    let said : denominator_said 1 parts ≡ Ok h.common =
    denominator-again 1 parts (omega arith) kept (omega (arith, same, h.fine)) ∙ ap (λ n. Ok n) (sym same) in
    let edges : gathered (weighted h.common parts) ≡ d.edges =
    gathered-only (weighted h.common parts) d.edges
    (RiseFrom-rising 0 d.edges (λ e l. omega arith) h.rising h.weighty) h.weights in
    let near : distance (total_of d.edges) h.common * tolerance ≤ h.common =
    let P : ℕ → Type 0 = λ n. distance n h.common * tolerance ≤ h.common in subst P h.total h.near_one in
    let distribution : ℕ → Distribution = λ n. record { total = n; edges = d.edges } in
    ap (λ r. choice_over r parts) said
    ∙ ap (λ es. sum_said h.common es) edges
    ∙ ap (λ b. cond b (Err (BadSum (total_of d.edges) h.common)) (Ok (distribution (total_of d.edges))))
    (le-ltb h.common (distance (total_of d.edges) h.common * tolerance) near)
    ∙ ap (λ n. Ok (distribution n)) (sym h.total)

-- the order of the parts plays no part
pub DenotesChoice-permutation : (parts others : List Part) (d : Distribution) → IsPermutation parts others
    → DenotesChoice parts d → DenotesChoice others d
DenotesChoice-permutation parts others d moved h =
    let divided : ℕ → Part → Type 0 = λ m part. part.share.den ∣ m in
    let back = IsPermutation-sym parts others moved in
    record {
      common = h.common;
      denominator = record {
        positive = h.denominator.positive;
        multiple = All-permutation (divided h.common) parts others moved h.denominator.multiple;
        least = λ m each. h.denominator.least m (All-permutation (divided m) others parts back each);
      };
      fine = h.fine;
      rising = h.rising;
      weighty = h.weighty;
      weights = λ to. h.weights to
          ∙ sym (sum_by-IsPermutation (gives to) (weighted h.common parts) (weighted h.common others)
          (IsPermutation-map (edge_of_part h.common) parts others moved));
      total = h.total;
      near_one = h.near_one;
    }

-- the one part of a list of one
pub only : (parts : List Part) (part : Part) → 1 ≤ length parts → length parts < 2
    → part ≡ get_or parts 0 part → parts ≡ part ∷ []
only [] part some few is = absurd (omega arith)
only (p ∷ []) part some few is = ap (λ x. x ∷ []) (sym is)
only (p ∷ q ∷ parts) part some few is = absurd (omega arith)

-- one part of probability 1 makes a sure move
sure-of : (to : ℕ) → choice_said (record { to = to; share = record { num = 1; den = 1 } } ∷ [])
    ≡ Ok (with_total (record { to = to; weight = 1 } ∷ []) 1)
unfolding lcm gcd gcd_within
sure-of to =
    let edges : List Edge = record { to = to; weight = 1 } ∷ [] in
    ap (λ es. sum_said 1 es) (gathered-only edges edges (omega arith, omega arith, tt) (λ at. refl))

pub sure_said : (part : Part) (edge : Edge) → part.share.num ≡ 1 → part.share.den ≡ 1 → edge.to ≡ part.to
    → edge.weight ≡ 1 → choice_said (part ∷ []) ≡ Ok (with_total (edge ∷ []) 1)
sure_said part edge num den to weight =
    let part_with : ℕ → ℕ → Part = λ n d. record { to = part.to; share = record { num = n; den = d } } in
    let edge_with : ℕ → ℕ → Edge = λ t w. record { to = t; weight = w } in
    ap (λ n. choice_said (part_with n part.share.den ∷ [])) num
    ∙ ap (λ d. choice_said (part_with 1 d ∷ [])) den ∙ sure-of part.to
    ∙ ap (λ t. Ok (with_total (edge_with t 1 ∷ []) 1)) (sym to)
    ∙ ap (λ w. Ok (with_total (edge_with edge.to w ∷ []) 1)) (sym weight)
