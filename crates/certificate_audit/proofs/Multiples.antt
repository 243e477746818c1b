-- Tables of which one is a multiple of the other: what is said of the one in its units is said of the other in its own.
use Rattle.std.proofs.Common.{◌≡◌, ◌∙◌, ℕ, zero, suc, ◌+◌, ◌*◌, ◌<◌, ◌≤◌, Bool, true, false, cond, List, [], ◌∷◌, map}
use Rattle.std.proofs.Common.{fold, get_or, inl, inr, refl, ap, sym, arith}
use Rattle.std.specs.Prelude.{Option, Some, None, All, slice_index, slice_index_or}
use Rattle.std.proofs.lemmas.Bool.{cases_lt}
use Rattle.std.proofs.lemmas.List.Elements.{All-nil, All-cons, All-head, All-tail}
use Rattle.std.proofs.Math.Nat.{mul-le-mul_left, max-le, le-max_left, le-max_right, min-le_left, min-le_right}
use Rattle.game_model.specs.declared.game.Edge.{Edge}
use Rattle.game_model.specs.declared.game.Side.{Side}
use Rattle.game_model.specs.declared.game.Side.TheVariants.{Max, Min}
use Rattle.game_model.specs.Game.{Distribution, choices_of, choice_of, no_edge}
use Rattle.game_model.specs.Query.{Query, IsQuery, is_goal, is_dead, side_at}
use Rattle.game_model.specs.Values.{better, optimum, weighted_sum, bellman}
use Rattle.game_model.specs.Rounded.{up_value, IsInductiveIn}
use Rattle.game_model.specs.Ranks.{IsRankedChoice, HasRankedChoice, RankedIn}
use Rattle.game_model.proofs.Best.{weighted_sum-le, min-cases}
use Rattle.game_model.proofs.Choices.{IsChoiceOf, AreChoicesOf-choices_of}
use Rattle.inductive_check.specs.Held.{IsHeld}
use Rattle.inductive_check.specs.Replies.{IsReply, AreReplies}
use Rattle.inductive_check.proofs.UpSteps.{up_value-held, held-up_value}

-- 1. Numbers and their multiples are in the same order.

pub times-le : (f a b : ℕ) → 1 ≤ f → f * a ≤ f * b → a ≤ b
times-le f a b some h = elim (cases_lt b a) [
  | inl less ↦
      let more : b + 1 ≤ a = omega arith in
      absurd (omega (arith, h, mul-le-mul_left f more))
  | inr most ↦ most
]

pub times-eq : (f a b : ℕ) → 1 ≤ f → f * a ≡ f * b → a ≡ b
times-eq f a b some h = omega (arith, times-le f a b some (omega (arith, h)), times-le f b a some (omega (arith, h)))

pub times-lt : (f a b : ℕ) → f * a < f * b → a < b
times-lt f a b h = elim (cases_lt a b) [
  | inl less ↦ less
  | inr most ↦ absurd (omega (arith, h, mul-le-mul_left f most))
]

pub lt-times : (f a b : ℕ) → 1 ≤ f → a < b → f * a < f * b
lt-times f a b some h =
    let more : a + 1 ≤ b = omega arith in
    omega (arith, mul-le-mul_left f more)

-- 2. An optimum is at most a number as far as the values are.

better-bound : (side : Side) (a b x y x' y' : ℕ) → (x ≤ a → x' ≤ b) → (y ≤ a → y' ≤ b) → better side x y ≤ a
    → better side x' y' ≤ b
better-bound Max a b x y x' y' h k most =
    max-le (h (omega (arith, most, le-max_left x y))) (k (omega (arith, most, le-max_right x y)))
better-bound Min a b x y x' y' h k most = elim (min-cases x y) [
  | inl e ↦ let first : x' ≤ b = h (omega (arith, e, most)) in omega (arith, first, min-le_left x' y')
  | inr e ↦ let second : y' ≤ b = k (omega (arith, e, most)) in omega (arith, second, min-le_right x' y')
]

fold-bound : (side : Side) (f g : Distribution → ℕ) (a b x x' : ℕ) (ms : List Distribution) → (x ≤ a → x' ≤ b)
    → All (λ m. f m ≤ a → g m ≤ b) ms → fold (λ best m. better side best (f m)) x ms ≤ a
    → fold (λ best m. better side best (g m)) x' ms ≤ b
fold-bound side f g a b x x' [] h k most = h most
fold-bound side f g a b x x' (m ∷ ms) h k most =
    fold-bound side f g a b (better side x (f m)) (better side x' (g m)) ms
    (better-bound side a b x (f m) x' (g m) h (All-head (λ (m : Distribution). f m ≤ a → g m ≤ b) m ms k))
    (All-tail (λ (m : Distribution). f m ≤ a → g m ≤ b) m ms k) most

optimum-bound : (side : Side) (f g : Distribution → ℕ) (a b : ℕ) (ms : List Distribution)
    → All (λ m. f m ≤ a → g m ≤ b) ms → optimum side f ms ≤ a → optimum side g ms ≤ b
optimum-bound side f g a b [] k most = omega arith
optimum-bound side f g a b (m ∷ ms) k most =
    fold-bound side f g a b (f m) (g m) ms (All-head (λ (m : Distribution). f m ≤ a → g m ≤ b) m ms k)
    (All-tail (λ (m : Distribution). f m ≤ a → g m ≤ b) m ms k) most

bellman-bound : (q : Query) (choices : ℕ → List Distribution) (s top top' a b : ℕ) (f g : Distribution → ℕ)
    → (top ≤ a → top' ≤ b) → All (λ m. f m ≤ a → g m ≤ b) (choices s) → bellman q choices top f s ≤ a
    → bellman q choices top' g s ≤ b
bellman-bound q choices s top top' a b f g h k = by (is_goal q s) (is_dead q s)
  where
    by : (goal dead : Bool) → cond goal top (cond dead 0 (optimum (side_at q s) f (choices s))) ≤ a
        → cond goal top' (cond dead 0 (optimum (side_at q s) g (choices s))) ≤ b
    by true dead most = h most
    by false true most = omega arith
    by false false most = optimum-bound (side_at q s) f g a b (choices s) k most

-- 3. Tables of which the second is a multiple of the first.

module _ (f : ℕ) (some : 1 ≤ f) (v w : ℕ → ℕ) (times : (t : ℕ) → w t ≡ f * v t) where
  sums : (edges : List Edge) → weighted_sum w edges ≡ f * weighted_sum v edges
  sums edges =
      let most : 1 * weighted_sum w edges ≤ f * weighted_sum v edges =
      weighted_sum-le w v 1 f edges (λ i d l. omega (arith, times (get_or edges i d).to)) in
      let least : f * weighted_sum v edges ≤ 1 * weighted_sum w edges =
      weighted_sum-le v w f 1 edges (λ i d l. omega (arith, times (get_or edges i d).to)) in
      omega (arith, most, least)

  held-times : (u x : ℕ) (m : Distribution) → x ≡ f * u → IsHeld v u m → IsHeld w x m
  held-times u x m is held =
      let worth : x * m.total ≡ f * u * m.total = ap (λ n. n * m.total) is in
      omega (arith, worth, sums m.edges, mul-le-mul_left f held)

  times-held : (u x : ℕ) (m : Distribution) → x ≡ f * u → IsHeld w x m → IsHeld v u m
  times-held u x m is held =
      let worth : x * m.total ≡ f * u * m.total = ap (λ n. n * m.total) is in
      times-le f (weighted_sum v m.edges) (u * m.total) some (omega (arith, worth, sums m.edges, held))

  up-times : (game : List (List Distribution)) (u x : ℕ) (m : Distribution) → x ≡ f * u → IsChoiceOf game m
      → up_value v m ≤ u → up_value w m ≤ x
  up-times game u x m is fits most =
      up_value-held w x m fits.positive (held-times u x m is (held-up_value v u m fits.positive most))

  times-up : (game : List (List Distribution)) (u x : ℕ) (m : Distribution) → x ≡ f * u → IsChoiceOf game m
      → up_value w m ≤ x → up_value v m ≤ u
  times-up game u x m is fits most =
      up_value-held v u m fits.positive (times-held u x m is (held-up_value w x m fits.positive most))

  pub inductive-times : (q : Query) (top : ℕ) → IsQuery q → IsInductiveIn top q v → IsInductiveIn (f * top) q w
  inductive-times q top posed inductive s inside =
      bellman-bound q (choices_of q.game) s top (f * top) (v s) (w s) (up_value v) (up_value w)
      (λ most. omega (arith, times s, mul-le-mul_left f most))
      (λ i d l. up-times q.game (v s) (w s) _ (times s) ((AreChoicesOf-choices_of q.game posed.game).each s i d l))
      (inductive s inside)

  pub times-inductive : (q : Query) (top : ℕ) → IsQuery q → IsInductiveIn (f * top) q w → IsInductiveIn top q v
  times-inductive q top posed inductive s inside =
      bellman-bound q (choices_of q.game) s (f * top) top (w s) (v s) (up_value w) (up_value v)
      (λ most. times-le f top (v s) some (omega (arith, times s, most)))
      (λ i d l. times-up q.game (v s) (w s) _ (times s) ((AreChoicesOf-choices_of q.game posed.game).each s i d l))
      (inductive s inside)

  reply-times : (q : Query) (s : ℕ) (reply : Option ℕ) → IsReply q v s reply → IsReply q w s reply
  reply-times q s None is = is
  reply-times q s (Some choice) is = (is.0, held-times (v s) (w s) (choice_of q.game s choice) (times s) is.1)

  times-reply : (q : Query) (s : ℕ) (reply : Option ℕ) → IsReply q w s reply → IsReply q v s reply
  times-reply q s None is = is
  times-reply q s (Some choice) is = (is.0, times-held (v s) (w s) (choice_of q.game s choice) (times s) is.1)

  pub replies-times : (q : Query) (replies : List (Option ℕ)) → AreReplies q v replies → AreReplies q w replies
  replies-times q replies are s inside needs = reply-times q s (slice_index_or replies s None) (are s inside needs)

  pub times-replies : (q : Query) (replies : List (Option ℕ)) → AreReplies q w replies → AreReplies q v replies
  times-replies q replies are s inside needs = times-reply q s (slice_index_or replies s None) (are s inside needs)

  choice-times : (rank : ℕ → ℕ) (s : ℕ) (m : Distribution) → IsRankedChoice v rank s m → IsRankedChoice w rank s m
  choice-times rank s m r =
      let t = (slice_index_or m.edges r.place no_edge).to in
      let worth : w s * m.total ≡ f * v s * m.total = ap (λ n. n * m.total) (times s) in
      record {
        enough = omega (arith, worth, sums m.edges, mul-le-mul_left f r.enough);
        place = r.place;
        inside = r.inside;
        onward = elim r.onward [
          | inl less ↦ inl (omega (arith, times s, times t, lt-times f (v s) (v t) some less))
          | inr same ↦ inr (times t ∙ ap (λ n. f * n) same.0 ∙ sym (times s), same.1)
        ];
      }

  times-choice : (rank : ℕ → ℕ) (s : ℕ) (m : Distribution) → IsRankedChoice w rank s m → IsRankedChoice v rank s m
  times-choice rank s m r =
      let t = (slice_index_or m.edges r.place no_edge).to in
      let worth : w s * m.total ≡ f * v s * m.total = ap (λ n. n * m.total) (times s) in
      record {
        enough = times-le f (v s * m.total) (weighted_sum v m.edges) some
            (omega (arith, worth, sums m.edges, r.enough));
        place = r.place;
        inside = r.inside;
        onward = elim r.onward [
          | inl less ↦ inl (times-lt f (v s) (v t) (omega (arith, times s, times t, less)))
          | inr same ↦ inr (times-eq f (v t) (v s) some (sym (times t) ∙ same.0 ∙ times s), same.1)
        ];
      }

  has-times : (q : Query) (rank : ℕ → ℕ) (choices : List (Option ℕ)) (s : ℕ) → HasRankedChoice q v rank choices s
      → HasRankedChoice q w rank choices s
  has-times q rank choices s has = record {
    choice = has.choice;
    given = has.given;
    inside = has.inside;
    ranked = choice-times rank s (choice_of q.game s has.choice) has.ranked;
  }

  times-has : (q : Query) (rank : ℕ → ℕ) (choices : List (Option ℕ)) (s : ℕ) → HasRankedChoice q w rank choices s
      → HasRankedChoice q v rank choices s
  times-has q rank choices s has = record {
    choice = has.choice;
    given = has.given;
    inside = has.inside;
    ranked = times-choice rank s (choice_of q.game s has.choice) has.ranked;
  }

-- 4. Lists, of which the second is a multiple of the first.

module _ (f : ℕ) (some : 1 ≤ f) (xs ys : List ℕ) (times : (t : ℕ) → slice_index ys t ≡ f * slice_index xs t) where
  pub ranked-times : (q : Query) (top : ℕ) (choices : List (Option ℕ)) (ranks : List ℕ)
      → RankedIn top q xs choices ranks → RankedIn (f * top) q ys choices ranks
  ranked-times q top choices ranks r = record {
    units = λ s inside. omega (arith, times s, mul-le-mul_left f (r.units s inside));
    goals = λ s inside goal. times s ∙ ap (λ n. f * n) (r.goals s inside goal);
    deads = λ s inside dead. omega (arith, times s ∙ ap (λ n. f * n) (r.deads s inside dead));
    greatest = λ s inside goal dead positive side.
        has-times f some (slice_index xs) (slice_index ys) times q (slice_index ranks) choices s
        (r.greatest s inside goal dead (times-lt f 0 (slice_index xs s) (omega (arith, times s, positive))) side);
    least = λ s inside goal dead positive side c within.
        choice-times f some (slice_index xs) (slice_index ys) times (slice_index ranks) s (choice_of q.game s c)
        (r.least s inside goal dead (times-lt f 0 (slice_index xs s) (omega (arith, times s, positive))) side c within);
  }

  pub times-ranked : (q : Query) (top : ℕ) (choices : List (Option ℕ)) (ranks : List ℕ)
      → RankedIn (f * top) q ys choices ranks → RankedIn top q xs choices ranks
  times-ranked q top choices ranks r = record {
    units = λ s inside. times-le f (slice_index xs s) top some (omega (arith, times s, r.units s inside));
    goals = λ s inside goal. times-eq f (slice_index xs s) top some (sym (times s) ∙ r.goals s inside goal);
    deads = λ s inside dead. times-eq f (slice_index xs s) 0 some (omega (arith, times s, r.deads s inside dead));
    greatest = λ s inside goal dead positive side.
        times-has f some (slice_index xs) (slice_index ys) times q (slice_index ranks) choices s
        (r.greatest s inside goal dead (omega (arith, times s, lt-times f 0 (slice_index xs s) some positive)) side);
    least = λ s inside goal dead positive side c within.
        times-choice f some (slice_index xs) (slice_index ys) times (slice_index ranks) s (choice_of q.game s c)
        (r.least s inside goal dead
        (omega (arith, times s, lt-times f 0 (slice_index xs s) some positive)) side c within);
  }

-- each entry of a multiple
pub slice_index-times : (f : ℕ) (xs : List ℕ) (t : ℕ)
    → slice_index (map (λ value. f * value) xs) t ≡ f * slice_index xs t
slice_index-times f [] t = omega arith
slice_index-times f (x ∷ xs) zero = refl
slice_index-times f (x ∷ xs) (suc t) = slice_index-times f xs t

pub units-times : (f top : ℕ) (xs : List ℕ) → All (λ v. v ≤ top) xs
    → All (λ v. v ≤ f * top) (map (λ value. f * value) xs)
units-times f top [] are = All-nil (λ v. v ≤ f * top)
units-times f top (x ∷ xs) are =
    All-cons (λ v. v ≤ f * top) (f * x) (map (λ value. f * value) xs)
    (mul-le-mul_left f (All-head (λ v. v ≤ top) x xs are)) (units-times f top xs (All-tail (λ v. v ≤ top) x xs are))

pub times-units : (f top : ℕ) (xs : List ℕ) → 1 ≤ f → All (λ v. v ≤ f * top) (map (λ value. f * value) xs)
    → All (λ v. v ≤ top) xs
times-units f top [] some are = All-nil (λ v. v ≤ top)
times-units f top (x ∷ xs) some are =
    All-cons (λ v. v ≤ top) x xs
    (times-le f x top some (All-head (λ v. v ≤ f * top) (f * x) (map (λ value. f * value) xs) are))
    (times-units f top xs some (All-tail (λ v. v ≤ f * top) (f * x) (map (λ value. f * value) xs) are))
