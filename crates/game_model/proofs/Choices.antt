-- What the laws need of choices: their weights sum to their totals, which divide the denominator.
use Rattle.std.proofs.Common.{◌≡◌, ℕ, zero, suc, ◌*◌, ◌/◌, ◌<◌, ◌≤◌, List, [], ◌∷◌, length, arith, sum_by}
use Rattle.std.proofs.Common.{inl, inr, true, false, Option, take, drop}
use Rattle.std.specs.Int.{◌∣◌}
use Rattle.std.specs.List.{All}
use Rattle.std.specs.Prelude.{slice_index_or}
use Rattle.std.proofs.lemmas.Bool.{cases_lt}
use Rattle.std.proofs.lemmas.List.{get_or_past}
use Rattle.std.proofs.lemmas.List.Elements.{All-nil, All-same, All-from_get_or, All-take, All-drop}
use Rattle.std.proofs.Math.Nat.{dvd-mul_right, dvd-mul_left_of_dvd, dvd-mul_right_of_dvd, div-mul_cancel, mul-pos}
use Rattle.std.specs.Bool.{if◌then◌else◌}
use Rattle.std.proofs.lemmas.Bool.Decides.{nat_tests}
use Rattle.game_model.specs.declared.game.Side.{Side}
use Rattle.game_model.specs.Game.{Distribution, IsGame, choices_of, choice_of, no_distribution}
use Rattle.game_model.specs.Query.{Query, side_at}
use Rattle.game_model.specs.Values.{total_product, denominator}
use Rattle.game_model.specs.Plans.{same_side, planned_place, planned}
use Rattle.game_model.proofs.Rising.{total-pos}

-- what the laws need of a choice of a game
pub record IsChoiceOf (game : List (List Distribution)) (choice : Distribution) : Type 0 where
  pub sums : sum_by (λ e. e.weight) choice.edges ≡ choice.total
  pub positive : 0 < choice.total
  pub weights : All (λ e. 1 ≤ e.weight) choice.edges
  pub divides : denominator game / choice.total * choice.total ≡ denominator game
  pub inside : All (λ e. e.to < length game) choice.edges

-- what the laws need of the choices of each state
pub record AreChoicesOf (game : List (List Distribution)) (choices : ℕ → List Distribution) : Type 0 where
  pub each : (s : ℕ) → All (IsChoiceOf game) (choices s)
  pub some : (s : ℕ) → s < length game → 0 < length (choices s)

-- a total divides the product of the totals of its state
total-divides-product : (choices : List Distribution) (c : ℕ) → c < length choices
    → (slice_index_or choices c no_distribution).total ∣ total_product choices
total-divides-product [] c l = absurd (omega arith)
total-divides-product (m ∷ ms) zero l = dvd-mul_right m.total (total_product ms)
total-divides-product (m ∷ ms) (suc c) l = dvd-mul_left_of_dvd _ (total-divides-product ms c (omega arith)) m.total

-- and the common denominator
total-divides : (game : List (List Distribution)) (s c : ℕ) → s < length game → c < length (choices_of game s)
    → (choice_of game s c).total ∣ denominator game
total-divides [] s c ls lc = absurd (omega arith)
total-divides (choices ∷ game) zero c ls lc =
    dvd-mul_right_of_dvd _ (total-divides-product choices c lc) (denominator game)
total-divides (choices ∷ game) (suc s) c ls lc =
    dvd-mul_left_of_dvd _ (total-divides game s c (omega arith) lc) (total_product choices)

-- each choice of a game is such a choice
pub IsChoiceOf-choice_of : (game : List (List Distribution)) (s c : ℕ) → IsGame game → s < length game
    → c < length (choices_of game s) → IsChoiceOf game (choice_of game s c)
IsChoiceOf-choice_of game s c h ls lc = record {
  sums = (h.distribution s c ls lc).sums;
  positive = total-pos _ (h.distribution s c ls lc);
  weights = (h.distribution s c ls lc).weights;
  divides = div-mul_cancel (choice_of game s c).total (total-divides game s c ls lc);
  inside = h.inside s c ls lc;
}

pub AreChoicesOf-choices_of : (game : List (List Distribution)) → IsGame game → AreChoicesOf game (choices_of game)
AreChoicesOf-choices_of game h = record {
  each = λ s. elim (cases_lt s (length game)) [
    | inl inside ↦ All-from_get_or (IsChoiceOf game) (choices_of game s) no_distribution
        (λ c l. IsChoiceOf-choice_of game s c h inside l)
    | inr past ↦ All-same (IsChoiceOf game) (choices_of game s) [] (get_or_past game s [] past)
        (All-nil (IsChoiceOf game))
  ];
  some = h.chosen;
}

total_product-pos : (choices : List Distribution)
    → ((c : ℕ) → c < length choices → 0 < (slice_index_or choices c no_distribution).total) → 0 < total_product choices
total_product-pos [] h = omega arith
total_product-pos (m ∷ ms) h = mul-pos (h zero (omega arith)) (total_product-pos ms (λ c l. h (suc c) (omega arith)))

product-pos : (game : List (List Distribution))
    → ((s c : ℕ) → s < length game → c < length (choices_of game s) → 0 < (choice_of game s c).total)
    → 0 < denominator game
product-pos [] h = omega arith
product-pos (choices ∷ game) h = mul-pos (total_product-pos choices (λ c l. h zero c (omega arith) l))
    (product-pos game (λ s c ls lc. h (suc s) c (omega arith) lc))

-- the common denominator is positive
pub denominator-pos : (game : List (List Distribution)) → IsGame game → 0 < denominator game
denominator-pos game h = product-pos game (λ s c ls lc. total-pos _ (h.distribution s c ls lc))

length-one : {X : Type 0} (xs : List X) (i : ℕ) → i < length xs → 0 < length (take 1 (drop i xs))
length-one [] i l = absurd (omega arith)
length-one (x ∷ xs) zero l = omega arith
length-one (x ∷ xs) (suc i) l = length-one xs i (omega arith)

pub planned_place-inside : (plan : List (Option ℕ)) (s count : ℕ) → 0 < count → planned_place plan s count < count
planned_place-inside plan s count some = grind (arith, nat_tests)

-- choices under a plan are choices of the game
pub AreChoicesOf-planned : (q : Query) (side : Side) (plan : List (Option ℕ)) → IsGame q.game
    → AreChoicesOf q.game (planned q side plan)
AreChoicesOf-planned q side plan h =
    let all : AreChoicesOf q.game (choices_of q.game) = AreChoicesOf-choices_of q.game h in
    record {
      each = λ s. elim (same_side (side_at q s) side) as (λ mine. All (IsChoiceOf q.game)
          (if mine then take 1 (drop (planned_place plan s (length (choices_of q.game s))) (choices_of q.game s))
          else choices_of q.game s)) [
            | true ↦
                let place : ℕ = planned_place plan s (length (choices_of q.game s)) in
                All-take (IsChoiceOf q.game) 1 (drop place (choices_of q.game s))
                (All-drop (IsChoiceOf q.game) place (choices_of q.game s) (all.each s))
            | false ↦ all.each s
          ];
      some = λ s inside. elim (same_side (side_at q s) side) as (λ mine. 0 < length {A = Distribution}
          (if mine then take 1 (drop (planned_place plan s (length (choices_of q.game s))) (choices_of q.game s))
          else choices_of q.game s)) [
            | true ↦ length-one (choices_of q.game s) _
                (planned_place-inside plan s (length (choices_of q.game s)) (all.some s inside))
            | false ↦ all.some s inside
          ];
    }
