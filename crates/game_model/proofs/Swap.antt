-- The swapped question: not being lost for k steps is not losing in k steps.
use Rattle.std.proofs.Common.{◌≡◌, ℕ, zero, suc, ◌+◌, ◌*◌, ◌/◌, ◌^◌, ◌<◌, Bool, true, false, List, [], ◌∷◌, length}
use Rattle.std.proofs.Common.{fold, get_or, max, min, arith, refl, sym, ap, subst}
use Rattle.std.specs.List.{All}
use Rattle.std.specs.Prelude.{slice_index_or}
use Rattle.std.specs.Bool.{if◌then◌else◌}
use Rattle.std.proofs.lemmas.List.{get_or-map}
use Rattle.std.proofs.lemmas.List.Elements.{All-head, All-tail}
use Rattle.std.proofs.Math.Nat.{pow-suc, pow-zero}
use Rattle.game_model.specs.declared.game.Side.{Side}
use Rattle.game_model.specs.declared.game.Side.TheVariants.{Max, Min}
use Rattle.game_model.specs.Game.{Distribution, choices_of}
use Rattle.game_model.specs.Query.{Query, is_goal, side_at}
use Rattle.game_model.specs.Values.{better, optimum, weighted_sum, denominator, numerator_of, numerator}
use Rattle.game_model.specs.Dual.{open_numerator, other_side, swapped}
use Rattle.game_model.proofs.Choices.{IsChoiceOf, AreChoicesOf}
use Rattle.game_model.proofs.Best.{weighted_sum-both}

-- the better of one side and of the other
better-both : (side : Side) (m x y x' y' : ℕ) → x + x' ≡ m → y + y' ≡ m
    → better side x y + better (other_side side) x' y' ≡ m
better-both Max m x y x' y' h k = let at : max x y + min x' y' ≡ m = omega arith in at
better-both Min m x y x' y' h k = let at : min x y + max x' y' ≡ m = omega arith in at

fold-better-both : {X : Type 0} (side : Side) (f g : X → ℕ) (m x x' : ℕ) (xs : List X)
    → x + x' ≡ m → All (λ y. f y + g y ≡ m) xs
    → fold (λ best y. better side best (f y)) x xs + fold (λ best y. better (other_side side) best (g y)) x' xs ≡ m
fold-better-both side f g m x x' [] h k = h
fold-better-both side f g m x x' (y ∷ ys) h k =
    fold-better-both side f g m (better side x (f y)) (better (other_side side) x' (g y)) ys
    (better-both side m x (f y) x' (g y) h (All-head (λ z. f z + g z ≡ m) y ys k))
    (All-tail (λ z. f z + g z ≡ m) y ys k)

-- the optimum of one side and of the other
optimum-both : {X : Type 0} (side : Side) (f g : X → ℕ) (m : ℕ) (xs : List X) → 0 < length xs
    → All (λ y. f y + g y ≡ m) xs → optimum side f xs + optimum (other_side side) g xs ≡ m
optimum-both side f g m [] h k = absurd (omega arith)
optimum-both side f g m (x ∷ xs) h k = fold-better-both side f g m (f x) (g x) xs
    (All-head (λ y. f y + g y ≡ m) x xs k) (All-tail (λ y. f y + g y ≡ m) x xs k)

-- goals of one are dead in the other
marked-both : (goal lost : Bool) (top a b : ℕ) → (lost ≡ true → goal ≡ false) → a + b ≡ top
    → (if goal then top else (if lost then 0 else a)) + (if lost then top else (if goal then 0 else b)) ≡ top
marked-both true true top a b h e = let no : true ≡ false = h refl in absurd (cc)
marked-both true false top a b h e = let at : top + 0 ≡ top = omega arith in at
marked-both false true top a b h e = let at : 0 + top ≡ top = omega arith in at
marked-both false false top a b h e = e

opening-both : (lost : Bool) (d : ℕ) → (if lost then 0 else 1) + (if lost then 1 else 0) ≡ d ^ 0
opening-both true d = let at : 0 + 1 ≡ d ^ 0 = omega (arith, pow-zero d) in at
opening-both false d = let at : 1 + 0 ≡ d ^ 0 = omega (arith, pow-zero d) in at

-- two scaled sums of a choice make the whole
scaled-both : (d w p x y : ℕ) → d / w * w ≡ d → x + y ≡ w * p → d / w * x + d / w * y ≡ p * d
scaled-both d w p x y same both = omega (arith, ap (λ n. d / w * n) both, ap (λ n. n * p) same)

-- the side of the swapped question
side_at-swapped : (q : Query) (lost : List Bool) (s : ℕ) → s < length q.sides
    → side_at (swapped q lost) s ≡ other_side (side_at q s)
side_at-swapped q lost s inside = get_or-map other_side q.sides s Max Max inside

-- what is not lost after k steps and what is lost by then make the whole
pub open_numerator-swapped : (q : Query) (lost : List Bool) → AreChoicesOf q.game (choices_of q.game)
    → length q.sides ≡ length q.game → ((s : ℕ) → slice_index_or lost s false ≡ true → is_goal q s ≡ false) → (k s : ℕ)
    → s < length q.game → open_numerator q lost k s + numerator (swapped q lost) k s ≡ denominator q.game ^ k
unfolding open_numerator numerator_of
open_numerator-swapped q lost chosen sides apart zero s inside =
    opening-both (slice_index_or lost s false) (denominator q.game)
open_numerator-swapped q lost chosen sides apart (suc k) s inside =
    let D : ℕ = denominator q.game in
    let f : Distribution → ℕ = λ m. D / m.total * weighted_sum (open_numerator q lost k) m.edges in
    let g : Distribution → ℕ = λ m. D / m.total * weighted_sum (numerator (swapped q lost) k) m.edges in
    let each : All (λ m. f m + g m ≡ D ^ suc k) (choices_of q.game s) =
    λ i d l.
    let m : Distribution = get_or (choices_of q.game s) i d in
    let fits : IsChoiceOf q.game m = chosen.each s i d l in
    rw pow-suc (scaled-both D m.total (D ^ k)
    (weighted_sum (open_numerator q lost k) m.edges) (weighted_sum (numerator (swapped q lost) k) m.edges) fits.divides
    (subst (λ w. weighted_sum (open_numerator q lost k) m.edges + weighted_sum (numerator (swapped q lost) k) m.edges
    ≡ w * D ^ k) fits.sums
    (weighted_sum-both (open_numerator q lost k) (numerator (swapped q lost) k) (D ^ k) m.edges
    (λ p e here. open_numerator-swapped q lost chosen sides apart k (get_or m.edges p e).to (fits.inside p e here)))))
    in
    let best : optimum (side_at q s) f (choices_of q.game s)
    + optimum (side_at (swapped q lost) s) g (choices_of q.game s) ≡ D ^ suc k =
    subst (λ side. optimum (side_at q s) f (choices_of q.game s) + optimum side g (choices_of q.game s) ≡ D ^ suc k)
    (sym (side_at-swapped q lost s (subst (λ n. s < n) (sym sides) inside)))
    (optimum-both (side_at q s) f g (D ^ suc k) (choices_of q.game s) (chosen.some s inside) each) in
    marked-both (is_goal q s) (slice_index_or lost s false) (D ^ suc k) _ _ (apart s) best
