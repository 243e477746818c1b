-- The edges of a choice lead where its parts do.
use Rattle.std.proofs.Common.{◌≡◌, ◌∙◌, ◌<◌, ◌≤◌, inl, inr, ℕ, zero, suc, ◌+◌, ◌*◌, ◌/◌, ◌==◌, cond, List, [], ◌∷◌}
use Rattle.std.proofs.Common.{length, map, get_or, refl, ap, arith, sum_by}
use Rattle.std.proofs.lemmas.Bool.{eq-eqb, cases_lt, ne_eqb}
use Rattle.std.proofs.lemmas.List.Sums.{sum_by-cons}
use Rattle.std.specs.List.{All}
use Rattle.game_model.specs.declared.game.Edge.{Edge}
use Rattle.game_model.specs.Game.{Distribution, weight_to}
use Rattle.distributions.specs.Parts.{DenotesChoice, weighted}
use Rattle.transition_lines.specs.declared.line.Transition.{Transition}
use Rattle.transition_lines.specs.Choices.{part_of}
use Rattle.tra_reader.specs.inside.GrowingGames.{LeadsInside}

at_least : {X : Type 0} (f : X → ℕ) (xs : List X) (i : ℕ) (d : X) → i < length xs → f (get_or xs i d) ≤ sum_by f xs
at_least f [] i d h = absurd (omega arith)
at_least f (x ∷ xs) zero d h = omega (arith, sum_by-cons f x xs)
at_least f (x ∷ xs) (suc i) d h = omega (arith, sum_by-cons f x xs, at_least f xs i d (omega arith))

-- parts that lead below a number give it no weight
no_weight : (common n to : ℕ) (ts : List Transition) → All (λ t. t.destination < n) ts → n ≤ to
    → weight_to (weighted common (map part_of ts)) to ≡ 0
no_weight common n to [] all h = refl
no_weight common n to (t ∷ ts) all h =
    sum_by-cons (λ (e : Edge). cond (e.to == to) e.weight 0)
    (record { to = t.destination; weight = t.share.num * common / t.share.den }) (weighted common (map part_of ts))
    ∙ ap (λ b. cond b (t.share.num * common / t.share.den) 0 + weight_to (weighted common (map part_of ts)) to)
    (ne_eqb t.destination to (λ e. omega (arith, e, here, h)))
    ∙ zero_sum (weight_to (weighted common (map part_of ts)) to)
    (no_weight common n to ts (λ k d g. all (suc k) d (omega arith)) h)
  where
    here : t.destination < n
    here = all zero t (omega arith)

    zero_sum : (w : ℕ) → w ≡ 0 → 0 + w ≡ 0
    zero_sum w e = omega (arith, e)

pub inside : (n : ℕ) (ts : List Transition) (d : Distribution) → DenotesChoice (map part_of ts) d
    → All (λ t. t.destination < n) ts → LeadsInside n d
inside n ts d is all i e h = elim (cases_lt (get_or d.edges i e).to n) [
  | inl lt ↦ lt
  | inr ge ↦
      let to : ℕ = (get_or d.edges i e).to in
      let weight = λ (edge : Edge). cond (edge.to == to) edge.weight 0 in
      let heavy : 1 ≤ (get_or d.edges i e).weight = is.weighty i e h in
      let mine : weight (get_or d.edges i e) ≡ (get_or d.edges i e).weight =
      ap (λ b. cond b (get_or d.edges i e).weight 0) (eq-eqb to to refl) in
      let most : weight (get_or d.edges i e) ≤ weight_to d.edges to = at_least weight d.edges i e h in
      absurd (omega (arith, heavy, mine, most, is.weights to, no_weight is.common n to ts all ge))
]
