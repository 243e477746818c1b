-- The high words of the weights.
use Rattle.std.proofs.Common.{◌≡◌, ℕ, ◌+◌, ◌/◌, ◌^◌, List, [], ◌∷◌, ◌++◌, length, map, take, get_or, ◌∙◌, ap, subst}
use Rattle.std.specs.Prelude.{slice_index, replicate}
use Rattle.std.proofs.lemmas.List.{get_or-append-add, get_or-map, get_or-take, append_assoc, replicate_more}
use Rattle.game_model.specs.declared.game.Edge.{Edge}
use Rattle.game_model.specs.Game.{no_edge}
use Rattle.game_model.specs.Growing.{HasHighWords, IsSameBelow, IsPadded}

pub high-pushed : (xs ys : List ℕ) (n : ℕ) (edges : List Edge) → length xs ≡ n
    → ys ≡ xs ++ map (λ e. e.weight / 2 ^ 64) edges → HasHighWords n edges ys
high-pushed xs ys n edges same is = λ i l.
    ap (λ zs. slice_index zs (n + i)) is
    ∙ subst (λ m. slice_index (xs ++ map (λ (e : Edge). e.weight / 2 ^ 64) edges) (m + i)
    ≡ (get_or edges i no_edge).weight / 2 ^ 64) same
    (get_or-append-add xs (map (λ (e : Edge). e.weight / 2 ^ 64) edges) i 0
    ∙ get_or-map (λ (e : Edge). e.weight / 2 ^ 64) edges i no_edge 0 l)

pub below-taken : (n m : ℕ) (xs ts ys : List ℕ) → n ≡ m → ts ≡ take n xs → IsSameBelow n ts ys → IsSameBelow m xs ys
below-taken n m xs ts ys same is h =
    subst (λ m. IsSameBelow m xs ys) same (λ i l. h i l ∙ ap (λ zs. slice_index zs i) is ∙ get_or-take n xs i 0 l)

pub padded-more : (xs ys zs : List ℕ) → IsPadded xs ys → zs ≡ ys ++ 0 ∷ [] → IsPadded xs zs
padded-more xs ys zs h is = (
  h.0 + 1,
  is ∙ ap (λ l. l ++ 0 ∷ []) h.1 ∙ append_assoc xs (replicate h.0 0) (0 ∷ [])
      ∙ ap (λ l. xs ++ l) (replicate_more h.0 0),
)
