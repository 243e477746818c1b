-- The successors of a choice, as a list, and whether one of them leads on.
use Rattle.std.proofs.Common.{◌≡◌, ℕ, ◌<◌, ◌⊎◌, List, length, map, arith, ap, sym, ◌∙◌, subst}
use Rattle.std.specs.Prelude.{slice_index_or}
use Rattle.std.proofs.lemmas.List.{get_or-map, length-map}
use Rattle.game_model.specs.declared.game.Edge.{Edge}
use Rattle.game_model.specs.Game.{Distribution, choices_of, choice_of, choice_among, no_edge}
use Rattle.game_model.specs.Query.{Query, IsQuery, states}
use Rattle.rank_certificate.specs.Layers.{LeadsInto}

-- a state of greater value, or of an equal one and among these
abbrev pub IsMet : (ℕ → ℕ) → (ℕ → Type 0) → ℕ → ℕ → Type 0
IsMet value among s t = (value s < value t) ⊎ ((value t ≡ value s) × among t)

module _ (q : Query) (s c : ℕ) (row : List Distribution) (successors : List ℕ) (same : row ≡ choices_of q.game s)
    (listed : successors ≡ map (λ e. e.to) (choice_among row c).edges) where
  as_many : length successors ≡ length (choice_of q.game s c).edges
  as_many = ap length listed ∙ length-map (choice_among row c).edges (λ (e : Edge). e.to)
      ∙ ap (λ (ms : List Distribution). length (choice_among ms c).edges) same

  successor-at : (p : ℕ) → p < length (choice_of q.game s c).edges
      → slice_index_or successors p 0 ≡ (slice_index_or (choice_of q.game s c).edges p no_edge).to
  successor-at p l =
      ap (λ (list : List ℕ). slice_index_or list p 0)
      (listed ∙ ap (λ (ms : List Distribution). map (λ (e : Edge). e.to) (choice_among ms c).edges) same)
      ∙ get_or-map (λ (e : Edge). e.to) (choice_of q.game s c).edges p no_edge 0 l

  -- each is a state
  pub successors-inside : IsQuery q → s < states q → c < length row → (p : ℕ) → p < length successors
      → slice_index_or successors p 0 < states q
  successors-inside posed inside chosen p l =
      let here : p < length (choice_of q.game s c).edges = omega (arith, l, as_many) in
      subst (λ t. t < states q) (sym (successor-at p here))
      (posed.game.inside s c inside (omega (arith, chosen, ap length same)) p no_edge here)

  module _ (value : ℕ → ℕ) (among : ℕ → Type 0) where
    pub met-none : ((p : ℕ) → p < length successors → ¬ IsMet value among s (slice_index_or successors p 0))
        → ¬ LeadsInto value among s (choice_of q.game s c)
    met-none none h = none h.place (omega (arith, h.inside, as_many))
        (subst (IsMet value among s) (sym (successor-at h.place h.inside)) h.onward)
