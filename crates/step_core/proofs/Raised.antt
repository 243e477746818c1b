-- A table with one entry raised, with the choice that gives it, keeps ranks.
use Rattle.std.proofs.Common.{◌≡◌, ◌≢◌, ℕ, suc, ◌*◌, ◌<◌, ◌≤◌, true, List, length, set, sum_by, arith, sym, ◌∙◌, subst}
use Rattle.std.proofs.Common.{inl, inr}
use Rattle.std.specs.Prelude.{slice_index, slice_index_or, Option, Some, None}
use Rattle.std.proofs.lemmas.Bool.{cases_eq, cases_lt, true≢false}
use Rattle.std.proofs.lemmas.List.{get_or-set_same, get_or-set_other, get_or_past}
use Rattle.std.proofs.lemmas.List.Sums.{get_or-le-sum_by}
use Rattle.game_model.specs.declared.game.Side.TheVariants.{Max, Min}
use Rattle.game_model.specs.Game.{Distribution, choices_of, choice_of, no_edge}
use Rattle.game_model.specs.Query.{Query, IsQuery, states, is_goal, is_dead, side_at}
use Rattle.game_model.specs.Values.{weighted_sum}
use Rattle.game_model.specs.Limits.{unit}
use Rattle.game_model.specs.Rounded.{down_value, IsBelow}
use Rattle.game_model.specs.Ranks.{IsRankedChoice, HasRankedChoice, Ranked}
use Rattle.game_model.proofs.Choices.{IsChoiceOf}
use Rattle.fixed_bellman.specs.Given.{IsFree, IsGivenBy}
use Rattle.fixed_bellman.proofs.Tables.{choice_fits, weighted_sum-rises, down_value-pays, leads_high, IsGivenBy-units}

-- a rank above all others
abbrev pub next_rank : List ℕ → ℕ
next_rank ranks = suc (sum_by (λ n. n) ranks)

below_next : (ranks : List ℕ) (s : ℕ) → slice_index ranks s < next_rank ranks
below_next ranks s = elim (cases_lt s (length ranks)) [
  | inl inside ↦ omega (arith, get_or-le-sum_by (λ (n : ℕ). n) ranks s 0 inside)
  | inr past ↦ rw (get_or_past ranks s 0 past) (omega arith)
]

module _ (q : Query) (h : IsQuery q) (v : List ℕ) (picks : List (Option ℕ)) (ranks : List ℕ) (seen : ℕ → ℕ)
    (i x c : ℕ) (inside : i < states q) (values_many : length v ≡ states q) (picks_many : length picks ≡ states q)
    (ranks_many : length ranks ≡ states q)
    (free : IsFree q i) (k : Ranked q v picks ranks) (low : IsBelow q seen (slice_index v)) (up : slice_index v i < x)
    (given : IsGivenBy q seen i x c) where
  abbrev new : ℕ → ℕ
  new = slice_index (set v i x)

  abbrev rank : ℕ → ℕ
  rank = slice_index (set ranks i (next_rank ranks))

  value_here : new i ≡ x
  value_here = get_or-set_same v i x 0 (subst (λ n. i < n) (sym values_many) inside)

  value_else : (s : ℕ) → s ≢ i → new s ≡ slice_index v s
  value_else s other = get_or-set_other v i s x 0 other

  rank_here : rank i ≡ next_rank ranks
  rank_here = get_or-set_same ranks i (next_rank ranks) 0 (subst (λ n. i < n) (sym ranks_many) inside)

  rank_else : (s : ℕ) → s ≢ i → rank s ≡ slice_index ranks s
  rank_else s other = get_or-set_other ranks i s (next_rank ranks) 0 other

  pub rises : (s : ℕ) → slice_index v s ≤ new s
  rises s = elim (cases_eq s i) [
    | inl same ↦ rw same (rw value_here (omega arith))
    | inr other ↦ rw (value_else s other) (omega arith)
  ]

  -- a choice that gives the new value over what was seen
  ranked_here : (m : Distribution) → IsChoiceOf q.game m → x ≤ down_value seen m → IsRankedChoice new rank i m
  ranked_here m fits gives =
      let high = leads_high q.game seen m x fits gives in
      let t : ℕ = (slice_index_or m.edges high.0 no_edge).to in
      let there : t < states q = fits.inside high.0 no_edge high.1 in
      let reach : x ≤ slice_index v t = omega (arith, high.2, low t there) in
      let apart : t ≢ i =
      λ same. let at : x ≤ slice_index v i = subst (λ n. x ≤ slice_index v n) same reach in omega arith in
      let value_t : new t ≡ slice_index v t = value_else t apart in
      let rank_t : rank t ≡ slice_index ranks t = rank_else t apart in
      let less : slice_index ranks t < next_rank ranks = below_next ranks t in
      let here : new i ≡ x = value_here in
      let rank_i : rank i ≡ next_rank ranks = rank_here in
      let pays : x * m.total ≤ weighted_sum seen m.edges = down_value-pays q.game seen m x fits gives in
      let more : weighted_sum seen m.edges ≤ weighted_sum new m.edges =
      weighted_sum-rises q.game seen new m fits (λ s l. omega (arith, low s l, rises s)) in
      record {
        enough = subst (λ n. n * m.total ≤ weighted_sum new m.edges) (sym here) (omega arith);
        place = high.0;
        inside = high.1;
        onward = elim (cases_lt x (slice_index v t)) [
          | inl above ↦ inl (omega arith)
          | inr level ↦ inr (omega arith, omega arith)
        ];
      }

  -- a ranked choice of another state
  ranked_else : (s : ℕ) (m : Distribution) → s ≢ i → IsChoiceOf q.game m
      → IsRankedChoice (slice_index v) (slice_index ranks) s m → IsRankedChoice new rank s m
  ranked_else s m other fits r =
      let t : ℕ = (slice_index_or m.edges r.place no_edge).to in
      let value_s : new s ≡ slice_index v s = value_else s other in
      let rank_s : rank s ≡ slice_index ranks s = rank_else s other in
      let more : weighted_sum (slice_index v) m.edges ≤ weighted_sum new m.edges =
      weighted_sum-rises q.game (slice_index v) new m fits (λ s l. rises s) in
      let enough : slice_index v s * m.total ≤ weighted_sum (slice_index v) m.edges = r.enough in record {
        enough = subst (λ n. n * m.total ≤ weighted_sum new m.edges) (sym value_s) (omega arith);
        place = r.place;
        inside = r.inside;
        onward = elim (cases_eq t i) [
          | inl same ↦
              let here : new t ≡ x = subst (λ n. new n ≡ x) (sym same) value_here in
              let was : slice_index v t < x = subst (λ n. slice_index v n < x) (sym same) up in
              inl (elim r.onward [
                | inl above ↦ omega arith
                | inr level ↦ let tie : slice_index v t ≡ slice_index v s = level.0 in omega arith
              ])
          | inr apart ↦
              let value_t : new t ≡ slice_index v t = value_else t apart in
              let rank_t : rank t ≡ slice_index ranks t = rank_else t apart in
              elim r.onward [
                | inl above ↦ inl (omega arith)
                | inr level ↦
                    let tie : slice_index v t ≡ slice_index v s = level.0 in
                    let less : slice_index ranks t < slice_index ranks s = level.1 in
                    inr (omega arith, omega arith)
              ]
        ];
      }

  not_goal : (s : ℕ) → is_goal q s ≡ true → s ≢ i
  not_goal s goal same = true≢false (sym (subst (λ n. is_goal q n ≡ true) same goal) ∙ free.0)

  not_dead : (s : ℕ) → is_dead q s ≡ true → s ≢ i
  not_dead s dead same = true≢false (sym (subst (λ n. is_dead q n ≡ true) same dead) ∙ free.1)

  pub Ranked-raised : Ranked q (set v i x) (set picks i (Some c)) (set ranks i (next_rank ranks))
  Ranked-raised =
      let units : x ≤ unit = IsGivenBy-units q seen i x c h inside (λ t l. omega (arith, low t l, k.units t l)) given in
      record {
        units = λ s l. elim (cases_eq s i) [
          | inl same ↦ rw same (rw value_here units)
          | inr other ↦ rw (value_else s other) (k.units s l)
        ];
        goals = λ s l goal. value_else s (not_goal s goal) ∙ k.goals s l goal;
        deads = λ s l dead. value_else s (not_dead s dead) ∙ k.deads s l dead;
        greatest = λ s l goal dead positive max. elim (cases_eq s i) [
          | inl same ↦
              let at : (c < length (choices_of q.game i)) × (x ≤ down_value seen (choice_of q.game i c)) =
              given.greatest (subst (λ n. side_at q n ≡ Max) same max) in
              let here : HasRankedChoice q new rank (set picks i (Some c)) i = record {
                choice = c;
                given = get_or-set_same picks i (Some c) None (subst (λ n. i < n) (sym picks_many) inside);
                inside = at.0;
                ranked = ranked_here (choice_of q.game i c) (choice_fits q i c h inside at.0) at.1;
              } in
              subst (HasRankedChoice q new rank (set picks i (Some c))) (sym same) here
          | inr other ↦
              let old : HasRankedChoice q (slice_index v) (slice_index ranks) picks s =
              k.greatest s l goal dead (subst (λ n. 0 < n) (value_else s other) positive) max in
              record {
                choice = old.choice;
                given = get_or-set_other picks i s (Some c) None other ∙ old.given;
                inside = old.inside;
                ranked = ranked_else s (choice_of q.game s old.choice) other
                    (choice_fits q s old.choice h l old.inside) old.ranked;
              }
        ];
        least = λ s l goal dead positive min d in_range. elim (cases_eq s i) [
          | inl same ↦
              let in_range' : d < length (choices_of q.game i) =
              subst (λ n. d < length (choices_of q.game n)) same in_range in
              subst (λ n. IsRankedChoice new rank n (choice_of q.game n d)) (sym same)
              (ranked_here (choice_of q.game i d) (choice_fits q i d h inside in_range')
              ((given.least (subst (λ n. side_at q n ≡ Min) same min)).1 d in_range'))
          | inr other ↦ ranked_else s (choice_of q.game s d) other (choice_fits q s d h l in_range)
              (k.least s l goal dead (subst (λ n. 0 < n) (value_else s other) positive) min d in_range)
        ];
      }
