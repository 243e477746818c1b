-- A choice more.
use Rattle.std.proofs.Common.{◌≡◌, ℕ, suc, ◌+◌, ◌-◌, ◌%◌, ◌^◌, ◌<◌, List, [], ◌∷◌, ◌++◌, length, map, take, arith, refl}
use Rattle.std.proofs.Common.{sym, ◌∙◌, ap, subst, inl, inr}
use Rattle.std.specs.Prelude.{slice_index, ◌==◌}
use Rattle.std.specs.Bool.{if◌then◌else◌}
use Rattle.std.proofs.lemmas.Bool.Decides.{nat_tests}
use Rattle.std.proofs.lemmas.Bool.{cases_lt}
use Rattle.std.proofs.lemmas.List.{get_or_push, length_push, length-append, length-map, length-take-le}
use Rattle.game_model.specs.declared.game.Edge.{Edge}
use Rattle.game_model.specs.Game.{IsDistribution, total_of}
use Rattle.game_model.specs.Span.{span}
use Rattle.game_model.specs.Flat.{edge_at, kept_total, total_with, choice_with, distribution_at, game_at, under_way_at}
use Rattle.game_model.specs.Flat.{last_of, IsAscending, AreFlatLists}
use Rattle.game_model.specs.Draft.{Draft, distribution_of, with_choice}
use Rattle.game_model.specs.Growing.{IsLonger, IsSameBelow, HasHighWords}
use Rattle.game_model.proofs.Span.{span-more}
use Rattle.game_model.proofs.Longer.{taken-at, taken-length}
use Rattle.game_model.proofs.Same.{last-push, push-below, ascending-push, distribution-same, game-same, under_way-same}
use Rattle.game_model.proofs.Same.{edges-added}

abbrev pub draft_at : List ℕ → List ℕ → List ℕ → List ℕ → List ℕ → List ℕ → Draft
draft_at fc fe totals to low high =
    record { done = game_at fc fe totals to low high; under_way = under_way_at fc fe totals to low high }

kept-is : (total : ℕ) → (if kept_total total == 0 then total else kept_total total) ≡ total
kept-is total = grind (arith, nat_tests)

-- what is kept for a total gives it back
kept-with : (edges : List Edge) → choice_with (kept_total (total_of edges)) edges ≡ distribution_of edges
unfolding total_with
kept-with edges = ap (λ n. record { total = n; edges = edges }) (kept-is (total_of edges))

-- nothing that is in use has changed
module _ (fc fe totals to low high totals' to' low' high' : List ℕ) (h : AreFlatLists fc fe totals to low high)
    (longer_totals : IsLonger (take (length fe - 1) totals) totals') (longer_to : IsLonger (take (last_of fe) to) to')
    (longer_low : IsLonger (take (last_of fe) low) low') (same_high : IsSameBelow (last_of fe) high high') where
  still_totals : (c : ℕ) → c + 1 < length fe → slice_index totals' c ≡ slice_index totals c
  still_totals c l = taken-at (length fe - 1) totals totals'
      (omega (arith, h.laid_out.enough)) longer_totals c (omega arith)

  still_to : (i : ℕ) → i < last_of fe → slice_index to' i ≡ slice_index to i
  still_to i l = taken-at (last_of fe) to to' h.laid_out.to_within longer_to i l

  still_low : (i : ℕ) → i < last_of fe → slice_index low' i ≡ slice_index low i
  still_low i l = taken-at (last_of fe) low low' h.laid_out.low_within longer_low i l

  pub still-draft : draft_at fc fe totals' to' low' high' ≡ draft_at fc fe totals to low high
  still-draft =
      ap (λ g. record { done = g; under_way = under_way_at fc fe totals' to' low' high' }) (game-same fc fe totals to
      low high fe totals' to' low' high' h.laid_out (λ c l. refl) still_totals still_to still_low same_high)
      ∙ ap (λ u. record { done = game_at fc fe totals to low high; under_way = u }) (under_way-same fc fe totals to low
      high fe totals' to' low' high' h.laid_out (λ c l. refl) still_totals still_to still_low same_high)

  pub still-flat : AreFlatLists fc fe totals' to' low' high'
  still-flat = record {
    laid_out = record {
      states = h.laid_out.states;
      choices = h.laid_out.choices;
      enough = omega (
        arith,
        h.laid_out.choices.some,
        taken-length (length fe - 1) totals totals' (omega (arith, h.laid_out.enough)) longer_totals,
      );
      state_within = h.laid_out.state_within;
      to_within = taken-length (last_of fe) to to' h.laid_out.to_within longer_to;
      low_within = taken-length (last_of fe) low low' h.laid_out.low_within longer_low;
    };
    distributions = λ c l. subst IsDistribution (sym (distribution-same fc fe totals to low high fe totals' to' low'
        high' h.laid_out (λ c l. refl) still_totals still_to still_low same_high c l)) (h.distributions c l);
  }

-- one more choice
module _ (fc fe totals to low high fe' totals' to' low' high' : List ℕ) (edges : List Edge)
    (h : AreFlatLists fc fe totals to low high)
    (is_fe : fe' ≡ fe ++ (last_of fe + length edges) ∷ [])
    (is_totals : totals' ≡ take (length fe - 1) totals ++ kept_total (total_of edges) ∷ [])
    (is_to : to' ≡ take (last_of fe) to ++ map (λ e. e.to) edges)
    (is_low : low' ≡ take (last_of fe) low ++ map (λ e. e.weight % 2 ^ 64) edges)
    (push_high : IsSameBelow (last_of fe) high high') (is_high : HasHighWords (last_of fe) edges high') where
  some : 0 < length fe
  some = h.laid_out.choices.some

  length-fe : length fe' ≡ length fe + 1
  length-fe = ap length is_fe ∙ length_push fe (last_of fe + length edges)

  length-before : length (take (length fe - 1) totals) ≡ length fe - 1
  length-before = length-take-le (length fe - 1) totals (omega (arith, h.laid_out.enough))

  length-totals : length totals' ≡ length fe - 1 + 1
  length-totals = ap length is_totals ∙ length_push (take (length fe - 1) totals) (kept_total (total_of edges))
      ∙ ap (λ n. n + 1) length-before

  length-to : length to' ≡ last_of fe + length edges
  length-to = ap length is_to ∙ length-append (take (last_of fe) to) (map (λ (e : Edge). e.to) edges)
      ∙ ap (λ n. n + length (map (λ (e : Edge). e.to) edges)) (length-take-le (last_of fe) to h.laid_out.to_within)
      ∙ ap (λ n. last_of fe + n) (length-map edges (λ (e : Edge). e.to))

  length-low : length low' ≡ last_of fe + length edges
  length-low = ap length is_low ∙ length-append (take (last_of fe) low) (map (λ (e : Edge). e.weight % 2 ^ 64) edges)
      ∙ ap (λ n. n + length (map (λ (e : Edge). e.weight % 2 ^ 64) edges))
      (length-take-le (last_of fe) low h.laid_out.low_within)
      ∙ ap (λ n. last_of fe + n) (length-map edges (λ (e : Edge). e.weight % 2 ^ 64))

  push_fe : (c : ℕ) → c < length fe → slice_index fe' c ≡ slice_index fe c
  push_fe c l = ap (λ xs. slice_index xs c) is_fe ∙ push-below fe (last_of fe + length edges) c l

  push_totals : (c : ℕ) → c + 1 < length fe → slice_index totals' c ≡ slice_index totals c
  push_totals c l = taken-at (length fe - 1) totals totals' (omega (arith, h.laid_out.enough))
      (_, is_totals) c (omega arith)

  push_to : (i : ℕ) → i < last_of fe → slice_index to' i ≡ slice_index to i
  push_to i l = taken-at (last_of fe) to to' h.laid_out.to_within (_, is_to) i l

  push_low : (i : ℕ) → i < last_of fe → slice_index low' i ≡ slice_index low i
  push_low i l = taken-at (last_of fe) low low' h.laid_out.low_within (_, is_low) i l

  -- the new choice
  new-choice : distribution_at fe' totals' to' low' high' (length fe - 1) ≡ distribution_of edges
  new-choice =
      let some_here : 0 < length fe = some in
      let total_is : slice_index totals' (length fe - 1) ≡ kept_total (total_of edges) =
      ap (λ xs. slice_index xs (length fe - 1)) is_totals
      ∙ get_or_push (take (length fe - 1) totals) (kept_total (total_of edges)) 0 (length fe - 1) length-before in
      let begin_is : slice_index fe' (length fe - 1) ≡ last_of fe = push_fe (length fe - 1) (omega arith) in
      let end_is : slice_index fe' (length fe - 1 + 1) ≡ last_of fe + length edges =
      ap (λ xs. slice_index xs (length fe - 1 + 1)) is_fe
      ∙ get_or_push fe (last_of fe + length edges) 0 (length fe - 1 + 1) (omega arith) in
      let count_is : slice_index fe' (length fe - 1 + 1) - slice_index fe' (length fe - 1) ≡ length edges =
      omega arith in
      ap (λ n. choice_with n (span (edge_at to' low' high') (slice_index fe' (length fe - 1))
      (slice_index fe' (length fe - 1 + 1) - slice_index fe' (length fe - 1)))) total_is
      ∙ ap (choice_with (kept_total (total_of edges)))
      (ap (λ n. span (edge_at to' low' high') (slice_index fe' (length fe - 1)) n) count_is
      ∙ ap (λ n. span (edge_at to' low' high') n (length edges)) begin_is
      ∙ ap (λ xs. span (edge_at xs low' high') (last_of fe) (length edges)) is_to
      ∙ ap (λ xs. span (edge_at (take (last_of fe) to ++ map (λ (e : Edge). e.to) edges) xs high') (last_of fe)
      (length edges)) is_low
      ∙ edges-added (take (last_of fe) to) (take (last_of fe) low) high' (last_of fe) edges (length-take-le (last_of fe)
      to h.laid_out.to_within) (length-take-le (last_of fe) low h.laid_out.low_within) is_high)
      ∙ kept-with edges

  pub pushed-draft : draft_at fc fe' totals' to' low' high'
      ≡ with_choice (draft_at fc fe totals to low high) (distribution_of edges)
  pushed-draft =
      let within : last_of fc < length fe = h.laid_out.state_within in
      let count_is : length fe' - 1 - last_of fc ≡ suc (length fe - 1 - last_of fc) = omega (arith, length-fe) in
      let place_is : last_of fc + (length fe - 1 - last_of fc) ≡ length fe - 1 = omega arith in
      ap (λ g. record { done = g; under_way = under_way_at fc fe' totals' to' low' high' }) (game-same fc fe totals to
      low high fe' totals' to' low' high' h.laid_out push_fe push_totals push_to push_low push_high)
      ∙ ap (λ u. record { done = game_at fc fe totals to low high; under_way = u })
      (ap (span (distribution_at fe' totals' to' low' high') (last_of fc)) count_is
      ∙ span-more (distribution_at fe' totals' to' low' high') (last_of fc) (length fe - 1 - last_of fc)
      ∙ ap (λ n. span (distribution_at fe' totals' to' low' high') (last_of fc) (length fe - 1 - last_of fc)
      ++ distribution_at fe' totals' to' low' high' n ∷ []) place_is
      ∙ ap (λ m. span (distribution_at fe' totals' to' low' high') (last_of fc) (length fe - 1 - last_of fc) ++ m ∷ [])
      new-choice
      ∙ ap (λ u. u ++ distribution_of edges ∷ []) (under_way-same fc fe totals to low high fe' totals' to' low' high'
      h.laid_out push_fe push_totals push_to push_low push_high))

  pub pushed-flat : IsDistribution (distribution_of edges) → AreFlatLists fc fe' totals' to' low' high'
  pushed-flat fine =
      let last_is : last_of fe' ≡ last_of fe + length edges =
      ap last_of is_fe ∙ last-push fe (last_of fe + length edges) in
      record {
        laid_out = record {
          states = h.laid_out.states;
          choices = subst IsAscending (sym is_fe)
              (ascending-push fe (last_of fe + length edges) h.laid_out.choices (omega arith));
          enough = omega (arith, some, length-fe, length-totals);
          state_within = omega (arith, h.laid_out.state_within, length-fe);
          to_within = omega (arith, last_is, length-to);
          low_within = omega (arith, last_is, length-low);
        };
        distributions = λ c l. elim (cases_lt (c + 1) (length fe)) [
          | inl old ↦ subst IsDistribution (sym (distribution-same fc fe totals to low high fe' totals' to' low' high'
              h.laid_out push_fe push_totals push_to push_low push_high c old)) (h.distributions c old)
          | inr new ↦
              let at : c ≡ length fe - 1 = omega (arith, length-fe) in
              subst IsDistribution (sym (ap (distribution_at fe' totals' to' low' high') at ∙ new-choice)) fine
        ];
      }
