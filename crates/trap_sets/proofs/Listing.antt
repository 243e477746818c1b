-- Whether a choice is internal, as a test.
use Rattle.std.proofs.Common.{◌≡◌, ◌≢◌, ℕ, zero, suc, ◌<◌, Bool, true, false, List, length, get_or, refl, ap, Option}
use Rattle.std.proofs.Common.{Some, None}
use Rattle.std.specs.Prelude.{slice_index, slice_index_or, ◌==◌, ◌&&◌}
use Rattle.std.specs.List.{list_all}
use Rattle.std.proofs.lemmas.Bool.{eq-eqb, eqb-true, and_parts, and_from}
use Rattle.std.proofs.lemmas.List.Elements.{All-contains, Contains-get_or}
use Rattle.std.proofs.lemmas.List.Sums.{AllPass-from_list_all, list_all-from_AllPass}
use Rattle.game_model.specs.declared.game.Side.{Side}
use Rattle.game_model.specs.declared.game.Side.TheVariants.{Max, Min}
use Rattle.game_model.specs.Game.{choices_of, choice_of, destinations}
use Rattle.game_model.specs.Query.{Query, side_at}
use Rattle.trap_sets.specs.Moves.{Walk}
use Rattle.trap_sets.specs.Ends.{IsMove, numbered}
use Rattle.trap_sets.specs.inside.Parts.{IsInternal, IsStep}

mdp-test : Side → Option ℕ → ℕ → Bool
mdp-test Max reply c = true
mdp-test Min None c = false
mdp-test Min (Some d) c = d == c

mdp-test-true : (side : Side) (reply : Option ℕ) (c : ℕ) → (side ≡ Min → reply ≡ Some c) → mdp-test side reply c ≡ true
unfolding mdp-test
mdp-test-true Max reply c h = refl
mdp-test-true Min None c h = let e : None ≡ Some c = h refl in absurd (cc)
mdp-test-true Min (Some d) c h = let e : Some d ≡ Some c = h refl in let f : d ≡ c = cc in eq-eqb d c f

mdp-test-from : (side : Side) (reply : Option ℕ) (c : ℕ) → mdp-test side reply c ≡ true → side ≡ Min → reply ≡ Some c
unfolding mdp-test
mdp-test-from Max reply c h least = absurd (cc)
mdp-test-from Min None c h least = absurd (cc)
mdp-test-from Min (Some d) c h least = ap Some (eqb-true d c h)

-- whether a choice is one of the MDP of the replies, and all its successors have the number of its state
pub listed-by : Query → List (Option ℕ) → List ℕ → ℕ → ℕ → Bool
listed-by q replies part s c = mdp-test (side_at q s) (slice_index_or replies s None) c
    && list_all (numbered part (slice_index part s)) (destinations (choice_of q.game s c).edges)

module _ (q : Query) (replies : List (Option ℕ)) (part : List ℕ) (s c : ℕ) where
  abbrev to : List ℕ
  to = destinations (choice_of q.game s c).edges

  pub internal-listed : IsInternal q replies part s c → listed-by q replies part s c ≡ true
  unfolding listed-by
  internal-listed h = and_from (mdp-test (side_at q s) (slice_index_or replies s None) c) _
      (mdp-test-true (side_at q s) (slice_index_or replies s None) c h.mdp.replied)
      (list_all-from_AllPass (numbered part (slice_index part s)) to (λ k d l.
      eq-eqb (slice_index part (get_or to k d)) (slice_index part s)
      (h.stays (get_or to k d) (Contains-get_or to k d l))))

  pub listed-internal : slice_index part s ≢ 0 → c < length (choices_of q.game s) → listed-by q replies part s c ≡ true
      → IsInternal q replies part s c
  unfolding listed-by
  listed-internal some lc h =
      let both = and_parts (mdp-test (side_at q s) (slice_index_or replies s None) c) _ h in record {
        some = some;
        mdp = record { inside = lc; replied = mdp-test-from (side_at q s) (slice_index_or replies s None) c both.0 };
        stays = λ t leads. eqb-true (slice_index part t) (slice_index part s)
            (All-contains (λ u. numbered part (slice_index part s) u ≡ true) to t
            (AllPass-from_list_all (numbered part (slice_index part s)) to both.1) leads);
      }

-- a walk of internal moves is one of listed moves
pub walk-listed : (q : Query) (replies : List (Option ℕ)) (part : List ℕ) (n s t : ℕ)
    → Walk (IsStep q replies part) n s t → Walk (IsMove q (listed-by q replies part)) n s t
walk-listed q replies part zero s t walk = walk
walk-listed q replies part (suc n) s t walk =
    let step : IsStep q replies part s walk.0 = walk.1 in
    let move : IsMove q (listed-by q replies part) s walk.0 = record {
      choice = step.choice;
      inside = step.internal.mdp.inside;
      chosen = internal-listed q replies part s step.choice step.internal;
      leads = step.leads;
    } in
    (walk.0, move, walk-listed q replies part n walk.0 t walk.2)
