-- The action of a choice that is under way, and that of one that begins.
use Rattle.std.proofs.Common.{◌≡◌, ◌∙◌, ◌<◌, ◌≤◌, ℕ, zero, suc, not, Bool, true, false, IsTrue, ◌↔◌, cond, List, []}
use Rattle.std.proofs.Common.{◌∷◌, ◌++◌, length, Option, Some, None, option_map, slice_get, refl, sym, ap, arith}
use Rattle.std.proofs.lemmas.Bool.{eq-eqb, ne_eqb}
use Rattle.std.proofs.lemmas.List.{length_push, same_from_push}
use Rattle.std.specs.List.{filter, All}
use Rattle.std.specs.Option.{option_map_or}
use Rattle.std.specs.Str.{bytes_eq}
use Rattle.distributions.specs.declared.choice.Part.{Part}
use Rattle.transition_lines.specs.declared.line.Transition.{Transition}
use Rattle.transition_lines.specs.Lines.{Row}
use Rattle.transition_lines.specs.Text.{transitions}
use Rattle.transition_lines.specs.Order.{has, transition_place}
use Rattle.transition_lines.specs.Answers.{row_place, action_at}
use Rattle.tra_reader.specs.inside.GrowingGames.{Growing, HoldsInOrder, place_under_way}
use Rattle.tra_reader.specs.inside.ActionUnderWay.{IsActionUnderWay, ComparesAction}
use Rattle.tra_reader.proofs.Noting.{noted_stays, newly_noted}

-- no row stands at a place above all
none_above : (rows : List Row) (place q : ℕ) → All (λ t. transition_place t ≤ place) (transitions rows) → place < q
    → action_at rows q ≡ None
none_above [] place q upto above = refl
none_above (row ∷ rows) place q upto above =
    ap (λ b. option_map (λ (r : Row). r.action)
    (slice_get (cond b (row ∷ filter (has row_place q) rows) (filter (has row_place q) rows)) 0))
    (ne_eqb (row_place row) q (λ e. omega (arith, e, here)))
    ∙ none_above rows place q (λ k d h. upto (suc k) d (omega arith)) above
  where
    here : row_place row < q
    here = omega (arith, upto zero row.transition (omega arith), above)

no_rows : (rows : List Row) → transitions rows ≡ [] → rows ≡ []
no_rows [] e = refl
no_rows (row ∷ rows) e = cc

abbrev compared : Row → Option (List ℕ) → Bool
compared row o = option_map_or (λ first. not (bytes_eq first row.action)) o false

-- a row of the choice under way
pub same_choice : (rows : List Row) (row : Row) (place : ℕ) (kept : List ℕ) (clash : Bool) → row_place row ≡ place
    → action_at rows place ≡ Some kept → clash ≡ not (bytes_eq kept row.action) → ComparesAction kept rows row clash
same_choice rows row place kept clash at noted is =
    let here : action_at rows (row_place row) ≡ Some kept = ap (λ p. action_at rows p) at ∙ noted in
    record {
      is = is ∙ sym (ap (λ o. compared row o) here);
      first = noted_stays rows row kept (row_place row) here ∙ here;
    }

-- a row of a choice that no row before it has
new_choice : (rows : List Row) (row : Row) (kept : List ℕ) → kept ≡ row.action → action_at rows (row_place row) ≡ None
    → ComparesAction kept rows row false
new_choice rows row kept is none = record {
  is = sym (ap (λ o. compared row o) none);
  first = newly_noted rows row (row_place row) none
      ∙ ap (λ b. cond b (Some row.action) (action_at rows (row_place row)))
      (eq-eqb (row_place row) (row_place row) refl) ∙ ap (λ a. Some a) (sym is);
}

-- a row behind the choice under way
pub later_choice : (game : Growing) (n : ℕ) (rows : List Row) (row : Row) (kept : List ℕ)
    → HoldsInOrder game n (transitions rows) → place_under_way game < row_place row → kept ≡ row.action
    → ComparesAction kept rows row false
later_choice game n rows row kept holds above is =
    new_choice rows row kept is (none_above rows (place_under_way game) (row_place row) holds.upto above)

-- the first row
pub first_choice : (game : Growing) (n : ℕ) (rows : List Row) (row : Row) (kept : List ℕ)
    → HoldsInOrder game n (transitions rows) → game.parts ≡ [] → kept ≡ row.action → ComparesAction kept rows row false
first_choice game n rows row kept holds none is =
    new_choice rows row kept is (ap (λ rs. action_at rs (row_place row)) (no_rows rows (holds.none none)))

-- the choice under way is that of the last transition
pub at_last : (game : Growing) (n : ℕ) (before : List Transition) (last : Transition)
    → HoldsInOrder game n (before ++ last ∷ []) → transition_place last ≡ place_under_way game
at_last game n before last holds = by_parts game.parts refl
  where
    by_parts : (parts : List Part) → game.parts ≡ parts → transition_place last ≡ place_under_way game
    by_parts [] e =
        absurd (omega (arith, length_push before last, ap (λ (ts : List Transition). length ts) (holds.none e)))
    by_parts (part ∷ parts) e =
        let ends = holds.begun (omega (arith, ap (λ (ps : List Part). length ps) e)) in
        ap transition_place (same_from_push before ends.before last ends.last ends.are).1 ∙ ends.there

-- the action that is kept is that of the choice under way from now on
pub under_way_further : (game : Growing) (n : ℕ) (rows : List Row) (row : Row) (kept : List ℕ) (clash : Bool)
    → HoldsInOrder game n (transitions rows ++ row.transition ∷ []) → ComparesAction kept rows row clash
    → IsActionUnderWay game kept (rows ++ row ∷ [])
under_way_further game n rows row kept clash holds compares begun =
    ap (λ p. action_at (rows ++ row ∷ []) p) (sym (at_last game n (transitions rows) row.transition holds))
    ∙ compares.first

pub no_parts : {X : Type 0} (parts : List X) (begun : Bool) → begun ≡ false
    → IsTrue begun ↔ (0 < length parts) → parts ≡ []
no_parts [] begun off is = refl
no_parts (part ∷ parts) true off is = cc
no_parts (part ∷ parts) false off is = let e : false ≡ true = is.1 (omega arith) in cc
