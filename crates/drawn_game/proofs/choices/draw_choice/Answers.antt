use Rattle.std.proofs.Common.{rules, ◌≡◌, ◌∙◌, ◌≤◌, ◌+◌, ◌∷◌, ◌++◌, [], ℕ, List, sym, ap, subst, refl, append_assoc}
use Rattle.std.specs.Prelude.{All}
use Rattle.game_model.specs.declared.game.Edge.{Edge}
use Rattle.game_model.specs.Game.{IsRising}
use Rattle.drawn_game.specs.Drawings.{times}
use Rattle.drawn_game.specs.inside.Adding.{with_part}
use Rattle.drawn_game.specs.Rules.{other_part}
use Rattle.drawn_game.proofs.Repeating.{value-times_more, last-times_more}
use Rattle.drawn_game.proofs.Rising.{AreOfParts, IsPart, first_of_parts, more_of_parts, added_up-rises}
use Rattle.drawn_game.proofs.Rising.{added_up-weighty}
use Rattle.drawn_game.proofs.choices.draw_choice.Goals as goal

pub loop-part-init : goal.loop-part-init
loop-part-init c =
    let n = c.args.states in
    let first = c.first_part.result in
    let P : List Edge → Type 0 = λ es. AreOfParts n (es ++ []) 1 es in
    let pushed : c.push.new.self.items ≡ first ∷ [] = search rules in
    record {
      last = refl;
      parts = subst P (sym pushed) (first_of_parts n first (record {
        some = c.first_part.ensures.weight.0;
        small = c.first_part.ensures.weight.1;
        inside = c.first_part.ensures.inside;
      }));
    }

-- the parts of one more turn
one_more : (n k x last : ℕ) (front edges new : List Edge) (part : Edge) → last ≡ (times k (other_part n) x).last
    → AreOfParts n (front ++ (times k (other_part n) x).value) (k + 1) edges
    → part ≡ (other_part n last).value → IsPart n part → new ≡ with_part edges part
    → AreOfParts n (front ++ (times (k + 1) (other_part n) x).value) (k + 1 + 1) new
one_more n k x last front edges new part last_is are part_is is new_is =
    let parts = (times k (other_part n) x).value in
    let of : part ≡ (other_part n (times k (other_part n) x).last).value =
    part_is ∙ ap (λ y. (other_part n y).value) last_is in
    let whole : (front ++ parts) ++ part ∷ [] ≡ front ++ (times (k + 1) (other_part n) x).value =
    append_assoc front parts (part ∷ []) ∙ ap (λ (p : Edge). front ++ (parts ++ p ∷ [])) of
    ∙ ap (λ ps. front ++ ps) (sym (value-times_more (other_part n) k x)) in
    let P : List Edge → Type 0 = λ ps. AreOfParts n ps (k + 1 + 1) new in
    let Q : List Edge → Type 0 = λ es. AreOfParts n ((front ++ parts) ++ part ∷ []) (k + 1 + 1) es in
    subst P whole (subst Q (sym new_is) (more_of_parts n (front ++ parts) (k + 1) edges part are is))

pub loop-part-preserved : goal.loop-part-preserved
loop-part-preserved c =
    let n = c.args.states in
    let at = c.loop-part.invariant in
    let is : IsPart n c.other_part-part.result = record {
      some = c.other_part-part.ensures.weight.0;
      small = c.other_part-part.ensures.weight.1;
      inside = c.other_part-part.ensures.inside;
    } in
    record {
      last = c.other_part-part.ensures.last ∙ ap (λ y. (other_part n y).last) at.last
          ∙ sym (last-times_more (other_part n) c.loop-part._part c.first_part.new.self);
      parts = one_more n c.loop-part._part c.first_part.new.self c.loop-part.draws c.push.new.self.items
          c.loop-part.edges.items c.add_part.new.edges.items c.other_part-part.result at.last at.parts
          c.other_part-part.ensures.value is
          c.in_ok-add_part.ensures;
    }

pub of_edges-requires-clause-rising : goal.of_edges-requires-clause-rising
of_edges-requires-clause-rising c =
    let P : List Edge → Type 0 = λ es. IsRising es in
    subst P (sym c.loop-part.invariant.parts.added) (added_up-rises c.args.states _)

pub of_edges-requires-clause-weights : goal.of_edges-requires-clause-weights
of_edges-requires-clause-weights c =
    let P : List Edge → Type 0 = λ es. All (λ e. 1 ≤ e.weight) es in
    subst P (sym c.loop-part.invariant.parts.added) (added_up-weighty c.args.states _)
