use Rattle.std.proofs.Common.{◌≡◌, ◌≤◌, ◌<◌, ◌+◌, ◌++◌, ◌∷◌, [], ℕ, List, Bool, true, false, length, arith, sym, ap}
use Rattle.std.proofs.Common.{◌∙◌, subst}
use Rattle.std.specs.Prelude.{slice_index, slice_index_or, slice_set}
use Rattle.std.proofs.lemmas.List.{get_or_read}
use Rattle.game_model.specs.Game.{choices_of, choice_of}
use Rattle.attractors.specs.Attractor.{ExcludedSets, serves, is_attracted}
use Rattle.attractors.specs.Search.{IsAttractorSearch}
use Rattle.attractors.proofs.Following.{IsAttractorSearch-noted, IsAttractorSearch-waits, IsAttractorSearch-joins}
use Rattle.attractors.proofs.Following.{attracted-greatest}
use Rattle.attractors.proofs.Following.{attracted-least}
use Rattle.attractors.proofs.search.AttractorSearch.follow.Goals as goal
use Rattle.attractors.proofs.search.AttractorSearch.follow.Goals.{then-index-via-then-index}
use Rattle.attractors.proofs.search.AttractorSearch.follow.Goals.{then-index-via-else-index+then-excludes_state}
use Rattle.attractors.proofs.search.AttractorSearch.follow.Goals.{then-index-via-else-index+else-excludes_state+then-excludes_choice}
use Rattle.attractors.proofs.search.AttractorSearch.follow.Goals.{in-Max, in-Min+else-index-step+else-next-choices_of}

pub returns-then-index-clause-grows : goal.returns-then-index-clause-grows
returns-then-index-clause-grows g c = λ followed h.
    let q = c.args.question.now in
    let excluded : ExcludedSets = g.S.Excluded.excluded c.args.excluded.now q in
    let state = c.args.step.state in
    let old = c.args.self.now in
    let member : c.index.result.now ≡ slice_index_or old.members.items state false = get_or_read old.members.items _ _
    (omega (arith, c.requires.members, c.requires.leads.leads.state)) c.index.ensures false in
    IsAttractorSearch-noted q excluded followed old.members.items old.next_choice.items old.order.items c.args.step
    c.requires.leads h
    (λ out within free. elim c.then-index.branch [
      | then-index-via-then-index w ↦ let is : c.index.result.now ≡ true = w.if-index.true in absurd (cc)
      | then-index-via-else-index+then-excludes_state w ↦
          let is : excluded.states state ≡ true = sym w.excludes_state.ensures ∙ w.if-excludes_state.true in
          absurd (cc)
      | then-index-via-else-index+else-excludes_state+then-excludes_choice w ↦
          let is : excluded.choices (choice_of q.game state c.args.step.choice) ≡ true =
          sym w.excludes_choice.ensures ∙ w.if-excludes_choice.true in
          absurd (cc)
    ])

pub returns-then-index-step-clause-grows : goal.returns-then-index-step-clause-grows
returns-then-index-step-clause-grows g c = λ followed h.
    let q = c.args.question.now in
    let old = c.args.self.now in
    let awaits : c.index-in-Min.result.now ≡ slice_index old.next_choice.items c.args.step.state =
    get_or_read old.next_choice.items _ _
    (omega (arith, c.requires.next_choice, c.requires.leads.leads.state)) c.index-in-Min.ensures 0 in
    IsAttractorSearch-noted q
    (g.S.Excluded.excluded c.args.excluded.now q) followed old.members.items old.next_choice.items old.order.items
    c.args.step c.requires.leads h (λ out within free. (sym c.in-Min.ensures, λ e. c.if-index-step.true (awaits ∙ e)))

pub returns-then-next-choices_of-clause-grows : goal.returns-then-next-choices_of-clause-grows
returns-then-next-choices_of-clause-grows g c = λ followed h.
    let q = c.args.question.now in
    let excluded : ExcludedSets = g.S.Excluded.excluded c.args.excluded.now q in
    let state = c.args.step.state in
    let old = c.args.self.now in
    let next : ℕ = c.first_unserved-next.result in
    let member : c.index.result.now ≡ slice_index_or old.members.items state false = get_or_read old.members.items _ _
    (omega (arith, c.requires.members, c.requires.leads.leads.state)) c.index.ensures false in
    let awaits : c.index-in-Min.result.now ≡ slice_index old.next_choice.items state =
    get_or_read old.next_choice.items _ _
    (omega (arith, c.requires.next_choice, c.requires.leads.leads.state)) c.index-in-Min.ensures 0 in
    let count : c.choices_of.result ≡ length (choices_of q.game state) =
    c.choices_of.ensures ∙ ap (λ list. length (choices_of list state)) c.game.ensures in
    let inside : next < length (choices_of q.game state) = omega (arith, count, c.if-next-choices_of.true) in
    IsAttractorSearch-waits q excluded followed old.members.items old.next_choice.items old.order.items c.args.step next
    c.requires.leads h (sym member ∙ c.if-index.false) (sym c.if-excludes_state.ensures) (sym c.in-Min.ensures)
    (sym awaits ∙ c.if-index-step.false) (sym c.if-excludes_choice.ensures)
    (omega (arith, c.first_unserved-next.ensures.from)) inside
    (subst (λ (set : List Bool). (k : ℕ) → c.args.step.choice + 1 ≤ k → k < next
    → serves excluded set (choice_of q.game state k) ≡ true) c.deref.ensures.value c.first_unserved-next.ensures.before)
    (subst (λ (set : List Bool). serves excluded set (choice_of q.game state next) ≡ false) c.deref.ensures.value
    (c.first_unserved-next.ensures.first inside))

pub returns-clause-grows : goal.returns-clause-grows
returns-clause-grows g c = λ followed h.
    let q = c.args.question.now in
    let excluded : ExcludedSets = g.S.Excluded.excluded c.args.excluded.now q in
    let state = c.args.step.state in
    let old = c.args.self.now in
    let member : c.index.result.now ≡ slice_index_or old.members.items state false = get_or_read old.members.items _ _
    (omega (arith, c.requires.members, c.requires.leads.leads.state)) c.index.ensures false in
    let free : excluded.choices (choice_of q.game state c.args.step.choice) ≡ false =
    sym c.if-excludes_choice.ensures in
    let within : excluded.states state ≡ false = sym c.if-excludes_state.ensures in
    let out : slice_index_or old.members.items state false ≡ false = sym member ∙ c.if-index.false in
    let drawn : is_attracted q excluded old.members.items state ≡ true = elim c.match-side.branch [
      | in-Max w ↦ attracted-greatest q excluded followed old.members.items old.next_choice.items old.order.items
          c.args.step
          c.requires.leads h (sym w.in-Max.ensures) free
      | in-Min+else-index-step+else-next-choices_of w ↦
          let awaits : w.index-in-Min.result.now ≡ slice_index old.next_choice.items state =
          get_or_read old.next_choice.items _
          _ (omega (arith, c.requires.next_choice, c.requires.leads.leads.state)) w.index-in-Min.ensures 0 in
          let count : w.choices_of.result ≡ length (choices_of q.game state) =
          w.choices_of.ensures ∙ ap (λ list. length (choices_of list state)) w.game.ensures in
          attracted-least q excluded followed old.members.items old.next_choice.items old.order.items c.args.step
          c.requires.leads h out within (sym w.in-Min.ensures) (sym awaits ∙ w.if-index-step.false) free
          (subst (λ (set : List Bool). (k : ℕ) → c.args.step.choice + 1 ≤ k → k < length (choices_of q.game state)
          → serves excluded set (choice_of q.game state k) ≡ true) w.deref.ensures.value
          (λ k from upto.
          w.first_unserved-next.ensures.before k from (omega (arith, upto, count, w.if-next-choices_of.false))))
    ] in
    subst (λ (list : List ℕ). IsAttractorSearch q excluded (followed ++ c.args.step ∷ [])
    (slice_set old.members.items state true) old.next_choice.items list) (sym c.in_ok-push.ensures.items)
    (IsAttractorSearch-joins q excluded followed old.members.items old.next_choice.items old.order.items c.args.step
    c.requires.leads h out within drawn)
