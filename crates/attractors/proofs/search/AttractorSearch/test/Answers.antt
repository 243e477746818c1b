use Rattle.std.proofs.Common.{◌≡◌, ◌≤◌, ◌<◌, ℕ, List, Bool, [], false, true, length, arith, sym, ap, ◌∙◌, subst}
use Rattle.std.specs.Prelude.{slice_index, slice_index_or, slice_set}
use Rattle.std.specs.List.{list_any}
use Rattle.std.proofs.lemmas.List.{get_or_read}
use Rattle.game_model.specs.Game.{choices_of, choice_of}
use Rattle.attractors.specs.Attractor.{ExcludedSets, serves, is_attracted}
use Rattle.attractors.specs.Search.{IsAttractorSearch}
use Rattle.attractors.proofs.Serving.{attracts-some, attracts-all}
use Rattle.attractors.proofs.Following.{IsAttractorSearch-member, before-next}
use Rattle.attractors.proofs.search.AttractorSearch.test.Goals as goal
use Rattle.attractors.proofs.search.AttractorSearch.test.Goals.{in-Max+else-not-some_serves}
use Rattle.attractors.proofs.search.AttractorSearch.test.Goals.{in-Min+else-next-choices_of}

pub returns-clause-grows : goal.returns-clause-grows
returns-clause-grows g c =
    let q = c.args.question.now in
    let excluded : ExcludedSets = g.S.Excluded.excluded c.args.excluded.now q in
    let state = c.args.state in
    let old = c.args.self.now in
    let member : c.index.result.now ≡ slice_index_or old.members.items state false =
    get_or_read old.members.items _ _ (omega (arith, c.requires.state, c.requires.grown.many)) c.index.ensures false in
    let out : slice_index_or old.members.items state false ≡ false = sym member ∙ c.if-index.false in
    let within : excluded.states state ≡ false = sym c.if-excludes_state.ensures in
    let drawn : is_attracted q excluded old.members.items state ≡ true = elim c.match-side.branch [
      | in-Max+else-not-some_serves w ↦
          attracts-some q excluded old.members.items state (sym w.in-Max.ensures)
          (ap (λ (set : List Bool). list_any (serves excluded set) (choices_of q.game state))
          (sym w.deref.ensures.value)
          ∙ sym w.if-not-some_serves.ensures)
      | in-Min+else-next-choices_of w ↦
          let awaits : w.index-in-Min.result.now ≡ slice_index old.next_choice.items state =
          get_or_read old.next_choice.items _
          _ (omega (arith, c.requires.state, c.requires.grown.as_many)) w.index-in-Min.ensures 0 in
          let count : w.choices_of.result ≡ length (choices_of q.game state) =
          w.choices_of.ensures ∙ ap (λ list. length (choices_of list state)) w.game.ensures in
          attracts-all q excluded old.members.items state (sym w.in-Min.ensures)
          (before-next q excluded old.members.items state
          (slice_index old.next_choice.items state) (length (choices_of q.game state))
          ((c.requires.grown.left state c.requires.state out within).least (sym w.in-Min.ensures)).before
          (subst (λ (set : List Bool). (k : ℕ) → slice_index old.next_choice.items state ≤ k
          → k < length (choices_of q.game state) → serves excluded set (choice_of q.game state k) ≡ true)
          w.deref-in-Min.ensures.value
          (λ k from upto. w.first_unserved-next.ensures.before k (omega (arith, from, awaits))
          (omega (arith, upto, count, w.if-next-choices_of.false)))))
    ] in
    subst (λ (list : List ℕ). IsAttractorSearch q excluded []
    (slice_set old.members.items state true) old.next_choice.items list)
    (sym c.in_ok-push.ensures.items)
    (IsAttractorSearch-member q excluded
    [] old.members.items old.next_choice.items old.order.items state c.requires.grown
    c.requires.state out within drawn)
