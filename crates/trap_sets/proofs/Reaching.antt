-- Searches from the roots of all parts.
use Rattle.std.proofs.Common.{◌≡◌, ℕ, zero, suc, ◌+◌, ◌-◌, ◌<◌, ◌≤◌, Bool, true, false, List, [], ◌∷◌, ◌++◌}
use Rattle.std.proofs.Common.{length, set, arith, refl, sym, ◌∙◌, ap, subst, inl, inr}
use Rattle.std.specs.Prelude.{slice_index, slice_index_or, Contains, ◌==◌}
use Rattle.std.proofs.lemmas.Bool.{cases_eq, eq-eqb, eqb-true}
use Rattle.std.proofs.lemmas.List.{append-nil, append_assoc, length-set, get_or-set_other}
use Rattle.std.proofs.lemmas.List.{get_or_default}
use Rattle.game_model.proofs.Longer.{longer-at}
use Rattle.attractors.specs.Search.{IsOrder}
use Rattle.attractors.proofs.Least.{member-inside}
use Rattle.attractors.proofs.Ordering.{IsOrder-joins, stays-member}
use Rattle.trap_sets.specs.declared.internal.Internal.{Internal}
use Rattle.trap_sets.specs.declared.reach.Way.{Way}
use Rattle.trap_sets.specs.declared.reach.Way.TheVariants.{On, Back}
use Rattle.trap_sets.specs.Moves.{Walk, Reach}
use Rattle.trap_sets.specs.inside.Parts.{root_of}
use Rattle.trap_sets.specs.inside.OfInternal.{states_of, IsStepOf}
use Rattle.trap_sets.specs.inside.Reaching.{Passes, IsMore, IsReaching, AreReached}
use Rattle.trap_sets.proofs.Walking.{reach-join, reach-step, reach-self}

-- no more states are marked
pub IsMore-none : (P : ℕ → Type 0) (marks : List Bool) (order : List ℕ) → IsOrder marks order
    → IsMore P marks order marks order
IsMore-none P marks order ordered = record {
  many = refl;
  ordered = ordered;
  longer = ([], sym (append-nil order));
  larger = λ s is. is;
  only = λ s is. inl is;
}

-- one more is
pub IsMore-add : (marks : List Bool) (order : List ℕ) (state : ℕ) → IsOrder marks order → state < length marks
    → slice_index_or marks state false ≡ false
    → IsMore (λ s. s ≡ state) marks order (set marks state true) (order ++ state ∷ [])
IsMore-add marks order state ordered inside out = record {
  many = length-set marks state true;
  ordered = IsOrder-joins marks order state ordered inside out;
  longer = (state ∷ [], refl);
  larger = λ s is. stays-member marks state s inside is;
  only = λ s is. elim (cases_eq s state) [
    | inl same ↦ inr same
    | inr other ↦ inl (sym (get_or-set_other marks state s true false other) ∙ is)
  ];
}

pub IsMore-weaker : (P Q : ℕ → Type 0) (marks : List Bool) (order : List ℕ) (marks' : List Bool) (order' : List ℕ)
    → ((s : ℕ) → P s → Q s) → IsMore P marks order marks' order' → IsMore Q marks order marks' order'
IsMore-weaker P Q marks order marks' order' f h = record {
  many = h.many;
  ordered = h.ordered;
  longer = h.longer;
  larger = h.larger;
  only = λ s is. elim (h.only s is) [
    | inl was ↦ inl was
    | inr here ↦ inr (f s here)
  ];
}

pub IsMore-join : (P : ℕ → Type 0) (ma : List Bool) (oa : List ℕ) (mb : List Bool) (ob : List ℕ) (mc : List Bool)
    (oc : List ℕ) → IsMore P ma oa mb ob → IsMore P mb ob mc oc → IsMore P ma oa mc oc
IsMore-join P ma oa mb ob mc oc h k = record {
  many = k.many ∙ h.many;
  ordered = k.ordered;
  longer = (
    h.longer.0 ++ k.longer.0,
    k.longer.1 ∙ ap (λ l. l ++ k.longer.0) h.longer.1 ∙ append_assoc oa h.longer.0 k.longer.0,
  );
  larger = λ s is. k.larger s (h.larger s is);
  only = λ s is. elim (k.only s is) [
    | inl was ↦ h.only s was
    | inr here ↦ inr here
  ];
}

-- the roots alone
pub IsReaching-roots : (internal : Internal) (way : Way) (marks : List Bool) (order : List ℕ)
    → length marks ≡ states_of internal → ((s : ℕ) → s < states_of internal
    → slice_index_or marks s false ≡ (slice_index internal.part.now s == s + 1)) → IsOrder marks order
    → IsReaching internal way marks order 0
IsReaching-roots internal way marks order many each ordered = record {
  reached = record {
    many = many;
    roots = λ s ls root. each s ls ∙ eq-eqb (slice_index internal.part.now s) (s + 1) root;
    met = λ s member.
        let ls : s < states_of internal = omega (arith, member-inside marks s member, many) in
        let root : slice_index internal.part.now s ≡ s + 1 =
        eqb-true (slice_index internal.part.now s) (s + 1) (sym (each s ls) ∙ member) in
        let at : s ≡ root_of internal.part.now s = omega (arith, root) in
        subst (λ r. Reach (Passes internal way) r s) at (reach-self (Passes internal way) s);
  };
  ordered = ordered;
  passed = λ k t l. absurd (omega (arith, l));
}

-- what a search passes to is in the part of what it passed from
passes-part : (internal : Internal) (way : Way) (s t : ℕ) → Passes internal way s t
    → slice_index internal.part.now t ≡ slice_index internal.part.now s
passes-part internal On s t step = step.internal.stays t step.leads
passes-part internal Back s t step = sym (step.internal.stays s step.leads)

-- the search passes on from one more state
pub IsReaching-more : (internal : Internal) (way : Way) (marks : List Bool) (order : List ℕ) (marks' : List Bool)
    (order' : List ℕ) (place state : ℕ) → IsReaching internal way marks order place → place < length order
    → state ≡ slice_index order place → IsMore (Passes internal way state) marks order marks' order'
    → ((t : ℕ) → Passes internal way state t → slice_index_or marks' t false ≡ true)
    → IsReaching internal way marks' order' (place + 1)
IsReaching-more internal way marks order marks' order' place state h lp is more passed = record {
  reached = record {
    many = more.many ∙ h.reached.many;
    roots = λ s ls root. more.larger s (h.reached.roots s ls root);
    met = λ s member. elim (more.only s member) [
      | inl was ↦ h.reached.met s was
      | inr next ↦
          let here : slice_index_or marks state false ≡ true =
          ap (λ u. slice_index_or marks u false) is ∙ h.ordered.joined place lp in
          let same : slice_index internal.part.now s ≡ slice_index internal.part.now state =
          passes-part internal way state s next in
          subst (λ x. Reach (Passes internal way) (x - 1) s) (sym same)
          (reach-join (Passes internal way) (root_of internal.part.now state) state s (h.reached.met state here)
          (reach-step (Passes internal way) state s next))
    ];
  };
  ordered = more.ordered;
  passed = λ k t lk lo step. elim (cases_eq k place) [
    | inl same ↦ passed t (subst (λ u. Passes internal way u t)
        (ap (slice_index order') same ∙ longer-at order order' more.longer place lp ∙ sym is) step)
    | inr other ↦
        let below : k < place = omega (arith, lk, other) in
        let within : k < length order = omega (arith, below, lp) in
        more.larger t (h.passed k t below within
        (subst (λ u. Passes internal way u t) (longer-at order order' more.longer k within) step))
  ];
}

-- where it has passed on from all, the marks are closed
pub AreReached-all : (internal : Internal) (way : Way) (marks : List Bool) (order : List ℕ) (place : ℕ)
    → IsReaching internal way marks order place → length order ≤ place → AreReached internal way marks
AreReached-all internal way marks order place h all = record {
  reached = h.reached;
  closed = λ s t member step.
      let inside : s < length marks = member-inside marks s member in
      let at : Contains order s = h.ordered.listed s inside member in
      h.passed at.0 t (omega (arith, all, at.1)) at.1
      (subst (λ u. Passes internal way u t) (sym (get_or_default order at.0 0 s at.1 ∙ at.2)) step);
}

-- a walk back is a walk on, the other way round
pub walk-turned : (internal : Internal) (n s t : ℕ) → Walk (Passes internal Back) n s t → Reach (IsStepOf internal) t s
walk-turned internal zero s t walk = (zero, sym walk)
walk-turned internal (suc n) s t walk =
    let step : IsStepOf internal walk.0 s = walk.1 in
    reach-join (IsStepOf internal) t walk.0 s (walk-turned internal n walk.0 t walk.2)
    (reach-step (IsStepOf internal) walk.0 s step)

-- the marks have what a walk on from one of them comes to
pub closed-on : (internal : Internal) (marks : List Bool) → AreReached internal On marks → (n s t : ℕ)
    → Walk (IsStepOf internal) n s t → slice_index_or marks s false ≡ true → slice_index_or marks t false ≡ true
closed-on internal marks h zero s t walk member = subst (λ u. slice_index_or marks u false ≡ true) walk member
closed-on internal marks h (suc n) s t walk member =
    closed-on internal marks h n walk.0 t walk.2 (h.closed s walk.0 member walk.1)

-- and what a walk on to one of them comes from
pub closed-back : (internal : Internal) (marks : List Bool) → AreReached internal Back marks → (n s t : ℕ)
    → Walk (IsStepOf internal) n s t → slice_index_or marks t false ≡ true → slice_index_or marks s false ≡ true
closed-back internal marks h zero s t walk member = subst (λ u. slice_index_or marks u false ≡ true) (sym walk) member
closed-back internal marks h (suc n) s t walk member =
    h.closed walk.0 s (closed-back internal marks h n walk.0 t walk.2 member) walk.1
