-- The members in the order in which they joined.
use Rattle.std.proofs.Common.{◌≡◌, ℕ, ◌+◌, ◌<◌, ◌≤◌, Bool, true, false, cond, List, [], ◌∷◌, ◌++◌, length, set, arith}
use Rattle.std.proofs.Common.{refl, sym, ap, ◌∙◌, subst, inl, inr}
use Rattle.std.specs.Prelude.{slice_index, slice_index_or, Contains}
use Rattle.std.proofs.lemmas.Bool.{cases_lt, cases_eq}
use Rattle.std.proofs.lemmas.List.{length-set, get_or-set_same, get_or-set_other, get_or_append_left, get_or_push}
use Rattle.std.proofs.lemmas.List.{length_push}
use Rattle.std.proofs.lemmas.List.Sums.{sum_by-set, sum_by-append, count_by-le-length}
use Rattle.std.proofs.lemmas.List.Elements.{Contains-append_left, Contains-append_right}
use Rattle.attractors.specs.Search.{IsOrder}

last-contained : (order : List ℕ) (s : ℕ) → Contains (order ++ s ∷ []) s
last-contained order s = Contains-append_right order (s ∷ []) s (0, omega arith, refl)

member-counts : (b : Bool) → b ≡ true → ◌≡◌ {A = ℕ} (cond b 1 0) 1
member-counts b h = rw h refl

other-counts : (b : Bool) → b ≡ false → ◌≡◌ {A = ℕ} (cond b 1 0) 0
other-counts b h = rw h refl

-- one state more, which is no member
IsOrder-left : (members : List Bool) (order : List ℕ) (b : Bool) → IsOrder members order → b ≡ false
    → IsOrder (members ++ b ∷ []) order
IsOrder-left members order b h left = record {
  inside = λ k l. omega (arith, h.inside k l, length_push members b);
  joined = λ k l. get_or_append_left members (b ∷ []) false (slice_index order k) (h.inside k l) ∙ h.joined k l;
  listed = λ s l member. elim (cases_lt s (length members)) [
    | inl below ↦ h.listed s below (sym (get_or_append_left members (b ∷ []) false s below) ∙ member)
    | inr last ↦
        let at : length members ≡ s = omega (arith, l, length_push members b) in
        let here : slice_index_or (members ++ b ∷ []) s false ≡ b = get_or_push members b false s at in
        absurd (cc)
  ];
  few = omega (arith, h.few, sum_by-append (λ (x : Bool). cond x 1 0) members (b ∷ []), other-counts b left);
}

-- one state more, which is a member
IsOrder-member : (members : List Bool) (order : List ℕ) (b : Bool) → IsOrder members order → b ≡ true
    → IsOrder (members ++ b ∷ []) (order ++ length members ∷ [])
IsOrder-member members order b h is = record {
  inside = λ k l. elim (cases_lt k (length order)) [
    | inl below ↦
        omega (arith, get_or_append_left order (length members ∷ []) 0 k below, h.inside k below, length_push members b)
    | inr last ↦
        let at : length order ≡ k = omega (arith, l, length_push order (length members)) in
        omega (arith, get_or_push order (length members) 0 k at, length_push members b)
  ];
  joined = λ k l. elim (cases_lt k (length order)) [
    | inl below ↦
        ap (λ i. slice_index_or (members ++ b ∷ []) i false) (get_or_append_left order (length members ∷ []) 0 k below)
        ∙ get_or_append_left members (b ∷ []) false (slice_index order k) (h.inside k below) ∙ h.joined k below
    | inr last ↦
        let at : length order ≡ k = omega (arith, l, length_push order (length members)) in
        ap (λ i. slice_index_or (members ++ b ∷ []) i false) (get_or_push order (length members) 0 k at)
        ∙ get_or_push members b false (length members) refl ∙ is
  ];
  listed = λ s l member. elim (cases_lt s (length members)) [
    | inl below ↦ Contains-append_left order (length members ∷ []) s
        (h.listed s below (sym (get_or_append_left members (b ∷ []) false s below) ∙ member))
    | inr last ↦
        let at : s ≡ length members = omega (arith, l, length_push members b) in
        subst (λ t. Contains (order ++ length members ∷ []) t) (sym at) (last-contained order (length members))
  ];
  few = omega (
    arith,
    h.few,
    length_push order (length members),
    sum_by-append (λ (x : Bool). cond x 1 0) members (b ∷ []),
    member-counts b is,
  );
}

-- the same over lists that were pushed to
pub IsOrder-left-in : (members members' : List Bool) (order order' : List ℕ) (b : Bool) → IsOrder members order
    → b ≡ false → members' ≡ members ++ b ∷ [] → order' ≡ order → IsOrder members' order'
IsOrder-left-in members members' order order' b h left is_members is_order = subst (λ l. IsOrder l order')
    (sym is_members) (subst (λ l. IsOrder (members ++ b ∷ []) l) (sym is_order) (IsOrder-left members order b h left))

pub IsOrder-member-in : (members members' : List Bool) (order order' : List ℕ) (b : Bool) (s : ℕ)
    → IsOrder members order → b ≡ true → members' ≡ members ++ b ∷ [] → length members ≡ s → order' ≡ order ++ s ∷ []
    → IsOrder members' order'
IsOrder-member-in members members' order order' b s h is is_members many is_order =
    subst (λ l. IsOrder l order') (sym is_members) (subst (λ l. IsOrder (members ++ b ∷ []) l)
    (ap (λ k. order ++ k ∷ []) many ∙ sym is_order) (IsOrder-member members order b h is))

-- a set with one state more has each that it had
pub stays-member : (members : List Bool) (s t : ℕ) → s < length members → slice_index_or members t false ≡ true
    → slice_index_or (set members s true) t false ≡ true
stays-member members s t inside member = elim (cases_eq t s) [
  | inl same ↦ ap (λ u. slice_index_or (set members s true) u false) same ∙ get_or-set_same members s true false inside
  | inr other ↦ get_or-set_other members s t true false other ∙ member
]

-- a state joins
pub IsOrder-joins : (members : List Bool) (order : List ℕ) (s : ℕ) → IsOrder members order → s < length members
    → slice_index_or members s false ≡ false → IsOrder (set members s true) (order ++ s ∷ [])
IsOrder-joins members order s h inside left = record {
  inside = λ k l. elim (cases_lt k (length order)) [
    | inl below ↦
        omega (arith, get_or_append_left order (s ∷ []) 0 k below, h.inside k below, length-set members s true)
    | inr last ↦
        let at : length order ≡ k = omega (arith, l, length_push order s) in
        omega (arith, get_or_push order s 0 k at, length-set members s true)
  ];
  joined = λ k l. elim (cases_lt k (length order)) [
    | inl below ↦ ap (λ i. slice_index_or (set members s true) i false) (get_or_append_left order (s ∷ []) 0 k below)
        ∙ stays-member members s (slice_index order k) inside (h.joined k below)
    | inr last ↦
        let at : length order ≡ k = omega (arith, l, length_push order s) in
        ap (λ i. slice_index_or (set members s true) i false) (get_or_push order s 0 k at)
        ∙ get_or-set_same members s true false inside
  ];
  listed = λ t l member. elim (cases_eq t s) [
    | inl same ↦ subst (λ u. Contains (order ++ s ∷ []) u) (sym same) (last-contained order s)
    | inr other ↦ Contains-append_left order (s ∷ []) t (h.listed t (omega (arith, l, length-set members s true))
        (sym (get_or-set_other members s t true false other) ∙ member))
  ];
  few = omega (
    arith,
    h.few,
    length_push order s,
    sum_by-set (λ (x : Bool). cond x 1 0) members s true false inside,
    other-counts (slice_index_or members s false) left,
  );
}

-- there are no more members than states
pub IsOrder-few : (members : List Bool) (order : List ℕ) → IsOrder members order → length order ≤ length members
IsOrder-few members order h = omega (arith, h.few, count_by-le-length (λ (x : Bool). x) members)

-- one entry more
pub each-more : (f : ℕ → Bool) (members members' : List Bool) (b : Bool) (state : ℕ) → length members ≡ state
    → ((s : ℕ) → s < state → slice_index_or members s false ≡ f s) → b ≡ f state → members' ≡ members ++ b ∷ []
    → (s : ℕ) → s < state + 1 → slice_index_or members' s false ≡ f s
each-more f members members' b state many each is is_members s l =
    ap (λ list. slice_index_or list s false) is_members ∙ elim (cases_lt s state) [
      | inl below ↦ get_or_append_left members (b ∷ []) false s (omega arith) ∙ each s below
      | inr last ↦ let at : s ≡ state = omega arith in get_or_push members b false s (omega arith) ∙ is ∙ ap f (sym at)
    ]
