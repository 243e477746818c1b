-- Edges by rising destination, with one part more.
use Rattle.std.proofs.Common.{inl, inr, ◌==◌, ◌≡◌, ◌∙◌, ◌<◌, ◌+◌, ℕ, suc, List, [], ◌∷◌, ◌++◌, sym, ap, cond, length}
use Rattle.std.proofs.Common.{get_or, set, take, drop, arith}
use Rattle.std.proofs.Math.Seq.{drop-cons}
use Rattle.std.proofs.lemmas.Bool.{cases_order, lt-ltb, le-ltb, eq-eqb, ne_eqb}
use Rattle.std.proofs.lemmas.List.{set_split, get_or_default}
use Rattle.std.proofs.lemmas.List.Sums.{sum_by-cons}
use Rattle.game_model.specs.declared.game.Edge.{Edge}
use Rattle.game_model.specs.Game.{total_of}
use Rattle.drawn_game.specs.inside.Adding.{with_part}

pub with_part-before : (e part : Edge) (edges : List Edge) → part.to < e.to
    → with_part (e ∷ edges) part ≡ part ∷ e ∷ edges
with_part-before e part edges h =
    ap (λ b. cond b (part ∷ e ∷ edges)
    (cond (part.to == e.to) (record { to = e.to; weight = e.weight + part.weight } ∷ edges) (e ∷ with_part edges part)))
    (lt-ltb part.to e.to h)

pub with_part-at : (e part : Edge) (edges : List Edge) → part.to ≡ e.to
    → with_part (e ∷ edges) part ≡ record { to = e.to; weight = e.weight + part.weight } ∷ edges
with_part-at e part edges h =
    ap (λ b. cond b (part ∷ e ∷ edges)
    (cond (part.to == e.to) (record { to = e.to; weight = e.weight + part.weight } ∷ edges) (e ∷ with_part edges part)))
    (le-ltb part.to e.to (omega (arith, h)))
    ∙ ap (λ b. cond b (record { to = e.to; weight = e.weight + part.weight } ∷ edges) (e ∷ with_part edges part))
    (eq-eqb part.to e.to h)

pub with_part-behind : (e part : Edge) (edges : List Edge) → e.to < part.to
    → with_part (e ∷ edges) part ≡ e ∷ with_part edges part
with_part-behind e part edges h =
    ap (λ b. cond b (part ∷ e ∷ edges)
    (cond (part.to == e.to) (record { to = e.to; weight = e.weight + part.weight } ∷ edges) (e ∷ with_part edges part)))
    (le-ltb part.to e.to (omega (arith, h)))
    ∙ ap (λ b. cond b (record { to = e.to; weight = e.weight + part.weight } ∷ edges) (e ∷ with_part edges part))
    (ne_eqb part.to e.to (λ same. omega (arith, same, h)))

-- at the place of an edge to the same state the weights add up
pub set_added : (edges : List Edge) (place : ℕ) (read edge part : Edge) → place < length edges
    → read ≡ get_or edges place read → edge ≡ get_or edges place edge → part.to ≡ read.to
    → set edges place (record { to = edge.to; weight = edge.weight + part.weight })
    ≡ take place edges ++ with_part (drop place edges) part
set_added edges place read edge part h read_is edge_is same =
    let to_is : part.to ≡ edge.to =
    same ∙ ap (λ (e : Edge). e.to) (read_is ∙ get_or_default edges place read edge h ∙ sym edge_is) in
    let rest : drop place edges ≡ edge ∷ drop (suc place) edges =
    drop-cons edges place edge h ∙ ap (λ e. e ∷ drop (suc place) edges) (sym edge_is) in
    set_split edges place (record { to = edge.to; weight = edge.weight + part.weight }) h
    ∙ ap (λ es. take place edges ++ es)
    (sym (with_part-at edge part (drop (suc place) edges) to_is) ∙ ap (λ es. with_part es part) (sym rest))

-- the part's weight comes to the total
pub total_of-with_part : (edges : List Edge) (part : Edge)
    → total_of (with_part edges part) ≡ total_of edges + part.weight
total_of-with_part [] part = omega (arith, sum_by-cons (λ (e : Edge). e.weight) part [])
total_of-with_part (e ∷ edges) part = elim (cases_order part.to e.to) [
  | inl same ↦
      ap (λ es. total_of es) (with_part-at e part edges same)
      ∙ omega (
        arith,
        sum_by-cons (λ (d : Edge). d.weight) (record { to = e.to; weight = e.weight + part.weight }) edges,
        sum_by-cons (λ (d : Edge). d.weight) e edges,
      )
  | inr (inl before) ↦
      ap (λ es. total_of es) (with_part-before e part edges before)
      ∙ omega
      (arith, sum_by-cons (λ (d : Edge). d.weight) part (e ∷ edges), sum_by-cons (λ (d : Edge). d.weight) e edges)
  | inr (inr behind) ↦
      ap (λ es. total_of es) (with_part-behind e part edges behind)
      ∙ omega (
        arith,
        sum_by-cons (λ (d : Edge). d.weight) e (with_part edges part),
        sum_by-cons (λ (d : Edge). d.weight) e edges,
        total_of-with_part edges part,
      )
]

-- there is an edge then
pub with_part-some : (edges : List Edge) (part : Edge) → 0 < length (with_part edges part)
with_part-some [] part = omega arith
with_part-some (e ∷ edges) part = elim (cases_order part.to e.to) [
  | inl same ↦ omega (arith, ap (λ (es : List Edge). length es) (with_part-at e part edges same))
  | inr (inl before) ↦ omega (arith, ap (λ (es : List Edge). length es) (with_part-before e part edges before))
  | inr (inr behind) ↦ omega (arith, ap (λ (es : List Edge). length es) (with_part-behind e part edges behind))
]
